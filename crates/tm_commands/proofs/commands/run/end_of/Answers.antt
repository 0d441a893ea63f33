use Rattle.std.proofs.Common.{rules}
use Rattle.tm_syntax.specs.Design.View.{design_tree}
use Rattle.tm_commands.proofs.Halting.{allowed_ends, ended_so, refused_ends, stuck_state}
use Rattle.tm_commands.proofs.commands.run.end_of.Goals as goal

pub returns-in-Ended : goal.returns-in-Ended
returns-in-Ended c = λ bs cs text.
    ended_so (design_tree c.args.design.now) bs cs text c.args.halt c.in-Ended.end c.in-Ended.is

pub is_allowed-requires-clause-sound : goal.is_allowed-requires-clause-sound
is_allowed-requires-clause-sound c = c.requires.playable.sound

pub is_allowed-requires-clause-of_text : goal.is_allowed-requires-clause-of_text
is_allowed-requires-clause-of_text c = c.requires.playable.of_text

pub is_allowed-requires-clause-state : goal.is_allowed-requires-clause-state
is_allowed-requires-clause-state c =
    stuck_state (design_tree c.args.design.now) c.requires.halted.0 c.requires.halted.1 c.requires.halted.2 c.args.halt
    c.in-Stuck.step c.in-Stuck.state c.in-Stuck.action c.in-Stuck.is c.requires.halted.3

pub returns-then-allowed : goal.returns-then-allowed
returns-then-allowed c = λ bs cs text halts.
    allowed_ends (design_tree c.args.design.now) bs cs text c.args.halt c.in-Stuck.step c.in-Stuck.state
    c.in-Stuck.action c.in-Stuck.is halts c.in_ok-allowed-in-Stuck.allowed c.in_ok-allowed-in-Stuck.ensures
    (search rules)

pub returns : goal.returns
returns c = λ bs cs text halts.
    refused_ends (design_tree c.args.design.now) bs cs text c.args.halt c.in-Stuck.step c.in-Stuck.state
    c.in-Stuck.action c.in-Stuck.is halts c.in_ok-allowed-in-Stuck.allowed c.in_ok-allowed-in-Stuck.ensures
    (search rules)
