use Rattle.tm_game_steps.proofs.Ready.{levels_there, made_there, ready_then, truth_there}
use Rattle.tm_game_steps.proofs.encoding.Encoding.truth.Goals as goal

pub truth-requires-clause-levels : goal.truth-requires-clause-levels
truth-requires-clause-levels c =
    levels_there c.args.self.now c.deref.result.now c.deref.ensures.value c.args.dd.now.table c.args.made.now
    c.requires.ready

pub truth-requires-clause-made : goal.truth-requires-clause-made
truth-requires-clause-made c =
    made_there c.args.self.now c.deref.result.now c.deref.ensures.value c.args.dd.now.table c.args.made.now
    c.requires.ready

pub returns-in_err-node-clause-ready : goal.returns-in_err-node-clause-ready
returns-in_err-node-clause-ready c =
    ready_then c.args.self.now c.deref.result.now c.deref.ensures.value c.args.dd.now.table c.truth.new.dd.table
    c.args.made.now c.truth.new.made c.truth.ensures.earlier c.requires.ready c.truth.ensures.made

pub returns-clause-ready : goal.returns-clause-ready
returns-clause-ready c =
    ready_then c.args.self.now c.deref.result.now c.deref.ensures.value c.args.dd.now.table c.truth.new.dd.table
    c.args.made.now c.truth.new.made c.truth.ensures.earlier c.requires.ready c.truth.ensures.made

pub returns-clause-truth : goal.returns-clause-truth
returns-clause-truth c =
    truth_there c.args.self.now c.deref.result.now c.deref.ensures.value c.truth.new.dd.table c.args.id
    c.in_ok-node.node c.in_ok-node.ensures.truth
