use Rattle.tm_refine.proofs.Memories.{memory_kept}
use Rattle.tm_refine.proofs.PoolKeeps.{keeps_none}
use Rattle.tm_refine.proofs.memory.Memory.turn_to.Goals as goal

pub returns-then-not-is_of-clause-remembers : goal.returns-then-not-is_of-clause-remembers
returns-then-not-is_of-clause-remembers c = ∣ c.in_ok-self.ensures.parts ∣₁

pub returns-in_err-self-clause-remembers : goal.returns-in_err-self-clause-remembers
returns-in_err-self-clause-remembers c =
    memory_kept c.args.game.now c.over.new.game c.over.ensures.kept c.args.self.now c.requires.remembers

pub returns-clause-over : goal.returns-clause-over
returns-clause-over c = c.is_of.ensures c.if-not-is_of.false c.args.game.now

pub returns-clause-kept : goal.returns-clause-kept
returns-clause-kept c = keeps_none c.args.game.now c.requires.can c.tell.ensures
