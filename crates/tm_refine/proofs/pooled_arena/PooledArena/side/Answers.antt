use Rattle.tm_refine.proofs.PoolKeeps.{hint_kept, hint_noted}
use Rattle.tm_refine.proofs.pooled_arena.PooledArena.side.Goals as goal

pub returns-clause-value : goal.returns-clause-value
returns-clause-value c = c.in_ok-part.ensures.value

pub returns-clause-follows : goal.returns-clause-follows
returns-clause-follows c = c.remembered_side.ensures.kept.follows

pub returns-clause-tests : goal.returns-clause-tests
returns-clause-tests c = c.remembered_side.ensures.kept.tests

pub returns-in_err-part-clause-follows : goal.returns-in_err-part-clause-follows
returns-in_err-part-clause-follows c = c.remembered_side.ensures.kept.follows

pub returns-in_err-part-clause-tests : goal.returns-in_err-part-clause-tests
returns-in_err-part-clause-tests c = c.remembered_side.ensures.kept.tests

pub invariant_of-self-in-Break-1 : goal.invariant_of-self-in-Break-1
invariant_of-self-in-Break-1 c =
    let after = c.remembered_side.ensures in record {
      can = after.kept.can;
      hint_known = hint_kept c.args.self.now.exact.game c.remembered_side.new.game c.args.self.now.hint after.kept
          c.args.self.now.hint_known;
      remembers = after.remembers;
    }

pub invariant_of-self-2 : goal.invariant_of-self-2
invariant_of-self-2 c =
    let after = c.remembered_side.ensures in record {
      can = after.kept.can;
      hint_known = hint_noted c.args.self.now.exact.game c.remembered_side.new.game c.args.self.now.hint
          c.noted-self.result c.args.set after.kept c.args.self.now.hint_known c.requires.set_known
          c.noted-self.ensures;
      remembers = after.remembers;
    }
