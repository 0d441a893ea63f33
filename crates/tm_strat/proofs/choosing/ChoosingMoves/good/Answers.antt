use Rattle.tm_strat.proofs.Choices.{follows_kept, is_kept}
use Rattle.tm_strat.proofs.choosing.ChoosingMoves.good.Goals as goal

pub invariant_of-self : goal.invariant_of-self
invariant_of-self c = record {
  is = is_kept c.args.self.now.game c.constant_states.new.game c.args.self.now.is.design c.constant_states.ensures.grows
      c.args.self.now.tests.holds.items c.args.self.now.goals.items c.args.self.now.is;
}

pub returns-in-Constant-clause-follows : goal.returns-in-Constant-clause-follows
returns-in-Constant-clause-follows c =
    follows_kept c.args.self.now.game c.constant_states.new.game c.args.self.now.is.design
    c.constant_states.ensures.grows c.args.self.now.tests.holds.items c.args.self.now.goals.items c.args.self.now.is
    c.args.self.now.pending
