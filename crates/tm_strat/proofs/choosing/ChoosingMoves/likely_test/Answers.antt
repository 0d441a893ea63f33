use Rattle.tm_strat.proofs.Choices.{follows_kept, is_kept}
use Rattle.tm_strat.proofs.choosing.ChoosingMoves.likely_test.Goals as goal

pub invariant_of-self : goal.invariant_of-self
invariant_of-self c = record {
  is = is_kept c.args.self.now.game c.any_test.new.game c.args.self.now.is.design c.any_test.ensures
      c.args.self.now.tests.holds.items c.args.self.now.goals.items c.args.self.now.is;
}

pub returns-in_err-found-clause-follows : goal.returns-in_err-found-clause-follows
returns-in_err-found-clause-follows c =
    follows_kept c.args.self.now.game c.any_test.new.game c.args.self.now.is.design c.any_test.ensures
    c.args.self.now.tests.holds.items c.args.self.now.goals.items c.args.self.now.is c.args.self.now.pending

pub returns-clause-follows : goal.returns-clause-follows
returns-clause-follows c =
    follows_kept c.args.self.now.game c.any_test.new.game c.args.self.now.is.design c.any_test.ensures
    c.args.self.now.tests.holds.items c.args.self.now.goals.items c.args.self.now.is c.args.self.now.pending
