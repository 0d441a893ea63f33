use Rattle.tm_strat.proofs.Choices.{follows_kept, is_kept}
use Rattle.tm_strat.proofs.Chosen.{chosen_is}
use Rattle.tm_strat.proofs.choosing.ChoosingMoves.choose.Goals as goal

pub invariant_of-self : goal.invariant_of-self
invariant_of-self c = record {
  is = is_kept c.args.self.now.game c.chosen.new.game c.args.self.now.is.design c.chosen.ensures.grows
      c.args.self.now.tests.holds.items c.args.self.now.goals.items c.args.self.now.is;
}

pub returns-clause-value : goal.returns-clause-value
returns-clause-value c =
    chosen_is c.args.self.now.game c.chosen.new.game c.args.self.now.is.design c.chosen.ensures.grows c.args.a c.args.b
    c.requires.a_known c.requires.b_known c.chosen.result c.args.test c.requires.test_known c.chosen.ensures.answer

pub returns-clause-follows : goal.returns-clause-follows
returns-clause-follows c =
    follows_kept c.args.self.now.game c.chosen.new.game c.args.self.now.is.design c.chosen.ensures.grows
    c.args.self.now.tests.holds.items c.args.self.now.goals.items c.args.self.now.is c.args.self.now.pending
