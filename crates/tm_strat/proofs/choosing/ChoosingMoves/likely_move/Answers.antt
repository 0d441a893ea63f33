use Rattle.tm_strat.proofs.Choices.{follows_kept, is_kept}
use Rattle.tm_strat.proofs.choosing.ChoosingMoves.likely_move.Goals as goal

pub invariant_of-self : goal.invariant_of-self
invariant_of-self c = record {
  is = is_kept c.args.self.now.game c.likely_candidate.new.game c.args.self.now.is.design c.likely_candidate.ensures
      c.args.self.now.tests.holds.items c.args.self.now.goals.items c.args.self.now.is;
}

pub returns : goal.returns
returns c =
    follows_kept c.args.self.now.game c.likely_candidate.new.game c.args.self.now.is.design c.likely_candidate.ensures
    c.args.self.now.tests.holds.items c.args.self.now.goals.items c.args.self.now.is c.args.self.now.pending
