use Rattle.tm_strat.proofs.Choices.{follows_kept, is_kept}
use Rattle.tm_strat.proofs.Constants.{found_none, found_some}
use Rattle.tm_strat.proofs.choosing.ChoosingMoves.some_move.Goals as goal

pub invariant_of-self : goal.invariant_of-self
invariant_of-self c = record {
  is = is_kept c.args.self.now.game c.constant_move.new.game c.args.self.now.is.design c.constant_move.ensures.grows
      c.args.self.now.tests.holds.items c.args.self.now.goals.items c.args.self.now.is;
}

pub returns-in_err-found-clause-follows : goal.returns-in_err-found-clause-follows
returns-in_err-found-clause-follows c =
    follows_kept c.args.self.now.game c.constant_move.new.game c.args.self.now.is.design c.constant_move.ensures.grows
    c.args.self.now.tests.holds.items c.args.self.now.goals.items c.args.self.now.is c.args.self.now.pending

pub returns-in-Some-clause-follows : goal.returns-in-Some-clause-follows
returns-in-Some-clause-follows c =
    follows_kept c.args.self.now.game c.constant_move.new.game c.args.self.now.is.design c.constant_move.ensures.grows
    c.args.self.now.tests.holds.items c.args.self.now.goals.items c.args.self.now.is c.args.self.now.pending

pub returns-in-None-clause-follows : goal.returns-in-None-clause-follows
returns-in-None-clause-follows c =
    follows_kept c.args.self.now.game c.constant_move.new.game c.args.self.now.is.design c.constant_move.ensures.grows
    c.args.self.now.tests.holds.items c.args.self.now.goals.items c.args.self.now.is c.args.self.now.pending

pub returns-in-Some-clause-value : goal.returns-in-Some-clause-value
returns-in-Some-clause-value c =
    found_some c.args.self.now.game c.args.self.now.tests.holds.items c.args.self.now.goals.items c.args.self.now.is
    c.args.self.now.pending c.args.set c.pairs_of-pairs.result.now c.deref.result.now c.deref.ensures.value
    c.pairs_of-pairs.ensures c.in_ok-found.found c.in_ok-found.ensures.value c.in-Some.choice c.in-Some.is

pub returns-in-None-clause-value : goal.returns-in-None-clause-value
returns-in-None-clause-value c =
    absurd
    (found_none c.args.self.now.game c.args.self.now.tests.holds.items c.args.self.now.goals.items c.args.self.now.is
    c.args.self.now.pending c.args.set c.pairs_of-pairs.result.now c.deref.result.now c.deref.ensures.value
    c.pairs_of-pairs.ensures c.in_ok-found.found c.in_ok-found.ensures.value c.in-None.is c.requires)
