use Rattle.std.proofs.Common.{◌∙◌, sym}
use Rattle.tm_check.proofs.Worth.{nonzero_worth}
use Rattle.tm_check.proofs.operators.nonzero.Goals as goal
use Rattle.tm_game.proofs.Growing.{grows_then}

pub negated-requires-clause-fits : goal.negated-requires-clause-fits
negated-requires-clause-fits c = (
  c.mk.ensures.grows.terms.known c.args.a c.requires.0,
  c.in_ok-zero.ensures.known,
  c.mk.ensures.grows.terms.widths c.args.a c.requires.0 ∙ c.requires.1 ∙ sym c.in_ok-zero.ensures.width,
)

pub returns-in_err-test-clause-grows : goal.returns-in_err-test-clause-grows
returns-in_err-test-clause-grows c =
    grows_then c.args.game.now c.mk.new.self c.negated.new.game c.mk.ensures.grows c.negated.ensures.grows

pub returns-clause-grows : goal.returns-clause-grows
returns-clause-grows c =
    grows_then c.args.game.now c.mk.new.self c.negated.new.game c.mk.ensures.grows c.negated.ensures.grows

pub returns-clause-worth : goal.returns-clause-worth
returns-clause-worth c = λ f is.
    nonzero_worth c.args.game.now.terms c.mk.new.self.terms c.negated.new.game.terms c.args.a c.in_ok-zero.zero
    c.in_ok-test.test f is c.negated.ensures.grows.terms
    (record {
      extends = c.mk.ensures.grows.terms;
      known = c.in_ok-zero.ensures.known;
      width = c.in_ok-zero.ensures.width;
      value = c.in_ok-zero.ensures.value;
    }) c.in_ok-test.ensures.worth
