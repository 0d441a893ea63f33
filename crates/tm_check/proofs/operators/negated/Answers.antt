use Rattle.std.proofs.Common.{refl}
use Rattle.tm_check.proofs.Worth.{not_worth, worth_made}
use Rattle.tm_check.proofs.operators.negated.Goals as goal
use Rattle.tm_term.specs.Value.{term_value}
use Rattle.tm_game.proofs.Growing.{grows_then}

pub returns-in_err-not-clause-grows : goal.returns-in_err-not-clause-grows
returns-in_err-not-clause-grows c =
    grows_then c.args.game.now c.mk.new.self c.mk-2.new.self c.mk.ensures.grows c.mk-2.ensures.grows

pub returns-clause-grows : goal.returns-clause-grows
returns-clause-grows c =
    grows_then c.args.game.now c.mk.new.self c.mk-2.new.self c.mk.ensures.grows c.mk-2.ensures.grows

pub returns-clause-worth : goal.returns-clause-worth
returns-clause-worth c =
    not_worth c.mk.new.self.terms c.mk-2.new.self.terms c.in_ok-not.not 1 c.in_ok-id.id
    (λ values. term_value c.args.game.now.terms values c.args.term)
    (worth_made c.args.game.now.terms c.mk.new.self.terms c.args.term c.in_ok-id.id 1
    (λ values. term_value c.args.game.now.terms values c.args.term)
    (record {
      extends = c.mk.ensures.grows.terms;
      known = c.in_ok-id.ensures.known;
      width = c.in_ok-id.ensures.width;
      value = c.in_ok-id.ensures.value;
    }) c.requires.width (λ values are. refl))
    (record {
      extends = c.mk-2.ensures.grows.terms;
      known = c.in_ok-not.ensures.known;
      width = c.in_ok-not.ensures.width;
      value = c.in_ok-not.ensures.value;
    })
