use Rattle.std.proofs.Common.{◌≡◌, ℕ, List, sym, subst}
use Rattle.tm_game.specs.Game.{GameData}
use Rattle.tm_game.proofs.TermGrowth.{grows_terms_from, of_more, terms_extended}
use Rattle.tm_game.proofs.game.Game.mk.Goals as goal
use Rattle.tm_term.specs.Table.{Fits, term_width, width_of}
use Rattle.tm_term.specs.Value.{term_value, value_of}

pub mk-requires : goal.mk-requires
mk-requires c = subst (λ (g : GameData). Fits g.terms c.args.term) (sym c.self.view_is) c.requires

pub invariant_of-self : goal.invariant_of-self
invariant_of-self c = terms_extended c.self.inside c.mk.new.self c.self.invariant c.mk.ensures.earlier

pub invariant_of-self-2 : goal.invariant_of-self-2
invariant_of-self-2 c = terms_extended c.self.inside c.mk.new.self c.self.invariant c.mk.ensures.earlier

pub returns-in_err-id-clause-grows : goal.returns-in_err-id-clause-grows
returns-in_err-id-clause-grows c =
    grows_terms_from c.self.inside _ c.self.view_is c.mk.new.self c.mk.ensures.earlier

pub returns-in_err-id-clause-of : goal.returns-in_err-id-clause-of
returns-in_err-id-clause-of c =
    of_more c.self.inside _ c.self.view_is c.mk.new.self c.mk.ensures.earlier

pub returns-clause-grows : goal.returns-clause-grows
returns-clause-grows c =
    grows_terms_from c.self.inside _ c.self.view_is c.mk.new.self c.mk.ensures.earlier

pub returns-clause-width : goal.returns-clause-width
returns-clause-width c =
    subst (λ (g : GameData). width_of c.mk.new.self c.in_ok-id.id ≡ term_width g.terms c.args.term) c.self.view_is
    c.in_ok-id.ensures.width

pub returns-clause-value : goal.returns-clause-value
returns-clause-value c =
    subst (λ (g : GameData). (values : List ℕ) →
    value_of c.mk.new.self values c.in_ok-id.id ≡ term_value g.terms values c.args.term) c.self.view_is
    c.in_ok-id.ensures.value

pub returns-clause-of : goal.returns-clause-of
returns-clause-of c =
    of_more c.self.inside _ c.self.view_is c.mk.new.self c.mk.ensures.earlier
