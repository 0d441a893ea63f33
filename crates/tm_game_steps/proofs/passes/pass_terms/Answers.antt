use Rattle.std.proofs.Common.{ℕ, ◌<◌, ◌-◌, ◌^◌, List, length, get_or, ap, ◌∙◌, sym, subst, arith}
use Rattle.tm_game_steps.proofs.Passing.{passing_all}
use Rattle.tm_game_steps.proofs.passes.pass_terms.Goals as goal
use Rattle.tm_term.proofs.Valued.{Extends-trans}

pub mk-requires : goal.mk-requires
mk-requires c = omega (arith, ap length c.input_terms.ensures.earlier.inputs, c.requires.inputs, c.requires.some)

pub mk-requires-2 : goal.mk-requires-2
mk-requires-2 c =
    let width = c.width-width.ensures.width
    ∙ c.in_ok-input.ensures.width
    ∙ ap (λ (ws : List ℕ). get_or ws (c.args.count - 1) 0) c.input_terms.ensures.earlier.inputs in
    (c.width-width.ensures.in_range, subst (λ (w : ℕ). c.args.last < 2 ^ w) (sym width) c.requires.last)

pub returns-in_err-input-clause-earlier : goal.returns-in_err-input-clause-earlier
returns-in_err-input-clause-earlier c = Extends-trans _ _ _ c.input_terms.ensures.earlier c.mk.ensures.earlier

pub returns-in_err-id-clause-earlier : goal.returns-in_err-id-clause-earlier
returns-in_err-id-clause-earlier c =
    Extends-trans _ _ _ (Extends-trans _ _ _ c.input_terms.ensures.earlier c.mk.ensures.earlier)
    c.mk-2.ensures.earlier

pub returns-in_err-push-clause-earlier : goal.returns-in_err-push-clause-earlier
returns-in_err-push-clause-earlier c =
    Extends-trans _ _ _ (Extends-trans _ _ _ c.input_terms.ensures.earlier c.mk.ensures.earlier)
    c.mk-2.ensures.earlier

pub returns-clause-earlier : goal.returns-clause-earlier
returns-clause-earlier c =
    Extends-trans _ _ _ (Extends-trans _ _ _ c.input_terms.ensures.earlier c.mk.ensures.earlier)
    c.mk-2.ensures.earlier

pub returns-clause-terms : goal.returns-clause-terms
returns-clause-terms c =
    passing_all c.input_terms.new.terms c.mk-2.new.self
    (Extends-trans _ _ _ c.mk.ensures.earlier c.mk-2.ensures.earlier) c.args.count c.args.last c.in_ok-ids.ids.items
    c.push.new.self.items c.in_ok-id.id c.requires.some c.in_ok-ids.ensures.terms c.in_ok-id.ensures.known
    (c.in_ok-id.ensures.width ∙ c.width-width.ensures.width ∙ c.in_ok-input.ensures.width) c.in_ok-id.ensures.value
    c.in_ok-push.ensures.items
