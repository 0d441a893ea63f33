use Rattle.std.proofs.Common.{sym, ap, ◌∙◌, subst}
use Rattle.tm_term.specs.declared.term.Term.{Term}
use Rattle.tm_term.specs.Table.{Fits, term_width}
use Rattle.tm_term.specs.Value.{term_value}
use Rattle.tm_flat_exprs.specs.Made.{Makes}
use Rattle.tm_flat_exprs.proofs.Joining.{denied_term, joined_denied, joined_fits, joined_plainly}
use Rattle.tm_flat_exprs.proofs.operators.joined.Goals as goal

pub make-requires : goal.make-requires
make-requires c =
    subst (Fits c.args.terms.now) (sym c.joined_term.ensures)
    (joined_fits c.args.terms.now c.args.op c.args.a c.args.b c.requires.alike)

pub denial-requires : goal.denial-requires
denial-requires c = (
  c.in_ok-made.ensures.term.0,
  c.in_ok-made.ensures.term.1
      ∙ ap (term_width c.args.terms.now) c.joined_term.ensures
      ∙ denied_term c.args.terms.now c.args.op c.args.a c.args.b (sym c.if-is_denial.ensures),
)

pub returns-in_ok-id : goal.returns-in_ok-id
returns-in_ok-id c =
    joined_denied c.args.terms.now c.make.new.terms c.args.op c.args.a c.args.b c.in_ok-made.made c.requires.alike
    c.requires.conjunction c.requires.disjunction
    (subst (λ (term : Term). Makes c.args.terms.now c.make.new.terms (term_width c.args.terms.now term)
    c.in_ok-made.made (λ u v. term_value u v term)) c.joined_term.ensures c.in_ok-made.ensures)
    c.denial.new.terms c.in_ok-id.id (sym c.if-is_denial.ensures) c.in_ok-id.ensures

pub returns-else-is_denial : goal.returns-else-is_denial
returns-else-is_denial c =
    joined_plainly c.args.terms.now c.make.new.terms c.args.op c.args.a c.args.b c.in_ok-made.made
    c.requires.alike c.requires.conjunction c.requires.disjunction
    (subst (λ (term : Term). Makes c.args.terms.now c.make.new.terms (term_width c.args.terms.now term)
    c.in_ok-made.made (λ u v. term_value u v term)) c.joined_term.ensures c.in_ok-made.ensures)
    (sym c.if-is_denial.ensures)
