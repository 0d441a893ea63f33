use Rattle.std.proofs.Common.{Option, sym, subst}
use Rattle.std.specs.Prelude.{◌||◌}
use Rattle.tm_term.specs.declared.term.TermId.{TermId}
use Rattle.tm_flat_exprs.specs.Made.{MakesTruth, truth_at}
use Rattle.tm_flat_exprs.proofs.gates.either.Goals as goal

pub returns : goal.returns
returns c =
    subst (λ (x : Option TermId). MakesTruth c.args.terms.now c.either_beside.new.terms c.in_ok-id.id
    (λ u v. truth_at u v x || truth_at u v c.args.b)) (sym c.in-Some.is) c.in_ok-id.ensures
