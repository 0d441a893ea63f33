use Rattle.std.proofs.Common.{Option, Some, sym, subst}
use Rattle.std.specs.Prelude.{◌||◌}
use Rattle.tm_term.specs.declared.term.TermId.{TermId}
use Rattle.tm_flat_exprs.specs.Made.{IsTruth, MakesTruth, truth_at}
use Rattle.tm_flat_exprs.proofs.Later.{makes_either}
use Rattle.tm_flat_exprs.proofs.gates.either_beside.Goals as goal

pub returns : goal.returns
returns c =
    subst (λ (x : Option TermId). MakesTruth c.args.terms.now c.make.new.terms (Some c.in_ok-id.id)
    (λ u v. truth_at u v (Some c.args.a) || truth_at u v x)) (sym c.in-Some.is)
    (makes_either c.args.terms.now c.make.new.terms c.args.a c.in-Some.second c.in_ok-id.id c.requires.first
    (subst (IsTruth c.args.terms.now) c.in-Some.is c.requires.second) c.in_ok-id.ensures)
