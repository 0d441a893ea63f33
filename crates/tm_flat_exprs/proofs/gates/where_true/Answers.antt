use Rattle.std.proofs.Common.{Option, Some, sym, subst}
use Rattle.std.specs.Prelude.{◌&&◌, ◌==◌, not}
use Rattle.tm_term.specs.declared.term.TermId.{TermId}
use Rattle.tm_term.specs.Value.{value_of}
use Rattle.tm_flat_exprs.specs.Made.{IsTruth, MakesTruth, truth_at}
use Rattle.tm_flat_exprs.proofs.Later.{makes_both}
use Rattle.tm_flat_exprs.proofs.gates.where_true.Goals as goal

pub returns : goal.returns
returns c =
    subst (λ (x : Option TermId). MakesTruth c.args.terms.now c.make.new.terms (Some c.in_ok-id.id)
    (λ u v. not (value_of u v c.args.test == 0) && truth_at u v x)) (sym c.in-Some.is)
    (makes_both c.args.terms.now c.make.new.terms c.args.test c.in-Some.truth c.in_ok-id.id c.requires.test
    (subst (IsTruth c.args.terms.now) c.in-Some.is c.requires.truth) c.in_ok-id.ensures)
