use Rattle.std.proofs.Common.{ℕ, subst}
use Rattle.tm_flat_exprs.specs.Made.{Makes}
use Rattle.tm_scope.specs.Types.{ty_of}
use Rattle.tm_flat_exprs.proofs.Forms.{truth_found}
use Rattle.tm_flat_exprs.proofs.reader.TermReader.truth_term.Goals as goal

pub returns : goal.returns
returns c = λ at.
    truth_found c.args.self.now c.args.memory.now (ty_of c.args.asked) c.requires.typed.0 at c.args.truth
    c.args.terms.now c.make.new.terms c.in_ok-value.value c.requires.typed.1 c.requires.ready
    (subst (λ (n : ℕ). Makes c.args.terms.now c.make.new.terms 1 c.in_ok-value.value (λ u v. n)) c.bit.ensures
    c.in_ok-value.ensures)
