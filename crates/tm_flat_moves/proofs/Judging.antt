-- The truths of a step.
use Rattle.std.proofs.Common.{◌≡◌, ℕ, ◌==◌, Bool, true, false, ◌||◌, Option, Some, List, refl, ap, ◌∙◌}
use Rattle.std.specs.Prelude.{not}
use Rattle.tm_base.specs.Arithmetic.{is_nonzero}
use Rattle.tm_term.specs.declared.term.TermId.{TermId}
use Rattle.tm_term.specs.Table.{Table, IsSound}
use Rattle.tm_term.specs.Value.{AreInputs, Extends, value_of}
use Rattle.tm_term.proofs.Valued.{Extends-trans}
use Rattle.tm_flat.specs.Steps.{IsTerm}
use Rattle.tm_flat_exprs.specs.Made.{IsTruth, Makes, MakesTruth, truth_at, value_at}
use Rattle.tm_flat_exprs.proofs.Later.{Extends-refl, term_along}
use Rattle.tm_flat_moves.specs.declared.finish.Verdict.{Verdict}
use Rattle.tm_flat_moves.specs.Ended.{MakesVerdict}

-- a truth that is there
pub truth_there : (t : Table) (id : TermId) → IsSound t → IsTerm t 1 id →
    Makes t t 1 id (λ u v. value_at u v (Some id))
truth_there t id sound term = record {
  grown = Extends-refl t;
  sound = sound;
  term = term;
  value = λ u more v are. refl;
}

not_not : (b c : Bool) → not b ≡ c → b ≡ not c
not_not true c is = ap not is
not_not false c is = ap not is

-- a truth that may be wanting, as a term
zero_so : (t n : Table) (id : TermId) (o : Option TermId) → Makes t n 1 id (λ u v. value_at u v o) → (u : Table) →
    Extends n u → (v : List ℕ) → AreInputs u v → (b : Bool) → truth_at u v o ≡ b → (value_of u v id == 0) ≡ not b
zero_so t n id o made u more v are b is =
    not_not (value_of u v id == 0) b (ap is_nonzero (made.value u more v are) ∙ is)

pub told_truths : (t k m n : Table) (arrives : TermId) (failed either : Option TermId) (told : Verdict) →
    MakesTruth t k either (λ u v. truth_at u v (Some arrives) || truth_at u v failed) →
    Makes k m 1 told.legal (λ u v. value_at u v either) → Makes m n 1 told.error (λ u v. value_at u v failed) →
    MakesVerdict t n arrives failed told
told_truths t k m n arrives failed either told one legal error =
    let last : Extends k n = Extends-trans k m n legal.grown error.grown in
    record {
      grown = Extends-trans t k n one.grown last;
      sound = error.sound;
      legal = term_along m n 1 told.legal error.grown legal.term;
      error = error.term;
      is_legal = λ u more v are.
          zero_so k m told.legal either legal u (Extends-trans m n u error.grown more) v are
          (truth_at u v (Some arrives) || truth_at u v failed)
          (one.truth u (Extends-trans k n u last more) v are);
      is_error = λ u more v are.
          zero_so m n told.error failed error u more v are (truth_at u v failed) refl;
    }
