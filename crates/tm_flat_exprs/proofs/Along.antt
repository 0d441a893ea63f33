-- What the walks of expressions ask for holds as terms are added, and what was found of an expression too.
use Rattle.std.proofs.Common.{◌≡◌, ℕ, List, Result, subst}
use Rattle.std.specs.Prelude.{IfOk}
use Rattle.std.proofs.lemmas.List.Elements.{All-weaker}
use Rattle.tm_syntax.specs.declared.design.Ty.{Ty}
use Rattle.tm_syntax.specs.Tree.{ExprTree}
use Rattle.tm_syntax.specs.Tree.View.{spec_tree}
use Rattle.tm_syntax.specs.Design.Sizes.{type_bits}
use Rattle.tm_scope.specs.Cells.{CellTables, ScopedCells}
use Rattle.tm_term.specs.Table.{Table, IsSound}
use Rattle.tm_term.specs.Value.{AreInputs, Extends}
use Rattle.tm_term.proofs.Valued.{Extends-trans}
use Rattle.tm_flat.specs.Steps.{IsTerm}
use Rattle.tm_flat_exprs.specs.declared.valued.Valued.{Valued}
use Rattle.tm_flat_exprs.specs.declared.memory.versions.Version.{Version}
use Rattle.tm_flat_exprs.specs.declared.memory.versions.Version.TheVariants.{Put, Choice}
use Rattle.tm_flat_exprs.specs.Kept.{KeptTerms, AreKept, IsKeptVersion}
use Rattle.tm_flat_exprs.specs.Made.{IsTruth}
use Rattle.tm_flat_exprs.specs.Valued.{bits_in, IsReady, IsValued, Finds}
use Rattle.tm_flat_exprs.proofs.Later.{term_along, truth_along}

version_along : (x : CellTables) (t n : Table) → Extends t n → (w : Version) → IsKeptVersion x t w →
    IsKeptVersion x n w
version_along x t n grown (Put cell id) kept = λ s is.
    term_along t n (type_bits (spec_tree x.spec) s.ty) id grown (kept s is)
version_along x t n grown (Choice guard a b) truth = term_along t n 1 guard grown truth

pub kept_along : (x : CellTables) (t n : Table) (k : KeptTerms) → Extends t n → AreKept x t k → AreKept x n k
kept_along x t n k grown kept = record {
  values = λ i id v is there. term_along t n (type_bits (spec_tree x.spec) v.ty) id grown (kept.values i id v is there);
  step = All-weaker (IsKeptVersion x t) (IsKeptVersion x n) (version_along x t n grown) k.step kept.step;
}

pub ready_along : (s : ScopedCells) (t n : Table) (k : KeptTerms) → Extends t n → IsSound n → IsReady s t k →
    IsReady s n k
ready_along s t n k grown sound ready = record {
  settled = ready.settled;
  sound = sound;
  kept = kept_along s.tables t n k grown ready.kept;
}

-- what was found stays found
module _ (s : ScopedCells) (k : KeptTerms) (asked : Ty) (e : ExprTree) (t n : Table) (x : Valued)
    (found : Finds s k asked e t n x) (m : Table) (grown : Extends n m) where
  pub value_along : IsTerm m (bits_in s asked) x.value
  value_along = term_along n m (bits_in s asked) x.value grown found.value

  pub overrun_along : IsTruth m x.overrun
  overrun_along = truth_along n m x.overrun grown found.overrun

  pub means_along : (u : Table) → Extends m u → (v : List ℕ) → AreInputs u v → IsValued s k asked e u v x
  means_along u more v are = found.means u (Extends-trans n m u grown more) v are

-- what was found of an expression was found of the same one
pub same_found : {E : Type 0} (s : ScopedCells) (k : KeptTerms) (asked : Ty) (t n : Table) (r : Result Valued E)
    (e f : ExprTree) → e ≡ f → IfOk r (Finds s k asked e t n) → IfOk r (Finds s k asked f t n)
same_found s k asked t n r e f same found = subst (λ x. IfOk r (Finds s k asked x t n)) same found
