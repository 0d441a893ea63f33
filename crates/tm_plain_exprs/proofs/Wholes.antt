-- An expression that is a form at some place has what is found of this form at each place.
use Rattle.std.proofs.Common.{◌≡◌, ℕ, Result, Ok, Err, sym, subst}
use Rattle.std.specs.Prelude.{IfOk, OnErr}
use Rattle.tm_base.specs.declared.place.Place.{Place}
use Rattle.tm_syntax.specs.declared.design.Ty.{Ty}
use Rattle.tm_syntax.specs.declared.tree.BinaryOperator.{BinaryOperator}
use Rattle.tm_syntax.specs.Tree.{ExprTree, binary}
use Rattle.tm_scope.specs.Cells.{ScopedCells}
use Rattle.tm_plain_exprs.specs.declared.overrun.Overrun.{Overrun}
use Rattle.tm_plain_exprs.specs.Kept.{Kept}
use Rattle.tm_design.specs.Typed.{HasTypeAt}
use Rattle.tm_plain_exprs.specs.Valued.{IsOperandType, IsValued, Overruns}

module _ (s : ScopedCells) (k : Kept) (whole : ExprTree) (form : Place → ExprTree) (at : Place) (is : whole ≡ form at)
  where
    pub form_typed : (ty : Ty) → HasTypeAt s ty whole → (at : Place) × HasTypeAt s ty (form at)
    form_typed ty h = (at, subst (HasTypeAt s ty) is h)

    pub whole_valued : (asked : Ty) (r : Result ℕ Overrun) →
        IfOk r (λ n. (at : Place) → IsValued s k asked (form at) n) → IfOk r (IsValued s k asked whole)
    whole_valued asked (Ok n) h = subst (λ e. IsValued s k asked e n) (sym is) (h at)
    whole_valued asked (Err e) h = tt

    pub whole_overruns : (r : Result ℕ Overrun) → OnErr r ((at : Place) → Overruns s k (form at)) →
        OnErr r (Overruns s k whole)
    whole_overruns (Ok n) h = tt
    whole_overruns (Err e) h = subst (Overruns s k) (sym is) (h at)

-- what an operator joins, by what is found for each first operand of this value
module _ (s : ScopedCells) (k : Kept) (at : Place) (op : BinaryOperator) (asked ty : Ty) (a b whole : ExprTree) (first
    : ℕ)
    (is : whole ≡ binary at op a b) (meets : IsOperandType s op asked a b ty) (valued : IsValued s k ty a first) where
  pub joined_valued : (r : Result ℕ Overrun) → IfOk r (λ n. (at : Place) (asked : Ty) (a : ExprTree) →
      IsOperandType s op asked a b ty → IsValued s k ty a first → IsValued s k asked (binary at op a b) n) →
      IfOk r (IsValued s k asked whole)
  joined_valued (Ok n) h = subst (λ e. IsValued s k asked e n) (sym is) (h at asked a meets valued)
  joined_valued (Err e) h = tt

  pub joined_overruns : (r : Result ℕ Overrun) → OnErr r ((at : Place) (asked : Ty) (a : ExprTree) →
      IsOperandType s op asked a b ty → IsValued s k ty a first → Overruns s k (binary at op a b)) →
      OnErr r (Overruns s k whole)
  joined_overruns (Ok n) h = tt
  joined_overruns (Err e) h = subst (Overruns s k) (sym is) (h at asked a meets valued)
