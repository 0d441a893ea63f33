-- Which elements an assignment to an array may write.
use Rattle.std.proofs.Common.{◌≡◌, ◌≢◌, ◌⊎◌, inl, inr, ℕ, zero, suc, ◌+◌, ◌<◌, ◌≤◌, Bool, false, ◌||◌, Some, List, refl, ap, ◌∙◌, subst, arith}
use Rattle.std.specs.Prelude.{unwrap_or}
use Rattle.std.specs.List.{list_any, range_with_len}
use Rattle.std.specs.Option.{option_map_or}
use Rattle.tm_syntax.specs.declared.tree.Expr.{Expr, Number}
use Rattle.tm_syntax.specs.declared.tree.Ident.{Ident}
use Rattle.tm_syntax.specs.declared.tree.Num.{Num}
use Rattle.tm_syntax.specs.Tree.View.{expr_tree}
use Rattle.tm_syntax.specs.Design.{DesignTree}
use Rattle.tm_syntax.specs.Design.Cells.{cell}
use Rattle.tm_syntax.specs.Design.Scope.{Scope, length_in}
use Rattle.tm_flat.specs.Writes.{is_variable, target_writes}
use Rattle.tm_flat_stmts.proofs.Leaving.{or_left, or_right}
use Rattle.tm_flat_stmts.proofs.Pieces.{one_or_other}

-- whether the element of a number is the state variable
abbrev pub element_is : DesignTree → Scope → ℕ → List Ident → ℕ → Bool
element_is d scope i names k = option_map_or (is_variable i) (cell d scope names (Some k)) false

-- whether some element of the array is
abbrev pub any_written : DesignTree → Scope → ℕ → List Ident → Bool
any_written d scope i names =
    list_any (element_is d scope i names) (range_with_len 0 (unwrap_or (length_in d scope names) 0))

-- an index that is no number may be that of each element
pub written_by : (d : DesignTree) (scope : Scope) (i : ℕ) (names : List Ident) (index : Expr) →
    ((n : Num) → ¬ (index ≡ Number n)) →
    target_writes d scope i names (Some (expr_tree index)) ≡ any_written d scope i names
written_by d scope i names (Number n) other = absurd (other n refl)
written_by d scope i names _ other = refl

pub none_between : (p : ℕ → Bool) (a n : ℕ) → list_any p (range_with_len a n) ≡ false → (k : ℕ) → a ≤ k → k < a + n →
    p k ≡ false
none_between p a zero none k low high = absurd (omega (arith, low, high))
none_between p a (suc n) none k low high =
    by (one_or_other k a)
    (λ after. none_between p (a + 1) n (or_right (p a) (list_any p (range_with_len (a + 1) n)) none) k after
    (omega (arith, high)))
  where
    by : (k ≡ a) ⊎ (k ≢ a) → (a + 1 ≤ k → p k ≡ false) → p k ≡ false
    by (inl same) later = ap p same ∙ or_left (p a) (list_any p (range_with_len (a + 1) n)) none
    by (inr other) later = later (omega (arith, low, other))

pub none_within : (p : ℕ → Bool) (a n : ℕ) → ((k : ℕ) → a ≤ k → k < a + n → p k ≡ false) →
    list_any p (range_with_len a n) ≡ false
none_within p a zero none = refl
none_within p a (suc n) none =
    ap (λ b. b || list_any p (range_with_len (a + 1) n)) (none a (omega arith) (omega arith))
    ∙ none_within p (a + 1) n (λ k low high. none k (omega (arith, low)) (omega (arith, high)))

-- where none is, none of those is that an index can number
pub none_written : (d : DesignTree) (scope : Scope) (i : ℕ) (names : List Ident) (size : ℕ) →
    length_in d scope names ≡ Some size → any_written d scope i names ≡ false → (k : ℕ) → k < size →
    element_is d scope i names k ≡ false
none_written d scope i names size long none k below =
    none_between (element_is d scope i names) 0 size
    (subst (λ o. list_any (element_is d scope i names) (range_with_len 0 (unwrap_or o 0)) ≡ false) long none) k
    (omega arith) (omega (arith, below))
