-- The values of truths, numbers and paths.
use Rattle.std.proofs.Common.{◌≡◌, ℕ, Bool, Option, None, Some, List, refl, sym, ap, ◌∙◌, subst}
use Rattle.std.specs.Prelude.{◌==◌, not, unwrap_or, slice_get}
use Rattle.std.specs.Option.{option_map, option_map_or, option_and_then}
use Rattle.tm_base.specs.declared.place.Place.{Place}
use Rattle.tm_base.specs.Arithmetic.{bit}
use Rattle.tm_syntax.specs.declared.tree.Ident.{Ident}
use Rattle.tm_syntax.specs.declared.tree.Num.{Num}
use Rattle.tm_syntax.specs.declared.design.Ty.{Ty}
use Rattle.tm_syntax.specs.declared.design.Ty.TheVariants as types
use Rattle.tm_syntax.specs.Tree.{ExprTree, SpecTree, truth, number, path}
use Rattle.tm_syntax.specs.Tree.View.{spec_tree}
use Rattle.tm_syntax.specs.Scopes.Names.{number_of, constant_value}
use Rattle.tm_syntax.specs.Design.Cells.{cell}
use Rattle.tm_scope.specs.Cells.{ScopedCells, scope_of}
use Rattle.tm_sem.specs.Value.{read}
use Rattle.tm_plain_exprs.specs.Kept.{Kept}
use Rattle.tm_plain_exprs.specs.Valued.{Holds, IsValued, Told}

-- what is read of a cell that is there, and what stands for one that is not
read_there : {A : Type 0} (f : A → ℕ) (o : Option A) (n other : ℕ) → Some n ≡ option_map f o →
    option_map_or f o other ≡ n
read_there f None n other is = absurd (cc)
read_there f (Some x) n other is = let same : n ≡ f x = cc in sym same

read_nowhere : {A : Type 0} (f : A → ℕ) (o : Option A) (other : ℕ) → None ≡ option_map f o →
    option_map_or f o other ≡ other
read_nowhere f None other is = refl
read_nowhere f (Some x) other is = absurd (cc)

pub read_or : {A : Type 0} (f : A → ℕ) (o : Option A) (other : ℕ) →
    option_map_or f o other ≡ unwrap_or (option_map f o) other
read_or f None other = refl
read_or f (Some x) other = refl

-- the value of the constant that the first name of a path is, 0 where it is none
abbrev pub first_constant : SpecTree → List Ident → ℕ
first_constant spec names =
    unwrap_or (option_and_then (λ (name : Ident). constant_value spec name.text) (slice_get names 0)) 0

module _ (s : ScopedCells) (k : Kept) where
  pub truth_valued : (asked : Ty) (whole : ExprTree) (at : Place) (b : Bool) (n : ℕ) → whole ≡ truth at b →
      n ≡ bit b → IsValued s k asked whole n
  truth_valued asked whole at b n is same =
      subst (λ e. IsValued s k asked e n) (sym is) (record { value = λ of. sym same; within = λ of. refl })

  pub number_valued : (asked : Ty) (whole : ExprTree) (num : Num) (n : ℕ) → whole ≡ number num → n ≡ number_of num →
      IsValued s k asked whole n
  number_valued asked whole num n is same =
      subst (λ e. IsValued s k asked e n) (sym is) (record { value = λ of. sym same; within = λ of. refl })

  pub path_valued : (asked : Ty) (whole : ExprTree) (names : List Ident) (n : ℕ) → whole ≡ path names →
      ((asked : Ty) → IsValued s k asked (path names) n) → IsValued s k asked whole n
  path_valued asked whole names n is h = subst (λ e. IsValued s k asked e n) (sym is) (h asked)

  -- a path means a cell, or else a constant
  pub path_found : (names : List Ident) (n : ℕ) →
      ((of : Told s k) → Some n ≡ option_map (read of.memory) (cell of.design (scope_of s.at) names None)) →
      (asked : Ty) → IsValued s k asked (path names) n
  path_found names n found asked = record {
    value = λ of.
        read_there (read of.memory) (cell of.design (scope_of s.at) names None) n (first_constant of.design.spec names)
        (found of);
    within = λ of. refl;
  }

  pub path_constant : (names : List Ident) (n : ℕ) →
      ((of : Told s k) → None ≡ option_map (read of.memory) (cell of.design (scope_of s.at) names None)) →
      n ≡ first_constant (spec_tree s.tables.spec) names → (asked : Ty) → IsValued s k asked (path names) n
  path_constant names n nowhere is asked = record {
    value = λ of.
        read_nowhere (read of.memory) (cell of.design (scope_of s.at) names None)
        (first_constant of.design.spec names) (nowhere of)
        ∙ ap (λ spec. first_constant spec names) of.cells.text
        ∙ sym is;
    within = λ of. refl;
  }

  -- a condition holds where its value is not 0
  pub truth_holds : (e : ExprTree) (n : ℕ) → IsValued s k types.Bool e n → Holds s k e (not (n == 0))
  truth_holds e n h = record { holds = λ of. ap (λ v. not (v == 0)) (h.value of); within = h.within }
