-- Terms that are one or another, as a truth says.
use Rattle.std.proofs.Common.{◌≡◌, ◌⊎◌, inl, inr, ℕ, ◌+◌, Bool, true, false, Some, List, [], ◌∷◌, ◌++◌, length, length-append, cond, refl, sym, ap, ◌∙◌, subst, arith}
use Rattle.std.specs.Prelude.{slice_get}
use Rattle.std.proofs.lemmas.Option.{same_Some}
use Rattle.tm_base.specs.Arithmetic.{choice, is_nonzero}
use Rattle.tm_term.specs.declared.term.TermId.{TermId}
use Rattle.tm_term.specs.Table.{Table}
use Rattle.tm_term.specs.Value.{value_of, Extends}
use Rattle.tm_term.proofs.Valued.{Extends-trans}
use Rattle.tm_scope.proofs.Entries.{at-push}
use Rattle.tm_flat.specs.Steps.{IsTerm}
use Rattle.tm_flat_exprs.specs.Made.{Makes}
use Rattle.tm_flat_exprs.specs.Merged.{AreOfWidth}
use Rattle.tm_flat_exprs.specs.Inner.Merging.{Chooses, MakesChoice, MergesValues}
use Rattle.tm_flat_exprs.proofs.Later.{term_along}

pub width_along : (t n : Table) (a b : TermId) → Extends t n → AreOfWidth t a b → AreOfWidth n a b
width_along t n a b grown of = record {
  width = of.width;
  first = term_along t n of.width a grown of.first;
  second = term_along t n of.width b grown of.second;
}

pub choice_along : (n p : Table) (guard a b id : TermId) → Extends n p → Chooses n guard a b id →
    Chooses p guard a b id
choice_along n p guard a b id grown c = record {
  width = c.width;
  first = term_along n p c.width a grown c.first;
  second = term_along n p c.width b grown c.second;
  term = term_along n p c.width id grown c.term;
  value = λ u more v are. c.value u (Extends-trans n p u grown more) v are;
  same = c.same;
}

pub chosen_of_one : (c n : ℕ) → n ≡ choice c n n
chosen_of_one c n = by (is_nonzero c)
  where
    by : (b : Bool) → n ≡ cond b n n
    by true = refl
    by false = refl

-- what is chosen of terms of a width has it
pub choice_made : (t n : Table) (guard a b id : TermId) (width : ℕ) → MakesChoice t n guard a b id →
    IsTerm t width a → Makes t n width id (λ u v. choice (value_of u v guard) (value_of u v a) (value_of u v b))
choice_made t n guard a b id width made first = record {
  grown = made.grown;
  sound = made.sound;
  term =
      let later = term_along t n width a made.grown first in
      subst (λ w. IsTerm n w id) (sym made.chosen.first.1 ∙ later.1) made.chosen.term;
  value = made.chosen.value;
}

-- one more term of two lists is chosen
pub one_more_chosen : (t n p : Table) (guard : TermId) (first second : List TermId) (i : ℕ) (ids : List TermId)
    (a b id : TermId) → MergesValues t n guard first second i ids → MakesChoice n p guard a b id →
    slice_get first i ≡ Some a → slice_get second i ≡ Some b →
    MergesValues t p guard first second (i + 1) (ids ++ id ∷ [])
one_more_chosen t n p guard first second i ids a b id merges made at there = record {
  grown = Extends-trans t n p merges.grown made.grown;
  sound = made.sound;
  long = omega (arith, length-append ids (id ∷ []), merges.long);
  each = λ j x y z fx fy is. by j x y z fx fy (at-push ids id j z is);
}
  where
    by : (j : ℕ) (x y z : TermId) → slice_get first j ≡ Some x → slice_get second j ≡ Some y →
        (slice_get ids j ≡ Some z) ⊎ ((j ≡ length ids) × (id ≡ z)) → Chooses p guard x y z
    by j x y z fx fy (inl old) = choice_along n p guard x y z made.grown (merges.each j x y z fx fy old)
    by j x y z fx fy (inr new) =
        let same : j ≡ i = omega (arith, new.0, merges.long) in
        let is_x : a ≡ x = same_Some a x (sym at ∙ ap (slice_get first) (sym same) ∙ fx) in
        let is_y : b ≡ y = same_Some b y (sym there ∙ ap (slice_get second) (sym same) ∙ fy) in
        subst (λ (w : TermId). Chooses p guard w y z) is_x
        (subst (λ (w : TermId). Chooses p guard a w z) is_y
        (subst (Chooses p guard a b) new.1 made.chosen))
