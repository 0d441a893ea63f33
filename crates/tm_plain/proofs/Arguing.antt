-- Arguments that fit the parameters of a task.
use Rattle.std.proofs.Common.{◌≡◌, ℕ, zero, suc, ◌+◌, ◌≤◌, ◌≢◌, Bool, true, false, Some, List, [], ◌∷◌, length, map, take, refl, sym, ap, ◌∙◌, subst, arith}
use Rattle.std.specs.Prelude.{◌&&◌, nat_eq, nat_lt, slice_get}
use Rattle.std.specs.List.{AllByRecursion, list_all, zip}
use Rattle.std.proofs.lemmas.Bool.Decides.{nat_tests}
use Rattle.std.proofs.lemmas.List.{take_all}
use Rattle.tm_syntax.specs.Design.{DesignTree}
use Rattle.tm_syntax.specs.Design.Cells.{Cell}
use Rattle.tm_syntax.specs.Design.Sizes.{type_size}
use Rattle.tm_scope.specs.Cells.{CellTables, cell_at}
use Rattle.tm_scope.specs.declared.cells.site_body.CellNumber.{CellNumber}
use Rattle.tm_scope.specs.declared.cells.site_body.SiteBody.{SiteBody}
use Rattle.tm_typing.specs.HasType.{IsSized}
use Rattle.tm_sem.specs.Run.{asked_by}
use Rattle.tm_sem.specs.Step.{arguments_fit}

pub as_long : {A B C : Type 0} (f : A → C) (g : B → C) (xs : List A) (ys : List B) → map f xs ≡ map g ys →
    length xs ≡ length ys
as_long f g [] [] same = refl
as_long f g [] (y ∷ ys) same = absurd (cc)
as_long f g (x ∷ xs) [] same = absurd (cc)
as_long f g (x ∷ xs) (y ∷ ys) same =
    let others : map f xs ≡ map g ys = cc in ap suc (as_long f g xs ys others)

pub both_true : (a b : Bool) → (a && b) ≡ true → (a ≡ true) × (b ≡ true)
both_true true b is = (refl, is)
both_true false b is = absurd (cc)

and_true : (a b : Bool) → a ≡ true → b ≡ true → (a && b) ≡ true
and_true true b one two = two
and_true false b one two = one

and_none : (a b : Bool) → b ≡ false → (a && b) ≡ false
and_none true b is = is
and_none false b is = refl

module _ (d : DesignTree) (x : CellTables) (at : SiteBody) where
  abbrev test : Cell × ℕ → Bool
  test p = nat_lt p.1 (type_size d.spec (asked_by d (Some p.0)))

  abbrev pub Sized : List Cell → Type 0
  Sized params = AllByRecursion (λ c. IsSized (asked_by d (Some c))) params

  -- a test of the value of an argument, by the number of its cell
  abbrev pub Tests : CellNumber → ℕ → Bool → Type 0
  Tests n v b =
      IsSized (asked_by d (cell_at x at n)) → b ≡ nat_lt v (type_size d.spec (asked_by d (cell_at x at n)))

  tested : (n : CellNumber) (v : ℕ) (b : Bool) (p : Cell) → Tests n v b → cell_at x at n ≡ Some p →
      IsSized (asked_by d (Some p)) → b ≡ test (p, v)
  tested n v b p tests is sized =
      tests (subst (λ o. IsSized (asked_by d o)) (sym is) sized)
      ∙ ap (λ o. nat_lt v (type_size d.spec (asked_by d o))) is

  -- the arguments so far fit
  abbrev pub FitSoFar : List Cell → List ℕ → ℕ → Type 0
  FitSoFar params args i = list_all test (zip (take i params) (take i args)) ≡ true

  more_fit : (ns : List CellNumber) (ps : List Cell) (vs : List ℕ) (i : ℕ) (n : CellNumber) (v : ℕ) →
      map (cell_at x at) ns ≡ map Some ps → Sized ps → slice_get ns i ≡ Some n → slice_get vs i ≡ Some v →
      Tests n v true → FitSoFar ps vs i → FitSoFar ps vs (suc i)
  more_fit [] ps vs i n v are sized here there tests fit = absurd (cc)
  more_fit (m ∷ ns) [] vs i n v are sized here there tests fit = absurd (cc)
  more_fit (m ∷ ns) (p ∷ ps) [] i n v are sized here there tests fit = absurd (cc)
  more_fit (m ∷ ns) (p ∷ ps) (w ∷ vs) zero n v are sized here there tests fit =
      let cell : cell_at x at m ≡ Some p = cc in
      let number : m ≡ n = cc in
      let value : w ≡ v = cc in
      and_true (test (p, w)) true
      (sym (tested m w true p (subst (λ k. Tests m k true) (sym value) (subst (λ k. Tests k v true) (sym number) tests))
      cell sized.0)) refl
  more_fit (m ∷ ns) (p ∷ ps) (w ∷ vs) (suc i) n v are sized here there tests fit =
      let others : map (cell_at x at) ns ≡ map Some ps = cc in
      let parts = both_true (test (p, w)) (list_all test (zip (take i ps) (take i vs))) fit in
      and_true (test (p, w)) (list_all test (zip (take (suc i) ps) (take (suc i) vs))) parts.0
      (more_fit ns ps vs i n v others sized.1 here there tests parts.1)

  one_fails : (ns : List CellNumber) (ps : List Cell) (vs : List ℕ) (i : ℕ) (n : CellNumber) (v : ℕ) →
      map (cell_at x at) ns ≡ map Some ps → Sized ps → slice_get ns i ≡ Some n → slice_get vs i ≡ Some v →
      Tests n v false → list_all test (zip ps vs) ≡ false
  one_fails [] ps vs i n v are sized here there tests = absurd (cc)
  one_fails (m ∷ ns) [] vs i n v are sized here there tests = absurd (cc)
  one_fails (m ∷ ns) (p ∷ ps) [] i n v are sized here there tests = absurd (cc)
  one_fails (m ∷ ns) (p ∷ ps) (w ∷ vs) zero n v are sized here there tests =
      let cell : cell_at x at m ≡ Some p = cc in
      let number : m ≡ n = cc in
      let value : w ≡ v = cc in
      ap (λ b. b && list_all test (zip ps vs))
      (sym (tested m w false p (subst (λ k. Tests m k false) (sym value) (subst (λ k. Tests k v false) (sym number)
      tests)) cell sized.0))
  one_fails (m ∷ ns) (p ∷ ps) (w ∷ vs) (suc i) n v are sized here there tests =
      let others : map (cell_at x at) ns ≡ map Some ps = cc in
      and_none (test (p, w)) (list_all test (zip ps vs)) (one_fails ns ps vs i n v others sized.1 here there tests)

  module _ (cells : List CellNumber) (params : List Cell) (args : List ℕ)
      (are : map (cell_at x at) cells ≡ map Some params) where
    long : length cells ≡ length params
    long = as_long (cell_at x at) Some cells params are

    pub wrong_count : length cells ≢ length args → false ≡ arguments_fit d params args
    wrong_count differs =
        let apart : nat_eq (length params) (length args) ≡ false = grind (arith, nat_tests, long, differs) in
        ap (λ b. b && list_all test (zip params args)) (sym apart)

    module _ (sized : Sized params) (i : ℕ) where
      module _ (n : CellNumber) (v : ℕ) (here : slice_get cells i ≡ Some n) (there : slice_get args i ≡ Some v) where
        pub wrong_value : Tests n v false → false ≡ arguments_fit d params args
        wrong_value tests =
            sym (and_none (nat_eq (length params) (length args)) (list_all test (zip params args))
            (one_fails cells params args i n v are sized here there tests))

        pub fit_more : Tests n v true → FitSoFar params args i → FitSoFar params args (i + 1)
        fit_more tests fit =
            let on : suc i ≡ i + 1 = omega arith in
            subst (FitSoFar params args) on (more_fit cells params args i n v are sized here there tests fit)

      pub all_fit : length cells ≡ length args → length cells ≤ i → FitSoFar params args i →
          true ≡ arguments_fit d params args
      all_fit same past fit =
          let one : length params ≤ i = omega (arith, long, past) in
          let two : length args ≤ i = omega (arith, same, past) in
          let count : nat_eq (length params) (length args) ≡ true = grind (arith, nat_tests, long, same) in
          sym (and_true (nat_eq (length params) (length args)) (list_all test (zip params args)) count
          (subst (λ ps. list_all test (zip ps args) ≡ true) (take_all i params one)
          (subst (λ vs. list_all test (zip (take i params) vs) ≡ true) (take_all i args two) fit)))
