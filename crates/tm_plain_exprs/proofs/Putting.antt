-- What is kept where cells have got values one after the other.
use Rattle.std.proofs.Common.{◌≡◌, ℕ, zero, suc, ◌+◌, ◌≤◌, Option, Some, List, [], ◌∷◌, ◌++◌, length, map, min, take, slice_get, refl, sym, ap, ◌∙◌, subst, arith}
use Rattle.std.specs.List.{zip, fold}
use Rattle.std.proofs.lemmas.List.{length-map, take_all, take_more}
use Rattle.tm_syntax.specs.Design.Cells.{Cell}
use Rattle.tm_scope.specs.Cells.{CellTables, ScopedCells, cell_at}
use Rattle.tm_scope.specs.declared.cells.site_body.SiteBody.{SiteBody}
use Rattle.tm_scope.specs.declared.cells.site_body.CellNumber.{CellNumber}
use Rattle.tm_sem.specs.Value.{Memory, put}
use Rattle.tm_design.specs.StepCells.{AreApart}
use Rattle.tm_design.proofs.Zipped.{get_at, zip_get, zip_length}
use Rattle.tm_plain_exprs.specs.Kept.{Kept, Keeps, put_all}

-- values are put into cells one after the other
abbrev pub kept_put : Memory → Cell × ℕ → Memory
kept_put so_far p = put so_far p.0 p.1

fold_behind : (m : Memory) (xs : List (Cell × ℕ)) (x : Cell × ℕ) →
    fold kept_put m (xs ++ x ∷ []) ≡ kept_put (fold kept_put m xs) x
fold_behind m [] x = refl
fold_behind m (y ∷ xs) x = fold_behind (kept_put m y) xs x

-- the cell of an index
cell_of : {A : Type 0} (f : A → Option Cell) (xs : List A) (cs : List Cell) (k : ℕ) (x : A) → map f xs ≡ map Some cs →
    slice_get xs k ≡ Some x → (c : Cell) × (slice_get cs k ≡ Some c) × (f x ≡ Some c)
cell_of f [] cs k x are is = absurd (cc)
cell_of f (y ∷ xs) [] k x are is = absurd (cc)
cell_of f (y ∷ xs) (c ∷ cs) zero x are is =
    let first : f y ≡ Some c = cc in
    let same : y ≡ x = cc in
    (c, refl, sym (ap f same) ∙ first)
cell_of f (y ∷ xs) (c ∷ cs) (suc k) x are is =
    let rest : map f xs ≡ map Some cs = cc in cell_of f xs cs k x rest is

module _ (s : ScopedCells) (cells : List CellNumber) (values : List ℕ) where
  -- what is kept after so many values
  abbrev pub PutSoFar : ℕ → Kept → Kept → Type 0
  PutSoFar i from now =
      (m : Memory) (cs : List Cell) → AreApart s.tables → Keeps s.tables from m →
      map (cell_at s.tables s.at) cells ≡ map Some cs →
      Keeps s.tables now (fold kept_put m (take i (zip cs values)))

  pub put_none : (from : Kept) → PutSoFar 0 from from
  put_none from = λ m cs apart keeps are. keeps

  pub put_more : (i : ℕ) (at : SiteBody) (from now next : Kept) (n : CellNumber) (v : ℕ) → at ≡ s.at →
      slice_get cells i ≡ Some n → slice_get values i ≡ Some v →
      ((x : CellTables) (m : Memory) (c : Cell) → AreApart x → Keeps x now m → cell_at x at n ≡ Some c →
      Keeps x next (put m c v)) → PutSoFar i from now → PutSoFar (i + 1) from next
  put_more i at from now next n v own here there puts before = λ m cs apart keeps are.
      let c = cell_of (cell_at s.tables s.at) cells cs i n are here in
      let both = get_at (zip cs values) i (c.0, v) (zip_get cs values i c.0 v c.1 there) in
      subst (λ qs. Keeps s.tables next (fold kept_put m qs))
      (sym (take_more (zip cs values) i (c.0, v) both.0 ∙ ap (λ q. take i (zip cs values) ++ q ∷ []) both.1))
      (subst (Keeps s.tables next) (sym (fold_behind m (take i (zip cs values)) (c.0, v)))
      (puts s.tables (fold kept_put m (take i (zip cs values))) c.0 apart (before m cs apart keeps are)
      (ap (λ a. cell_at s.tables a n) own ∙ c.2)))

  zip_short : {A B : Type 0} (xs : List A) (ys : List B) → length (zip xs ys) ≤ length xs
  zip_short [] ys = omega arith
  zip_short (x ∷ xs) [] = omega arith
  zip_short (x ∷ xs) (y ∷ ys) = let rest = zip_short xs ys in omega (arith, rest)

  pub put_whole : (i : ℕ) (from now : Kept) → min (length cells) (length values) ≤ i → PutSoFar i from now →
      (m : Memory) (cs : List Cell) → AreApart s.tables → Keeps s.tables from m →
      map (cell_at s.tables s.at) cells ≡ map Some cs → Keeps s.tables now (put_all m cs values)
  put_whole i from now end before m cs apart keeps are =
      let long : length cs ≡ length cells =
      sym (length-map cs Some) ∙ ap length (sym are) ∙ length-map cells (cell_at s.tables s.at) in
      let one = zip_short cs values in
      let two = zip_length cs values in
      subst (λ qs. Keeps s.tables now (fold kept_put m qs))
      (take_all i (zip cs values) (omega (arith, one, two, long, end))) (before m cs apart keeps are)
