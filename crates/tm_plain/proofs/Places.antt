-- What the table of the locations of a process tells of a location.
use Rattle.std.proofs.Common.{◌≡◌, ℕ, zero, suc, ◌+◌, false, None, Some, List, [], ◌∷◌, length, slice_get, refl, sym, ap, ◌∙◌, subst}
use Rattle.std.specs.List.{AllZip}
use Rattle.std.specs.Option.{option_map_or}
use Rattle.std.proofs.lemmas.Slice.Zip.{AllZip-long}
use Rattle.tm_syntax.specs.Design.{DesignTree}
use Rattle.tm_syntax.specs.Design.Locations.{Location, end_number, is_magic_at, locations, rest}
use Rattle.tm_locations.specs.Locations.{AreLocations, IsRest, IsRow, LocationTable, nothing_left}
use Rattle.tm_locations.specs.declared.table.LocationRow.{LocationRow}

module _ {X Y : Type 0} (R : X → Y → Type 0) where
  -- what goes along with the one of an index
  pub zip_some : (xs : List X) (ys : List Y) (k : ℕ) (x : X) → AllZip R xs ys → slice_get xs k ≡ Some x →
      (y : Y) × (slice_get ys k ≡ Some y) × R x y
  zip_some [] ys k x all is = absurd (cc)
  zip_some (z ∷ xs) [] k x all is = absurd all
  zip_some (z ∷ xs) (w ∷ ys) zero x all is = let same : z ≡ x = cc in (w, refl, subst (λ a. R a w) same all.0)
  zip_some (z ∷ xs) (w ∷ ys) (suc k) x all is = zip_some xs ys k x all.1 is

  pub zip_back : (xs : List X) (ys : List Y) (k : ℕ) (y : Y) → AllZip R xs ys → slice_get ys k ≡ Some y →
      (x : X) × R x y
  zip_back xs [] k y all is = absurd (cc)
  zip_back [] (w ∷ ys) k y all is = absurd all
  zip_back (z ∷ xs) (w ∷ ys) zero y all is = let same : w ≡ y = cc in (z, subst (λ b. R z b) same all.0)
  zip_back (z ∷ xs) (w ∷ ys) (suc k) y all is = zip_back xs ys k y all.1 is

  pub zip_none : (xs : List X) (ys : List Y) (k : ℕ) → AllZip R xs ys → slice_get xs k ≡ None → slice_get ys k ≡ None
  zip_none [] [] k all is = refl
  zip_none [] (w ∷ ys) k all is = absurd all
  zip_none (z ∷ xs) [] k all is = absurd all
  zip_none (z ∷ xs) (w ∷ ys) zero all is = absurd (cc)
  zip_none (z ∷ xs) (w ∷ ys) (suc k) all is = zip_none xs ys k all.1 is

module _ (t : LocationTable) (d : DesignTree) (p : ℕ) (are : AreLocations t d p) where
  pub end_is : length t.rows + 1 ≡ end_number d p
  end_is = ap (λ n. n + 1) (sym (AllZip-long (IsRow t.trails t.rests) t.rows (locations d p) are.rows))

  module _ (place k : ℕ) (is : place ≡ suc k) where
    pub rest_row : (row : LocationRow) → slice_get t.rows k ≡ Some row →
        IsRest t.trails t.rests row.rest (rest d p place)
    rest_row row here =
        let l = zip_some (IsRow t.trails t.rests) t.rows (locations d p) k row are.rows here in
        subst (IsRest t.trails t.rests row.rest)
        (sym (ap (λ o. option_map_or (λ (l : Location). l.rest) o []) l.1) ∙ ap (rest d p) (sym is)) l.2.rest

    pub rest_none : slice_get t.rows k ≡ None → IsRest t.trails t.rests 0 (rest d p place)
    rest_none here =
        subst (IsRest t.trails t.rests 0)
        (sym (ap (λ o. option_map_or (λ (l : Location). l.rest) o [])
        (zip_none (IsRow t.trails t.rests) t.rows (locations d p) k are.rows here)) ∙ ap (rest d p) (sym is))
        nothing_left

    pub magic_row : (row : LocationRow) → slice_get t.rows k ≡ Some row → row.is_magic ≡ is_magic_at d p place
    magic_row row here =
        let l = zip_some (IsRow t.trails t.rests) t.rows (locations d p) k row are.rows here in
        sym l.2.is_magic ∙ sym (ap (λ o. option_map_or (λ (l : Location). l.is_magic) o false) l.1)
        ∙ ap (is_magic_at d p) (sym is)

    pub magic_none : slice_get t.rows k ≡ None → false ≡ is_magic_at d p place
    magic_none here =
        sym (ap (λ o. option_map_or (λ (l : Location). l.is_magic) o false)
        (zip_none (IsRow t.trails t.rests) t.rows (locations d p) k are.rows here))
        ∙ ap (is_magic_at d p) (sym is)

  pub rest_start : (place : ℕ) → place ≡ 0 → IsRest t.trails t.rests t.start (rest d p place)
  rest_start place is = subst (IsRest t.trails t.rests t.start) (ap (rest d p) (sym is)) are.start

  pub magic_start : (place : ℕ) → place ≡ 0 → false ≡ is_magic_at d p place
  magic_start place is = ap (is_magic_at d p) (sym is)
