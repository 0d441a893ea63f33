-- What the tables of locations tell of magic blocks.
use Rattle.std.proofs.Common.{◌≡◌, ℕ, suc, ◌+◌, ◌<◌, false, None, Some, List, [], ◌∷◌, ◌++◌, get_or, length, map, slice_get, sym, ap, ◌∙◌, subst, arith}
use Rattle.std.specs.List.{range_with_len}
use Rattle.std.specs.Option.{option_map_or}
use Rattle.std.specs.declared.vec.Vec.{Vec}
use Rattle.std.specs.declared.alloc.Global.{Global}
use Rattle.std.proofs.lemmas.List.{map-append}
use Rattle.std.proofs.lemmas.List.FromFn.{length-range_with_len, map-range_with_len_more}
use Rattle.std.proofs.lemmas.Option.{slice_get-get_or}
use Rattle.std.proofs.lemmas.Slice.Zip.{AllZip-long}
use Rattle.tm_syntax.specs.Design.{DesignTree}
use Rattle.tm_syntax.specs.Design.Locations.{Location, end_number, is_magic_at, locations}
use Rattle.tm_locations.specs.Locations.{AreLocations, IsRow, LocationTable, table_of}
use Rattle.tm_locations.specs.declared.table.LocationRow.{LocationRow}
use Rattle.tm_locations.specs.declared.table.Locations.{Locations}
use Rattle.tm_states.specs.States.{HaveLocations}
use Rattle.tm_flat.specs.IsFlat.{location_numbers}
use Rattle.tm_flat_states.proofs.Numbered.{number_of, zip_none, zip_some}

module _ (t : LocationTable) (d : DesignTree) (p : ℕ) (are : AreLocations t d p) where
  -- the locations are the rows, the start and the end
  pub places_are : length t.rows + 2 ≡ end_number d p + 1
  places_are =
      let rows = AllZip-long (IsRow t.trails t.rests) t.rows (locations d p) are.rows in omega (arith, rows)

  module _ (place k : ℕ) (is : place ≡ suc k) where
    pub magic_row : (row : LocationRow) → slice_get t.rows k ≡ Some row → row.is_magic ≡ is_magic_at d p place
    magic_row row here =
        let l = zip_some (IsRow t.trails t.rests) t.rows (locations d p) k row are.rows here in
        sym l.2.is_magic ∙ sym (ap (λ o. option_map_or (λ (l : Location). l.is_magic) o false) l.1)
        ∙ ap (is_magic_at d p) (sym is)

    pub magic_none : slice_get t.rows k ≡ None → false ≡ is_magic_at d p place
    magic_none here =
        sym (ap (λ o. option_map_or (λ (l : Location). l.is_magic) o false)
        (zip_none (IsRow t.trails t.rests) t.rows (locations d p) k are.rows here))
        ∙ ap (is_magic_at d p) (sym is)

-- the table of a process is that of its number
pub table_of_process : (d : DesignTree) (ts : List Locations) → HaveLocations d ts → (p : ℕ) (t : Locations) →
    slice_get ts p ≡ Some t → AreLocations (table_of t) d p
table_of_process d ts have p t is =
    let at : 0 + p ≡ p = omega arith in
    subst (λ k. AreLocations (table_of t) d k) at
    (number_of (λ k (l : Locations). AreLocations (table_of l) d k) 0 (length d.processes) ts have p t is)

-- what is listed by the numbers of all locations is what is listed by those of the table
pub all_places : {X : Type 0} (f : ℕ → X) (t : LocationTable) (d : DesignTree) (p : ℕ) → AreLocations t d p →
    (n : ℕ) → n ≡ length t.rows + 2 → (xs : List X) → xs ≡ map f (range_with_len 0 n) →
    xs ≡ map f (location_numbers d p)
all_places f t d p are n is xs listed =
    listed ∙ ap (λ k. map f (range_with_len 0 k)) (is ∙ places_are t d p are)

-- one more of what is listed by number
pub one_more : {X : Type 0} (f : ℕ → X) (n : ℕ) (xs more : List X) (x : X) → xs ≡ map f (range_with_len 0 n) → x ≡ f n →
    more ≡ xs ++ x ∷ [] → more ≡ map f (range_with_len 0 (n + 1))
one_more f n xs more x listed is pushed =
    pushed ∙ (λ i. listed i ++ is i ∷ []) ∙ sym (map-range_with_len_more f 0 n n (omega arith))

-- one more of the lists that are listed by number
pub more_lists : {X : Type 0} (f : ℕ → List X) (n : ℕ) (xs more : List (Vec X Global)) (x : Vec X Global) →
    map (λ (l : Vec X Global). l.items) xs ≡ map f (range_with_len 0 n) → x.items ≡ f n → more ≡ xs ++ x ∷ [] →
    map (λ (l : Vec X Global). l.items) more ≡ map f (range_with_len 0 (n + 1))
more_lists f n xs more x listed is pushed =
    one_more f n (map (λ l. l.items) xs) (map (λ l. l.items) more) x.items listed is
    (ap (map (λ l. l.items)) pushed ∙ map-append (λ l. l.items) xs (x ∷ []))

-- the table that is read for a process
pub process_table : (d : DesignTree) (ts : List Locations) → HaveLocations d ts → (p : ℕ) (t : Locations) →
    p < length d.processes → AreLocations (table_of (get_or ts p t)) d p
process_table d ts have p t inside =
    let many = AllZip-long (λ k (l : Locations). AreLocations (table_of l) d k) (range_with_len 0 (length d.processes))
    ts
    have ∙ length-range_with_len 0 (length d.processes) in
    table_of_process d ts have p (get_or ts p t) (slice_get-get_or ts p t (omega (arith, many, inside)))
