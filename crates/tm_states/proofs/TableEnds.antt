-- The ends of processes, by their tables of locations.
use Rattle.std.proofs.Common.{◌≡◌, ℕ, ◌+◌, ◌≤◌, List, [], ◌∷◌, sym, ap, subst}
use Rattle.std.specs.List.{AllZip}
use Rattle.std.proofs.lemmas.Slice.Zip.{AllZip-long}
use Rattle.tm_syntax.specs.Design.{DesignTree}
use Rattle.tm_syntax.specs.Design.Locations.{end_number, locations}
use Rattle.tm_locations.specs.Locations.{AreLocations, IsRow, table_of}
use Rattle.tm_locations.specs.declared.table.Locations.{Locations}
use Rattle.tm_states.specs.States.{end_of}

-- the end of a process stands behind the rows of its table
pub table_end : (t : Locations) (d : DesignTree) (p : ℕ) → AreLocations (table_of t) d p → end_of t ≡ end_number d p
table_end t d p are =
    ap (λ n. n + 1)
    (sym (AllZip-long (IsRow (table_of t).trails (table_of t).rests) (table_of t).rows (locations d p) are.rows))

module _ (d : DesignTree) where
  -- locations within the tables of processes are within the processes, and the other way round
  pub within_processes : (ps : List ℕ) (ts : List Locations) (ks : List ℕ) →
      AllZip (λ p t. AreLocations (table_of t) d p) ps ts → AllZip (λ t k. k ≤ end_of t) ts ks →
      AllZip (λ p k. k ≤ end_number d p) ps ks
  within_processes [] [] ks are within = by ks within
    where
      by : (ks : List ℕ) → AllZip (λ t k. k ≤ end_of t) [] ks → AllZip (λ p k. k ≤ end_number d p) [] ks
      by [] within = tt
      by (k ∷ ks) within = elim within [ ]
  within_processes [] (t ∷ ts) ks are within = elim are [ ]
  within_processes (p ∷ ps) [] ks are within = elim are [ ]
  within_processes (p ∷ ps) (t ∷ ts) [] are within = elim within [ ]
  within_processes (p ∷ ps) (t ∷ ts) (k ∷ ks) are within =
      (subst (λ e. k ≤ e) (table_end t d p are.0) within.0, within_processes ps ts ks are.1 within.1)

  pub within_tables : (ps : List ℕ) (ts : List Locations) (ks : List ℕ) →
      AllZip (λ p t. AreLocations (table_of t) d p) ps ts → AllZip (λ p k. k ≤ end_number d p) ps ks →
      AllZip (λ t k. k ≤ end_of t) ts ks
  within_tables [] [] ks are within = by ks within
    where
      by : (ks : List ℕ) → AllZip (λ p k. k ≤ end_number d p) [] ks → AllZip (λ t k. k ≤ end_of t) [] ks
      by [] within = tt
      by (k ∷ ks) within = elim within [ ]
  within_tables [] (t ∷ ts) ks are within = elim are [ ]
  within_tables (p ∷ ps) [] ks are within = elim are [ ]
  within_tables (p ∷ ps) (t ∷ ts) [] are within = elim within [ ]
  within_tables (p ∷ ps) (t ∷ ts) (k ∷ ks) are within =
      (subst (λ e. k ≤ e) (sym (table_end t d p are.0)) within.0, within_tables ps ts ks are.1 within.1)
