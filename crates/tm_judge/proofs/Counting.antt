-- Counts of state bits and of fairness conditions, as code makes them and as the definitions say.
use Rattle.std.proofs.Common.{◌≡◌, ℕ, ◌+◌, ◌≤◌, Bool, true, false, cond, List}
use Rattle.std.proofs.Common.{[], ◌∷◌, ◌++◌, map, length, if◌then◌else◌, refl, sym, ap, subst, ◌∙◌, arith}
use Rattle.std.proofs.Common.{length-append}
use mir.Val.{bool_byte}
use Rattle.std.specs.Prelude.{filter, sum, sum_by, not}
use Rattle.std.specs.List.{AllZip, range_with_len}
use Rattle.std.proofs.lemmas.List.{length-map, map-id}
use Rattle.std.proofs.lemmas.List.Elements.{filter-append}
use Rattle.std.proofs.lemmas.List.Filters.{length-filter_both}
use Rattle.std.proofs.lemmas.List.FromFn.{map-range_with_len_more, length-range_with_len}
use Rattle.std.proofs.lemmas.List.Sums.{sum_by-cons, sum_by-append}
use Rattle.std.proofs.lemmas.Slice.Zip.{AllZip-long}
use Rattle.tm_syntax.specs.declared.design.Design.{Design}
use Rattle.tm_syntax.specs.declared.design.Var.{Var}
use Rattle.tm_syntax.specs.declared.tree.Spec.{Spec}
use Rattle.tm_syntax.specs.Tree.View.{spec_tree}
use Rattle.tm_syntax.specs.Design.{DesignTree}
use Rattle.tm_syntax.specs.Design.Locations.{end_number}
use Rattle.tm_syntax.specs.Design.Sizes.{bits_of_number, type_bits}
use Rattle.tm_syntax.specs.Design.View.{design_tree}
use Rattle.tm_syntax.specs.Faults.{IsSound}
use Rattle.tm_syntax.proofs.Limits as limits
use Rattle.tm_locations.specs.Locations.{AreLocations, table_of}
use Rattle.tm_locations.specs.declared.table.Locations.{Locations}
use Rattle.tm_sem.specs.Fairness.{conditions, of_text, of_process, is_owed, owed}
use Rattle.tm_states.specs.States.{AreSized, HaveLocations, end_of}
use Rattle.tm_states.proofs.StateLaws.{sized}
use Rattle.tm_states.proofs.TableEnds.{table_end}
use Rattle.tm_judge.specs.Shape.{state_bit_count}

-- a sum of what is made of the items of a list
sum-mapped : {X : Type 0} (f : X → ℕ) (xs : List X) → sum (map f xs) ≡ sum_by f xs
sum-mapped f [] = refl
sum-mapped f (x ∷ xs) =
    sum_by-cons (λ n. n) (f x) (map f xs) ∙ ap (λ n. f x + n) (sum-mapped f xs) ∙ sym (sum_by-cons f x xs)

module _ (d : DesignTree) where
  -- the bits of locations by tables are those of the processes
  ends-mapped : (ps : List ℕ) (ts : List Locations) → AllZip (λ p t. AreLocations (table_of t) d p) ps ts →
      map (λ p. bits_of_number (end_number d p)) ps ≡ map (λ (t : Locations). bits_of_number (end_of t)) ts
  ends-mapped [] [] are = refl
  ends-mapped [] (t ∷ ts) are = elim are [ ]
  ends-mapped (p ∷ ps) [] are = elim are [ ]
  ends-mapped (p ∷ ps) (t ∷ ts) are =
      ap (λ n. bits_of_number n ∷ map (λ p. bits_of_number (end_number d p)) ps) (sym (table_end t d p are.0))
      ∙ ap (λ ns. bits_of_number (end_of t) ∷ ns) (ends-mapped ps ts are.1)

  -- a state has the bits of its variables, of its locations, and of who moved last
  pub bits_counted : (ts : List Locations) → HaveLocations d ts →
      sum_by (λ (v : Var). type_bits d.spec v.ty) d.vars + sum_by (λ (t : Locations). bits_of_number (end_of t)) ts
      + bits_of_number (1 + length d.processes) ≡ state_bit_count d
  bits_counted ts have =
      let places = map (λ p. bits_of_number (end_number d p)) (range_with_len 0 (length d.processes)) in
      let last = bits_of_number (1 + length d.processes) in
      let variables = map (λ (v : Var). type_bits d.spec v.ty) d.vars in
      let whole : state_bit_count d ≡ sum_by (λ n. n) ((variables ++ places) ++ last ∷ []) = refl in
      let all = sum_by-append (λ n. n) (variables ++ places) (last ∷ []) in
      let behind = sum_by-append (λ n. n) variables places in
      let first = sum-mapped (λ (v : Var). type_bits d.spec v.ty) d.vars in
      let second = ap sum (ends-mapped (range_with_len 0 (length d.processes)) ts have)
      ∙ sum-mapped (λ (t : Locations). bits_of_number (end_of t)) ts in
      omega (arith, whole, all, behind, first, second)

  pub tables_are : (ts : List Locations) → HaveLocations d ts → length ts ≡ length d.processes
  tables_are ts have =
      AllZip-long (λ p t. AreLocations (table_of t) d p) (range_with_len 0 (length d.processes)) ts have
      ∙ length-range_with_len 0 (length d.processes)

  -- a design has the driver's condition, one for each process that is owed its turns, and the declared ones
  pub conditions_counted : 1 + length (owed d) + length d.fairs ≡ length (conditions d)
  conditions_counted =
      let all = length-append (map of_process (owed d)) (map of_text d.fairs) in
      let processes = length-map (owed d) of_process in
      let declared = length-map d.fairs of_text in
      omega (arith, all, processes, declared)

  range_more : (n : ℕ) → range_with_len 0 (n + 1) ≡ range_with_len 0 n ++ n ∷ []
  range_more n =
      sym (map-id (range_with_len 0 (n + 1))) ∙ map-range_with_len_more (λ k. k) 0 n n (omega arith)
      ∙ ap (λ ks. ks ++ n ∷ []) (map-id (range_with_len 0 n))

  single : (n : ℕ) (b : Bool) → length (if b then n ∷ [] else []) ≡ cond b 1 0
  single n true = refl
  single n false = refl

  -- one process more
  pub owed_more : (n : ℕ) → length (filter (is_owed d) (range_with_len 0 (n + 1)))
      ≡ length (filter (is_owed d) (range_with_len 0 n)) + cond (is_owed d n) 1 0
  owed_more n =
      ap (λ ks. length (filter (is_owed d) ks)) (range_more n)
      ∙ ap length (filter-append (is_owed d) (range_with_len 0 n) (n ∷ []))
      ∙ length-append (filter (is_owed d) (range_with_len 0 n)) (filter (is_owed d) (n ∷ []))
      ∙ ap (λ k. length (filter (is_owed d) (range_with_len 0 n)) + k) (single n (is_owed d n))

-- what is known of the parts of a design that keeps its facts, as code sees them
module _ (d : Design) (sound : IsSound (design_tree d)) where
  variables_moved : (spec : Spec) (vars : List Var) → spec ≡ d.spec → vars ≡ d.vars.items →
      sum_by (λ (v : Var). type_bits (spec_tree spec) v.ty) vars
      ≡ sum_by (λ (v : Var). type_bits (spec_tree d.spec) v.ty) d.vars.items
  variables_moved spec vars text same =
      ap (λ (s : Spec). sum_by (λ (v : Var). type_bits (spec_tree s) v.ty) vars) text
      ∙ ap (sum_by (λ (v : Var). type_bits (spec_tree d.spec) v.ty)) same

  pub few_variables : (spec : Spec) (vars : List Var) → spec ≡ d.spec → vars ≡ d.vars.items →
      sum_by (λ (v : Var). type_bits (spec_tree spec) v.ty) vars ≤ 256
  few_variables spec vars text same =
      let moved = variables_moved spec vars text same in
      let few = limits.few_bits (design_tree d) sound in
      omega (arith, moved, few)

  pub variables_are_sized : (vars : List Var) → vars ≡ d.vars.items → AreSized vars
  variables_are_sized vars same =
      subst AreSized (sym same) (sized (design_tree d) sound.fitting sound.numbered)

  -- the parts of a state's bits make them all
  pub parts_counted : (spec : Spec) (vars : List Var) (ts : List Locations) (variables places last : ℕ) →
      spec ≡ d.spec → vars ≡ d.vars.items → HaveLocations (design_tree d) ts →
      variables ≡ sum_by (λ (v : Var). type_bits (spec_tree spec) v.ty) vars →
      places ≡ sum_by (λ (t : Locations). bits_of_number (end_of t)) ts →
      last ≡ bits_of_number (length d.processes.items + 1) →
      variables + places + last ≡ state_bit_count (design_tree d)
  parts_counted spec vars ts variables places last text same have first second third =
      let moved = variables_moved spec vars text same in
      let all = bits_counted (design_tree d) ts have in
      let order : length d.processes.items + 1 ≡ 1 + length d.processes.items = omega arith in
      let behind = third ∙ ap bits_of_number order in
      omega (arith, moved, all, first, second, behind)

  pub few_tables : (ts : List Locations) → HaveLocations (design_tree d) ts → length ts ≤ 30
  few_tables ts have =
      let are = tables_are (design_tree d) ts have in
      let few = limits.few_processes (design_tree d) sound in
      omega (arith, are, few)

  pub few_declared : length d.fairs.items ≤ 32
  few_declared = let few = limits.few_fairs (design_tree d) sound in omega (arith, few)

  -- no more processes are owed their turns than there are
  pub few_conditions : length (owed (design_tree d)) ≤ 30
  few_conditions =
      let within = length-filter_both (is_owed (design_tree d)) (λ p. not (is_owed (design_tree d) p)) (λ p. refl)
      (range_with_len 0 (length d.processes.items)) in
      let all = length-range_with_len 0 (length d.processes.items) in
      let few = limits.few_processes (design_tree d) sound in
      omega (arith, within, all, few)

  pub few_owing : length d.processes.items ≤ 30
  few_owing = limits.few_processes (design_tree d) sound

-- a test as a number
pub at_most : (b : Bool) → bool_byte b ≤ 1
at_most true = omega arith
at_most false = omega arith

pub byte_is : (b c : Bool) → b ≡ c → bool_byte b ≡ cond c 1 0
byte_is true c is = ap (λ t. cond t 1 0) is
byte_is false c is = ap (λ t. cond t 1 0) is
