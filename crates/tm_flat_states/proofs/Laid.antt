-- What is listed by the tables of locations is listed by the processes: widths, bounds and magic blocks.
use Rattle.std.proofs.Common.{◌≡◌, ℕ, ◌+◌, List, [], ◌∷◌, ◌++◌, length, map, replicate, refl, sym, ap, ◌∙◌, subst}
use Rattle.std.specs.List.{AllByRecursion, AllZip, range_with_len}
use Rattle.std.proofs.lemmas.Slice.Zip.{AllZip-long}
use Rattle.tm_syntax.specs.declared.design.Design.{Design}
use Rattle.tm_syntax.specs.declared.design.Var.{Var}
use Rattle.tm_syntax.specs.declared.tree.Spec.{Spec}
use Rattle.tm_syntax.specs.Tree.{SpecTree}
use Rattle.tm_syntax.specs.Tree.View.{spec_tree}
use Rattle.tm_syntax.specs.Design.{DesignTree}
use Rattle.tm_syntax.specs.Design.Locations.{end_number}
use Rattle.tm_syntax.specs.Design.Sizes.{bits_of_number, type_bits}
use Rattle.tm_syntax.specs.Design.View.{design_tree}
use Rattle.tm_locations.specs.Locations.{AreLocations, table_of}
use Rattle.tm_locations.specs.declared.table.Locations.{Locations}
use Rattle.tm_design.specs.Values.{HasValues, VarFits}
use Rattle.tm_states.specs.States.{AreSized, HaveLocations, end_of}
use Rattle.tm_states.proofs.TableEnds.{table_end}
use Rattle.tm_flat.specs.Inputs.{input_widths, room}
use Rattle.tm_flat_states.specs.declared.bounds.Bound.{Bound}
use Rattle.tm_flat_states.specs.declared.bounds.Bound.TheVariants.{AtMost, Exactly}
use Rattle.tm_flat_states.specs.Bounds.{first_bound, initial_bounds, valid_bounds, value_bound}
use Rattle.tm_flat_states.proofs.Lists.{range_long}

-- the variables of a design have types whose numbers have a width that they can have
pub sized_here : (d : DesignTree) → HasValues d → (vars : List Var) → vars ≡ d.vars → AreSized vars
sized_here d has vars same = subst AreSized (sym same) (by d.vars has.variables)
  where
    by : (vs : List Var) → AllByRecursion (VarFits d.spec) vs → AreSized vs
    by [] all = tt
    by (v ∷ vs) all = (all.0.sized, by vs all.1)

module _ (d : DesignTree) where
  pub by_ends : {X : Type 0} (f : ℕ → X) (ps : List ℕ) (ts : List Locations) →
      AllZip (λ p t. AreLocations (table_of t) d p) ps ts →
      map (λ (t : Locations). f (end_of t)) ts ≡ map (λ p. f (end_number d p)) ps
  by_ends f [] [] are = refl
  by_ends f [] (t ∷ ts) are = elim are [ ]
  by_ends f (p ∷ ps) [] are = elim are [ ]
  by_ends f (p ∷ ps) (t ∷ ts) are =
      let first = table_end t d p are.0 in
      let rest = by_ends f ps ts are.1 in
      (λ i. f (first i) ∷ rest i)

  pub tables_many : (ts : List Locations) → HaveLocations d ts → length ts ≡ length d.processes
  tables_many ts have =
      AllZip-long (λ p t. AreLocations (table_of t) d p) (range_with_len 0 (length d.processes)) ts have
      ∙ range_long 0 (length d.processes)

  pub all_starts : {X : Type 0} (x : X) (ts : List Locations) → map (λ (_ : Locations). x) ts ≡ replicate (length ts) x
  all_starts x [] = refl
  all_starts x (t ∷ ts) = ap (λ l. x ∷ l) (all_starts x ts)

module _ (d : Design) (ts : List Locations) (have : HaveLocations (design_tree d) ts) (spec : Spec)
    (text : spec ≡ d.spec)
    (vars : List Var) (are : vars ≡ d.vars.items) where
  abbrev tree : DesignTree
  tree = design_tree d

  by_vars : {X : Type 0} (f : SpecTree → Var → X) → map (f (spec_tree spec)) vars ≡ map (f tree.spec) tree.vars
  by_vars f = (λ i. map (f (spec_tree (text i))) (are i))

  pub valid_laid : (all vs ps qs : List Bound) (last : ℕ) → vs ≡ map (value_bound (spec_tree spec)) vars →
      ps ≡ map (λ (t : Locations). AtMost (end_of t)) ts → qs ≡ ps → last ≡ 1 + length d.processes.items →
      all ≡ (vs ++ qs) ++ AtMost last ∷ [] → all ≡ valid_bounds tree
  valid_laid all vs ps qs last first second same third laid =
      let values = first ∙ by_vars value_bound in
      let places = same ∙ second ∙ by_ends tree AtMost (range_with_len 0 (length tree.processes)) ts have in
      laid ∙ (λ i. (values i ++ places i) ++ AtMost (third i) ∷ [])

  pub initial_laid : (all vs ps qs : List Bound) → vs ≡ map (first_bound (spec_tree spec)) vars →
      ps ≡ map (λ (_ : Locations). Exactly 0) ts → qs ≡ ps → all ≡ (vs ++ qs) ++ Exactly 0 ∷ [] →
      all ≡ initial_bounds tree
  initial_laid all vs ps qs first second same laid =
      let values = first ∙ by_vars first_bound in
      let many = tables_many tree ts have in
      let places = same ∙ second ∙ all_starts tree (Exactly 0) ts ∙ ap (λ n. replicate n (Exactly 0)) many in
      laid ∙ (λ i. (values i ++ places i) ++ Exactly 0 ∷ [])

  pub widths_laid : (all vs ps qs : List ℕ) (last : ℕ) → vs ≡ map (λ (v : Var). type_bits (spec_tree spec) v.ty) vars →
      ps ≡ map (λ (t : Locations). bits_of_number (end_of t)) ts → qs ≡ ps →
      last ≡ bits_of_number (1 + length d.processes.items) →
      all ≡ (((vs ++ qs) ++ last ∷ []) ++ replicate room 1) ++ replicate room 1 → all ≡ input_widths tree
  widths_laid all vs ps qs last first second same third laid =
      let values = first ∙ by_vars (λ (s : SpecTree) (v : Var). type_bits s v.ty) in
      let places = same ∙ second ∙ by_ends tree bits_of_number (range_with_len 0 (length tree.processes)) ts have in
      laid ∙ (λ i. (((values i ++ places i) ++ third i ∷ []) ++ replicate room 1) ++ replicate room 1)
