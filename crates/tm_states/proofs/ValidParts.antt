-- The parts of a valid state, by the tables of the text and of the locations.
use Rattle.std.proofs.Common.{◌≡◌, ℕ, ◌+◌, ◌<◌, ◌≤◌, Bool, true, false, List, length, refl, sym, subst}
use Rattle.std.specs.Prelude.{◌↔◌, IsTrue, nat_lt}
use Rattle.std.specs.List.{AllZip, range_with_len}
use Rattle.tm_syntax.specs.declared.design.Design.{Design}
use Rattle.tm_syntax.specs.declared.design.Var.{Var}
use Rattle.tm_syntax.specs.declared.tree.Spec.{Spec}
use Rattle.tm_syntax.specs.Tree.View.{spec_tree}
use Rattle.tm_syntax.specs.Design.View.{design_tree}
use Rattle.tm_syntax.specs.Design.Sizes.{type_size}
use Rattle.tm_sem.specs.State.{StateData}
use Rattle.tm_sem.specs.Step.{IsState}
use Rattle.tm_locations.specs.declared.table.Locations.{Locations}
use Rattle.tm_states.specs.States.{HaveLocations, end_of}
use Rattle.tm_states.proofs.TableEnds.{within_processes, within_tables}
use Rattle.tm_states.proofs.Tests.{below_tested, test_of_below, refused, failed}

-- these are values of these variables, by the enums of a text
abbrev Fit : Spec → List Var → List ℕ → Type 0
Fit spec vars values = AllZip (λ (v : Var) n. n < type_size (spec_tree spec) v.ty) vars values

module _ (d : Design) (spec : Spec) (vars : List Var) (tables : List Locations) (same : spec ≡ d.spec)
    (are : vars ≡ d.vars.items) (have : HaveLocations (design_tree d) tables) (values places : List ℕ) (last : ℕ)
  where
    abbrev parts : StateData
    parts = record { values = values; places = places; last = last }

    values_of : IsState (design_tree d) parts → Fit spec vars values
    values_of valid =
        subst (λ s. Fit s vars values) (sym same) (subst (λ vs. Fit d.spec vs values) (sym are) valid.values)

    places_of : IsState (design_tree d) parts → AllZip (λ (t : Locations) k. k ≤ end_of t) tables places
    places_of valid =
        within_tables (design_tree d) (range_with_len 0 (length d.processes.items)) tables places have valid.places

    pub values_fail : (b : Bool) → IsTrue b ↔ Fit spec vars values → b ≡ false →
        IsTrue false ↔ IsState (design_tree d) parts
    values_fail b tells is = refused (λ valid. failed b tells is (values_of valid))

    pub places_fail : (b : Bool) → IsTrue b ↔ AllZip (λ (t : Locations) k. k ≤ end_of t) tables places → b ≡ false →
        IsTrue false ↔ IsState (design_tree d) parts
    places_fail b tells is = refused (λ valid. failed b tells is (places_of valid))

    pub mover_decides : (a b : Bool) → IsTrue a ↔ Fit spec vars values → a ≡ true →
        IsTrue b ↔ AllZip (λ (t : Locations) k. k ≤ end_of t) tables places → b ≡ true → (count : ℕ) →
        count ≡ length d.processes.items → IsTrue (nat_lt last (2 + count)) ↔ IsState (design_tree d) parts
    mover_decides a b first is second be count counted = (
      λ test. record {
        values = subst (λ s. Fit s d.vars.items values) same
            (subst (λ vs. Fit spec vs values) are (first.0 (subst IsTrue (sym is) refl)));
        places = within_processes (design_tree d) (range_with_len 0 (length d.processes.items)) tables places have
            (second.0 (subst IsTrue (sym be) refl));
        last = subst (λ n. last < 2 + n) counted (below_tested last (2 + count) test);
      },
      λ valid. test_of_below last (2 + count) (subst (λ n. last < 2 + n) (sym counted) valid.last),
    )
