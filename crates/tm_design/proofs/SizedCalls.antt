-- The parameters of tasks ask for types whose numbers have a width that they can have.
use Rattle.std.proofs.Common.{◌≡◌, ℕ, Option, None, Some, List, [], ◌∷◌, drop, map, refl, sym, ap, subst}
use Rattle.std.specs.Prelude.{slice_get, unwrap_or}
use Rattle.std.specs.List.{AllByRecursion}
use Rattle.std.specs.Option.{option_map, option_and_then}
use Rattle.tm_syntax.specs.declared.design.Item.{Item}
use Rattle.tm_syntax.specs.declared.design.Ty.{Ty}
use Rattle.tm_syntax.specs.declared.design.Ty.TheVariants as types
use Rattle.tm_syntax.specs.declared.tree.Param.{Param}
use Rattle.tm_syntax.specs.Tree.{TaskTree}
use Rattle.tm_syntax.specs.Scopes.Names.{type_of}
use Rattle.tm_syntax.specs.Design.{DesignTree}
use Rattle.tm_syntax.specs.Design.Cells.{Called, Cell, cell_type, task_called}
use Rattle.tm_syntax.specs.Design.Scope.{Site, site}
use Rattle.tm_syntax.specs.Faults.{IsOfText, IsSound}
use Rattle.tm_typing.specs.HasType.{IsSized}
use Rattle.tm_typing.proofs.Listed.{In, first_of, later_of, in_get, no_thing}
use Rattle.tm_typing.proofs.Promises.{types_sized}
use Rattle.tm_typing.proofs.Slots.{param_sized}
use Rattle.tm_sem.specs.Run.{asked_by}
use Rattle.tm_sem.specs.Step.{task_of}
use Rattle.tm_locations.proofs.CalledBodies.{made, site-template}
use Rattle.tm_design.specs.Runnable.{HasSizedCalls}
use Rattle.tm_design.proofs.TypedCells.{typed_cells}

module _ (d : DesignTree) where
  -- cells ask for such types
  abbrev AreSized : List Cell → Type 0
  AreSized cells = AllByRecursion (λ c. IsSized (asked_by d (Some c))) cells

  -- cells that have the types of these parameters do, where the types are such
  cells_sized : (ps : List Param) (cells : List Cell) → ((p : Param) → In p ps → IsSized (type_of p.ty)) →
      map (cell_type d) cells ≡ map (λ (p : Param). Some (type_of p.ty)) ps → AreSized cells
  cells_sized [] [] each e = tt
  cells_sized [] (c ∷ cs) each e = absurd cc
  cells_sized (p ∷ ps) [] each e = absurd cc
  cells_sized (p ∷ ps) (c ∷ cs) each e =
      let asked : asked_by d (Some c) ≡ type_of p.ty =
      ap (λ (tys : List (Option Ty)). unwrap_or (unwrap_or (slice_get tys 0) None) types.Bool) e in (
        subst IsSized (sym asked) (each p first_of),
        cells_sized ps cs (λ q i. each q (later_of i)) (ap (drop 1) e),
      )

  module _ (sound : IsSound d) (of : IsOfText d.spec) where
    -- the parameters of each task of an instance do
    called_sized : (n : ℕ) (s : Site) (k : ℕ) (c : Called) → site d n ≡ Some s → task_called d s k ≡ Some c →
        AreSized c.params
    called_sized n s k c there is = by (slice_get s.template.tasks k) refl is
      where
        by : (o : Option TaskTree) → slice_get s.template.tasks k ≡ o → option_map (made d s k) o ≡ Some c →
            AreSized c.params
        by None at e = no_thing e
        by (Some task) at e =
            let here = in_get d.spec.templates s.node.template (site-template d n s there) in
            cells_sized task.params c.params
            (λ p i. param_sized s.template task p (types_sized d.spec sound.fitting s.template here)
            (in_get s.template.tasks k at) i)
            ((typed_cells d sound of).parameters n s k task c there at is)

    -- so do those of each controllable task of the design
    driven_sized : (t : ℕ) (c : Called) → task_of d t ≡ Some c → AreSized c.params
    driven_sized t c is = of_item (slice_get d.tasks t) is
      where
        of_index : (n : ℕ) (s : Site) → site d n ≡ Some s → (o : Option ℕ) →
            option_and_then (task_called d s) o ≡ Some c → AreSized c.params
        of_index n s there None e = no_thing e
        of_index n s there (Some k) e = called_sized n s k c there e

        of_site : (n : ℕ) (index : Option ℕ) (o : Option Site) → site d n ≡ o →
            option_and_then (λ (at : Site). option_and_then (task_called d at) index) o ≡ Some c → AreSized c.params
        of_site n index None there e = no_thing e
        of_site n index (Some s) there e = of_index n s there index e

        of_item : (o : Option Item) →
            option_and_then (λ (item : Item). option_and_then
            (λ (at : Site). option_and_then (task_called d at) item.index) (site d item.instance)) o ≡ Some c →
            AreSized c.params
        of_item None e = no_thing e
        of_item (Some item) e = of_site item.instance item.index (site d item.instance) refl e

pub sized_calls : (d : DesignTree) → IsSound d → IsOfText d.spec → HasSizedCalls d
sized_calls = driven_sized
