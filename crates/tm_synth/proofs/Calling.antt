-- Each controllable task of a sound design of a text can be called by a block.
use Rattle.std.proofs.Common.{◌≡◌, ℕ, ◌+◌, ◌≤◌, Option, None, Some, List, [], ◌∷◌, length, refl, sym, ap, ◌∙◌, arith}
use Rattle.std.specs.Prelude.{slice_get, sum}
use Rattle.std.specs.List.{AllByRecursion}
use Rattle.std.specs.Option.{option_map, option_and_then}
use Rattle.std.proofs.lemmas.List.{length-map}
use Rattle.tm_cir.specs.Fit.{declared_task, parameter_count}
use Rattle.tm_design.proofs.FitDesigns.{fit_design}
use Rattle.tm_design.specs.Runnable.{HasTypedCells}
use Rattle.tm_flat.proofs.Widths.{few_state_bits}
use Rattle.tm_flat.specs.Fitting.{ArgumentsFit}
use Rattle.tm_flat.specs.Inputs.{room}
use Rattle.tm_locations.proofs.CalledBodies.{made}
use Rattle.tm_sem.specs.Run.{asked_by}
use Rattle.tm_sem.specs.StateBits.{state_widths}
use Rattle.tm_sem.specs.Step.{task_of}
use Rattle.tm_strat.specs.Meeting.{CanCall}
use Rattle.tm_syntax.proofs.Limits as limits
use Rattle.tm_syntax.specs.declared.design.Item.{Item}
use Rattle.tm_syntax.specs.declared.design.Ty.{Ty}
use Rattle.tm_syntax.specs.declared.design.Ty.TheVariants as types
use Rattle.tm_syntax.specs.declared.tree.Param.{Param}
use Rattle.tm_syntax.specs.Design.{DesignTree, InstanceNode}
use Rattle.tm_syntax.specs.Design.Cells.{Called, Cell, cell_type, task_called}
use Rattle.tm_syntax.specs.Design.Scope.{Site, site}
use Rattle.tm_syntax.specs.Design.Sizes.{type_bits}
use Rattle.tm_syntax.specs.Faults.{IsOfText, IsSound}
use Rattle.tm_syntax.specs.Scopes.Names.{type_of}
use Rattle.tm_syntax.specs.Tree.{SpecTree, TaskTree, TemplateTree}
use Rattle.tm_typing.proofs.Listed.{no_thing}
use Rattle.tm_typing.specs.HasType.{IsSized}
use Rattle.tm_verdict.specs.Regular.{IsRegular}

-- ---- how many parameters it has
-- a type has a bit, or more
has_bit : (spec : SpecTree) (ty : Ty) → IsSized ty → 1 ≤ type_bits spec ty
has_bit spec types.Bool sized = omega arith
has_bit spec (types.Uint n) sized = sized.low
has_bit spec (types.Enum name) sized = omega arith

-- so there are no more arguments than bits for them
within_room : (d : DesignTree) (cells : List Cell) (k : ℕ) →
    AllByRecursion (λ (c : Cell). IsSized (asked_by d (Some c))) cells → ArgumentsFit room d cells k →
    k + length cells ≤ room
within_room d [] k sized fit = omega (arith, fit)
within_room d (c ∷ cs) k sized fit =
    let bit = has_bit d.spec (asked_by d (Some c)) sized.0 in
    let rest = within_room d cs (k + type_bits d.spec (asked_by d (Some c))) sized.1 fit.1 in
    omega (arith, bit, rest)

-- ---- those that it declares
module _ (d : DesignTree) (typed : HasTypedCells d) where
  as_many : (n : ℕ) (s : Site) (k : ℕ) (task : TaskTree) (c : Called) → site d n ≡ Some s →
      slice_get s.template.tasks k ≡ Some task → task_called d s k ≡ Some c → length task.params ≡ length c.params
  as_many n s k task c there is called =
      sym (length-map task.params (λ (p : Param). Some (type_of p.ty)))
      ∙ ap length (sym (typed.parameters n s k task c there is called))
      ∙ length-map c.params (cell_type d)

  module _ (c : Called) where
    of_task : (item : Item) (s : Site) (k : ℕ) → site d item.instance ≡ Some s → (o : Option TaskTree) →
        slice_get s.template.tasks k ≡ o → option_map (made d s k) o ≡ Some c →
        option_map (λ (t : TaskTree). length t.params) o ≡ Some (length c.params)
    of_task item s k there None at called = no_thing called
    of_task item s k there (Some task) at called =
        ap Some (as_many item.instance s k task c there at (ap (option_map (made d s k)) at ∙ called))

    of_index : (item : Item) (s : Site) → site d item.instance ≡ Some s → (o : Option ℕ) →
        option_and_then (task_called d s) o ≡ Some c →
        option_map (λ (t : TaskTree). length t.params) (option_and_then (slice_get s.template.tasks) o)
        ≡ Some (length c.params)
    of_index item s there None called = no_thing called
    of_index item s there (Some k) called = of_task item s k there (slice_get s.template.tasks k) refl called

    of_template : (item : Item) (node : InstanceNode) → slice_get d.instances item.instance ≡ Some node →
        (o : Option TemplateTree) → slice_get d.spec.templates node.template ≡ o →
        option_and_then (λ (s : Site). option_and_then (task_called d s) item.index)
        (option_map
        (λ (t : TemplateTree). let s : Site = record { number = item.instance; node = node; template = t } in s) o)
        ≡ Some c →
        option_map (λ (t : TaskTree). length t.params)
        (option_and_then (λ (t : TemplateTree). option_and_then (slice_get t.tasks) item.index) o)
        ≡ Some (length c.params)
    of_template item node at None here called = no_thing called
    of_template item node at (Some t) here called =
        of_index item (record { number = item.instance; node = node; template = t })
        (ap (option_and_then (λ (n : InstanceNode). option_map
        (λ (u : TemplateTree). let s : Site = record { number = item.instance; node = n; template = u } in s)
        (slice_get d.spec.templates n.template))) at
        ∙ ap (option_map
        (λ (u : TemplateTree). let s : Site = record { number = item.instance; node = node; template = u } in s)) here)
        item.index called

    of_node : (item : Item) (o : Option InstanceNode) → slice_get d.instances item.instance ≡ o →
        option_and_then (λ (s : Site). option_and_then (task_called d s) item.index)
        (option_and_then (λ (n : InstanceNode). option_map
        (λ (t : TemplateTree). let s : Site = record { number = item.instance; node = n; template = t } in s)
        (slice_get d.spec.templates n.template)) o) ≡ Some c →
        option_map (λ (t : TaskTree). length t.params)
        (option_and_then (λ (n : InstanceNode).
        option_and_then (λ (t : TemplateTree). option_and_then (slice_get t.tasks) item.index)
        (slice_get d.spec.templates n.template)) o)
        ≡ Some (length c.params)
    of_node item None at called = no_thing called
    of_node item (Some node) at called =
        of_template item node at (slice_get d.spec.templates node.template) refl called

    of_item : (o : Option Item) →
        option_and_then (λ (item : Item).
        option_and_then (λ (s : Site). option_and_then (task_called d s) item.index) (site d item.instance)) o
        ≡ Some c →
        option_map (λ (t : TaskTree). length t.params) (option_and_then (declared_task d) o) ≡ Some (length c.params)
    of_item None called = no_thing called
    of_item (Some item) called = of_node item (slice_get d.instances item.instance) refl called

  declared_so : (n : ℕ) (c : Called) → task_of d n ≡ Some c → parameter_count d n ≡ Some (length c.params)
  declared_so n c is = of_item c (slice_get d.tasks n) is

-- ---- how many tests of the state and goals there are
counted_so : (d : DesignTree) → IsSound d → 65536 + sum (state_widths d) + length d.goals ≤ 4294967295
counted_so d sound = omega (arith, few_state_bits d sound, limits.few_goals d sound)

-- ---- all of it
pub can_call : (d : DesignTree) → IsSound d → IsOfText d.spec → IsRegular d → CanCall d
unfolding room
can_call d sound of regular =
    let fit = fit_design d sound of in
    record {
      few = omega (arith, limits.few_processes d sound, limits.few_tasks d sound);
      counted = counted_so d sound;
      declared = declared_so d fit.typed;
      fits = λ n callee is.
          let few = within_room d callee.params 0 (fit.sized n callee is) (regular.room.arguments n callee is) in
          omega (arith, few);
    }
