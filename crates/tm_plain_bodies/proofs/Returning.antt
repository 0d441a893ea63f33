-- What a machine does of a call whose result is assigned.
use Rattle.std.proofs.Common.{◌≡◌, ℕ, true, false, Option, None, Some, List, [], ◌∷◌, ◌++◌, map, refl, sym, ap, ◌∙◌, subst}
use Rattle.std.specs.Prelude.{◌||◌, if◌then◌else◌}
use Rattle.std.specs.List.{list_any}
use Rattle.std.specs.Option.{option_and_then, option_map, option_map_or, option_to_list}
use Rattle.std.proofs.lemmas.List.Folds.{list_any-append}
use Rattle.tm_syntax.specs.declared.design.Ty.{Ty}
use Rattle.tm_syntax.specs.declared.tree.Ident.{Ident}
use Rattle.tm_syntax.specs.Tree.{ExprTree, assign, result}
use Rattle.tm_syntax.specs.Tree.View.{body_tree}
use Rattle.tm_syntax.specs.Design.{DesignTree}
use Rattle.tm_syntax.specs.Design.Cells.{Called, Cell, cell}
use Rattle.tm_syntax.specs.Design.Work.{WorkItem, body_items, call_place, deliver, perform}
use Rattle.tm_scope.specs.Cells.{HasCells, ScopedCells, cell_at, scope_of}
use Rattle.tm_scope.specs.declared.cells.site_body.CellNumber.{CellNumber}
use Rattle.tm_sem.specs.Value.{Memory, index_value, overruns, value}
use Rattle.tm_sem.specs.Run.{asked_by, blocked, comes_to, delivery, failed, goes_on, progress, put_in, target_element, with_arguments}
use Rattle.tm_sem.specs.Run as run
use Rattle.tm_plain_bodies.specs.declared.course.Course.{Course}
use Rattle.tm_plain_bodies.specs.declared.frame.CalledTask.{CalledTask}
use Rattle.tm_plain_bodies.specs.declared.halt.Halt.{Halt}
use Rattle.tm_plain_bodies.specs.declared.halt.Halt.TheVariants as halt
use Rattle.tm_plain_bodies.specs.Arguments.{AreGiven, HaltsAtSome, IsAnswered}
use Rattle.tm_design.specs.Callees.{IsCallee}
use Rattle.tm_plain_bodies.specs.Going.{GoesOn}
use Rattle.tm_plain_bodies.specs.Runs.{HaltsWithin, IsSame, IsTarget, Stands, TargetAt, at_end, body_work, told}
use Rattle.tm_plain_exprs.specs.Kept.{Keeps}
use Rattle.tm_plain_exprs.specs.Valued.{Told}
use Rattle.tm_plain_bodies.proofs.Doing.{fails, stands_on}
use Rattle.tm_plain_bodies.proofs.Going.{goes_nowhere, goes_past}
use Rattle.tm_plain_bodies.proofs.Progress.{overrun_ends, within_acts}

-- what is delivered is put, or overruns
module _ (d : DesignTree) (m : Memory) (cs : List ℕ) (target : Option Cell) (inner : ScopedCells) (e : ExprTree) where
  pub delivers : (n : ℕ) → overruns d (scope_of inner.at) m e ≡ false →
      put_in m target (value d (scope_of inner.at) m (asked_by d target) e) ≡ put_in m target n →
      progress d m cs (deliver target (scope_of inner.at) e) ≡ goes_on [] (put_in m target n) cs
  delivers n within is =
      ap (λ b. if b then comes_to (run.at_end cs failed)
      else goes_on [] (put_in m target (value d (scope_of inner.at) m (asked_by d target) e)) cs) within
      ∙ ap (λ w. goes_on [] w cs) is

  pub delivery_ends : overruns d (scope_of inner.at) m e ≡ true →
      progress d m cs (deliver target (scope_of inner.at) e) ≡ comes_to (run.at_end cs failed)
  delivery_ends is =
      ap (λ b. if b then comes_to (run.at_end cs failed)
      else goes_on [] (put_in m target (value d (scope_of inner.at) m (asked_by d target) e)) cs) is

-- what a procedure returns is put, if it returns something
module _ (outer inner : ScopedCells) (ty : Ty) (found : Option CellNumber) (from to : Course)
    (tables : inner.tables ≡ outer.tables) where
  abbrev place : Option Cell
  place = option_and_then (cell_at outer.tables outer.at) found

  put_same : (d : DesignTree) (m : Memory) (e : ExprTree) (n : ℕ) (t : Option Cell) →
      ((c : Cell) → t ≡ Some c → asked_by d (Some c) ≡ ty) → value d (scope_of inner.at) m ty e ≡ n →
      put_in m t (value d (scope_of inner.at) m (asked_by d t) e) ≡ put_in m t n
  put_same d m e n None asked is = refl
  put_same d m e n (Some c) asked is =
      ap (put_in m (Some c)) (ap (λ ty. value d (scope_of inner.at) m ty e) (asked c refl) ∙ is)

  -- as the expressions of the procedure see it
  abbrev told_inner : (o : Stands outer.tables from.store) → Told inner from.store
  told_inner o = record {
    design = o.design;
    memory = o.memory;
    cells = subst (λ x. HasCells x o.design) (sym tables) o.cells;
    keeps = subst (λ x. Keeps x from.store o.memory) (sym tables) o.keeps;
  }

  pub delivered : (answer : Option ExprTree) → IsAnswered outer inner ty answer found from to →
      (o : Stands outer.tables from.store) → ((c : Cell) → place ≡ Some c → asked_by o.design (Some c) ≡ ty) →
      (n : Memory) × Keeps outer.tables to.store n
      × GoesOn o.design (map (deliver place (scope_of inner.at)) (option_to_list answer)) o.memory n from.choices
      to.choices
  delivered None h o asked = (
    o.memory,
    subst (λ k. Keeps outer.tables k o.memory) (sym (h.nothing refl)) o.keeps,
    subst (λ cs. GoesOn o.design [] o.memory o.memory from.choices cs) (sym h.choices)
        (goes_nowhere o.design o.memory from.choices),
  )
  delivered (Some e) h o asked =
      let v = h.value e refl in (
        put_in o.memory place v.0,
        v.2 o.memory o.apart o.keeps,
        subst (λ cs. GoesOn o.design (deliver place (scope_of inner.at) e ∷ []) o.memory (put_in o.memory place v.0)
            from.choices cs) (sym h.choices)
            (goes_past o.design (deliver place (scope_of inner.at) e) o.memory from.choices
            (put_in o.memory place v.0) from.choices
            (delivers o.design o.memory from.choices place inner e v.0 (v.1.within (told_inner o))
            (put_same o.design o.memory e v.0 place asked (v.1.value (told_inner o))))),
      )

module _ (s : ScopedCells) (names : List Ident) (index : Option ExprTree) (called : List Ident) (args : List ExprTree)
    (from asked : Course) (same : IsSame from asked) (at : TargetAt s names index) (found : Option CellNumber)
    (is : IsTarget s from.store names index found) where
  abbrev item : WorkItem
  item = perform (scope_of s.at) from.trail (assign names index (result called args))

  abbrev target : Stands s.tables from.store → Option Cell
  target o = cell o.design (scope_of s.at) names (option_map (index_value o.design (scope_of s.at) o.memory) index)

  over_parts : (o : Stands s.tables from.store) →
      list_any (overruns o.design (scope_of s.at) o.memory) (target_element names index ++ args)
      ≡ list_any (overruns o.design (scope_of s.at) o.memory) args
  over_parts o =
      list_any-append (overruns o.design (scope_of s.at) o.memory) (target_element names index) args
      ∙ ap (λ b. b || list_any (overruns o.design (scope_of s.at) o.memory) args) (is.within (told s from.store o))

  -- a halt at an argument is one of the assignment
  args_end : (o : Stands s.tables from.store) →
      ((of : Told s asked.store) → list_any (overruns of.design (scope_of s.at) of.memory) args ≡ true) →
      progress o.design o.memory from.choices item ≡ comes_to (run.at_end from.choices failed)
  args_end o over =
      overrun_ends o.design (scope_of s.at) from.trail o.memory from.choices (assign names index (result called args))
      (over_parts o ∙ over (told s asked.store (stands_on s.tables from asked same.store o)))

  pub result_halts : (to : Course) (h : Halt) → HaltsAtSome s asked args h → HaltsWithin s.tables (item ∷ []) from to h
  result_halts to (halt.Stopped p) h =
      fails s.tables item from to (halt.Stopped p) (h.1 ∙ ap (λ cs. at_end cs halt.Failed) same.choices)
      (λ o. args_end o h.0)
  result_halts to halt.Failed h =
      fails s.tables item from to halt.Failed (h.1 ∙ ap (λ cs. at_end cs halt.Failed) same.choices)
      (λ o. args_end o h.0)
  result_halts to halt.Blocked h =
      fails s.tables item from to halt.Blocked (h.1 ∙ ap (λ cs. at_end cs halt.Failed) same.choices)
      (λ o. args_end o h.0)
  result_halts to halt.Memory h = tt

  module _ (inner : ScopedCells) (k : CalledTask) (callee : IsCallee s.tables s.at called inner.at k.task.now)
      (mid : Course) (given : AreGiven s inner.at args asked mid) where
    -- the work of the body, and what is left behind it
    abbrev front : List WorkItem
    front = body_work inner (call_place called ++ from.trail) (body_tree k.task.now.body)

    abbrev after : Stands s.tables from.store → List WorkItem
    after o = map (deliver (target o) (scope_of inner.at)) (option_to_list (body_tree k.task.now.body).answer)

    pub result_leads : (o : Stands s.tables from.store) → (n : Memory) × Keeps s.tables mid.store n
        × (progress o.design o.memory from.choices item ≡ goes_on (front ++ after o) n mid.choices)
    result_leads o =
        let d = o.design in
        let m = o.memory in
        let scope = scope_of s.at in
        let p = stands_on s.tables from asked same.store o in
        let runs = callee.runs d o.cells in (
          with_arguments d scope m runs.called.params args,
          given.keeps p runs.called runs.by,
          within_acts d scope from.trail m from.choices (assign names index (result called args))
              (over_parts o ∙ given.within (told s asked.store p))
              ∙ ap (λ c. option_map_or
              (λ (callee : Called).
              goes_on (body_items callee.scope (call_place called ++ from.trail) callee.body
              ++ delivery (target o) callee) (with_arguments d scope m callee.params args) from.choices) c
              (comes_to blocked)) runs.is
              ∙ (λ i. goes_on (body_items (runs.scope i) (call_place called ++ from.trail) (runs.body i)
              ++ map (deliver (target o) (runs.scope i)) (option_to_list (runs.body i).answer))
              (with_arguments d scope m runs.called.params args) (sym (given.choices ∙ same.choices) i)),
        )
