-- A controllable task of a design, with what makes its step by the locations of a process.
use Rattle.std.proofs.Common.{◌≡◌, ℕ, None, Some, List, [], ◌∷◌, length, slice_get, refl, sym, ap, ◌∙◌, subst}
use Rattle.tm_syntax.specs.declared.design.Design.{Design}
use Rattle.tm_syntax.specs.declared.tree.TaskDef.{TaskDef}
use Rattle.tm_syntax.specs.Tree.View.{template_tree}
use Rattle.tm_syntax.specs.Design.{DesignTree, instance_node}
use Rattle.tm_syntax.specs.Design.Cells.{Called}
use Rattle.tm_syntax.specs.Design.Scope.{site}
use Rattle.tm_syntax.specs.Design.View.{design_tree}
use Rattle.tm_scope.specs.Cells.{CellTables}
use Rattle.tm_scope.specs.declared.cells.site_body.SiteBody.{SiteBody}
use Rattle.tm_scope.proofs.CellSites.{site-here}
use Rattle.tm_term.specs.Table.{Table, IsSound}
use Rattle.tm_sem.specs.Step.{task_of}
use Rattle.tm_locations.specs.Locations.{AreLocations, LocationTable, table_of}
use Rattle.tm_locations.specs.declared.table.Locations.{Locations}
use Rattle.tm_design.proofs.OperandCells.{TaskPlace, task_place}
use Rattle.tm_flat.specs.declared.flat.FlatStep.{FlatStep}
use Rattle.tm_flat.specs.Fitting.{ItemsFit}
use Rattle.tm_flat.specs.Inputs.{input_widths, room}
use Rattle.tm_flat.specs.Steps.{IsTaskStep}
use Rattle.tm_flat_bodies.specs.declared.course.Course.{Course}
use Rattle.tm_flat_moves.specs.declared.mover.Mover.{Mover}
use Rattle.tm_flat_moves.specs.Made.{MakesStep}
use Rattle.tm_flat_moves.specs.Movable.{tables_by}
use Rattle.tm_flat_moves.specs.Next.{Finishes}
use Rattle.tm_flat_moves.specs.Run.{HasRun}
use Rattle.tm_flat_exprs.specs.Tables.{cells_of}
use Rattle.tm_flat_moves.specs.Callable.{AreCallable, walk_by}
use Rattle.tm_flat_moves.specs.Calls.{call_ending, call_items, call_writes, callee_at}
use Rattle.tm_flat_moves.specs.Controllable.{IsControllable}
use Rattle.tm_flat_moves.specs.Inner.Entering.{IsCallableAt}
use Rattle.tm_flat_moves.specs.Inner.Reading.{IsReadable}
use Rattle.tm_flat_moves.proofs.Calling.{call_made}
use Rattle.tm_flat_moves.proofs.Controlling.{own_cells}
use Rattle.tm_flat_moves.proofs.Parameters.{params_are}

-- the instance of a task is there
pub site_there : (x : CellTables) (d : DesignTree) (at : SiteBody) (task : TaskDef) → IsReadable x d at task →
    site d at.instance ≡ None → ⊥
site_there x d at task r none =
    let place : TaskPlace (record { tables = x; at = at }) task =
    task_place (record { tables = x; at = at }) task r.stands in
    let here : site d at.instance ≡ Some (record {
      number = at.instance;
      node = instance_node place.instance;
      template = template_tree place.template;
    }) =
    site-here x d r.cells at.instance place.instance place.here place.template place.at in
    absurd (cc)

-- a list without a first item is empty
pub none_first : {X : Type 0} (xs : List X) → None ≡ slice_get xs 0 → length xs ≡ 0
none_first [] is = refl
none_first (x ∷ xs) is = absurd (cc)

module _ (d : Design) (all : List Locations) (callable : AreCallable d all) (l : LocationTable)
    (are : AreLocations l (design_tree d) 0) (number : ℕ) (at : SiteBody) (task : TaskDef)
    (is : IsControllable (cells_of d) (design_tree d) number at task) (t : Table)
    (inputs : t.inputs ≡ input_widths (design_tree d)) (sound : IsSound t) where
  abbrev tree : DesignTree
  tree = design_tree d

  callee_is : is.called ≡ callee_at tree at task
  callee_is =
      let params = params_are (cells_of d) tree at is.called is.by in
      (λ i. record { scope = is.scope i; params = sym params i; body = is.body i })

  here : IsCallableAt (walk_by d l) tree 0 at task t
  here =
      let walkable = callable.walkable l 0 are in
      record {
        walkable = walkable;
        cells = own_cells d;
        are = are;
        first = refl;
        readable = record {
          cells = own_cells d;
          apart = walkable.apart;
          stands = is.stands;
          called = is.called;
          by = is.by;
          typed = walkable.parameters tree (own_cells d);
          sized = callable.sized number is.called is.is;
          fits = callable.arguments number is.called is.is;
        };
        fits = λ e q has located.
            subst (λ (c : Called). ItemsFit room e (call_items c) 0) callee_is
            (callable.fits e has number is.called is.is);
        small = callable.small;
        few = callable.few;
        inputs = inputs;
        sound = sound;
      }

  -- by a mover with these locations
  module _ (m : Mover) (design : m.design.now ≡ d) (located : table_of m.locations.now ≡ l) (process : m.process ≡ 0)
    where
      pub callable_at : IsCallableAt (tables_by m) (design_tree m.design.now) m.process at task t
      callable_at =
          subst (λ (e : Design). IsCallableAt (walk_by e (table_of m.locations.now)) (design_tree e) m.process at task
          t) (sym design)
          (subst (λ (k : LocationTable). IsCallableAt (walk_by d k) tree m.process at task t) (sym located)
          (subst (λ p. IsCallableAt (walk_by d l) tree p at task t) (sym process) here))

      known : task_of (design_tree m.design.now) number ≡ Some (callee_at (design_tree m.design.now) at task)
      known =
          subst (λ (e : Design). task_of (design_tree e) number ≡ Some (callee_at (design_tree e) at task)) (sym design)
          (is.is ∙ ap Some callee_is)

      -- the step of a call
      pub task_made : (course : Course) →
          HasRun (tables_by m) (design_tree m.design.now) m.process
          (call_ending (design_tree m.design.now) (callee_at (design_tree m.design.now) at task))
          (call_writes (design_tree m.design.now) (callee_at (design_tree m.design.now) at task)) t course →
          (n : Table) (step : FlatStep) →
          MakesStep course.terms n (Finishes (cells_of m.design.now) course.terms n (design_tree m.design.now)
          course.ends None 1) step → MakesStep t n (IsTaskStep n tree number) step
      task_made course ran n step made =
          subst (λ (e : Design). MakesStep t n (IsTaskStep n (design_tree e) number) step) design
          (call_made (tables_by m) (design_tree m.design.now) m.process number
          (callee_at (design_tree m.design.now) at task) known t n callable_at.inputs callable_at.small
          (callable_at.fits (design_tree m.design.now) m.process callable_at.cells callable_at.are) course ran step
          made)
