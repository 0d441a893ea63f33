-- Where the runs of a call begin the body of its task, and what its walk asks for.
use Rattle.std.specs.Prelude.{◌≡◌, ◌+◌, ◌<◌, ◌^◌, ℕ, false, None, Some, List, length}
use Rattle.std.specs.List.{list_any}
use Rattle.tm_syntax.specs.declared.tree.TaskDef.{TaskDef}
use Rattle.tm_syntax.specs.Design.{DesignTree}
use Rattle.tm_syntax.specs.Design.Cells.{Called}
use Rattle.tm_scope.specs.Cells.{HasCells}
use Rattle.tm_scope.specs.declared.cells.site_body.SiteBody.{SiteBody}
use Rattle.tm_term.specs.declared.term.TermId.{TermId}
use Rattle.tm_term.specs.Table.{Table, IsSound}
use Rattle.tm_term.specs.Value.{AreInputs, Extends}
use Rattle.tm_locations.specs.Locations.{AreLocations}
use Rattle.tm_flat.specs.Fitting.{ItemsFit}
use Rattle.tm_flat.specs.Inputs.{AreSmall, first_choice, input_widths, room}
use Rattle.tm_flat.specs.Steps.{IsInput}
use Rattle.tm_flat.specs.Writes.{is_variable}
use Rattle.tm_flat_exprs.specs.Kept.{Keeps}
use Rattle.tm_flat_stmts.specs.Flows.{FlowTerms, HasTerm, IsFlow, is_on, stop_of}
use Rattle.tm_flat_bodies.specs.declared.course.Course.{Course}
use Rattle.tm_flat_bodies.specs.Walks.{AreWalkable, InEach, WalkTables}
use Rattle.tm_flat_moves.specs.Calls.{call_items, callee_at, given_memory, may_call}
use Rattle.tm_flat_moves.specs.Inner.Reading.{IsReadable}

-- no run has ended, and runs stand at the start of the body of a task that the driver may call there, with its
-- arguments in its parameters
pub record EntersCall (w : WalkTables) (d : DesignTree) (c : Called) (t : Table) (now : Course) (f : FlowTerms) :
    Type 0 where
  pub grown : Extends t now.terms
  pub sound : IsSound now.terms
  pub flow : IsFlow w.tables now.terms f
  pub position : f.position ≡ 0
  pub many : length now.ends.stops ≡ length w.locations.rows + 2
  pub none : (n : ℕ) → stop_of now.ends n ≡ None
  pub failed : now.ends.failed ≡ None
  pub on : (u : Table) → Extends now.terms u → (v : List ℕ) → AreInputs u v → is_on u v (Some f) ≡ may_call d c v
  pub keeps : (u : Table) → Extends now.terms u → (v : List ℕ) → AreInputs u v →
      Keeps w.tables u v f.memory (given_memory d c v)
  pub leaves : (i : ℕ) → i < length d.vars → list_any (is_variable i) c.params ≡ false →
      (id : TermId) × IsInput now.terms i id × HasTerm i id f

-- a task of a body of an instance may be called, over terms of the inputs
pub record IsCallableAt (w : WalkTables) (d : DesignTree) (p : ℕ) (at : SiteBody) (task : TaskDef) (t : Table) :
    Type 0 where
  pub walkable : AreWalkable w
  pub cells : HasCells w.tables d
  pub are : AreLocations w.locations d p
  pub first : w.first ≡ first_choice d
  pub readable : IsReadable w.tables d at task
  pub fits : InEach w (λ e. ItemsFit room e (call_items (callee_at d at task)) 0)
  pub small : AreSmall d
  pub few : first_choice d + (room + room) < 2 ^ 32
  pub inputs : t.inputs ≡ input_widths d
  pub sound : IsSound t
