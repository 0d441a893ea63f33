-- What a call of the driver does.
use Rattle.std.proofs.Common.{◌≡◌, ℕ, false, Option, None, Some, Result, Ok, Err, List, [], ◌∷◌, map, refl, sym, ap, ◌∙◌, subst}
use Rattle.std.specs.Prelude.{IfOk, MatchOption, is_some}
use Rattle.std.specs.List.{fold}
use Rattle.std.proofs.lemmas.List.{append-nil}
use Rattle.tm_syntax.specs.declared.design.Design.{Design}
use Rattle.tm_syntax.specs.declared.tree.TaskDef.{TaskDef}
use Rattle.tm_syntax.specs.Tree.View.{body_tree, spec_tree, task_tree}
use Rattle.tm_syntax.specs.Scopes.Calls.{body_calls}
use Rattle.tm_syntax.specs.Design.{DesignTree}
use Rattle.tm_syntax.specs.Design.Cells.{Cell}
use Rattle.tm_syntax.specs.Design.View.{design_tree}
use Rattle.tm_syntax.specs.Design.Work.{WorkItem, body_items}
use Rattle.tm_syntax.specs.Faults.{IsSound, IsTyped}
use Rattle.tm_syntax.specs.Faults.Names.{names_twice}
use Rattle.tm_scope.specs.Cells.{CellTables, ScopedCells, cell_at, scope_of}
use Rattle.tm_scope.specs.Context.{body_name}
use Rattle.tm_scope.specs.declared.cells.site_body.CellNumber.{CellNumber}
use Rattle.tm_design.specs.Typed.{context_at}
use Rattle.tm_sem.specs.declared.state.Outcome.{Outcome}
use Rattle.tm_sem.specs.declared.state.Outcome.TheVariants.{NoOutcome}
use Rattle.tm_sem.specs.Run.{stopped}
use Rattle.tm_sem.specs.State.{StateData}
use Rattle.tm_sem.specs.Step.{Comes, Work, memory_of}
use Rattle.tm_sem.specs.Value.{Memory, put}
use Rattle.tm_plain_bodies.specs.declared.course.Course.{Course}
use Rattle.tm_plain_bodies.specs.declared.frame.Frame.{Frame}
use Rattle.tm_plain_bodies.specs.declared.halt.Halt.{Halt}
use Rattle.tm_plain_bodies.specs.declared.halt.Halt.TheVariants as halt
use Rattle.tm_plain_bodies.specs.Calls.{NestsWithin}
use Rattle.tm_plain_bodies.specs.Frames.{BodyFits}
use Rattle.tm_plain_bodies.specs.Going.{EndsWithin}
use Rattle.tm_design.specs.Runnable.{HasTypedCells}
use Rattle.tm_plain_bodies.specs.Runs.{DoesBody, Stands, behind}
use Rattle.tm_plain_bodies.specs.Tables.{body_of, tables_of}
use Rattle.tm_design.proofs.Apart.{slots_apart}
use Rattle.tm_plain_bodies.proofs.Found.{own_cells}
use Rattle.tm_design.specs.StepCells.{AreApart}
use Rattle.tm_plain_exprs.specs.Kept.{Kept, Keeps, put_all}
use Rattle.tm_plain.specs.Ends.{Leads}
use Rattle.tm_plain.specs.Tasks.{IsDriverTask}
use Rattle.tm_plain.proofs.DriverTasks.{home, home_is, listed, place}
use Rattle.tm_plain.proofs.Outcomes.{HasCount, put_counts}
use Rattle.tm_states.proofs.Standing.{BodyStands, task_stands}
use Rattle.tm_plain.proofs.Working.{context_is}

-- where no work is permitted there is no outcome, and else the one that the work comes to
module _ (d : DesignTree) (s : StateData) (choices : List ℕ) where
  pub nothing_permitted : (w : Option Work) → is_some w ≡ false →
      MatchOption w (NoOutcome ≡ NoOutcome) (λ w. Comes d s w choices NoOutcome)
  nothing_permitted None none = refl
  nothing_permitted (Some w) none = absurd (cc)

  pub work_done : {E : Type 0} (w : Option Work) (x : Work) → w ≡ Some x → (r : Result Outcome E) →
      IfOk r (Comes d s x choices) → IfOk r (λ o. MatchOption w (o ≡ NoOutcome) (λ w. Comes d s w choices o))
  work_done w x is r comes =
      subst (λ v. IfOk r (λ o. MatchOption v (o ≡ NoOutcome) (λ w. Comes d s w choices o))) (sym is) comes

-- the body of a task that the driver calls may be done
module _ (d : Design) (number : ℕ) (f : Frame) (task : TaskDef) (of : IsDriverTask d number f task) where
  abbrev tree : DesignTree
  tree = design_tree d

  stands : IsTyped (spec_tree d.spec) → BodyStands tree (scope_of of.at) (body_tree task.body)
  stands typed =
      subst (λ body. BodyStands tree (record { instance = of.at.instance; body = body }) (body_tree task.body))
      (ap body_name (sym (place d of.at task of.stands).body))
      (task_stands tree typed of.at.instance (home d of.at task of.stands) (home_is d of.at task of.stands)
      (place d of.at task of.stands).index (task_tree task) (listed d of.at task of.stands))

  pub body_fits : IsTyped (spec_tree d.spec) → BodyFits d f (body_tree task.body)
  body_fits typed =
      let body = stands typed in
      record {
        tables = ap (λ (r : ScopedCells). r.tables) of.frame.reader;
        context = body.place;
        stands = ap context_at of.frame.reader ∙ context_is d of.at body.place body.here;
        promised = body.promised;
        nested = let calls = body_calls (body_tree task.body) in
            subst (λ (r : ScopedCells). NestsWithin f.depth tree (scope_of r.at) calls) (sym of.frame.reader)
            (of.frame.nested calls);
      }

  -- its items
  pub items_are : body_items of.called.scope [] of.called.body ≡ body_items (scope_of of.at) [] (body_tree task.body)
  items_are = (λ i. body_items (of.scope i) [] (of.body i))

  module _ (sound : IsSound tree) (typed : HasTypedCells tree) (m : Memory) (from to : Course) (none : from.trail ≡ [])
      (keeps : Keeps (tables_of d) from.store m) where
    abbrev items : List WorkItem
    items = body_items (scope_of of.at) [] (body_tree task.body)

    abbrev given : Stands (tables_of d) (behind [] from).store
    given = record {
      design = tree;
      memory = m;
      cells = own_cells d;
      keeps = keeps;
      apart = slots_apart (tables_of d) sound.once;
      typed = typed;
    }

    by_result : {A : Type 0} (r : Result A Halt) → DoesBody (body_of d of.at) [] (body_tree task.body) from to r →
        Leads d items m from.choices to r
    by_result (Ok done) does = (does []).goes given
    by_result (Err (halt.Stopped at)) does =
        let h = does [] given in (
          h.0,
          h.1,
          subst (λ trail. EndsWithin tree items m from.choices (stopped at trail h.0)) (append-nil to.trail) h.2,
        )
    by_result (Err halt.Failed) does = does [] given
    by_result (Err halt.Blocked) does = does [] given
    by_result (Err halt.Memory) does = tt

    -- what is done of the body is done of its items
    pub call_leads : {A : Type 0} (r : Result A Halt) →
        DoesBody f.reader from.trail (body_tree task.body) from to r → Leads d items m from.choices to r
    call_leads r does =
        by_result r (subst (λ s. DoesBody s [] (body_tree task.body) from to r) of.frame.reader
        (subst (λ trail. DoesBody f.reader trail (body_tree task.body) from to r) none does))

-- arguments change no count of state variables
pub arguments_count : (n : ℕ) (m : Memory) (ps : List (Cell × ℕ)) → HasCount n m →
    HasCount n (fold (λ so_far p. put so_far p.0 p.1) m ps)
arguments_count n m [] h = h
arguments_count n m (p ∷ ps) h = arguments_count n (put m p.0 p.1) ps (put_counts n m p.0 p.1 h)

-- the memory in which the parameters have got their arguments
pub given_memory : (d : Design) (number : ℕ) (f : Frame) (task : TaskDef) → IsSound (design_tree d) →
    (of : IsDriverTask d number f task) (numbers : List CellNumber) (args : List ℕ) (s : StateData) (from to : Kept) →
    map (cell_at f.reader.tables f.reader.at) numbers ≡ map Some of.called.params →
    Keeps (tables_of d) from (memory_of s) →
    ((m : Memory) (cs : List Cell) → AreApart f.reader.tables → Keeps f.reader.tables from m →
    map (cell_at f.reader.tables f.reader.at) numbers ≡ map Some cs → Keeps f.reader.tables to (put_all m cs args)) →
    Keeps (tables_of d) to (put_all (memory_of s) of.called.params args)
given_memory d number f task sound of numbers args s from to cells keeps put =
    let same : f.reader.tables ≡ tables_of d = ap (λ (r : ScopedCells). r.tables) of.frame.reader in
    subst (λ x. Keeps x to (put_all (memory_of s) of.called.params args)) same
    (put (memory_of s) of.called.params
    (slots_apart f.reader.tables (ap (λ (x : CellTables). names_twice (spec_tree x.spec)) same ∙ sound.once))
    (subst (λ x. Keeps x from (memory_of s)) (sym same) keeps) cells)
