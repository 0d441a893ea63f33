-- The bodies of a design that assumes nothing come to an end for some choices.
use Rattle.std.proofs.Common.{◌≡◌, ℕ, zero, suc, ◌<◌, true, false, Option, Some, List, ◌++◌, slice_get, sym, ap, ◌∙◌}
use Rattle.std.specs.List.{AllByRecursion, flat_map}
use Rattle.std.specs.Option.{option_map, option_map_or, option_and_then}
use Rattle.tm_base.specs.declared.place.Place.{Place}
use Rattle.tm_syntax.specs.declared.design.Var.{Var}
use Rattle.tm_syntax.specs.declared.member.Member.{Member}
use Rattle.tm_syntax.specs.declared.tree.Ident.{Ident}
use Rattle.tm_syntax.specs.Tree.{BodyTree, TaskTree, TemplateTree}
use Rattle.tm_syntax.specs.Scopes.Calls.{body_calls, task_number, Calls}
use Rattle.tm_syntax.specs.Scopes.Context.{task_body}
use Rattle.tm_syntax.specs.Scopes.Crossing.{body_crosses}
use Rattle.tm_syntax.specs.Scopes.Parts.{BodyAt, bodies, stmts_in, body_stmts, own_calls}
use Rattle.tm_syntax.specs.Scopes.Pauses.{task_reached}
use Rattle.tm_syntax.specs.Faults.{IsSound, IsOfText}
use Rattle.tm_syntax.specs.Faults.Crossings.{loop_faults}
use Rattle.tm_syntax.specs.Design.{DesignTree}
use Rattle.tm_syntax.specs.Design.Scope.{Scope, Site, site}
use Rattle.tm_syntax.specs.Design.Cells.{cell, called}
use Rattle.tm_syntax.specs.Design.Sizes.{type_size}
use Rattle.tm_syntax.specs.Design.Work.{WorkItem, body_items}
use Rattle.tm_sem.specs.Run.{asked_by}
use Rattle.tm_scope.specs.Members.{task_at}
use Rattle.tm_scope.proofs.CallOrders.{numbered, reached}
use Rattle.tm_typing.proofs.Listed.{In, holds_in, none_of, all_hold, in_flat}
use Rattle.tm_locations.proofs.CalledBodies.{made, site-template}
use Rattle.tm_flat_room.specs.Assuming.{may_block, AssumesNothing}
use Rattle.tm_flat_room.proofs.Depth.{Under, all_under, deepest}
use Rattle.tm_flat_room.proofs.Ending.{Always, CallEnds, Fine, list_passes, body_crossed}
use Rattle.tm_flat_room.proofs.Sizes.{HasValue, target_value}
use Rattle.tm_flat_room.proofs.TextBodies.{contained, leads_some, Reached, with_task, Found, found, IsBody, typed, leads, task_is, has_callee}

module _ (d : DesignTree) (sound : IsSound d) (of : IsOfText d.spec) (plain_text : AssumesNothing d.spec)
    (vars : AllByRecursion (λ (v : Var). HasValue d.spec v.ty) d.vars)
  where
    module _ (scope : Scope) (s : Site) (body : BodyTree) (at : IsBody d sound of scope s body) where
      -- its statements are as is asked of them, where its calls come to an end
      pub fine_body : ((path : List Ident) → In path (body_calls body) → CallEnds d scope s.template path) →
          AllByRecursion (Fine d scope s.template) (stmts_in body)
      fine_body ends =
          all_hold (Fine d scope s.template) (stmts_in body)
          (λ x i. record {
            steady = holds_in (λ x. may_block x ≡ false) (stmts_in body)
                (holds_in (λ (b : BodyAt). AllByRecursion (λ x. may_block x ≡ false) (stmts_in b.body)) (bodies d.spec)
                plain_text at.is) i;
            loops = none_of (loop_faults d.spec s.template) (stmts_in body)
                (none_of (λ (b : BodyAt). flat_map (loop_faults b.context.spec b.context.template) (stmts_in b.body))
                (bodies d.spec) sound.crossing at.is) i;
            calls = all_hold (CallEnds d scope s.template) (own_calls x)
                (λ path j. ends path (in_flat own_calls (stmts_in body) i j));
          })

      pub sizes : (path : List Ident) (index : Option ℕ) →
          0 < type_size d.spec (asked_by d (cell d scope path index))
      sizes path index = target_value d (typed d sound of) vars scope s path index at.there at.template

    -- a body comes to an end
    pub record BodyEnds (scope : Scope) (t : TemplateTree) (body : BodyTree) : Type 0 where
      pub passes : (trail : List Place) (others : List WorkItem) → Always d others →
          Always d (body_items scope trail body ++ others)
      pub crosses : (depth : ℕ) → body_crosses depth d.spec t body ≡ true → (trail : List Place)
          (others : List WorkItem) → Always d (body_items scope trail body ++ others)

    body_ends : (scope : Scope) (s : Site) (body : BodyTree) → IsBody d sound of scope s body →
        AllByRecursion (Fine d scope s.template) (stmts_in body) → BodyEnds scope s.template body
    body_ends scope s body at fine = record {
      passes = λ trail others always.
          list_passes d scope s.template trail (sizes scope s body at) (body_stmts body) fine others always;
      crosses = λ depth e trail others.
          body_crossed d scope s.template trail (sizes scope s body at) body fine depth e others;
    }

    -- a call comes to an end, where the called body does
    call_of : (scope : Scope) (s : Site) (path : List Ident) (t : TemplateTree) (task : TaskTree) →
        task_reached d.spec s.template path ≡ Some (with_task t task) → (f : Found d scope s path t task) →
        BodyEnds (record { instance = f.at.number; body = task_body f.number }) f.at.template task.body →
        CallEnds d scope s.template path
    call_of scope s path t task reaches f ends = record {
      callee = made d f.at f.number task;
      is = f.calls;
      passes = ends.passes;
      crosses = λ depth e.
          ends.crosses depth
          (ap (λ u. body_crosses depth d.spec u task.body) f.template
          ∙ sym (ap (λ o. option_map_or (λ (k : Reached). body_crosses depth d.spec k.0 k.1.body) o false)
          reaches) ∙ e);
    }

    -- the bodies of tasks below which calls nest so deep
    tasks_end : (n : ℕ) (b : Member) → Under d.spec n b → (s : Site) (k : ℕ) (task : TaskTree) →
        site d s.number ≡ Some s → slice_get s.template.tasks k ≡ Some task →
        task_at d.spec b ≡ Some (with_task s.template task) →
        BodyEnds (record { instance = s.number; body = task_body k }) s.template task.body
    tasks_end zero b below s k task there at is = absurd below
    tasks_end (suc n) b below s k task there at is =
        let scope : Scope = record { instance = s.number; body = task_body k } in
        let body = task_is d sound of s k task there at in
        body_ends scope s task.body body
        (fine_body scope s task.body body
        (λ path i.
        let callee = has_callee d sound of scope s task.body body path i in
        let f = found d (leads d sound of) scope s there path callee.0 callee.1 callee.2 in
        let to = leads_some (task_at d.spec) (with_task callee.0 callee.1) (task_number d.spec b.template path)
        (sym (reached d.spec b (with_task s.template task) path is) ∙ callee.2) in
        let calls : Calls d.spec b to.0 = record {
          task = task;
          path = path;
          is = numbered d.spec b (with_task s.template task) is;
          calls = contained (body_calls task.body) i;
          leads = to.1;
        } in
        call_of scope s path callee.0 callee.1 callee.2 f
        (tasks_end n to.0 (below to.0 calls) f.at f.number callee.1 f.there f.is
        (to.2 ∙ ap (λ t. Some (with_task t callee.1)) (sym f.template)))))

    -- the body of each task
    pub task_ends : (s : Site) (k : ℕ) (task : TaskTree) → site d s.number ≡ Some s →
        slice_get s.template.tasks k ≡ Some task →
        BodyEnds (record { instance = s.number; body = task_body k }) s.template task.body
    task_ends s k task there at =
        let b : Member = record { template = s.node.template; index = k } in
        let here = site-template d s.number s there in
        tasks_end (deepest d.spec sound.no_call_cycle) b (all_under d.spec sound.no_call_cycle b) s k task there at
        (ap (option_and_then (λ (t : TemplateTree). option_map (with_task t) (slice_get t.tasks k))) here
        ∙ ap (option_map (with_task s.template)) at)

    -- whatever a body calls comes to an end
    pub calls_end : (scope : Scope) (s : Site) (body : BodyTree) → IsBody d sound of scope s body →
        (path : List Ident) →
        In path (body_calls body) → CallEnds d scope s.template path
    calls_end scope s body at path i =
        let callee = has_callee d sound of scope s body at path i in
        let f = found d (leads d sound of) scope s at.there path callee.0 callee.1 callee.2 in
        call_of scope s path callee.0 callee.1 callee.2 f (task_ends f.at f.number callee.1 f.there f.is)

    pub all_fine : (scope : Scope) (s : Site) (body : BodyTree) → IsBody d sound of scope s body →
        AllByRecursion (Fine d scope s.template) (stmts_in body)
    all_fine scope s body at = fine_body scope s body at (calls_end scope s body at)
