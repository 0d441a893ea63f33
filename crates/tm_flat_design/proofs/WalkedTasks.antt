-- The tasks that paths of a body call, in each design of its tables.
use Rattle.std.proofs.Common.{◌≡◌, ℕ, Bool, true, false, Option, None, Some, List, [], length, slice_get, refl, sym, ap, ◌∙◌, subst, arith}
use Rattle.std.specs.Prelude.{◌&&◌, nat_eq, not}
use Rattle.std.specs.List.{AllByRecursion}
use Rattle.std.specs.Option.{option_and_then, option_map, option_map_or}
use Rattle.std.proofs.lemmas.Bool.Decides.{nat_tests}
use Rattle.std.proofs.lemmas.Option.{slice_get-map}
use Rattle.tm_syntax.specs.declared.design.Design.{Design}
use Rattle.tm_syntax.specs.declared.design.Instance.{Instance}
use Rattle.tm_syntax.specs.declared.tree.Ident.{Ident}
use Rattle.tm_syntax.specs.declared.tree.TaskDef.{TaskDef}
use Rattle.tm_syntax.specs.declared.tree.TaskKind.TheVariants.{Procedure}
use Rattle.tm_syntax.specs.declared.tree.Template.{Template}
use Rattle.tm_syntax.specs.Tree.{BodyTree, ExprTree, TaskTree, TemplateTree}
use Rattle.tm_syntax.specs.Tree.View.{spec_tree, task_tree, template_tree}
use Rattle.tm_syntax.specs.Scopes.Context.{Context, task_body}
use Rattle.tm_syntax.specs.Scopes.Names.{type_of}
use Rattle.tm_syntax.specs.Scopes.Parts.{Asked, asked_args, call_args, written_result}
use Rattle.tm_syntax.specs.Scopes.Pauses.{is_controllable, task_reached}
use Rattle.tm_syntax.specs.Design.{DesignTree, InstanceNode, instance_node}
use Rattle.tm_syntax.specs.Design.Cells.{Called, called, task_called}
use Rattle.tm_syntax.specs.Design.Scope.{Scope, Site, site}
use Rattle.tm_syntax.specs.Design.View.{design_tree}
use Rattle.tm_syntax.specs.Faults.{IsOfText, IsSound}
use Rattle.tm_scope.specs.Cells.{scope_of}
use Rattle.tm_scope.specs.Context.{body_name}
use Rattle.tm_scope.specs.declared.cells.site_body.SiteBody.{SiteBody}
use Rattle.tm_scope.specs.declared.context.BodyName.{BodyName}
use Rattle.tm_scope.specs.declared.context.BodyName.TheVariants.{Process, Task, Outside}
use Rattle.tm_typing.specs.HasType.{HasType}
use Rattle.tm_typing.specs.Promises.{HasAskedType}
use Rattle.tm_typing.specs.Statements.{HasCallee, HasResult}
use Rattle.tm_typing.proofs.Listed.{one_thing}
use Rattle.tm_typing.proofs.Sound.{checked}
use Rattle.tm_locations.specs.Locations.{LeadsByText}
use Rattle.tm_locations.proofs.CalledBodies.{made}
use Rattle.tm_locations.proofs.TextLeads.{sound_leads}
use Rattle.tm_design.specs.Parameters.{called_by, named_task, task_at}
use Rattle.tm_design.specs.Typed.{context_at}
use Rattle.tm_design.proofs.Contexts.{context_here, of_site}
use Rattle.tm_design.proofs.FoundCells.{is_site}
use Rattle.tm_states.proofs.Bodies.{IsTask, Leads, called_leads, text_leads}
use Rattle.tm_design.proofs.Found.{map_is}
use Rattle.tm_states.proofs.Promised.{answer_promised}
use Rattle.tm_plain_bodies.specs.Tables.{body_of, tables_of}
use Rattle.tm_plain_bodies.proofs.CalledTasks.{called_by_text, task_body_of}
use Rattle.tm_plain_bodies.proofs.Found.{own_cells}
use Rattle.tm_plain_bodies.proofs.Invoking.{args_typed}
use Rattle.tm_flat_bodies.specs.Asked.{AreArguments, CallIsTyped, ResultIsTyped}
use Rattle.tm_design.specs.Callees.{IsCallee}
use Rattle.tm_flat_design.proofs.Alike.{by_alike, called_alike}

body_is : (b : BodyName) (k : ℕ) → task_body k ≡ body_name b → b ≡ Task k
body_is (Process j) k same = absurd (cc)
body_is (Task j) k same = let numbers : j ≡ k = cc in ap Task numbers
body_is Outside k same = absurd (cc)

second_holds : (a b : Bool) → (a && b) ≡ true → b ≡ true
second_holds true b is = is
second_holds false b is = absurd (cc)

one_count : (a b : ℕ) → nat_eq a b ≡ true → a ≡ b
one_count a b is = grind (arith, nat_tests)

module _ (d : Design) where
  abbrev tree : DesignTree
  tree = design_tree d

  -- the body of a task of the design
  abbrev body_at : (h : Called) → IsTask tree h → SiteBody
  body_at h t = record { instance = t.at.number; body = Task t.number }

  -- the definition of such a task
  record IsWritten (h : Called) (t : IsTask tree h) : Type 0 where
    task : TaskDef
    there : task_at (body_of d (body_at h t)) ≡ Some task
    same : task_tree task ≡ t.task

  written : (h : Called) (t : IsTask tree h) → IsWritten h t
  written h t =
      let of = is_site tree t.at.number t.at t.there in
      let i = map_is instance_node (slice_get d.instances.items t.at.number) t.at.node
      (sym (slice_get-map instance_node d.instances.items t.at.number) ∙ of.node) in
      let u = map_is template_tree (slice_get d.spec.templates.items t.at.node.template) t.at.template
      (sym (slice_get-map template_tree d.spec.templates.items t.at.node.template) ∙ of.template) in
      let k = map_is task_tree (slice_get u.0.tasks.items t.number) t.task
      (sym (slice_get-map task_tree u.0.tasks.items t.number)
      ∙ ap (λ (x : TemplateTree). slice_get x.tasks t.number) u.2 ∙ t.is) in
      record {
        task = k.0;
        there =
            ap (option_and_then (λ (i : Instance). option_and_then (λ (x : Template). named_task x (Task t.number))
            (slice_get d.spec.templates.items i.template))) i.1
            ∙ ap (λ (n : InstanceNode). option_and_then (λ (x : Template). named_task x (Task t.number))
            (slice_get d.spec.templates.items n.template)) i.2
            ∙ ap (option_and_then (λ (x : Template). named_task x (Task t.number))) u.1
            ∙ k.1;
        same = k.2;
      }

  -- a call of the design runs it
  runs_by : (h : Called) (t : IsTask tree h) → called_by tree t.at.number (Task t.number) ≡ Some h
  runs_by h t =
      ap (option_and_then (λ (s : Site). task_called tree s t.number)) t.there
      ∙ ap (option_map (made tree t.at t.number)) t.is
      ∙ ap Some t.same

  module _ (sound : IsSound tree) (of : IsOfText tree.spec) (from : SiteBody) (c : Context)
      (stands : context_at (body_of d from) ≡ Some c) where
    -- where the call stands
    caller : (s : Site) × (site tree from.instance ≡ Some s) × (of_site tree (body_of d from) s ≡ c)
    caller =
        map_is (of_site tree (body_of d from)) (site tree from.instance) c
        (context_here (body_of d from) tree (own_cells d) ∙ stands)

    leads : LeadsByText tree
    leads = sound_leads tree sound

    found : (names : List Ident) (h : Called) → called tree (scope_of from) names ≡ Some h →
        Leads tree caller.0 names h
    found names h is = called_leads tree (scope_of from) caller.0 caller.1 names h is

    -- what the design calls is a task of the tables
    callee_of : (names : List Ident) (h : Called) → called tree (scope_of from) names ≡ Some h →
        (at : SiteBody) × (task : TaskDef) × IsCallee (tables_of d) from names at task
    callee_of names h is =
        let t = (found names h is).task in
        let w = written h t in (
          body_at h t,
          w.task,
          record {
            task = w.there;
            runs = λ e has. record {
              called = h;
              is =
                  sym (called_alike tree e (sym has.text) (sym has.instances) (sym has.vars) (scope_of from) names)
                  ∙ is;
              by =
                  sym (by_alike tree e (sym has.text) (sym has.instances) (sym has.vars) t.at.number (Task t.number))
                  ∙ runs_by h t;
              scope = ap (λ (x : Called). x.scope) (sym t.same);
              body = ap (λ (x : Called). x.body) (sym t.same) ∙ ap (λ (x : TaskTree). x.body) (sym w.same);
            };
          },
        )

    some_callee : (names : List Ident) (count : ℕ) → HasCallee c names count →
        (at : SiteBody) × (task : TaskDef) × IsCallee (tables_of d) from names at task
    some_callee names count has = by (called tree (scope_of from) names) refl
      where
        by : (o : Option Called) → called tree (scope_of from) names ≡ o →
            (at : SiteBody) × (task : TaskDef) × IsCallee (tables_of d) from names at task
        by None is = absurd (called_by_text d leads from c stands names (has.template, has.task) has.is is)
        by (Some h) is = callee_of names h is

    -- whatever a path calls by the tables is what it calls by the text
    module _ (names : List Ident) (count : ℕ) (has : HasCallee c names count) (to : SiteBody) (task : TaskDef)
        (callee : IsCallee (tables_of d) from names to task) where
      text_task : task_tree task ≡ has.task
      text_task =
          let runs = callee.runs tree (own_cells d) in
          let l = found names runs.called runs.is in
          let w = written runs.called l.task in
          let scopes : (record { instance = l.task.at.number; body = task_body l.task.number }) ≡ scope_of to =
          ap (λ (x : Called). x.scope) l.task.same ∙ runs.scope in
          let instances : to.instance ≡ l.task.at.number = sym (ap (λ (x : Scope). x.instance) scopes) in
          let bodies : to.body ≡ Task l.task.number =
          body_is to.body l.task.number (ap (λ (x : Scope). x.body) scopes) in
          let one : task ≡ w.task =
          one_thing callee.task
          ((λ i. task_at (body_of d (record { instance = instances i; body = bodies i }))) ∙ w.there) in
          let reached : task_reached c.spec c.template names ≡ Some (l.task.at.template, l.task.task) =
          ap (λ (x : Context). task_reached x.spec x.template names) (sym caller.2)
          ∙ text_leads tree leads from.instance caller.0 caller.1 names runs.called l in
          ap task_tree one ∙ w.same
          ∙ ap (λ (o : Option (TemplateTree × TaskTree)). option_map_or (λ (p : TemplateTree × TaskTree). p.1) o
          has.task) (sym reached ∙ has.is)

      args_fit : (es : List ExprTree) → count ≡ length es →
          AllByRecursion (λ (a : Asked). HasAskedType (record { context = c; asked = a })) (call_args c names es) →
          AreArguments (body_of d from) task.params.items es
      args_fit es many typed =
          args_typed (body_of d from) c stands task.params.items es
          (one_count (length task.params.items) count
          (subst (λ (t : TaskTree). nat_eq (length t.params) count ≡ true) (sym text_task)
          (second_holds (not (is_controllable has.task.kind)) (nat_eq (length has.task.params) count) has.fits)) ∙ many)
          (subst (λ (t : TaskTree). AllByRecursion (λ (a : Asked). HasAskedType (record { context = c; asked = a }))
          (asked_args t.params es)) (sym text_task)
          (subst (λ (o : Option (TemplateTree × TaskTree)).
          AllByRecursion (λ (a : Asked). HasAskedType (record { context = c; asked = a }))
          (asked_args (option_map_or (λ (p : TemplateTree × TaskTree). p.1.params) o []) es)) has.is typed))

    pub call_typed : (names : List Ident) (es : List ExprTree) → HasCallee c names (length es) →
        AllByRecursion (λ (a : Asked). HasAskedType (record { context = c; asked = a })) (call_args c names es) →
        CallIsTyped (body_of d from) names es
    call_typed names es has typed =
        let k = some_callee names (length es) has in
        record {
          at = k.0;
          task = k.1;
          is = k.2;
          fit = λ to task callee. args_fit names (length es) has to task callee es refl typed;
        }

    -- what is returned has the type that the target asks for
    pub result_typed : (target names : List Ident) (es : List ExprTree) (h : HasResult c target names (length es)) →
        AllByRecursion (λ (a : Asked). HasAskedType (record { context = c; asked = a })) (call_args c names es) →
        ResultIsTyped (body_of d from) (type_of h.ty) names es
    result_typed target names es h typed = record {
      call = call_typed names es h.callee typed;
      answer = λ to task callee e is.
          let own = task_body_of d to task callee.task in
          let kind : task.kind ≡ Procedure (Some h.ty) =
          ap (λ (t : TaskTree). t.kind) (text_task names (length es) h.callee to task callee) ∙ h.is in
          record {
            context = own.context;
            stands = own.stands;
            typed = subst (λ (x : Context). HasType x (type_of h.ty) e) own.here
                (answer_promised (spec_tree d.spec) (checked tree sound of) own.body own.among e
                (ap (λ (b : BodyTree). b.answer) own.tree ∙ is) (type_of h.ty)
                (own.asked ∙ ap (λ k. option_map type_of (written_result k)) kind));
          };
    }
