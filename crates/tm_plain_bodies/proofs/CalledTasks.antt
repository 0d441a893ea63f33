-- The task that a call runs: its body may be done, and what is sure to cross.
use Rattle.std.proofs.Common.{◌≡◌, ℕ, suc, ◌-◌, ◌<◌, ◌≤◌, false, Option, None, Some, List, Bor, find, length, map, position, slice_get, refl, sym, ap, ◌∙◌, subst, arith}
use Rattle.std.proofs.lemmas.Option.{none-some, slice_get-map}
use Rattle.std.specs.List.{AllByRecursion, enumerate_from, filter_map}
use Rattle.std.specs.Option.{option_and_then, option_map, option_map_or}
use Rattle.tm_syntax.specs.declared.design.Design.{Design}
use Rattle.tm_syntax.specs.declared.member.Member.{Member}
use Rattle.tm_syntax.specs.declared.tree.Ident.{Ident}
use Rattle.tm_syntax.specs.declared.tree.TaskDef.{TaskDef}
use Rattle.tm_syntax.specs.declared.tree.TaskKind.TheVariants.{Procedure}
use Rattle.tm_syntax.specs.declared.tree.Template.{Template}
use Rattle.tm_syntax.specs.declared.tree.TypeName.{TypeName}
use Rattle.tm_syntax.specs.Tree.{BodyTree, ExprTree, SpecTree, TaskTree, TemplateTree}
use Rattle.tm_syntax.specs.Tree.View.{body_tree, spec_tree, task_tree, template_tree}
use Rattle.tm_syntax.specs.Scopes.Calls.{body_calls}
use Rattle.tm_syntax.specs.Scopes.Context.{Context, param_slot, task_body, task_frame}
use Rattle.tm_syntax.specs.Scopes.Crossing.{body_crosses, call_crosses}
use Rattle.tm_syntax.specs.Scopes.Names.{is_spelled, last_name, template_along, type_of}
use Rattle.tm_syntax.specs.Scopes.Parts.{BodyAt, bodies, process_body_at, result_asked, stmts_in, task_body_at, template_bodies, written_result}
use Rattle.tm_syntax.specs.Scopes.Pauses.{call_depth, task_reached}
use Rattle.tm_syntax.specs.Design.{DesignTree}
use Rattle.tm_syntax.specs.Design.Cells.{Called, called, slot_cell, task_called}
use Rattle.tm_syntax.specs.Design.Scope.{Scope, Site, site, site_along}
use Rattle.tm_syntax.specs.Design.View.{design_tree}
use Rattle.tm_syntax.specs.Faults.{IsTyped}
use Rattle.tm_scope.specs.Cells.{ScopedCells, scope_of}
use Rattle.tm_scope.specs.Context.{body_name}
use Rattle.tm_scope.specs.declared.cells.site_body.SiteBody.{SiteBody}
use Rattle.tm_scope.proofs.CallOrders.{settled_crosses}
use Rattle.tm_scope.proofs.Positions.{find-position}
use Rattle.tm_typing.specs.HasType.{HasType}
use Rattle.tm_typing.proofs.Listed.{In, in_behind, in_flat, in_get, in_map}
use Rattle.tm_typing.proofs.Sound.{checked}
use Rattle.tm_locations.specs.Locations.{LeadsByText}
use Rattle.tm_locations.proofs.CalledBodies.{IsCalled as Meant, called-is, reached-by_text}
use Rattle.tm_locations.proofs.TextLeads.{sound_leads}
use Rattle.tm_design.specs.Parameters.{task_at}
use Rattle.tm_design.specs.Typed.{HasTypeAt, context_at}
use Rattle.tm_design.proofs.Contexts.{context_here, of_site}
use Rattle.tm_design.proofs.Indices.{in_enumerated}
use Rattle.tm_design.proofs.OperandCells.{TaskPlace, task_place}
use Rattle.tm_plain_bodies.specs.declared.frame.Frame.{Frame}
use Rattle.tm_design.specs.Callees.{IsCallee, RunsTask}
use Rattle.tm_plain_bodies.specs.Calls.{NestsWithin}
use Rattle.tm_plain_bodies.specs.Frames.{BodyFits, CallFits, IsCalled}
use Rattle.tm_plain_bodies.specs.Tables.{IsReady, body_of, tables_of}
use Rattle.tm_states.specs.Promised.{IsPromised}
use Rattle.tm_design.proofs.Found.{and_then_is, map_is}
use Rattle.tm_plain_bodies.proofs.Found.{own_cells}
use Rattle.tm_plain_bodies.proofs.Nesting.{nests_call, stands_somewhere}
use Rattle.tm_states.proofs.Promised.{answer_promised, body_promised}

-- a task of a template is one of the bodies of the text
task_in : (spec : SpecTree) (t : Template) (k : ℕ) (task : TaskDef) → In (template_tree t) spec.templates →
    slice_get t.tasks.items k ≡ Some task → In (task_body_at spec (template_tree t) (k, task_tree task)) (bodies spec)
task_in spec t k task there is =
    let tree = template_tree t in
    in_flat (template_bodies spec) spec.templates there
    (in_behind (map (process_body_at spec tree) (enumerate_from 0 tree.processes))
    (map (task_body_at spec tree) (enumerate_from 0 tree.tasks))
    (in_map (task_body_at spec tree) (enumerate_from 0 tree.tasks)
    (in_enumerated tree.tasks k
    (slice_get-map task_tree t.tasks.items k ∙ ap (option_map task_tree) is))))

-- a body of an instance is that of a task of the text
pub record TaskBody (d : Design) (at : SiteBody) (task : TaskDef) : Type 0 where
  pub context : Context
  pub stands : context_at (body_of d at) ≡ Some context
  pub spec : context.spec ≡ spec_tree d.spec
  pub body : BodyAt
  pub here : body.context ≡ context
  pub tree : body.body ≡ body_tree task.body
  pub among : In body (bodies (spec_tree d.spec))
  pub asked : result_asked body.context.template body.context.body ≡ option_map type_of (written_result task.kind)

pub task_body_of : (d : Design) (at : SiteBody) (task : TaskDef) → task_at (body_of d at) ≡ Some task →
    TaskBody d at task
task_body_of d at task is =
    let s = body_of d at in
    let spec = spec_tree d.spec in
    let p : TaskPlace s task = task_place s task is in
    let c : Context = record { spec = spec; template = template_tree p.template; body = body_name at.body } in
    record {
      context = c;
      stands =
          ap (option_and_then (λ i. option_map (λ t. record {
            spec = spec;
            template = template_tree t;
            body = body_name at.body;
          }) (slice_get d.spec.templates.items i.template))) p.here
          ∙ ap (option_map (λ t. record { spec = spec; template = template_tree t; body = body_name at.body })) p.at;
      spec = refl;
      body = task_body_at spec (template_tree p.template) (p.index, task_tree task);
      here = (λ i. record {
        spec = spec;
        template = template_tree p.template;
        body = body_name (sym p.body i);
      });
      tree = refl;
      among = task_in spec p.template p.index task
          (in_map template_tree d.spec.templates.items (in_get d.spec.templates.items p.instance.template p.at)) p.is;
      asked = ap (option_and_then (λ (t : TaskTree). option_map type_of (written_result t.kind)))
          (slice_get-map task_tree p.template.tasks.items p.index ∙ ap (option_map task_tree) p.is);
    }

module _ (d : Design) (order : List Member) (ready : IsReady d order) (from : SiteBody) (names : List Ident)
    (at : SiteBody) (task : TaskDef) (callee : IsCallee (tables_of d) from names at task) where
  abbrev tree : DesignTree
  tree = design_tree d

  runs : RunsTask tree (scope_of from) names at task
  runs = callee.runs tree (own_cells d)

  -- where the call stands, and the task that it means, by the text
  module _ (c k : Context) (outer : context_at (body_of d from) ≡ Some c) (inner : context_at (body_of d at) ≡ Some k)
    where
      caller : (s : Site) × (site tree from.instance ≡ Some s) × (of_site tree (body_of d from) s ≡ c)
      caller =
          map_is (of_site tree (body_of d from)) (site tree from.instance) c
          (context_here (body_of d from) tree (own_cells d) ∙ outer)

      home : (s : Site) × (site tree at.instance ≡ Some s) × (of_site tree (body_of d at) s ≡ k)
      home =
          map_is (of_site tree (body_of d at)) (site tree at.instance) k
          (context_here (body_of d at) tree (own_cells d) ∙ inner)

      one : Meant tree caller.0 names runs.called
      one = called-is tree (scope_of from) caller.0 caller.1 names runs.called runs.is

      -- its site is the one of the body
      same_site : one.at ≡ home.0
      same_site =
          let same : Some one.at ≡ Some home.0 =
          sym one.there ∙ ap (site tree) (sym one.instance ∙ ap (λ (s : Scope). s.instance) runs.scope) ∙ home.1 in cc

      -- what the path calls, step by step
      steps : called tree (scope_of from) names ≡ task_called tree one.at one.number
      steps =
          ap (option_and_then (λ u. option_and_then (λ v. option_and_then (task_called tree v)
          (position_of v)) (site_along tree u names))) caller.1
          ∙ ap (option_and_then (λ v. option_and_then (task_called tree v) (position_of v))) one.along
          ∙ ap (option_and_then (task_called tree one.at)) one.first
        where
          position_of : Site → Option ℕ
          position_of v = position (λ (t : TaskTree). is_spelled (last_name names) t.name) v.template.tasks

      -- its number is that of the body
      made_is : option_map (λ (t : TaskTree). record {
        scope = record { instance = one.at.number; body = task_body one.number };
        params = filter_map (λ p. slot_cell tree (record { instance = one.at.number; body = task_body one.number })
            one.at (task_frame tree.spec one.at.template t) (param_slot p)) t.params;
        body = t.body;
      }) (Some one.task) ≡ Some runs.called
      made_is =
          ap (option_map (λ (t : TaskTree). record {
            scope = record { instance = one.at.number; body = task_body one.number };
            params = filter_map (λ p. slot_cell tree (record { instance = one.at.number; body = task_body one.number })
                one.at (task_frame tree.spec one.at.template t) (param_slot p)) t.params;
            body = t.body;
          })) (sym one.is) ∙ sym steps ∙ runs.is

      body_number : task_body one.number ≡ body_name at.body
      body_number =
          let same : (record { instance = one.at.number; body = task_body one.number }) ≡ runs.called.scope =
          ap (λ (o : Option Called). option_map_or (λ (c : Called). c.scope) o (scope_of at)) made_is in
          ap (λ (s : Scope). s.body) same ∙ ap (λ (s : Scope). s.body) runs.scope

      place : TaskPlace (body_of d at) task
      place = task_place (body_of d at) task callee.task

      number_is : one.number ≡ place.index
      number_is = let same : task_body one.number ≡ task_body place.index = body_number ∙ ap body_name place.body in cc

      template_is : one.at.template ≡ template_tree place.template
      unfolding task_body_of place
      template_is =
          ap (λ (s : Site). s.template) same_site
          ∙ ap (λ (c : Context). c.template) home.2
          ∙ (let both : Some k ≡ Some (task_body_of d at task callee.task).context =
          sym inner ∙ (task_body_of d at task callee.task).stands in
          ap (λ (o : Option Context). option_map_or (λ (c : Context). c.template) o one.at.template) both)

      task_is : one.task ≡ task_tree task
      task_is =
          let both : Some one.task ≡ Some (task_tree task) =
          sym one.is ∙ ap (λ (t : TemplateTree). slice_get t.tasks one.number) template_is
          ∙ ap (slice_get (template_tree place.template).tasks) number_is
          ∙ slice_get-map task_tree place.template.tasks.items place.index ∙ ap (option_map task_tree) place.is in cc

      pub reached_is : task_reached c.spec c.template names ≡ Some (k.template, task_tree task)
      reached_is =
          ap (λ (x : Context). task_reached x.spec x.template names) (sym caller.2)
          ∙ reached-by_text tree (sound_leads tree ready.sound) from.instance caller.0 caller.1 names runs.called one
          ∙ (λ i. Some (template_here i, task_is i))
        where
          template_here : one.at.template ≡ k.template
          template_here = ap (λ (s : Site). s.template) same_site ∙ ap (λ (c : Context). c.template) home.2

      -- the call is sure to cross where the body is
      pub crosses_is : call_crosses c.spec c.template names
          ≡ body_crosses (suc (call_depth k.spec)) k.spec k.template (body_tree task.body)
      crosses_is =
          let spec = spec_tree d.spec in
          let leads = sound_leads tree ready.sound in
          let at_place = stands_somewhere tree order leads ready.ordered ready.covers caller.0 names runs.called one in
          ap (λ (x : Context). call_crosses x.spec x.template names) (sym caller.2)
          ∙ ap (λ o. option_map_or (λ (t : TemplateTree × TaskTree). body_crosses (call_depth spec) spec t.0 t.1.body) o
          false) (reached-by_text tree leads from.instance caller.0 caller.1 names runs.called one)
          ∙ settled_crosses spec order ready.ordered (suc at_place.0) at_place.0 (call_depth spec)
          (suc (call_depth spec)) at_place.1 (one.at.template, one.task) (omega arith)
          (below at_place.0 at_place.2) (later at_place.0 at_place.2) at_place.3 at_place.4
          ∙ (λ i. body_crosses (suc (call_depth spec)) spec ((same_site i).template) ((task_is i).body))
          ∙ ap (λ (x : Context). body_crosses (suc (call_depth x.spec)) x.spec x.template (body_tree task.body)) home.2
        where
          below : (j : ℕ) → j < length order → j < call_depth (spec_tree d.spec)
          below j less = omega (arith, less, ready.short)

          later : (j : ℕ) → j < length order → j < suc (call_depth (spec_tree d.spec))
          later j less = omega (arith, less, ready.short)

-- where the text leads to a task, so does the design
pub called_by_text : (d : Design) → LeadsByText (design_tree d) → (from : SiteBody) (c : Context) →
    context_at (body_of d from) ≡ Some c → (names : List Ident) (t : TemplateTree × TaskTree) →
    task_reached c.spec c.template names ≡ Some t → called (design_tree d) (scope_of from) names ≡ None → ⊥
called_by_text d leads from c outer names t reached nowhere =
    let tree = design_tree d in
    let s = body_of d from in
    let caller =
    map_is (of_site tree s) (site tree from.instance) c (context_here s tree (own_cells d) ∙ outer) in
    let text : task_reached tree.spec caller.0.template names ≡ Some t =
    ap (λ (x : Context). task_reached x.spec x.template names) caller.2 ∙ reached in
    let along = and_then_is (λ (u : TemplateTree). option_map (λ k. (u, k))
    (find (λ (k : TaskTree). is_spelled (last_name names) k.name) u.tasks))
    (template_along tree.spec caller.0.template names) t text in
    let found = map_is (λ (k : TaskTree). (along.0, k))
    (find (λ (k : TaskTree). is_spelled (last_name names) k.name) along.0.tasks) t along.2 in
    let home = map_is (λ (v : Site). v.template) (site_along tree caller.0 names) along.0
    (leads from.instance caller.0 names caller.1 ∙ along.1) in
    let listed : option_and_then (slice_get home.0.template.tasks)
    (position (λ (k : TaskTree). is_spelled (last_name names) k.name) home.0.template.tasks) ≡ Some found.0 =
    sym (find-position (λ (k : TaskTree). is_spelled (last_name names) k.name) home.0.template.tasks)
    ∙ ap (λ (u : TemplateTree). find (λ (k : TaskTree). is_spelled (last_name names) k.name) u.tasks) home.2
    ∙ found.1 in
    let number = and_then_is (slice_get home.0.template.tasks)
    (position (λ (k : TaskTree). is_spelled (last_name names) k.name) home.0.template.tasks) found.0 listed in
    none-some _
    (sym nowhere
    ∙ ap (option_and_then (λ (u : Site). option_and_then (λ v. option_and_then (task_called tree v)
    (position (λ (k : TaskTree). is_spelled (last_name names) k.name) v.template.tasks)) (site_along tree u names)))
    caller.1
    ∙ ap (option_and_then (λ (v : Site). option_and_then (task_called tree v)
    (position (λ (k : TaskTree). is_spelled (last_name names) k.name) v.template.tasks))) home.1
    ∙ ap (option_and_then (task_called tree home.0)) number.1
    ∙ ap (option_map (λ (task : TaskTree). record {
      scope = record { instance = home.0.number; body = task_body number.0 };
      params = filter_map (λ p. slot_cell tree (record { instance = home.0.number; body = task_body number.0 }) home.0
          (task_frame tree.spec home.0.template task) (param_slot p)) task.params;
      body = task.body;
    })) number.2)

-- a task that is called may be done
module _ (d : Design) (order : List Member) (ready : IsReady d order) (f : Frame) (names : List Ident) (count : ℕ)
    (fits : CallFits d f names count) (at : SiteBody) (t : Bor TaskDef)
    (callee : IsCallee (tables_of d) f.reader.at names at t.now) where
  own_reader : f.reader ≡ body_of d f.reader.at
  own_reader = (λ i. record { tables = fits.tables i; at = f.reader.at })

  nested : (m : ℕ) × (f.depth ≡ suc m) × NestsWithin m (design_tree d) (scope_of at) (body_calls (body_tree t.now.body))
  nested =
      let runs = callee.runs (design_tree d) (own_cells d) in
      let n = nests_call f.depth (design_tree d) (scope_of f.reader.at) names runs.called fits.nested runs.is in (
        n.0,
        n.1,
        subst (λ scope. NestsWithin n.0 (design_tree d) scope (body_calls (body_tree t.now.body))) runs.scope
            (subst (λ body. NestsWithin n.0 (design_tree d) runs.called.scope (body_calls body)) runs.body n.2),
      )

  pub is_deeper : 1 ≤ f.depth
  is_deeper = let n = nested in omega (arith, n.1)

  own_body : TaskBody d at t.now
  own_body = task_body_of d at t.now callee.task

  spec_typed : IsTyped (spec_tree d.spec)
  spec_typed = checked (design_tree d) ready.sound ready.read

  body_fits : BodyFits d (record { reader = body_of d at; depth = f.depth - 1 }) (body_tree t.now.body)
  body_fits = record {
    tables = refl;
    context = own_body.context;
    stands = own_body.stands;
    promised = subst (λ (c : Context). AllByRecursion (IsPromised c) (stmts_in (body_tree t.now.body))) own_body.here
        (subst (λ body. AllByRecursion (IsPromised own_body.body.context) (stmts_in body)) own_body.tree
        (body_promised (spec_tree d.spec) spec_typed own_body.body own_body.among));
    nested = let n = nested in
        let same : n.0 ≡ f.depth - 1 = omega (arith, n.1) in
        subst (λ m. NestsWithin m (design_tree d) (scope_of at) (body_calls (body_tree t.now.body))) same n.2;
  }

  answer_typed : (ty : TypeName) (e : ExprTree) → t.now.kind ≡ Procedure (Some ty) →
      (body_tree t.now.body).answer ≡ Some e → HasTypeAt (body_of d at) (type_of ty) e
  answer_typed ty e kind is = record {
    context = own_body.context;
    stands = own_body.stands;
    typed = subst (λ (c : Context). HasType c (type_of ty) e) own_body.here
        (answer_promised (spec_tree d.spec) spec_typed own_body.body own_body.among e
        (ap (λ (b : BodyTree). b.answer) own_body.tree ∙ is) (type_of ty)
        (own_body.asked ∙ ap (λ k. option_map type_of (written_result k)) kind));
  }

  pub is_called : (reader : ScopedCells) → reader ≡ body_of d at →
      IsCalled d f names (record { frame = record { reader = reader; depth = f.depth - 1 }; task = t })
  is_called reader is =
      subst (λ r. IsCalled d f names (record { frame = record { reader = r; depth = f.depth - 1 }; task = t })) (sym is)
      (record {
        callee = callee;
        fits = body_fits;
        depth = let deeper = is_deeper in omega arith;
        reached = λ c k outer inner.
            reached_is d order ready f.reader.at names at t.now callee c k (sym (ap context_at own_reader) ∙ outer)
            inner;
        crosses = λ c k outer inner.
            crosses_is d order ready f.reader.at names at t.now callee c k (sym (ap context_at own_reader) ∙ outer)
            inner;
        answers = answer_typed;
      })
