-- The cell of a parameter, where it is kept and where it lives for one step.
use Rattle.std.proofs.Common.{◌≡◌, ℕ, zero, suc, ◌+◌, ◌<◌, Bool, true, false, cond, Option, None, Some, List, [], ◌∷◌}
use Rattle.std.proofs.Common.{◌++◌, length, map, get_or, find, nat_eq, slice_get, if◌then◌else◌, refl, sym, ap, ◌∙◌}
use Rattle.std.proofs.Common.{arith}
use Rattle.std.proofs.lemmas.Bool.Decides.{nat_tests}
use Rattle.std.proofs.lemmas.Option.{slice_get-map, none-some}
use Rattle.std.specs.Prelude.{◌&&◌, unwrap_or}
use Rattle.std.specs.Cmp.Lexicographic.{pointwise}
use Rattle.std.specs.List.{filter_map}
use Rattle.std.specs.Option.{option_and_then, option_map, option_map_or}
use Rattle.tm_syntax.specs.declared.design.Instance.{Instance}
use Rattle.tm_syntax.specs.declared.tree.Ident.{Ident}
use Rattle.tm_syntax.specs.declared.tree.Param.{Param}
use Rattle.tm_syntax.specs.declared.tree.TaskDef.{TaskDef}
use Rattle.tm_syntax.specs.declared.tree.Template.{Template}
use Rattle.tm_syntax.specs.Tree.View.{local_tree, task_tree, template_tree}
use Rattle.tm_syntax.specs.Scopes.Context.{Frame, Slot, frame_of, local_slot, param_slot, slot_named, slot_of}
use Rattle.tm_syntax.specs.Scopes.Context.{task_frame}
use Rattle.tm_syntax.specs.Design.{DesignTree, instance_node, member_path}
use Rattle.tm_syntax.specs.Design.Cells.{Called, Cell, cell, in_step, slot_cell, task_called, variable_at}
use Rattle.tm_syntax.specs.Design.Scope.{Site, site}
use Rattle.tm_scope.specs.Cells.{HasCells, ScopedCells, cell_at, frame_in, scope_of, slots_in}
use Rattle.tm_scope.specs.Context.{body_name}
use Rattle.tm_scope.specs.Inner.Tables.{BodySlots, task_slots}
use Rattle.tm_scope.specs.Members.{body_slots, numbered_slot}
use Rattle.tm_scope.specs.declared.cells.site_body.CellNumber.{CellNumber}
use Rattle.tm_scope.specs.declared.cells.site_body.CellNumber.TheVariants.{Step}
use Rattle.tm_scope.specs.declared.context.BodyName.{BodyName}
use Rattle.tm_scope.specs.declared.context.BodyName.TheVariants.{Process, Task, Outside}
use Rattle.tm_scope.specs.declared.members.SlotNumber.TheVariants.{Param as ParamSlot}
use Rattle.tm_scope.proofs.CellSites.{site-here}
use Rattle.tm_scope.proofs.OwnCells.{cell-own, own-kept}
use Rattle.tm_design.specs.Inner.ParamCells.{param_cell}
use Rattle.tm_design.specs.Parameters.{called_by, named_task, task_at}

-- a text is itself
text_itself : (a : List ℕ) → pointwise nat_eq a a ≡ true
text_itself [] = refl
text_itself (x ∷ xs) = by (nat_eq x x) (grind (arith, nat_tests)) (text_itself xs)
  where
    by : (b : Bool) → b ≡ true → pointwise nat_eq xs xs ≡ true → (b && pointwise nat_eq xs xs) ≡ true
    by true e rest = rest
    by false e rest = absurd (cc)

-- among the slots of a task the name of a parameter is found
named_among : (q : Slot → Bool) (ps : List Param) (rest : List Slot) (k : ℕ) (p : Param) →
    slice_get ps k ≡ Some p → q (param_slot p) ≡ true →
    (y : Slot) × (find q (map param_slot ps ++ rest) ≡ Some y)
named_among q [] rest k p is passes = absurd (cc)
named_among q (x ∷ xs) rest zero p is passes =
    let same : x ≡ p = cc in (
      param_slot x,
      ap (λ b. cond b (Some (param_slot x)) (find q (map param_slot xs ++ rest)))
          (ap (λ (y : Param). q (param_slot y)) same ∙ passes),
    )
named_among q (x ∷ xs) rest (suc k) p is passes = by (q (param_slot x)) (named_among q xs rest k p is passes)
  where
    by : (b : Bool) → (y : Slot) × (find q (map param_slot xs ++ rest) ≡ Some y) →
        (y : Slot) × (cond b (Some (param_slot x)) (find q (map param_slot xs ++ rest)) ≡ Some y)
    by true later = (param_slot x, refl)
    by false later = later

-- where the task of a body stands
pub record TaskPlace (s : ScopedCells) (task : TaskDef) : Type 0 where
  pub instance : Instance
  pub template : Template
  pub index : ℕ
  pub here : slice_get s.tables.instances s.at.instance ≡ Some instance
  pub at : slice_get s.tables.spec.templates.items instance.template ≡ Some template
  pub body : s.at.body ≡ Task index
  pub is : slice_get template.tasks.items index ≡ Some task

module _ (s : ScopedCells) (task : TaskDef) where
  by_body : (i : Instance) (t : Template) (b : BodyName) → slice_get s.tables.instances s.at.instance ≡ Some i →
      slice_get s.tables.spec.templates.items i.template ≡ Some t → s.at.body ≡ b → named_task t b ≡ Some task →
      TaskPlace s task
  by_body i t (Process k) here at is h = absurd (none-some task h)
  by_body i t (Task k) here at is h =
      record { instance = i; template = t; index = k; here = here; at = at; body = is; is = h }
  by_body i t Outside here at is h = absurd (none-some task h)

  by_template : (i : Instance) (o : Option Template) → slice_get s.tables.instances s.at.instance ≡ Some i →
      slice_get s.tables.spec.templates.items i.template ≡ o →
      option_and_then (λ t. named_task t s.at.body) o ≡ Some task → TaskPlace s task
  by_template i None here at h = absurd (none-some task h)
  by_template i (Some t) here at h = by_body i t s.at.body here at refl h

  by_instance : (o : Option Instance) → slice_get s.tables.instances s.at.instance ≡ o →
      option_and_then (λ (i : Instance). option_and_then (λ t. named_task t s.at.body)
      (slice_get s.tables.spec.templates.items i.template)) o ≡ Some task → TaskPlace s task
  by_instance None here h = absurd (none-some task h)
  by_instance (Some i) here h = by_template i (slice_get s.tables.spec.templates.items i.template) here refl h

  pub task_place : task_at s ≡ Some task → TaskPlace s task
  task_place h = by_instance (slice_get s.tables.instances s.at.instance) refl h

  module _ (p : TaskPlace s task) (d : DesignTree) (has : HasCells s.tables d) where
    abbrev own_site : Site
    own_site =
        record { number = s.at.instance; node = instance_node p.instance; template = template_tree p.template }

    abbrev own_frame : Frame
    own_frame = task_frame d.spec (template_tree p.template) (task_tree task)

    -- the parameters of a site
    abbrev params_in : Param → Site → Option Cell
    params_in q t =
        option_and_then (λ frame. slot_cell d (scope_of s.at) t frame (param_slot q))
        (frame_of d.spec t.template (body_name s.at.body))

    site_is : site d s.at.instance ≡ Some own_site
    site_is = site-here s.tables d has s.at.instance p.instance p.here p.template p.at

    tree_is : slice_get (map task_tree p.template.tasks.items) p.index ≡ Some (task_tree task)
    tree_is = slice_get-map task_tree p.template.tasks.items p.index ∙ ap (option_map task_tree) p.is

    frame_is : frame_of d.spec (template_tree p.template) (body_name s.at.body) ≡ Some own_frame
    frame_is =
        ap (λ b. frame_of d.spec (template_tree p.template) (body_name b)) p.body
        ∙ ap (option_map (task_frame d.spec (template_tree p.template))) tree_is

    param_is : (q : Param) → param_cell d s.at q ≡ slot_cell d (scope_of s.at) own_site own_frame (param_slot q)
    param_is q =
        ap (option_and_then (params_in q)) site_is
        ∙ ap (option_and_then (λ frame. slot_cell d (scope_of s.at) own_site frame (param_slot q))) frame_is

    kept_is : option_map_or (λ (f : Frame). f.kept) (frame_in d s.at) false ≡ own_frame.kept
    kept_is =
        ap (λ o. option_map_or (λ (f : Frame). f.kept)
        (option_and_then (λ (t : Site). frame_of d.spec t.template (body_name s.at.body)) o) false) site_is
        ∙ ap (λ o. option_map_or (λ (f : Frame). f.kept) o false) frame_is

    -- where the parameters are not kept
    slots_is : slots_in s.tables s.at ≡ Some (task_slots task)
    slots_is =
        ap (option_and_then (λ (i : Instance). option_and_then (λ t. body_slots t s.at.body)
        (slice_get s.tables.spec.templates.items i.template))) p.here
        ∙ ap (option_and_then (λ t. body_slots t s.at.body)) p.at
        ∙ ap (body_slots p.template) p.body
        ∙ ap (option_map task_slots) p.is

    abbrev stepped : Slot → Cell
    stepped slot = in_step (scope_of s.at) slot.name slot.ty

    abbrev variable : Slot → Option Cell
    variable slot = variable_at d (member_path own_site.node.path own_frame.name ++ 46 ∷ slot.name)

    pub step_cell : (k : ℕ) (q : Param) (c : Cell) →
        option_map_or (λ (f : Frame). f.kept) (frame_in d s.at) false ≡ false →
        slice_get task.params.items k ≡ Some q → param_cell d s.at q ≡ Some c →
        cell_at s.tables s.at (Step (ParamSlot k)) ≡ Some c
    step_cell k q c passes is found =
        ap (λ o. option_map stepped (option_and_then (λ (body : BodySlots). numbered_slot body (ParamSlot k)) o))
        slots_is
        ∙ ap (λ o. option_map stepped (option_map param_slot o)) is
        ∙ sym (ap (λ b. if b then variable (param_slot q) else Some (stepped (param_slot q))) (sym kept_is ∙ passes))
        ∙ sym (param_is q)
        ∙ found

    -- where they are
    slot_is : (k : ℕ) (q : Param) → slice_get task.params.items k ≡ Some q → (slot : Slot) ×
        (option_and_then (λ c. slot_of c (q.name ∷ [])) (option_map (λ (t : Site). record {
          spec = d.spec;
          template = t.template;
          body = body_name s.at.body;
        }) (site d s.at.instance)) ≡ Some slot)
    slot_is k q is =
        let named = named_among (λ (slot : Slot). pointwise nat_eq q.name.text slot.name) task.params.items
        (map local_slot (map local_tree task.body.locals.items)) k q is (text_itself q.name.text) in (
          named.0,
          ap (λ o. option_and_then (λ c. slot_of c (q.name ∷ [])) (option_map (λ (t : Site). record {
            spec = d.spec;
            template = t.template;
            body = body_name s.at.body;
          }) o)) site_is
              ∙ ap (option_and_then (λ f. slot_named f q.name.text)) frame_is
              ∙ named.1,
        )

    pub kept_cell : (k : ℕ) (q : Param) (c : Cell) →
        option_map_or (λ (f : Frame). f.kept) (frame_in d s.at) false ≡ true →
        slice_get task.params.items k ≡ Some q → param_cell d s.at q ≡ Some c →
        cell d (scope_of s.at) (q.name ∷ []) None ≡ Some c
    kept_cell k q c kept is found =
        let there = slot_is k q is in
        cell-own d s.at (q.name ∷ []) None (site d s.at.instance) c
        (own-kept d s.at (q.name ∷ []) (site d s.at.instance) kept there.0 there.1
        ∙ ap (λ o. option_and_then (λ (t : Site). variable_at d
        (member_path t.node.path (option_map_or (λ (f : Frame). f.name)
        (option_and_then (λ (t : Site). frame_of d.spec t.template (body_name s.at.body)) o) []) ++ 46 ∷ q.name.text))
        o) site_is
        ∙ ap (λ o. variable_at d (member_path own_site.node.path (option_map_or (λ (f : Frame). f.name) o [])
        ++ 46 ∷ q.name.text)) frame_is
        ∙ sym (ap (λ b. if b then variable (param_slot q) else Some (stepped (param_slot q))) (sym kept_is ∙ kept))
        ∙ sym (param_is q)
        ∙ found)

    -- the parameters into which the arguments go
    abbrev body_cell : BodyName → Param → Option Cell
    body_cell b q =
        slot_cell d (record { instance = s.at.instance; body = body_name b }) own_site own_frame (param_slot q)

    abbrev params_of : Option Called → List Cell
    params_of o = option_map_or (λ (c : Called). c.params) o []

    pub called_params : (c : Called) → called_by d s.at.instance s.at.body ≡ Some c →
        c.params ≡ filter_map (param_cell d s.at) task.params.items
    called_params c is =
        ap params_of (sym is)
        ∙ ap (λ b. params_of (called_by d s.at.instance b)) p.body
        ∙ ap (λ o. params_of (option_and_then (λ t. task_called d t p.index) o)) site_is
        ∙ ap (λ o. params_of (option_map (λ k. record {
          scope = record { instance = s.at.instance; body = body_name (Task p.index) };
          params = filter_map (λ q. slot_cell d (record { instance = s.at.instance; body = body_name (Task p.index) })
              own_site (task_frame d.spec (template_tree p.template) k) (param_slot q)) k.params;
          body = k.body;
        }) o)) tree_is
        ∙ ap (λ b. filter_map (body_cell b) task.params.items) (sym p.body)
        ∙ (λ i. filter_map (λ q. sym (param_is q) i) task.params.items)

    -- the number that is found of the parameter's name
    pub found_cell : (k : ℕ) (q : Param) (path : List Ident) (r : Option CellNumber) (own n : CellNumber) →
        option_map_or (λ (f : Frame). f.kept) (frame_in d s.at) false ≡ true →
        slice_get task.params.items k ≡ Some q → path ≡ q.name ∷ [] →
        option_and_then (cell_at s.tables s.at) r ≡ cell d (scope_of s.at) path None → n ≡ unwrap_or r own →
        (c : Cell) → param_cell d s.at q ≡ Some c → cell_at s.tables s.at n ≡ Some c
    found_cell k q path r own n kept is named tells chosen c found =
        by r (tells ∙ ap (λ names. cell d (scope_of s.at) names None) named ∙ kept_cell k q c kept is found) chosen
      where
        by : (r : Option CellNumber) → option_and_then (cell_at s.tables s.at) r ≡ Some c → n ≡ unwrap_or r own →
            cell_at s.tables s.at n ≡ Some c
        by None h e = absurd (none-some c h)
        by (Some m) h e = ap (cell_at s.tables s.at) e ∙ h

-- what is read at an index
pub at_index : (ps : List Param) (k : ℕ) (p q : Param) → k < length ps → p ≡ get_or ps k p →
    slice_get ps k ≡ Some q → p ≡ q
at_index [] k p q within read is = absurd (none-some q is)
at_index (x ∷ xs) zero p q within read is = let same : x ≡ q = cc in read ∙ same
at_index (x ∷ xs) (suc k) p q within read is = at_index xs k p q (omega arith) read is
