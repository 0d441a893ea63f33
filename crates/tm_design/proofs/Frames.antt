-- The bodies of a template and their parameters and locals, where no name is declared twice: each is told by its name.
use Rattle.std.proofs.Common.{◌≡◌, ℕ, Option, None, Some, List, [], ◌++◌, ◌⊎◌, inl, inr, append_assoc, refl, sym, ap, ◌∙◌, subst, map}
use Rattle.std.specs.Prelude.{slice_get}
use Rattle.std.specs.Option.{option_map, option_map_or}
use Rattle.std.specs.List.{flat_map, enumerate_from}
use Rattle.tm_syntax.specs.declared.tree.Param.{Param}
use Rattle.tm_syntax.specs.Tokens.{IsWordLike}
use Rattle.tm_syntax.specs.Tree.{BodyTree, InstanceTree, LocalTree, ProcessTree, TaskTree, TemplateTree, SpecTree}
use Rattle.tm_syntax.specs.Scopes.Context.{BodyName, process_body, task_body, outside, Slot, param_slot, local_slot, Frame, process_frame, task_frame, frame_of}
use Rattle.tm_syntax.specs.Scopes.Declared.{a_slot, a_task, a_part, Declared, declared, members, slots, locals, task_slots, text_names}
use Rattle.tm_syntax.specs.Scopes.Parts.{BodyAt, process_body_at, task_body_at, template_bodies, bodies}
use Rattle.tm_syntax.specs.Faults.Marks.{Mark}
use Rattle.tm_syntax.specs.Faults.Names.{repeats, names_twice}
use Rattle.tm_typing.proofs.Fitting.{both_empty}
use Rattle.tm_typing.proofs.Listed.{In, in_front, in_behind, in_either, in_map, of_map, in_flat, in_get, holds_in, none_of, one_thing, no_thing}
use Rattle.tm_typing.proofs.Words.{IsWord, LocalWords, ProcessWords, TaskWords, TemplateWords}
use Rattle.tm_design.proofs.Indices.{in_enumerated}
use Rattle.tm_design.proofs.Once.{behind_once, apart, one_of_name}
use Rattle.tm_design.proofs.Parts.{spelled_alike, processes_of, tasks_of, same_processes, same_tasks, process_or_task, instance_or_body}

-- a parameter or local, as it is declared
abbrev declared_param : Param → Declared
declared_param p = declared a_slot p.name

abbrev declared_local : LocalTree → Declared
declared_local l = declared a_slot l.name

param_name : (p : Param) (s : Slot) → param_slot p ≡ s → p.name.text ≡ s.name
param_name p s is = ap (λ (s : Slot). s.name) is

local_name : (l : LocalTree) (s : Slot) → local_slot l ≡ s → l.name.text ≡ s.name
local_name l s is = ap (λ (s : Slot). s.name) is

same_locals : (ls : List LocalTree) (behind : List Declared) (r s : Slot) →
    repeats (map declared_local ls ++ behind) ≡ [] → In r (map local_slot ls) → In s (map local_slot ls) →
    r.name ≡ s.name → r ≡ s
same_locals ls behind r s once i j same =
    let l = of_map local_slot ls i in
    let m = of_map local_slot ls j in
    sym l.2
    ∙ ap local_slot (one_of_name (λ (l : LocalTree). l.name) (λ _. a_slot) ls behind l.0 m.0 once l.1 m.1
    (spelled_alike l.0.name m.0.name (local_name l.0 r l.2 ∙ same ∙ sym (local_name m.0 s m.2))))
    ∙ m.2

same_params : (ps : List Param) (behind : List Declared) (r s : Slot) →
    repeats (map declared_param ps ++ behind) ≡ [] → In r (map param_slot ps) → In s (map param_slot ps) →
    r.name ≡ s.name → r ≡ s
same_params ps behind r s once i j same =
    let p = of_map param_slot ps i in
    let q = of_map param_slot ps j in
    sym p.2
    ∙ ap param_slot (one_of_name (λ (p : Param). p.name) (λ _. a_slot) ps behind p.0 q.0 once p.1 q.1
    (spelled_alike p.0.name q.0.name (param_name p.0 r p.2 ∙ same ∙ sym (param_name q.0 s q.2))))
    ∙ q.2

param_or_local : {X : Type 0} (ps : List Param) (ls : List LocalTree) (behind : List Declared) (r s : Slot) →
    repeats (map declared_param ps ++ (map declared_local ls ++ behind)) ≡ [] → In r (map param_slot ps) →
    In s (map local_slot ls) → r.name ≡ s.name → X
param_or_local ps ls behind r s once i j same =
    let p = of_map param_slot ps i in
    let l = of_map local_slot ls j in
    apart (declared_param p.0) (declared_local l.0) (map declared_param ps) (map declared_local ls ++ behind) once
    (in_map declared_param ps p.1) (in_front (map declared_local ls) behind (in_map declared_local ls l.1))
    (spelled_alike p.0.name l.0.name (param_name p.0 r p.2 ∙ same ∙ sym (local_name l.0 s l.2)))

same_task_slots : (task : TaskTree) (behind : List Declared) (r s : Slot) →
    repeats (task_slots task ++ behind) ≡ [] →
    In r (map param_slot task.params ++ map local_slot task.body.locals) →
    In s (map param_slot task.params ++ map local_slot task.body.locals) → r.name ≡ s.name → r ≡ s
same_task_slots task behind r s once i j same =
    by (in_either (map param_slot task.params) (map local_slot task.body.locals) i)
    (in_either (map param_slot task.params) (map local_slot task.body.locals) j)
  where
    whole : repeats (map declared_param task.params ++ (map declared_local task.body.locals ++ behind)) ≡ []
    whole =
        ap repeats (sym (append_assoc (map declared_param task.params) (map declared_local task.body.locals) behind))
        ∙ once

    by : In r (map param_slot task.params) ⊎ In r (map local_slot task.body.locals) →
        In s (map param_slot task.params) ⊎ In s (map local_slot task.body.locals) → r ≡ s
    by (inl k) (inl l) = same_params task.params (map declared_local task.body.locals ++ behind) r s whole k l same
    by (inl k) (inr l) = param_or_local task.params task.body.locals behind r s whole k l same
    by (inr k) (inl l) = param_or_local task.params task.body.locals behind s r whole l k (sym same)
    by (inr k) (inr l) =
        same_locals task.body.locals behind r s
        (behind_once (map declared_param task.params) (map declared_local task.body.locals ++ behind) whole) k l same

-- of each two declarations of a body and its template that have one name, the later one
abbrev body_repeats : BodyAt → List Mark
body_repeats b = repeats (slots b.context.template b.context.body ++ members b.context.template)

bodies_once : (spec : SpecTree) → names_twice spec ≡ [] → flat_map body_repeats (bodies spec) ≡ []
bodies_once spec once =
    (both_empty (repeats (text_names spec) ++ flat_map (λ (t : TemplateTree). repeats (members t)) spec.templates)
    (flat_map body_repeats (bodies spec)) once).1

module _ (spec : SpecTree) (t : TemplateTree) where
  -- a body, by its name
  pub data IsFrame (f : Frame) : BodyName → Type 0 where
    of_process : {k : ℕ} (p : ProcessTree) → slice_get t.processes k ≡ Some p → process_frame p ≡ f →
        IsFrame f (process_body k)
    of_task : {k : ℕ} (task : TaskTree) → slice_get t.tasks k ≡ Some task → task_frame spec t task ≡ f →
        IsFrame f (task_body k)

  pub is_frame : (body : BodyName) (f : Frame) → frame_of spec t body ≡ Some f → IsFrame f body
  is_frame outside f e = no_thing e
  is_frame (process_body k) f e = by (slice_get t.processes k) refl e
    where
      by : (o : Option ProcessTree) → slice_get t.processes k ≡ o → option_map process_frame o ≡ Some f →
          IsFrame f (process_body k)
      by None at is = no_thing is
      by (Some p) at is = of_process p at (one_thing refl is)
  is_frame (task_body k) f e = by (slice_get t.tasks k) refl e
    where
      by : (o : Option TaskTree) → slice_get t.tasks k ≡ o → option_map (task_frame spec t) o ≡ Some f →
          IsFrame f (task_body k)
      by None at is = no_thing is
      by (Some task) at is = of_task task at (one_thing refl is)

  process_of_name : (p : ProcessTree) (f : Frame) → process_frame p ≡ f → p.name.text ≡ f.name
  process_of_name p f is = ap (λ (f : Frame). f.name) is

  task_of_name : (k : TaskTree) (f : Frame) → task_frame spec t k ≡ f → k.name.text ≡ f.name
  task_of_name k f is = ap (λ (f : Frame). f.name) is

  -- the parameters and locals of a body are declared there
  pub slot_declared : (body : BodyName) (f : Frame) (s : Slot) → IsFrame f body → In s f.slots →
      (d : Declared) × In d (slots t body) × (d.name.text ≡ s.name)
  slot_declared _ f s (of_process {k = k} p at is) i =
      let l = of_map local_slot p.body.locals (subst (λ (f : Frame). In s f.slots) (sym is) i) in (
        declared a_slot l.0.name,
        subst (λ o. In (declared a_slot l.0.name) (option_map_or (λ (p : ProcessTree). locals p.body) o [])) (sym at)
            (in_map (λ (l : LocalTree). declared a_slot l.name) p.body.locals l.1),
        ap (λ (s : Slot). s.name) l.2,
      )
  slot_declared _ f s (of_task {k = k} task at is) i =
      by (in_either (map param_slot task.params) (map local_slot task.body.locals)
      (subst (λ (f : Frame). In s f.slots) (sym is) i))
    where
      there : (d : Declared) → In d (task_slots task) → In d (slots t (task_body k))
      there d j = subst (λ o. In d (option_map_or task_slots o [])) (sym at) j

      by : In s (map param_slot task.params) ⊎ In s (map local_slot task.body.locals) →
          (d : Declared) × In d (slots t (task_body k)) × (d.name.text ≡ s.name)
      by (inl j) =
          let p = of_map param_slot task.params j in (
            declared a_slot p.0.name,
            there (declared a_slot p.0.name)
                (in_front (map (λ (p : Param). declared a_slot p.name) task.params) (locals task.body)
                (in_map (λ (p : Param). declared a_slot p.name) task.params p.1)),
            ap (λ (s : Slot). s.name) p.2,
          )
      by (inr j) =
          let l = of_map local_slot task.body.locals j in (
            declared a_slot l.0.name,
            there (declared a_slot l.0.name)
                (in_behind (map (λ (p : Param). declared a_slot p.name) task.params) (locals task.body)
                (in_map (λ (l : LocalTree). declared a_slot l.name) task.body.locals l.1)),
            ap (λ (s : Slot). s.name) l.2,
          )

  module _ (once : repeats (members t) ≡ []) where
    -- two bodies of one name are one
    pub same_frames : (a b : BodyName) (f g : Frame) → IsFrame f a → IsFrame g b → f.name ≡ g.name → f ≡ g
    same_frames _ _ f g (of_process p at is) (of_process q there be) same =
        sym is
        ∙ ap process_frame (same_processes t once p q (in_get t.processes _ at) (in_get t.processes _ there)
        (process_of_name p f is ∙ same ∙ sym (process_of_name q g be)))
        ∙ be
    same_frames _ _ f g (of_task k at is) (of_task l there be) same =
        sym is
        ∙ ap (task_frame spec t) (same_tasks t once k l (in_get t.tasks _ at) (in_get t.tasks _ there)
        (task_of_name k f is ∙ same ∙ sym (task_of_name l g be)))
        ∙ be
    same_frames _ _ f g (of_process p at is) (of_task k there be) same =
        process_or_task t once p k (in_get t.processes _ at) (in_get t.tasks _ there)
        (process_of_name p f is ∙ same ∙ sym (task_of_name k g be))
    same_frames _ _ f g (of_task k at is) (of_process p there be) same =
        process_or_task t once p k (in_get t.processes _ there) (in_get t.tasks _ at)
        (process_of_name p g be ∙ sym same ∙ sym (task_of_name k f is))

    -- no instance has the name of a body
    pub instance_or_frame : {X : Type 0} (i : InstanceTree) (body : BodyName) (f : Frame) → In i t.instances →
        IsFrame f body → i.name.text ≡ f.name → X
    instance_or_frame i _ f at (of_process p there is) same =
        instance_or_body t once i (declared a_part p.name) at
        (in_front (processes_of t) (tasks_of t)
        (in_map (λ (p : ProcessTree). declared a_part p.name) t.processes (in_get t.processes _ there)))
        (same ∙ sym (process_of_name p f is))
    instance_or_frame i _ f at (of_task k there is) same =
        instance_or_body t once i (declared a_task k.name) at
        (in_behind (processes_of t) (tasks_of t)
        (in_map (λ (k : TaskTree). declared a_task k.name) t.tasks (in_get t.tasks _ there)))
        (same ∙ sym (task_of_name k f is))

  -- two parameters or locals of one name are one
  pub same_slots : (body : BodyName) (f : Frame) (r s : Slot) → repeats (slots t body ++ members t) ≡ [] →
      IsFrame f body → In r f.slots → In s f.slots → r.name ≡ s.name → r ≡ s
  same_slots _ f r s once (of_process {k = k} p at is) i j same =
      same_locals p.body.locals (members t) r s
      (subst (λ o. repeats (option_map_or (λ (p : ProcessTree). locals p.body) o [] ++ members t) ≡ []) at once)
      (subst (λ (f : Frame). In r f.slots) (sym is) i) (subst (λ (f : Frame). In s f.slots) (sym is) j) same
  same_slots _ f r s once (of_task {k = k} task at is) i j same =
      same_task_slots task (members t) r s
      (subst (λ o. repeats (option_map_or task_slots o [] ++ members t) ≡ []) at once)
      (subst (λ (f : Frame). In r f.slots) (sym is) i) (subst (λ (f : Frame). In s f.slots) (sym is) j) same

  -- a body of a template of the text declares no name twice, nor one of the template
  pub body_once : (body : BodyName) (f : Frame) → names_twice spec ≡ [] → In t spec.templates → IsFrame f body →
      repeats (slots t body ++ members t) ≡ []
  body_once _ f once here (of_process {k = k} p at is) =
      none_of body_repeats (bodies spec) (bodies_once spec once)
      (in_flat (template_bodies spec) spec.templates here
      (in_front (map (process_body_at spec t) (enumerate_from 0 t.processes))
      (map (task_body_at spec t) (enumerate_from 0 t.tasks))
      (in_map (process_body_at spec t) (enumerate_from 0 t.processes) (in_enumerated t.processes k at))))
  body_once _ f once here (of_task {k = k} task at is) =
      none_of body_repeats (bodies spec) (bodies_once spec once)
      (in_flat (template_bodies spec) spec.templates here
      (in_behind (map (process_body_at spec t) (enumerate_from 0 t.processes))
      (map (task_body_at spec t) (enumerate_from 0 t.tasks))
      (in_map (task_body_at spec t) (enumerate_from 0 t.tasks) (in_enumerated t.tasks k at))))

  -- the names of a body, its parameters and its locals are words
  pub frame_word : (body : BodyName) (f : Frame) → TemplateWords t → IsFrame f body → IsWordLike f.name
  frame_word _ f words (of_process p at is) =
      subst IsWordLike (process_of_name p f is)
      (holds_in ProcessWords t.processes words.processes (in_get t.processes _ at)).name
  frame_word _ f words (of_task k at is) =
      subst IsWordLike (task_of_name k f is) (holds_in TaskWords t.tasks words.tasks (in_get t.tasks _ at)).name

  local_word : (b : BodyTree) (s : Slot) → LocalWords b → In s (map local_slot b.locals) → IsWordLike s.name
  local_word b s words i =
      let l = of_map local_slot b.locals i in
      subst (λ (s : Slot). IsWordLike s.name) l.2
      (holds_in (λ (l : LocalTree). IsWord l.name) b.locals words l.1)

  pub slot_word : (body : BodyName) (f : Frame) (s : Slot) → TemplateWords t → IsFrame f body → In s f.slots →
      IsWordLike s.name
  slot_word _ f s words (of_process p at is) i =
      local_word p.body s (holds_in ProcessWords t.processes words.processes (in_get t.processes _ at)).locals
      (subst (λ (f : Frame). In s f.slots) (sym is) i)
  slot_word _ f s words (of_task k at is) i =
      by (holds_in TaskWords t.tasks words.tasks (in_get t.tasks _ at))
      (in_either (map param_slot k.params) (map local_slot k.body.locals)
      (subst (λ (f : Frame). In s f.slots) (sym is) i))
    where
      by : TaskWords k → In s (map param_slot k.params) ⊎ In s (map local_slot k.body.locals) → IsWordLike s.name
      by all (inl j) =
          let p = of_map param_slot k.params j in
          subst (λ (s : Slot). IsWordLike s.name) p.2
          (holds_in (λ (p : Param). IsWord p.name) k.params all.params p.1)
      by all (inr j) = local_word k.body s all.locals j

  -- so no body does, nor what stands outside of all bodies
  pub each_body_once : (body : BodyName) → names_twice spec ≡ [] → In t spec.templates → repeats (members t) ≡ [] →
      repeats (slots t body ++ members t) ≡ []
  each_body_once outside twice here once = once
  each_body_once (process_body k) twice here once = by (slice_get t.processes k) refl
    where
      by : (o : Option ProcessTree) → slice_get t.processes k ≡ o → repeats (slots t (process_body k) ++ members t) ≡ []
      by None at =
          subst (λ o. repeats (option_map_or (λ (p : ProcessTree). locals p.body) o [] ++ members t) ≡ []) (sym at) once
      by (Some p) at = body_once (process_body k) (process_frame p) twice here (of_process p at refl)
  each_body_once (task_body k) twice here once = by (slice_get t.tasks k) refl
    where
      by : (o : Option TaskTree) → slice_get t.tasks k ≡ o → repeats (slots t (task_body k) ++ members t) ≡ []
      by None at = subst (λ o. repeats (option_map_or task_slots o [] ++ members t) ≡ []) (sym at) once
      by (Some task) at = body_once (task_body k) (task_frame spec t task) twice here (of_task task at refl)
