-- Where each variable of a design comes from: a declaration of an instance's template, or a parameter or local of a
-- body that is kept.
use Rattle.std.proofs.Common.{◌≡◌, ℕ, ◌<◌, Bool, true, false, Option, None, Some, List, [], ◌∷◌, ◌++◌, ◌⊎◌, inl, inr, refl, sym, ap, ◌∙◌, subst, map, cond, arith}
use Rattle.std.specs.Prelude.{slice_get}
use Rattle.std.specs.Option.{option_map, option_to_list}
use Rattle.std.specs.Fmt.{decimal}
use Rattle.std.specs.List.{flat_map, enumerate_from, range_with_len}
use Rattle.tm_syntax.specs.declared.design.Var.{Var}
use Rattle.tm_syntax.specs.declared.tree.Num.{Num}
use Rattle.tm_syntax.specs.declared.tree.Param.{Param}
use Rattle.tm_syntax.specs.Tree.{LocalTree, VarTree, ProcessTree, TaskTree, TemplateTree, SpecTree}
use Rattle.tm_syntax.specs.Scopes.Names.{number_of, type_of}
use Rattle.tm_syntax.specs.Scopes.Pauses.{is_kept}
use Rattle.tm_syntax.specs.Scopes.Context.{BodyName, process_body, task_body, Slot, param_slot, local_slot, Frame, process_frame, task_frame}
use Rattle.tm_syntax.specs.Design.{InstanceNode, member_path, literal_value, element_paths, declared_vars, kept_var, process_vars, task_vars, template_of, instance_vars}
use Rattle.tm_typing.proofs.Listed.{In, first_of, later_of, in_front, in_behind, in_either, in_map, of_map, in_flat, of_flat, in_get, in_option}
use Rattle.tm_design.proofs.Frames.{IsFrame, of_process, of_task}
use Rattle.tm_design.proofs.Indices.{index_of, in_enumerated, of_enumerated, in_range}
use Rattle.tm_design.proofs.Sites.{IsSite}

module _ (spec : SpecTree) (ns : List InstanceNode) where
  -- what a variable is declared as, in the template of an instance
  pub data Holder (n : InstanceNode) (t : TemplateTree) (v : Var) : Type 0 where
    a_variable : (w : VarTree) → In w t.vars → w.size ≡ None → v.path ≡ member_path n.path w.name.text →
        v.ty ≡ type_of w.ty → Holder n t v
    an_element : (w : VarTree) → In w t.vars → (size : Num) → w.size ≡ Some size → (index : ℕ) →
        index < number_of size → v.path ≡ member_path n.path w.name.text ++ 46 ∷ decimal index →
        v.ty ≡ type_of w.ty → Holder n t v
    a_slot : (body : BodyName) (f : Frame) → IsFrame spec t f body → (s : Slot) → In s f.slots →
        v.path ≡ member_path n.path f.name ++ 46 ∷ s.name → v.ty ≡ s.ty → Holder n t v

  -- and of which instance
  pub record IsHeldVar (v : Var) : Type 0 where
    pub at : ℕ
    pub node : InstanceNode
    pub template : TemplateTree
    pub site : IsSite spec ns at node template
    pub holder : Holder node template v

  -- the variables of an instance's template, of its processes and of its tasks
  abbrev held_vars : ℕ → List ℕ → TemplateTree → List Var
  held_vars i base t =
      flat_map (declared_vars spec i base) t.vars
      ++ flat_map (process_vars i base) t.processes
      ++ flat_map (task_vars spec t i base) t.tasks

  -- the variable of a path that a declaration gives
  abbrev declared_var : ℕ → VarTree → List ℕ → Var
  declared_var i w path =
      record { path = path; ty = type_of w.ty; init = option_map (literal_value spec) w.init; instance = i }

  module _ (i : ℕ) (n : InstanceNode) (t : TemplateTree) where
    declared_holder : (v : Var) (w : VarTree) → In w t.vars → In v (declared_vars spec i n.path w) → Holder n t v
    declared_holder v w at there =
        let found = of_map (declared_var i w) (element_paths w.size (member_path n.path w.name.text)) there in
        by found.0 w.size refl found.1 (ap (λ (v : Var). v.path) (sym found.2)) (ap (λ (v : Var). v.ty) (sym found.2))
      where
        of_element : (p : List ℕ) (size : Num) → w.size ≡ Some size →
            In p (map (λ k. member_path n.path w.name.text ++ 46 ∷ decimal k) (range_with_len 0 (number_of size))) →
            v.path ≡ p → v.ty ≡ type_of w.ty → Holder n t v
        of_element p size is among path ty =
            let k = of_map (λ k. member_path n.path w.name.text ++ 46 ∷ decimal k)
            (range_with_len 0 (number_of size)) among in
            let below = in_range (number_of size) 0 k.0 k.1 in
            an_element w at size is k.0 (omega (arith, below)) (path ∙ sym k.2) ty

        of_variable : w.size ≡ None → (p : List ℕ) → In p (member_path n.path w.name.text ∷ []) →
            v.path ≡ p → v.ty ≡ type_of w.ty → Holder n t v
        of_variable is p first_of path ty = a_variable w at is path ty
        of_variable is p (later_of j) path ty = elim j [ ]

        by : (p : List ℕ) (o : Option Num) → w.size ≡ o →
            In p (element_paths o (member_path n.path w.name.text)) → v.path ≡ p → v.ty ≡ type_of w.ty → Holder n t v
        by p None is among path ty = of_variable is p among path ty
        by p (Some size) is among path ty = of_element p size is among path ty

    locals_holder : (v : Var) (name : List ℕ) (ls : List LocalTree) →
        In v (map (λ (l : LocalTree). kept_var i (member_path n.path name) l.ty l.name) ls) →
        (l : LocalTree) × In l ls × (v.path ≡ member_path n.path name ++ 46 ∷ l.name.text) × (v.ty ≡ type_of l.ty)
    locals_holder v name ls there =
        let l = of_map (λ (l : LocalTree). kept_var i (member_path n.path name) l.ty l.name) ls there in
        (l.0, l.1, ap (λ (v : Var). v.path) (sym l.2), ap (λ (v : Var). v.ty) (sym l.2))

    process_holder : (v : Var) (p : ProcessTree) → In p t.processes → In v (process_vars i n.path p) → Holder n t v
    process_holder v p at there =
        let l = locals_holder v p.name.text p.body.locals there in
        let k = index_of t.processes at in
        a_slot (process_body k.0) (process_frame p) (of_process p k.1 refl) (local_slot l.0)
        (in_map local_slot p.body.locals l.1) l.2 l.3

    task_holder : (v : Var) (task : TaskTree) → In task t.tasks → In v (task_vars spec t i n.path task) → Holder n t v
    task_holder v task at there = by (is_kept spec t task) there
      where
        either : In v (map (λ (p : Param). kept_var i (member_path n.path task.name.text) p.ty p.name) task.params)
            ⊎ In v (map (λ (l : LocalTree). kept_var i (member_path n.path task.name.text) l.ty l.name)
            task.body.locals) → Holder n t v
        either (inl j) =
            let p = of_map (λ (p : Param). kept_var i (member_path n.path task.name.text) p.ty p.name) task.params j in
            let k = index_of t.tasks at in
            a_slot (task_body k.0) (task_frame spec t task) (of_task task k.1 refl) (param_slot p.0)
            (in_front (map param_slot task.params) (map local_slot task.body.locals)
            (in_map param_slot task.params p.1))
            (ap (λ (v : Var). v.path) (sym p.2)) (ap (λ (v : Var). v.ty) (sym p.2))
        either (inr j) =
            let l = locals_holder v task.name.text task.body.locals j in
            let k = index_of t.tasks at in
            a_slot (task_body k.0) (task_frame spec t task) (of_task task k.1 refl) (local_slot l.0)
            (in_behind (map param_slot task.params) (map local_slot task.body.locals)
            (in_map local_slot task.body.locals l.1)) l.2 l.3

        by : (b : Bool) → In v (cond b
            (map (λ (p : Param). kept_var i (member_path n.path task.name.text) p.ty p.name) task.params
            ++ map (λ (l : LocalTree). kept_var i (member_path n.path task.name.text) l.ty l.name) task.body.locals)
            []) → Holder n t v
        by true j =
            either (in_either
            (map (λ (p : Param). kept_var i (member_path n.path task.name.text) p.ty p.name) task.params)
            (map (λ (l : LocalTree). kept_var i (member_path n.path task.name.text) l.ty l.name) task.body.locals) j)
        by false j = elim j [ ]

    template_holder : (v : Var) → In v (held_vars i n.path t) → Holder n t v
    template_holder v there =
        by (in_either (flat_map (declared_vars spec i n.path) t.vars ++ flat_map (process_vars i n.path) t.processes)
        (flat_map (task_vars spec t i n.path) t.tasks) there)
      where
        of_first : In v (flat_map (declared_vars spec i n.path) t.vars)
            ⊎ In v (flat_map (process_vars i n.path) t.processes) → Holder n t v
        of_first (inl j) =
            let w = of_flat (declared_vars spec i n.path) t.vars j in declared_holder v w.0 w.1 w.2
        of_first (inr j) =
            let p = of_flat (process_vars i n.path) t.processes j in process_holder v p.0 p.1 p.2

        by : In v (flat_map (declared_vars spec i n.path) t.vars ++ flat_map (process_vars i n.path) t.processes)
            ⊎ In v (flat_map (task_vars spec t i n.path) t.tasks) → Holder n t v
        by (inl j) =
            of_first (in_either (flat_map (declared_vars spec i n.path) t.vars)
            (flat_map (process_vars i n.path) t.processes) j)
        by (inr j) =
            let k = of_flat (task_vars spec t i n.path) t.tasks j in task_holder v k.0 k.1 k.2

  -- the variables of all instances
  abbrev pub vars_of_all : List Var
  vars_of_all = flat_map (instance_vars spec) (enumerate_from 0 ns)

  pub held_var : (v : Var) → In v vars_of_all → IsHeldVar v
  held_var v there =
      let i = of_flat (instance_vars spec) (enumerate_from 0 ns) there in
      let t = of_flat (λ t. held_vars i.0.0 i.0.1.path t) (template_of spec i.0.1) i.2 in
      record {
        at = i.0.0;
        node = i.0.1;
        template = t.0;
        site = record {
          node = of_enumerated ns i.0 i.1;
          template = in_option (slice_get spec.templates i.0.1.template) t.1;
        };
        holder = template_holder i.0.0 i.0.1 t.0 v t.2;
      }

  -- a variable of this path
  abbrev pub IsThere : List ℕ → Type 0
  IsThere path = (v : Var) × In v vars_of_all × (v.path ≡ path)

  -- each variable that is declared is there
  module _ (k : ℕ) (n : InstanceNode) (t : TemplateTree) (site : IsSite spec ns k n t) where
    there : (v : Var) → In v (held_vars k n.path t) → In v vars_of_all
    there v i =
        in_flat (instance_vars spec) (enumerate_from 0 ns) (in_enumerated ns k site.node)
        (in_flat (λ t. held_vars k n.path t) (template_of spec n)
        (subst (λ o. In t (option_to_list o)) (sym site.template) first_of) i)

    pub variable_there : (w : VarTree) → In w t.vars → w.size ≡ None → IsThere (member_path n.path w.name.text)
    variable_there w at none =
        let path = member_path n.path w.name.text in (
          declared_var k w path,
          there (declared_var k w path)
              (in_front (flat_map (declared_vars spec k n.path) t.vars ++ flat_map (process_vars k n.path) t.processes)
              (flat_map (task_vars spec t k n.path) t.tasks)
              (in_front (flat_map (declared_vars spec k n.path) t.vars) (flat_map (process_vars k n.path) t.processes)
              (in_flat (declared_vars spec k n.path) t.vars at
              (subst (λ o. In (declared_var k w path) (map (declared_var k w) (element_paths o path))) (sym none)
              first_of)))),
          refl,
        )

    local_there : (name : List ℕ) (ls : List LocalTree) (s : Slot) → In s (map local_slot ls) →
        (v : Var) × In v (map (λ (l : LocalTree). kept_var k (member_path n.path name) l.ty l.name) ls)
        × (v.path ≡ member_path n.path name ++ 46 ∷ s.name)
    local_there name ls s i =
        let l = of_map local_slot ls i in (
          kept_var k (member_path n.path name) l.0.ty l.0.name,
          in_map (λ (l : LocalTree). kept_var k (member_path n.path name) l.ty l.name) ls l.1,
          ap (λ (s : Slot). member_path n.path name ++ 46 ∷ s.name) l.2,
        )

    of_kept_task : (task : TaskTree) (s : Slot) → In s (map param_slot task.params ++ map local_slot task.body.locals) →
        (v : Var) × In v (map (λ (p : Param). kept_var k (member_path n.path task.name.text) p.ty p.name) task.params
        ++ map (λ (l : LocalTree). kept_var k (member_path n.path task.name.text) l.ty l.name) task.body.locals)
        × (v.path ≡ member_path n.path task.name.text ++ 46 ∷ s.name)
    of_kept_task task s i = by (in_either (map param_slot task.params) (map local_slot task.body.locals) i)
      where
        by : In s (map param_slot task.params) ⊎ In s (map local_slot task.body.locals) →
            (v : Var)
            × In v (map (λ (p : Param). kept_var k (member_path n.path task.name.text) p.ty p.name) task.params
            ++ map (λ (l : LocalTree). kept_var k (member_path n.path task.name.text) l.ty l.name) task.body.locals)
            × (v.path ≡ member_path n.path task.name.text ++ 46 ∷ s.name)
        by (inl j) =
            let p = of_map param_slot task.params j in (
              kept_var k (member_path n.path task.name.text) p.0.ty p.0.name,
              in_front (map (λ (p : Param). kept_var k (member_path n.path task.name.text) p.ty p.name) task.params)
                  (map (λ (l : LocalTree). kept_var k (member_path n.path task.name.text) l.ty l.name)
                  task.body.locals)
                  (in_map (λ (p : Param). kept_var k (member_path n.path task.name.text) p.ty p.name) task.params p.1),
              ap (λ (s : Slot). member_path n.path task.name.text ++ 46 ∷ s.name) p.2,
            )
        by (inr j) =
            let l = local_there task.name.text task.body.locals s j in (
              l.0,
              in_behind (map (λ (p : Param). kept_var k (member_path n.path task.name.text) p.ty p.name) task.params)
                  (map (λ (l : LocalTree). kept_var k (member_path n.path task.name.text) l.ty l.name)
                  task.body.locals) l.1,
              l.2,
            )

    pub slot_there : (body : BodyName) (f : Frame) (s : Slot) → IsFrame spec t f body → f.kept ≡ true →
        In s f.slots → IsThere (member_path n.path f.name ++ 46 ∷ s.name)
    slot_there _ f s (of_process {k = index} p at is) kept i =
        let v = local_there p.name.text p.body.locals s (subst (λ (f : Frame). In s f.slots) (sym is) i) in (
          v.0,
          there v.0
              (in_front (flat_map (declared_vars spec k n.path) t.vars ++ flat_map (process_vars k n.path) t.processes)
              (flat_map (task_vars spec t k n.path) t.tasks)
              (in_behind (flat_map (declared_vars spec k n.path) t.vars) (flat_map (process_vars k n.path) t.processes)
              (in_flat (process_vars k n.path) t.processes (in_get t.processes index at) v.1))),
          v.2 ∙ ap (λ (f : Frame). member_path n.path f.name ++ 46 ∷ s.name) is,
        )
    slot_there _ f s (of_task {k = index} task at is) kept i =
        let v = of_kept_task task s (subst (λ (f : Frame). In s f.slots) (sym is) i) in
        let keeps : is_kept spec t task ≡ true = ap (λ (f : Frame). f.kept) is ∙ kept in (
          v.0,
          there v.0
              (in_behind (flat_map (declared_vars spec k n.path) t.vars ++ flat_map (process_vars k n.path) t.processes)
              (flat_map (task_vars spec t k n.path) t.tasks)
              (in_flat (task_vars spec t k n.path) t.tasks (in_get t.tasks index at)
              (subst (λ b. In v.0 (cond b
              (map (λ (p : Param). kept_var k (member_path n.path task.name.text) p.ty p.name) task.params
              ++ map (λ (l : LocalTree). kept_var k (member_path n.path task.name.text) l.ty l.name) task.body.locals)
              [])) (sym keeps) v.1))),
          v.2 ∙ ap (λ (f : Frame). member_path n.path f.name ++ 46 ∷ s.name) is,
        )
