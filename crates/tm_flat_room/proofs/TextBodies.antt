-- The bodies of the instances of a design stand in its text, and each path that they call leads to a task.
use Rattle.std.proofs.Common.{◌≡◌, ◌⊎◌, inl, inr, ℕ, suc, Bool, Option, None, Some, List, [], ◌∷◌, map, length, find, position, slice_get, refl, sym, ap, ◌∙◌, arith}
use Rattle.std.specs.Prelude.{Contains}
use Rattle.std.proofs.lemmas.Option.{none-some, same_Some}
use Rattle.std.specs.List.{AllByRecursion, enumerate_from}
use Rattle.std.specs.Option.{option_map, option_and_then}
use Rattle.tm_syntax.specs.declared.tree.Ident.{Ident}
use Rattle.tm_syntax.specs.Tree.{star, result, plain, StmtTree, assign, invoke, branch, repeat, forever, choose, assert, assume, pause, wait, magic, BodyTree, ProcessTree, TaskTree, TemplateTree}
use Rattle.tm_syntax.specs.Scopes.Names.{is_spelled, last_name}
use Rattle.tm_syntax.specs.Scopes.Calls.{body_calls}
use Rattle.tm_syntax.specs.Scopes.Context.{process_body, task_body, Context}
use Rattle.tm_syntax.specs.Scopes.Parts.{BodyAt, process_body_at, task_body_at, template_bodies, bodies, stmts_in, own_calls}
use Rattle.tm_syntax.specs.Scopes.Pauses.{task_reached}
use Rattle.tm_syntax.specs.Faults.{IsTyped, IsSound, IsOfText}
use Rattle.tm_syntax.specs.Design.{DesignTree}
use Rattle.tm_syntax.specs.Design.Scope.{Scope, Site, site, site_along}
use Rattle.tm_syntax.specs.Design.Cells.{called, task_called}
use Rattle.tm_scope.proofs.Positions.{find-position}
use Rattle.tm_typing.specs.Statements.{StmtResolves, HasCallee}
use Rattle.tm_typing.proofs.Listed.{In, first_of, later_of, is_first_or_later, holds_in, in_get, in_front, in_behind, in_map, in_flat, of_flat}
use Rattle.tm_typing.proofs.Sound.{checked}
use Rattle.tm_typing.proofs.Statements.{bodies_resolve}
use Rattle.tm_locations.specs.Locations.{LeadsByText}
use Rattle.tm_locations.proofs.CalledBodies.{made, site-number, site-template, along-number}
use Rattle.tm_locations.proofs.TextLeads.{sound_leads}
use Rattle.tm_design.proofs.Indices.{in_enumerated}

pub contained : {A : Type 0} {x : A} (xs : List A) → In x xs → Contains xs x
contained _ (first_of {xs = xs}) = (0, omega arith, refl)
contained _ (later_of {y = y} {xs = xs} i) =
    let rest = contained xs i in (suc rest.0, omega (arith, rest.1), rest.2)

-- what an option leads to
pub leads_some : {X Y : Type 0} (f : X → Option Y) (y : Y) (o : Option X) → option_and_then f o ≡ Some y →
    (x : X) × (o ≡ Some x) × (f x ≡ Some y)
leads_some f y None e = absurd (none-some y e)
leads_some f y (Some x) e = (x, refl, e)

-- a task or procedure with the template that declares it
abbrev pub Reached : Type 0
Reached = TemplateTree × TaskTree

abbrev pub with_task : TemplateTree → TaskTree → Reached
with_task t k = (t, k)

-- a path that a statement calls leads to a task or procedure
pub record HasSomeCallee (c : Context) (path : List Ident) : Type 0 where
  pub template : TemplateTree
  pub task : TaskTree
  pub is : task_reached c.spec c.template path ≡ Some (with_task template task)

some_callee : (c : Context) (p path : List Ident) (n : ℕ) → HasCallee c p n → In path (p ∷ []) → HasSomeCallee c path
some_callee c p path n callee i = by (is_first_or_later [] i)
  where
    by : (p ≡ path) ⊎ In path [] → HasSomeCallee c path
    by (inl same) = record {
      template = callee.template;
      task = callee.task;
      is = ap (task_reached c.spec c.template) (sym same) ∙ callee.is;
    }
    by (inr none) = elim none [ ]

callee_of : (c : Context) (s : StmtTree) (path : List Ident) → StmtResolves c s → In path (own_calls s) →
    HasSomeCallee c path
callee_of c (assign names index (star _)) path resolves i = elim i [ ]
callee_of c (assign names index (plain _)) path resolves i = elim i [ ]
callee_of c (assign names index (result p es)) path resolves i =
    some_callee c p path (length es) resolves.1.callee i
callee_of c (invoke p es) path resolves i = some_callee c p path (length es) resolves i
callee_of c (branch _ _ _) path resolves i = elim i [ ]
callee_of c (repeat _ _ _) path resolves i = elim i [ ]
callee_of c (forever _ _) path resolves i = elim i [ ]
callee_of c (choose _ _) path resolves i = elim i [ ]
callee_of c (assert _ _) path resolves i = elim i [ ]
callee_of c (assume _ _) path resolves i = elim i [ ]
callee_of c (pause _) path resolves i = elim i [ ]
callee_of c (wait _ _) path resolves i = elim i [ ]
callee_of c (magic _) path resolves i = elim i [ ]

module _ (d : DesignTree) where
  -- what a path from an instance calls
  pub record Found (scope : Scope) (s : Site) (path : List Ident) (t : TemplateTree) (task : TaskTree) : Type 0 where
    pub at : Site
    pub number : ℕ
    pub there : site d at.number ≡ Some at
    pub template : at.template ≡ t
    pub along : site_along d s path ≡ Some at
    pub first : position (λ (task : TaskTree). is_spelled (last_name path) task.name) at.template.tasks ≡ Some number
    pub is : slice_get at.template.tasks number ≡ Some task
    pub calls : called d scope path ≡ Some (made d at number task)

  abbrev pub spelled : List Ident → TaskTree → Bool
  spelled path task = is_spelled (last_name path) task.name

  module _ (by_text : LeadsByText d) (scope : Scope) (s : Site) (there : site d scope.instance ≡ Some s)
      (path : List Ident) (t : TemplateTree) (task : TaskTree) where
    of_number : (u : Site) → site_along d s path ≡ Some u → u.template ≡ t → (o : Option ℕ) →
        position (spelled path) u.template.tasks ≡ o →
        option_and_then (slice_get u.template.tasks) o ≡ Some task → Found scope s path t task
    of_number u along same None first e = absurd (none-some task e)
    of_number u along same (Some k) first e = record {
      at = u;
      number = k;
      there = along-number d path s u (site-number d scope.instance s there) along;
      template = same;
      along = along;
      first = first;
      is = e;
      calls =
          ap (option_and_then (λ at. option_and_then (λ v. option_and_then (task_called d v)
          (position (spelled path) v.template.tasks)) (site_along d at path))) there
          ∙ ap (option_and_then (λ v. option_and_then (task_called d v) (position (spelled path) v.template.tasks)))
          along
          ∙ ap (option_and_then (task_called d u)) first
          ∙ ap (option_map (made d u k)) e;
    }

    of_task : (u : Site) → site_along d s path ≡ Some u → (o : Option TaskTree) →
        find (spelled path) u.template.tasks ≡ o → option_map (with_task u.template) o ≡ Some (with_task t task) →
        Found scope s path t task
    of_task u along None first e = absurd (none-some (with_task t task) e)
    of_task u along (Some k) first e =
        let same : with_task u.template k ≡ with_task t task =
        same_Some (with_task u.template k) (with_task t task) e in
        of_number u along (ap (λ (p : Reached). p.0) same) (position (spelled path) u.template.tasks) refl
        (sym (find-position (spelled path) u.template.tasks) ∙ first ∙ ap (λ (p : Reached). Some p.1) same)

    of_site : (o : Option Site) → site_along d s path ≡ o →
        option_and_then (λ u. option_map (with_task u) (find (spelled path) u.tasks))
        (option_map (λ (v : Site). v.template) o) ≡ Some (with_task t task) → Found scope s path t task
    of_site None along e = absurd (none-some (with_task t task) e)
    of_site (Some u) along e = of_task u along (find (spelled path) u.template.tasks) refl e

    pub found : task_reached d.spec s.template path ≡ Some (with_task t task) → Found scope s path t task
    found e =
        of_site (site_along d s path) refl
        (ap (option_and_then (λ (u : TemplateTree). option_map (with_task u) (find (spelled path) u.tasks)))
        (by_text scope.instance s path there) ∙ e)

module _ (d : DesignTree) (sound : IsSound d) (of : IsOfText d.spec) where
  pub typed : IsTyped d.spec
  typed = checked d sound of

  pub leads : LeadsByText d
  leads = sound_leads d sound

  -- a body of an instance stands in the text
  pub record IsBody (scope : Scope) (s : Site) (body : BodyTree) : Type 0 where
    pub there : site d scope.instance ≡ Some s
    pub template : In s.template d.spec.templates
    pub is : In (record {
      context = record { spec = d.spec; template = s.template; body = scope.body };
      body = body;
    }) (bodies d.spec)

  template_in : (n : ℕ) (s : Site) → site d n ≡ Some s → In s.template d.spec.templates
  template_in n s there = in_get d.spec.templates s.node.template (site-template d n s there)

  pub task_is : (s : Site) (k : ℕ) (task : TaskTree) → site d s.number ≡ Some s →
      slice_get s.template.tasks k ≡ Some task →
      IsBody (record { instance = s.number; body = task_body k }) s task.body
  task_is s k task there at = record {
    there = there;
    template = template_in s.number s there;
    is = in_flat (template_bodies d.spec) d.spec.templates (template_in s.number s there)
        (in_behind (map (process_body_at d.spec s.template) (enumerate_from 0 s.template.processes))
        (map (task_body_at d.spec s.template) (enumerate_from 0 s.template.tasks))
        (in_map (task_body_at d.spec s.template) (enumerate_from 0 s.template.tasks)
        (in_enumerated s.template.tasks k at)));
  }

  pub process_is : (s : Site) (k : ℕ) (p : ProcessTree) → site d s.number ≡ Some s →
      slice_get s.template.processes k ≡ Some p →
      IsBody (record { instance = s.number; body = process_body k }) s p.body
  process_is s k p there at = record {
    there = there;
    template = template_in s.number s there;
    is = in_flat (template_bodies d.spec) d.spec.templates (template_in s.number s there)
        (in_front (map (process_body_at d.spec s.template) (enumerate_from 0 s.template.processes))
        (map (task_body_at d.spec s.template) (enumerate_from 0 s.template.tasks))
        (in_map (process_body_at d.spec s.template) (enumerate_from 0 s.template.processes)
        (in_enumerated s.template.processes k at)));
  }

  module _ (scope : Scope) (s : Site) (body : BodyTree) (at : IsBody scope s body) where
    abbrev pub this : BodyAt
    this = record { context = record { spec = d.spec; template = s.template; body = scope.body }; body = body }

    -- each path that it calls leads to a task
    pub has_callee : (path : List Ident) → In path (body_calls body) →
        (t : TemplateTree) × (task : TaskTree) × (task_reached d.spec s.template path ≡ Some (with_task t task))
    has_callee path i =
        let from = of_flat own_calls (stmts_in body) i in
        let resolves = holds_in (StmtResolves this.context) (stmts_in body)
        (holds_in (λ (b : BodyAt). AllByRecursion (StmtResolves b.context) (stmts_in b.body)) (bodies d.spec)
        (bodies_resolve d.spec typed) at.is) from.1 in
        let callee = callee_of this.context from.0 path resolves from.2 in
        (callee.template, callee.task, callee.is)
