-- Where calls are in order, what is read of a body depends on no deeper calls than there are tasks in the order.
use Rattle.std.proofs.Common.{◌≡◌, ℕ, zero, suc, ◌<◌, ◌≤◌, Option, None, Some, List, [], ◌∷◌, length, slice_get, refl, sym, ap, ◌∙◌, arith}
use Rattle.std.specs.Prelude.{Contains}
use Rattle.std.proofs.lemmas.Option.{slice_get_within}
use Rattle.std.specs.List.{AllByRecursion}
use Rattle.std.specs.Option.{option_map, option_map_or, option_and_then}
use Rattle.tm_syntax.specs.declared.member.Member.{Member}
use Rattle.tm_syntax.specs.declared.tree.Ident.{Ident}
use Rattle.tm_syntax.specs.Tree.{BodyTree, TaskTree, TemplateTree}
use Rattle.tm_syntax.specs.Scopes.Calls.{body_calls, numbered_task, task_number}
use Rattle.tm_syntax.specs.Scopes.Pauses.{task_reached}
use Rattle.tm_syntax.specs.Design.{DesignTree}
use Rattle.tm_syntax.specs.Design.Cells.{Called, called, task_called}
use Rattle.tm_syntax.specs.Design.Scope.{Scope, Site, site}
use Rattle.tm_scope.specs.CallOrder.{CoversTasks, IsCallOrder}
use Rattle.tm_scope.specs.Instances.{task_called_at}
use Rattle.tm_scope.specs.Members.{task_at}
use Rattle.tm_scope.specs.declared.members.SiteTask.{SiteTask}
use Rattle.tm_scope.proofs.CallOrders.{numbered, reached}
use Rattle.tm_locations.specs.Locations.{LeadsByText}
use Rattle.tm_locations.proofs.CalledBodies.{IsCalled, called-is, made, reached-by_text, site-number, site-template}
use Rattle.tm_atoms.proofs.TaskSites.{called-in, leads-some, mapped}

-- what holds of each item that a list contains holds of all
all-contained : {X : Type 0} (P : X → Type 0) (xs : List X) → ((x : X) → Contains xs x → P x) → AllByRecursion P xs
all-contained P [] each = tt
all-contained P (x ∷ xs) each =
    let first : 0 < length (x ∷ xs) = omega arith in (
      each x (0, first, refl),
      all-contained P xs (λ y among.
          let later : suc among.0 < length (x ∷ xs) = omega (arith, among.1) in
          each y (suc among.0, later, among.2)),
    )

module _ {A : Type 0} (d : DesignTree) (read : ℕ → Scope → BodyTree → A) (none : A) where
  -- what is read of what a path calls
  abbrev pub read_call : ℕ → Scope → List Ident → A
  read_call depth scope path = option_map_or (λ (k : Called). read depth k.scope k.body) (called d scope path) none

  -- what is read of a body at two depths is the same where it is of all that the body calls
  abbrev pub ReadsByCalls : Type 0
  ReadsByCalls =
      (m n : ℕ) (scope : Scope) (body : BodyTree) →
      AllByRecursion (λ path. read_call m scope path ≡ read_call n scope path) (body_calls body) →
      read (suc m) scope body ≡ read (suc n) scope body

  module _ (by_calls : ReadsByCalls) (order : List Member) (by_text : LeadsByText d)
      (ordered : IsCallOrder d.spec order) where
    -- the tasks before a position of the order are read the same at these two depths
    abbrev AreSettled : ℕ → ℕ → ℕ → Type 0
    AreSettled k m n =
        (j : ℕ) (a : Member) (t : TemplateTree × TaskTree) → j < k → slice_get order j ≡ Some a →
        task_at d.spec a ≡ Some t → (scope : Scope) (s : Site) → site d scope.instance ≡ Some s → s.template ≡ t.0 →
        read m scope t.1.body ≡ read n scope t.1.body

    -- so is a call of one
    settled-call : (k m n : ℕ) → AreSettled k m n → (scope : Scope) (s : Site) → site d scope.instance ≡ Some s →
        (path : List Ident) →
        ((c : Called) (is : IsCalled d s path c) →
        (j : ℕ) × (a : Member) × (j < k) × (slice_get order j ≡ Some a)
        × (task_at d.spec a ≡ Some (is.at.template, is.task))) →
        read_call m scope path ≡ read_call n scope path
    settled-call k m n settled scope s there path before = by (called d scope path) refl
      where
        by : (o : Option Called) → called d scope path ≡ o →
            option_map_or (λ (c : Called). read m c.scope c.body) o none
            ≡ option_map_or (λ (c : Called). read n c.scope c.body) o none
        by None e = refl
        by (Some c) e =
            let is : IsCalled d s path c = called-is d scope s there path c e in
            let at = before c is in
            ap (read m c.scope) is.body
            ∙ settled at.0 at.1 (is.at.template, is.task) at.2 at.3 at.4 c.scope is.at
            (ap (site d) is.instance ∙ is.there) refl
            ∙ ap (read n c.scope) (sym is.body)

    -- what a task of the order calls stands before it
    stands-before : (k : ℕ) (a : Member) (t : TemplateTree × TaskTree) → slice_get order k ≡ Some a →
        task_at d.spec a ≡ Some t → (n : ℕ) (s : Site) → site d n ≡ Some s → s.template ≡ t.0 → (path : List Ident) →
        Contains (body_calls t.1.body) path → (c : Called) (is : IsCalled d s path c) →
        (j : ℕ) × (b : Member) × (j < k) × (slice_get order j ≡ Some b)
        × (task_at d.spec b ≡ Some (is.at.template, is.task))
    stands-before k a t at task n s there same path among c is =
        let reaches : option_and_then (task_at d.spec) (task_number d.spec a.template path)
        ≡ Some (is.at.template, is.task) =
        sym (reached d.spec a t path task) ∙ ap (λ u. task_reached d.spec u path) (sym same)
        ∙ reached-by_text d by_text n s there path c is in
        let to = leads-some (task_at d.spec) (task_number d.spec a.template path) (is.at.template, is.task) reaches in
        let before = ordered.behind k a to.0 at
        (record { task = t.1; path = path; is = numbered d.spec a t task; calls = among; leads = to.1 }) in
        (before.0, to.0, before.1, before.2, to.2)

    -- a task of the order is read the same at each depth beyond its position
    settled-tasks : (k m n : ℕ) → k ≤ m → k ≤ n → AreSettled k m n
    settled-tasks zero m n deep deeper = λ j a t before at task scope s there same. absurd (omega (arith, before))
    settled-tasks (suc k) zero n deep deeper = absurd (omega (arith, deep))
    settled-tasks (suc k) (suc m) zero deep deeper = absurd (omega (arith, deeper))
    settled-tasks (suc k) (suc m) (suc n) deep deeper = λ j a t before at task scope s there same.
        by_calls m n scope t.1.body
        (all-contained (λ path. read_call m scope path ≡ read_call n scope path) (body_calls t.1.body) (λ path among.
        settled-call j m n
        (λ i b u below. settled-tasks k m n (omega (arith, deep)) (omega (arith, deeper)) i b u
        (omega (arith, below, before)))
        scope s there path (stands-before j a t at task scope.instance s there same path among)))

    -- a task of an instance is read the same at each depth beyond the order
    pub settled-body : CoversTasks d.spec order → (m n : ℕ) → length order ≤ m → length order ≤ n → (task : SiteTask)
        (k : Called) → task_called_at d task ≡ Some k → read m k.scope k.body ≡ read n k.scope k.body
    settled-body covers m n deep deeper task k there =
        let of_site = leads-some (λ (s : Site). task_called d s task.index) (site d task.instance) k there in
        let s : Site = of_site.0 in
        let def = mapped (made d s task.index) (slice_get s.template.tasks task.index) k of_site.2 in
        let b : Member = record { template = s.node.template; index = task.index } in
        let here = site-template d task.instance s of_site.1 in
        let is : numbered_task d.spec b ≡ Some def.0 =
        ap (option_and_then (λ (t : TemplateTree). slice_get t.tasks task.index)) here ∙ def.2 in
        let at : task_at d.spec b ≡ Some (s.template, def.0) =
        ap (option_and_then (λ (t : TemplateTree). option_map (λ k. (t, k)) (slice_get t.tasks task.index))) here
        ∙ ap (option_map (λ k. (s.template, k))) def.2 in
        let place = covers b def.0 is in
        let body : k.body ≡ def.0.body = ap (λ (c : Called). c.body) (sym def.1) in
        ap (read m k.scope) body
        ∙ settled-tasks (length order) m n deep deeper place.0 b (s.template, def.0)
        (slice_get_within order place.0 b place.1) place.1 at k.scope s
        (ap (site d) (called-in d s task.index k of_site.2) ∙ site-number d task.instance s of_site.1) refl
        ∙ ap (read n k.scope) (sym body)
