-- Where calls are in order, the locations of a body depend on no deeper calls than there are tasks in the order.
use Rattle.std.proofs.Common.{◌≡◌, ℕ, zero, suc, ◌<◌, ◌≤◌, Option, None, Some, List, [], ◌∷◌, ◌++◌, length, slice_get, refl, sym, ap, ◌∙◌, subst, arith}
use Rattle.std.specs.Prelude.{Contains}
use Rattle.std.proofs.lemmas.Option.{none-some, slice_get_within}
use Rattle.std.specs.List.{AllByRecursion, flat_map}
use Rattle.std.specs.Option.{option_map, option_map_or, option_and_then}
use Rattle.tm_base.specs.declared.place.Place.{Place}
use Rattle.tm_syntax.specs.declared.member.Member.{Member}
use Rattle.tm_syntax.specs.declared.tree.Ident.{Ident}
use Rattle.tm_syntax.specs.Tree.{StmtTree, assign, invoke, branch, repeat, forever, choose, assert, assume, pause, wait, magic, StmtRow, nothing, then, row_of, BlockRow, nowhere, or_else, BodyTree, LocalTree, TaskTree, TemplateTree}
use Rattle.tm_syntax.specs.Scopes.Calls.{body_calls, numbered_task, task_number}
use Rattle.tm_syntax.specs.Scopes.Parts.{body_stmts, value_calls}
use Rattle.tm_syntax.specs.Scopes.Pauses.{task_reached}
use Rattle.tm_syntax.specs.Design.{DesignTree}
use Rattle.tm_syntax.specs.Design.Cells.{Called, called}
use Rattle.tm_syntax.specs.Design.Locations.{Location, stmt_locations, row_locations, block_locations, body_locations}
use Rattle.tm_syntax.specs.Design.Scope.{Scope, Site, site}
use Rattle.tm_syntax.specs.Design.Work.{WorkItem, perform, performs, call_place}
use Rattle.tm_scope.specs.CallOrder.{CoversTasks, IsCallOrder}
use Rattle.tm_scope.specs.Inner.Calls.{stmt_calls, row_calls, block_calls}
use Rattle.tm_scope.specs.Members.{task_at}
use Rattle.tm_scope.proofs.BodyCalls.{body_calls-parts}
use Rattle.tm_scope.proofs.CallOrders.{numbered, reached}
use Rattle.tm_typing.proofs.Fitting.{all_of_both}
use Rattle.tm_locations.specs.Locations.{LeadsByText}
use Rattle.tm_locations.proofs.CalledBodies.{IsCalled, called-is, reached-by_text, site-template}
use Rattle.tm_locations.proofs.QuietBodies.{locals-quiet}

-- what holds of each item that a list contains holds of all
all-contained : {X : Type 0} (P : X → Type 0) (xs : List X) → ((x : X) → Contains xs x → P x) → AllByRecursion P xs
all-contained P [] each = tt
all-contained P (x ∷ xs) each =
    let first : 0 < length (x ∷ xs) = omega arith in (
      each x (0, first, refl),
      all-contained P xs (λ y among.
          let later : suc among.0 < length (x ∷ xs) = omega (arith, among.1) in
          each y (suc among.0, later, among.2)),
    )

module _ (f g : List Ident → List WorkItem → List Location) (scope : Scope) (trail : List Place) where
  -- two readings of calls say the same of a path
  abbrev Same : List Ident → Type 0
  Same path = (left : List WorkItem) → f path left ≡ g path left

  mutual
    stmt-same : (s : StmtTree) (after : List WorkItem) → AllByRecursion Same (stmt_calls s) →
        stmt_locations f scope trail s after ≡ stmt_locations g scope trail s after
    stmt-same (assign _ _ _) after h = refl
    stmt-same (invoke path _) after h = h.0 after
    stmt-same (branch _ a b) after h =
        let parts = all_of_both Same (row_calls a) (row_calls b) h in
        λ i. row-same a after parts.0 i ++ row-same b after parts.1 i
    stmt-same (repeat at e body) after h = row-same body (perform scope trail (repeat at e body) ∷ after) h
    stmt-same (forever at body) after h = row-same body (perform scope trail (forever at body) ∷ after) h
    stmt-same (choose _ blocks) after h = block-same blocks after h
    stmt-same (assert _ _) after h = refl
    stmt-same (assume _ _) after h = refl
    stmt-same (pause _) after h = refl
    stmt-same (wait _ _) after h = refl
    stmt-same (magic _) after h = refl

    row-same : (r : StmtRow) (after : List WorkItem) → AllByRecursion Same (row_calls r) →
        row_locations f scope trail r after ≡ row_locations g scope trail r after
    row-same nothing after h = refl
    row-same (then first others) after h =
        let parts = all_of_both Same (stmt_calls first) (row_calls others) h in
        λ i. stmt-same first (performs scope trail others ++ after) parts.0 i ++ row-same others after parts.1 i

    block-same : (bs : BlockRow) (after : List WorkItem) → AllByRecursion Same (block_calls bs) →
        block_locations f scope trail bs after ≡ block_locations g scope trail bs after
    block-same nowhere after h = refl
    block-same (or_else first others) after h =
        let parts = all_of_both Same (row_calls first) (block_calls others) h in
        λ i. row-same first after parts.0 i ++ block-same others after parts.1 i

  stmts-same : (ss : List StmtTree) (after : List WorkItem) → AllByRecursion Same (flat_map stmt_calls ss) →
      row_locations f scope trail (row_of ss) after ≡ row_locations g scope trail (row_of ss) after
  stmts-same [] after h = refl
  stmts-same (s ∷ ss) after h =
      let parts = all_of_both Same (stmt_calls s) (flat_map stmt_calls ss) h in
      λ i. stmt-same s (performs scope trail (row_of ss) ++ after) parts.0 i ++ stmts-same ss after parts.1 i

  -- a body has the same locations under both
  body-same : (body : BodyTree) (after : List WorkItem) →
      ((path : List Ident) → Contains (body_calls body) path → Same path) →
      row_locations f scope trail (row_of (body_stmts body)) after
      ≡ row_locations g scope trail (row_of (body_stmts body)) after
  body-same body after each =
      let calls = flat_map (λ (l : LocalTree). value_calls l.value) body.locals in
      let all : AllByRecursion Same (calls ++ flat_map stmt_calls body.stmts) =
      subst (AllByRecursion Same) (body_calls-parts body) (all-contained Same (body_calls body) each) in
      locals-quiet f scope trail body.locals body.stmts after
      ∙ stmts-same body.stmts after (all_of_both Same calls (flat_map stmt_calls body.stmts) all).1
      ∙ sym (locals-quiet g scope trail body.locals body.stmts after)

-- a member that an option leads to
leads-some : {X Y : Type 0} (f : X → Option Y) (y : Y) (o : Option X) → option_and_then f o ≡ Some y →
    (x : X) × (o ≡ Some x) × (f x ≡ Some y)
leads-some f y None e = absurd (none-some y e)
leads-some f y (Some x) e = (x, refl, e)

module _ (d : DesignTree) (order : List Member) (by_text : LeadsByText d) (ordered : IsCallOrder d.spec order) where
  -- the locations of what a path calls, where calls nest so deep
  abbrev at_depth : ℕ → Scope → List Place → List Ident → List WorkItem → List Location
  at_depth depth scope trail path left =
      option_map_or (λ (callee : Called).
      body_locations depth d callee.scope (call_place path ++ trail) callee.body left) (called d scope path) []

  -- the tasks before a position of the order have the same locations at these two depths
  abbrev AreSettled : ℕ → ℕ → ℕ → Type 0
  AreSettled k m n =
      (j : ℕ) (a : Member) (t : TemplateTree × TaskTree) → j < k → slice_get order j ≡ Some a →
      task_at d.spec a ≡ Some t → (scope : Scope) (s : Site) → site d scope.instance ≡ Some s → s.template ≡ t.0 →
      (trail : List Place) (after : List WorkItem) →
      body_locations m d scope trail t.1.body after ≡ body_locations n d scope trail t.1.body after

  -- so has a call of one
  settled-call : (k m n : ℕ) → AreSettled k m n → (scope : Scope) (s : Site) → site d scope.instance ≡ Some s →
      (path : List Ident) →
      ((c : Called) (is : IsCalled d s path c) →
      (j : ℕ) × (a : Member) × (j < k) × (slice_get order j ≡ Some a)
      × (task_at d.spec a ≡ Some (is.at.template, is.task))) →
      (trail : List Place) (left : List WorkItem) →
      at_depth m scope trail path left ≡ at_depth n scope trail path left
  settled-call k m n settled scope s there path before trail left = by (called d scope path) refl
    where
      by : (o : Option Called) → called d scope path ≡ o →
          option_map_or (λ (callee : Called).
          body_locations m d callee.scope (call_place path ++ trail) callee.body left) o []
          ≡ option_map_or (λ (callee : Called).
          body_locations n d callee.scope (call_place path ++ trail) callee.body left) o []
      by None e = refl
      by (Some c) e =
          let is : IsCalled d s path c = called-is d scope s there path c e in
          let at = before c is in
          ap (λ body. body_locations m d c.scope (call_place path ++ trail) body left) is.body
          ∙ settled at.0 at.1 (is.at.template, is.task) at.2 at.3 at.4 c.scope is.at
          (ap (site d) is.instance ∙ is.there) refl (call_place path ++ trail) left
          ∙ ap (λ body. body_locations n d c.scope (call_place path ++ trail) body left) (sym is.body)

  -- what a task of the order calls stands before it
  stands-before : (k : ℕ) (a : Member) (t : TemplateTree × TaskTree) → slice_get order k ≡ Some a →
      task_at d.spec a ≡ Some t → (n : ℕ) (s : Site) → site d n ≡ Some s → s.template ≡ t.0 → (path : List Ident) →
      Contains (body_calls t.1.body) path → (c : Called) (is : IsCalled d s path c) →
      (j : ℕ) × (b : Member) × (j < k) × (slice_get order j ≡ Some b)
      × (task_at d.spec b ≡ Some (is.at.template, is.task))
  stands-before k a t at task n s there same path among c is =
      let reaches : option_and_then (task_at d.spec) (task_number d.spec a.template path)
      ≡ Some (is.at.template, is.task) =
      sym (reached d.spec a t path task) ∙ ap (λ u. task_reached d.spec u path) (sym same)
      ∙ reached-by_text d by_text n s there path c is in
      let to = leads-some (task_at d.spec) (is.at.template, is.task) (task_number d.spec a.template path) reaches in
      let before = ordered.behind k a to.0 at
      (record { task = t.1; path = path; is = numbered d.spec a t task; calls = among; leads = to.1 }) in
      (before.0, to.0, before.1, before.2, to.2)

  -- a task of the order has the same locations at each depth beyond its position
  settled-tasks : (k m n : ℕ) → k ≤ m → k ≤ n → AreSettled k m n
  settled-tasks zero m n deep deeper = λ j a t before at task scope s there same trail after.
      absurd (omega (arith, before))
  settled-tasks (suc k) zero n deep deeper = absurd (omega (arith, deep))
  settled-tasks (suc k) (suc m) zero deep deeper = absurd (omega (arith, deeper))
  settled-tasks (suc k) (suc m) (suc n) deep deeper = λ j a t before at task scope s there same trail after.
      body-same (at_depth m scope trail) (at_depth n scope trail) scope trail t.1.body after
      (λ path among. settled-call j m n
      (λ i b u below. settled-tasks k m n (omega (arith, deep)) (omega (arith, deeper)) i b u
      (omega (arith, below, before)))
      scope s there path (stands-before j a t at task scope.instance s there same path among) trail)

  module _ (covers : CoversTasks d.spec order) where
    -- what a path calls stands in the order
    stands-somewhere : (s : Site) (path : List Ident) (c : Called) (is : IsCalled d s path c) →
        (j : ℕ) × (b : Member) × (j < length order) × (slice_get order j ≡ Some b)
        × (task_at d.spec b ≡ Some (is.at.template, is.task))
    stands-somewhere s path c is =
        let b : Member = record { template = is.at.node.template; index = is.number } in
        let here = site-template d is.at.number is.at is.there in
        let task : numbered_task d.spec b ≡ Some is.task =
        ap (option_and_then (λ (t : TemplateTree). slice_get t.tasks is.number)) here ∙ is.is in
        let place = covers b is.task task in (
          place.0,
          b,
          slice_get_within order place.0 b place.1,
          place.1,
          ap (option_and_then (λ (t : TemplateTree). option_map (λ k. (t, k)) (slice_get t.tasks is.number))) here
              ∙ ap (option_map (λ k. (is.at.template, k))) is.is,
        )

    pub settled-bodies : (m n : ℕ) → length order ≤ m → length order ≤ n → (scope : Scope) (s : Site) →
        site d scope.instance ≡ Some s → (trail : List Place) (body : BodyTree) (after : List WorkItem) →
        body_locations (suc m) d scope trail body after ≡ body_locations (suc n) d scope trail body after
    settled-bodies m n deep deeper scope s there trail body after =
        body-same (at_depth m scope trail) (at_depth n scope trail) scope trail body after
        (λ path among. settled-call (length order) m n (settled-tasks (length order) m n deep deeper) scope s there path
        (stands-somewhere s path) trail)

pub settled : (d : DesignTree) (order : List Member) → LeadsByText d → IsCallOrder d.spec order →
    CoversTasks d.spec order → (m n : ℕ) → length order ≤ m → length order ≤ n → (scope : Scope) (s : Site) →
    site d scope.instance ≡ Some s → (trail : List Place) (body : BodyTree) (after : List WorkItem) →
    body_locations (suc m) d scope trail body after ≡ body_locations (suc n) d scope trail body after
settled d order by_text ordered covers = settled-bodies d order by_text ordered covers
