-- Where calls are in order, what a body does depends on no deeper calls than its position.
use Rattle.std.proofs.Common.{◌≡◌, ℕ, zero, suc, ◌<◌, Bool, false, Option, None, Some, List, [], ◌∷◌, length, slice_get, refl, sym, ap, ◌∙◌, subst, arith}
use Rattle.std.specs.Prelude.{◌||◌, Contains}
use Rattle.std.proofs.lemmas.Option.{none-some, same_Some}
use Rattle.std.specs.List.{list_any, flat_map}
use Rattle.std.specs.Option.{option_map, option_map_or, option_and_then}
use Rattle.tm_syntax.specs.declared.tree.Ident.{Ident}
use Rattle.tm_syntax.specs.Tree.{SpecTree, TemplateTree, TaskTree, BodyTree, LocalTree, StmtTree}
use Rattle.tm_syntax.specs.Scopes.Pauses.{value_pauses, stmt_pauses, task_reached, body_pauses}
use Rattle.tm_syntax.specs.Scopes.Crossing.{value_crosses, stmt_crosses, body_crosses}
use Rattle.tm_scope.specs.CallOrder.{IsCallOrder}
use Rattle.tm_syntax.specs.Scopes.Calls.{body_calls, numbered_task, task_number}
use Rattle.tm_syntax.specs.Scopes.Parts.{value_calls}
use Rattle.tm_scope.specs.Inner.Calls.{stmt_calls}
use Rattle.tm_scope.specs.Members.{task_at}
use Rattle.tm_syntax.specs.declared.member.Member.{Member}
use Rattle.tm_scope.proofs.BodyCalls.{body_calls-parts}
use Rattle.tm_scope.proofs.Agreement.{AgreeOn, AgreeOn-front, AgreeOn-back, value_pauses-agree, stmt_pauses-agree, value_crosses-agree, stmt_crosses-agree}
use Rattle.tm_scope.proofs.Meanings.{task_at_number}

module _ (f g : List Ident → Bool) where
  -- two tests that say the same of each call
  pub AgreeOn-all : (paths : List (List Ident)) →
      ((path : List Ident) → Contains paths path → f path ≡ g path) → AgreeOn f g paths
  AgreeOn-all [] same = tt
  AgreeOn-all (path ∷ paths) same =
      let first : 0 < length (path ∷ paths) = omega arith in (
        same path (0, first, refl),
        AgreeOn-all paths (λ p among.
            let later : suc among.0 < length (path ∷ paths) = omega (arith, among.1) in
            same p (suc among.0, later, among.2)),
      )

  locals_pause-agree : (ls : List LocalTree) → AgreeOn f g (flat_map (λ l. value_calls l.value) ls) →
      list_any (λ l. value_pauses f l.value) ls ≡ list_any (λ l. value_pauses g l.value) ls
  locals_pause-agree [] h = refl
  locals_pause-agree (l ∷ ls) h = λ i.
      value_pauses-agree f g l.value (AgreeOn-front f g (value_calls l.value)
      (flat_map (λ l. value_calls l.value) ls) h) i
      || locals_pause-agree ls (AgreeOn-back f g (value_calls l.value) (flat_map (λ l. value_calls l.value) ls) h) i

  stmts_pause-agree : (ss : List StmtTree) → AgreeOn f g (flat_map stmt_calls ss) →
      list_any (stmt_pauses f) ss ≡ list_any (stmt_pauses g) ss
  stmts_pause-agree [] h = refl
  stmts_pause-agree (s ∷ ss) h = λ i.
      stmt_pauses-agree f g s (AgreeOn-front f g (stmt_calls s) (flat_map stmt_calls ss) h) i
      || stmts_pause-agree ss (AgreeOn-back f g (stmt_calls s) (flat_map stmt_calls ss) h) i

  locals_cross-agree : (ls : List LocalTree) → AgreeOn f g (flat_map (λ l. value_calls l.value) ls) →
      list_any (λ l. value_crosses f l.value) ls ≡ list_any (λ l. value_crosses g l.value) ls
  locals_cross-agree [] h = refl
  locals_cross-agree (l ∷ ls) h = λ i.
      value_crosses-agree f g l.value (AgreeOn-front f g (value_calls l.value)
      (flat_map (λ l. value_calls l.value) ls) h) i
      || locals_cross-agree ls (AgreeOn-back f g (value_calls l.value) (flat_map (λ l. value_calls l.value) ls) h) i

  stmts_cross-agree : (ss : List StmtTree) → AgreeOn f g (flat_map stmt_calls ss) →
      list_any (stmt_crosses f) ss ≡ list_any (stmt_crosses g) ss
  stmts_cross-agree [] h = refl
  stmts_cross-agree (s ∷ ss) h = λ i.
      stmt_crosses-agree f g s (AgreeOn-front f g (stmt_calls s) (flat_map stmt_calls ss) h) i
      || stmts_cross-agree ss (AgreeOn-back f g (stmt_calls s) (flat_map stmt_calls ss) h) i

  -- a body does the same under both
  pub body_pauses-agree : (b : BodyTree) → AgreeOn f g (body_calls b) →
      (list_any (λ l. value_pauses f l.value) b.locals || list_any (stmt_pauses f) b.stmts)
      ≡ (list_any (λ l. value_pauses g l.value) b.locals || list_any (stmt_pauses g) b.stmts)
  body_pauses-agree b h =
      let by_parts = subst (AgreeOn f g) (body_calls-parts b) h in
      λ i. locals_pause-agree b.locals
      (AgreeOn-front f g (flat_map (λ l. value_calls l.value) b.locals) (flat_map stmt_calls b.stmts) by_parts) i
      || stmts_pause-agree b.stmts
      (AgreeOn-back f g (flat_map (λ l. value_calls l.value) b.locals) (flat_map stmt_calls b.stmts) by_parts) i

  pub body_crosses-agree : (b : BodyTree) → AgreeOn f g (body_calls b) →
      (list_any (λ l. value_crosses f l.value) b.locals || list_any (stmt_crosses f) b.stmts)
      ≡ (list_any (λ l. value_crosses g l.value) b.locals || list_any (stmt_crosses g) b.stmts)
  body_crosses-agree b h =
      let by_parts = subst (AgreeOn f g) (body_calls-parts b) h in
      λ i. locals_cross-agree b.locals
      (AgreeOn-front f g (flat_map (λ l. value_calls l.value) b.locals) (flat_map stmt_calls b.stmts) by_parts) i
      || stmts_cross-agree b.stmts
      (AgreeOn-back f g (flat_map (λ l. value_calls l.value) b.locals) (flat_map stmt_calls b.stmts) by_parts) i

module _ (spec : SpecTree) where
  -- the template of a task
  template_of : (m : Member) (t : TemplateTree × TaskTree) → task_at spec m ≡ Some t →
      slice_get spec.templates m.template ≡ Some t.0
  template_of m t is = by (slice_get spec.templates m.template) is
    where
      inside : (u : TemplateTree) (o : Option TaskTree) → option_map (λ k. (u, k)) o ≡ Some t → u ≡ t.0
      inside u None e = absurd (none-some t e)
      inside u (Some k) e = ap (λ p. p.0) (same_Some (u, k) t e)

      by : (o : Option TemplateTree) →
          option_and_then (λ t. option_map (λ k. (t, k)) (slice_get t.tasks m.index)) o ≡ Some t → o ≡ Some t.0
      by None e = absurd (none-some t e)
      by (Some u) e = ap (λ u. Some u) (inside u (slice_get u.tasks m.index) e)

  -- what a path of a task reaches is the task of its number
  pub reached : (m : Member) (t : TemplateTree × TaskTree) (path : List Ident) → task_at spec m ≡ Some t →
      task_reached spec t.0 path ≡ option_and_then (task_at spec) (task_number spec m.template path)
  reached m t path is =
      sym (task_at_number spec path m.template
      ∙ ap (option_and_then (λ t. task_reached spec t path)) (template_of m t is))

  -- such a task is the one of its number
  pub numbered : (m : Member) (t : TemplateTree × TaskTree) → task_at spec m ≡ Some t →
      numbered_task spec m ≡ Some t.1
  numbered m t is = by (slice_get spec.templates m.template) is
    where
      inside : (u : TemplateTree) (o : Option TaskTree) → option_map (λ k. (u, k)) o ≡ Some t → o ≡ Some t.1
      inside u None e = absurd (none-some t e)
      inside u (Some k) e = ap (λ p. Some p.1) (same_Some (u, k) t e)

      by : (o : Option TemplateTree) →
          option_and_then (λ t. option_map (λ k. (t, k)) (slice_get t.tasks m.index)) o ≡ Some t →
          option_and_then (λ t. slice_get t.tasks m.index) o ≡ Some t.1
      by None e = absurd (none-some t e)
      by (Some u) e = inside u (slice_get u.tasks m.index) e

  -- two tests of bodies say the same of a call, where they do of what stands before the caller
  same_call : (order : List Member) → IsCallOrder spec order → (f g : TemplateTree × TaskTree → Bool)
      (k : ℕ) (m : Member) (t : TemplateTree × TaskTree) →
      ((j : ℕ) (c : Member) (u : TemplateTree × TaskTree) → j < k → slice_get order j ≡ Some c →
      task_at spec c ≡ Some u → f u ≡ g u) →
      slice_get order k ≡ Some m → task_at spec m ≡ Some t → (path : List Ident) →
      Contains (body_calls t.1.body) path →
      option_map_or f (task_reached spec t.0 path) false ≡ option_map_or g (task_reached spec t.0 path) false
  same_call order ordered f g k m t earlier at is path among = by (task_number spec m.template path) refl
    where
      of_task : (c : Member) → task_number spec m.template path ≡ Some c → (o : Option (TemplateTree × TaskTree)) →
          task_at spec c ≡ o → option_map_or f o false ≡ option_map_or g o false
      of_task c leads None there = refl
      of_task c leads (Some u) there =
          let before : (j : ℕ) × (j < k) × (slice_get order j ≡ Some c) =
          ordered.behind k m c at
          (record { task = t.1; path = path; is = numbered m t is; calls = among; leads = leads }) in
          earlier before.0 c u before.1 before.2 there

      by : (o : Option Member) → task_number spec m.template path ≡ o →
          option_map_or f (task_reached spec t.0 path) false ≡ option_map_or g (task_reached spec t.0 path) false
      by None leads =
          let nowhere : task_reached spec t.0 path ≡ None =
          reached m t path is ∙ ap (option_and_then (task_at spec)) leads in
          ap (λ o. option_map_or f o false) nowhere ∙ sym (ap (λ o. option_map_or g o false) nowhere)
      by (Some c) leads =
          let there : task_reached spec t.0 path ≡ task_at spec c =
          reached m t path is ∙ ap (option_and_then (task_at spec)) leads in
          ap (λ o. option_map_or f o false) there ∙ of_task c leads (task_at spec c) refl
          ∙ sym (ap (λ o. option_map_or g o false) there)

  module _ (order : List Member) (ordered : IsCallOrder spec order) where
    -- a body at position k pauses at one depth beyond k exactly where it does at another
    pub settled_pauses : (n k d e : ℕ) (m : Member) (t : TemplateTree × TaskTree) → k < n → k < d → k < e →
        slice_get order k ≡ Some m → task_at spec m ≡ Some t →
        body_pauses d spec t.0 t.1.body ≡ body_pauses e spec t.0 t.1.body
    settled_pauses zero k d e m t below deep deeper at is = absurd (omega arith)
    settled_pauses (suc n) k zero e m t below deep deeper at is = absurd (omega arith)
    settled_pauses (suc n) k (suc d) zero m t below deep deeper at is = absurd (omega arith)
    settled_pauses (suc n) k (suc d) (suc e) m t below deep deeper at is =
        body_pauses-agree
        (λ path. option_map_or (λ k. body_pauses d spec k.0 k.1.body) (task_reached spec t.0 path) false)
        (λ path. option_map_or (λ k. body_pauses e spec k.0 k.1.body) (task_reached spec t.0 path) false) t.1.body
        (AgreeOn-all
        (λ path. option_map_or (λ k. body_pauses d spec k.0 k.1.body) (task_reached spec t.0 path) false)
        (λ path. option_map_or (λ k. body_pauses e spec k.0 k.1.body) (task_reached spec t.0 path) false)
        (body_calls t.1.body)
        (same_call order ordered (λ k. body_pauses d spec k.0 k.1.body) (λ k. body_pauses e spec k.0 k.1.body) k m t
        (λ j c u before. settled_pauses n j d e c u (omega arith) (omega arith) (omega arith)) at is))

    -- likewise where it is sure to cross
    pub settled_crosses : (n k d e : ℕ) (m : Member) (t : TemplateTree × TaskTree) → k < n → k < d → k < e →
        slice_get order k ≡ Some m → task_at spec m ≡ Some t →
        body_crosses d spec t.0 t.1.body ≡ body_crosses e spec t.0 t.1.body
    settled_crosses zero k d e m t below deep deeper at is = absurd (omega arith)
    settled_crosses (suc n) k zero e m t below deep deeper at is = absurd (omega arith)
    settled_crosses (suc n) k (suc d) zero m t below deep deeper at is = absurd (omega arith)
    settled_crosses (suc n) k (suc d) (suc e) m t below deep deeper at is =
        body_crosses-agree
        (λ path. option_map_or (λ k. body_crosses d spec k.0 k.1.body) (task_reached spec t.0 path) false)
        (λ path. option_map_or (λ k. body_crosses e spec k.0 k.1.body) (task_reached spec t.0 path) false) t.1.body
        (AgreeOn-all
        (λ path. option_map_or (λ k. body_crosses d spec k.0 k.1.body) (task_reached spec t.0 path) false)
        (λ path. option_map_or (λ k. body_crosses e spec k.0 k.1.body) (task_reached spec t.0 path) false)
        (body_calls t.1.body)
        (same_call order ordered (λ k. body_crosses d spec k.0 k.1.body) (λ k. body_crosses e spec k.0 k.1.body) k m t
        (λ j c u before. settled_crosses n j d e c u (omega arith) (omega arith) (omega arith)) at is))
