-- The bodies that paths call, by the numbers of their tasks; and what is counted over bodies to a depth of calls.
use Rattle.std.proofs.Common.{◌≡◌, ℕ, zero, suc, ◌<◌, Option, None, Some, List, position, slice_get, refl, sym, ap, ◌∙◌, arith}
use Rattle.std.specs.Prelude.{Contains}
use Rattle.std.specs.Option.{option_and_then, option_map, option_map_or}
use Rattle.std.proofs.lemmas.Option.{none-some, same_Some}
use Rattle.tm_syntax.specs.declared.member.Member.{Member}
use Rattle.tm_syntax.specs.declared.tree.Ident.{Ident}
use Rattle.tm_syntax.specs.Tree.{SpecTree, TemplateTree, TaskTree}
use Rattle.tm_syntax.specs.Scopes.Calls.{body_calls, callee, number_along, task_number}
use Rattle.tm_syntax.specs.Scopes.Context.{BodyName}
use Rattle.tm_syntax.specs.Scopes.Names.{is_spelled, last_name, template_along}
use Rattle.tm_syntax.specs.Scopes.Parts.{BodyAt, task_body_at}
use Rattle.tm_scope.specs.CallOrder.{IsCallOrder}
use Rattle.tm_scope.specs.Context.{template_at}
use Rattle.tm_scope.specs.Members.{task_at}
use Rattle.tm_scope.proofs.CallOrders.{numbered}
use Rattle.tm_scope.proofs.Numbers.{template_at_number_along}
use Rattle.tm_limits.specs.TaskBodies.{numbered_body}

module _ (spec : SpecTree) where
  -- a task of a template, as a body
  abbrev of_task : TemplateTree → ℕ → Option BodyAt
  of_task u k = option_map (λ task. task_body_at spec u (k, task)) (slice_get u.tasks k)

  -- the body that a name means in a template
  abbrev called : List Ident → TemplateTree → Option BodyAt
  called path u = option_and_then (of_task u) (position (λ task. is_spelled (last_name path) task.name) u.tasks)

  of_number : (n : ℕ) (u : TemplateTree) → slice_get spec.templates n ≡ Some u → (k : ℕ) →
      of_task u k ≡ numbered_body spec (record { template = n; index = k })
  of_number n u at k =
      by (slice_get u.tasks k)
      ∙ ap (λ o. option_map (λ (t : TemplateTree × TaskTree). task_body_at spec t.0 (k, t.1))
      (option_and_then (λ (t : TemplateTree). option_map (λ (x : TaskTree). (t, x)) (slice_get t.tasks k)) o)) (sym at)
    where
      by : (o : Option TaskTree) → option_map (λ task. task_body_at spec u (k, task)) o
          ≡ option_map (λ (t : TemplateTree × TaskTree). task_body_at spec t.0 (k, t.1)) (option_map (λ x. (u, x)) o)
      by None = refl
      by (Some task) = refl

  in_template : (path : List Ident) (n : ℕ) (o : Option TemplateTree) → slice_get spec.templates n ≡ o →
      option_and_then (called path) o
      ≡ option_and_then (numbered_body spec) (option_and_then (λ (t : TemplateTree). option_map
      (λ k. record { template = n; index = k })
      (position (λ task. is_spelled (last_name path) task.name) t.tasks)) o)
  in_template path n None at = refl
  in_template path n (Some u) at = by (position (λ task. is_spelled (last_name path) task.name) u.tasks)
    where
      by : (o : Option ℕ) → option_and_then (of_task u) o
          ≡ option_and_then (numbered_body spec) (option_map (λ k. record { template = n; index = k }) o)
      by None = refl
      by (Some k) = of_number n u at k

  -- the body that a path calls is that of the task of its number
  pub callee-numbered : (from : ℕ) (t : TemplateTree) (name : BodyName) (path : List Ident) →
      slice_get spec.templates from ≡ Some t →
      callee (record { spec = spec; template = t; body = name }) path
      ≡ option_and_then (numbered_body spec) (task_number spec from path)
  callee-numbered from t name path at =
      ap (option_and_then (called path)) (sym (template_at_number_along spec path from
      ∙ ap (option_and_then (λ t. template_along spec t path)) at))
      ∙ by (number_along spec from path)
    where
      by : (o : Option ℕ) → option_and_then (called path) (template_at spec o)
          ≡ option_and_then (numbered_body spec) (option_and_then (λ n. option_and_then (λ (t : TemplateTree).
          option_map (λ k. record { template = n; index = k })
          (position (λ task. is_spelled (last_name path) task.name) t.tasks)) (slice_get spec.templates n)) o)
      by None = refl
      by (Some n) = in_template path n (slice_get spec.templates n) refl

  -- the template of a task
  pub template_of : (m : Member) (t : TemplateTree × TaskTree) → task_at spec m ≡ Some t →
      slice_get spec.templates m.template ≡ Some t.0
  template_of m t is = by (slice_get spec.templates m.template) is
    where
      inside : (u : TemplateTree) (o : Option TaskTree) → option_map (λ k. (u, k)) o ≡ Some t → u ≡ t.0
      inside u None e = absurd (none-some t e)
      inside u (Some k) e = ap (λ p. p.0) (same_Some (u, k) t e)

      by : (o : Option TemplateTree) →
          option_and_then (λ t. option_map (λ k. (t, k)) (slice_get t.tasks m.index)) o ≡ Some t → o ≡ Some t.0
      by None e = absurd (none-some t e)
      by (Some u) e = ap Some (inside u (slice_get u.tasks m.index) e)

  -- what is counted over bodies to a depth of calls, from what is counted over the bodies that they call
  module _ {A : Type 0} (F : ℕ → BodyAt → A) (none : A) (G : BodyAt → (List Ident → A) → A)
      (step : (d : ℕ) (b : BodyAt) → F (suc d) b ≡ G b (λ path. option_map_or (F d) (callee b.context path) none))
      (agree : (b : BodyAt) (f g : List Ident → A) →
      ((path : List Ident) → Contains (body_calls b.body) path → f path ≡ g path) → G b f ≡ G b g)
      (order : List Member) (ordered : IsCallOrder spec order) where
    -- the tasks before a position count the same at two depths
    abbrev SettledAt : ℕ → ℕ → ℕ → Type 0
    SettledAt d e k =
        (j : ℕ) (c : Member) (u : TemplateTree × TaskTree) → j < k → slice_get order j ≡ Some c →
        task_at spec c ≡ Some u →
        F d (task_body_at spec u.0 (c.index, u.1)) ≡ F e (task_body_at spec u.0 (c.index, u.1))

    -- a body at position k counts the same at each depth beyond k
    pub settled : (n k d e : ℕ) (m : Member) (t : TemplateTree × TaskTree) → k < n → k < d → k < e →
        slice_get order k ≡ Some m → task_at spec m ≡ Some t →
        F d (task_body_at spec t.0 (m.index, t.1)) ≡ F e (task_body_at spec t.0 (m.index, t.1))
    settled zero k d e m t below deep deeper at is = absurd (omega arith)
    settled (suc n) k zero e m t below deep deeper at is = absurd (omega arith)
    settled (suc n) k (suc d) zero m t below deep deeper at is = absurd (omega arith)
    settled (suc n) k (suc d) (suc e) m t below deep deeper at is =
        let b = task_body_at spec t.0 (m.index, t.1) in
        step d b
        ∙ agree b (λ path. option_map_or (F d) (callee b.context path) none)
        (λ path. option_map_or (F e) (callee b.context path) none)
        (same (λ j c u less there within. settled n j d e c u (omega arith) (omega arith) (omega arith) there within))
        ∙ sym (step e b)
      where
        of_task_at : SettledAt d e k → (c : Member) → (j : ℕ) × (j < k) × (slice_get order j ≡ Some c) →
            (o : Option (TemplateTree × TaskTree)) → task_at spec c ≡ o →
            option_map_or (F d) (option_map (λ t. task_body_at spec t.0 (c.index, t.1)) o) none
            ≡ option_map_or (F e) (option_map (λ t. task_body_at spec t.0 (c.index, t.1)) o) none
        of_task_at earlier c before None there = refl
        of_task_at earlier c before (Some u) there = earlier before.0 c u before.1 before.2 there

        by : SettledAt d e k → (path : List Ident) → Contains (body_calls t.1.body) path → (o : Option Member) →
            task_number spec m.template path ≡ o →
            option_map_or (F d) (option_and_then (numbered_body spec) o) none
            ≡ option_map_or (F e) (option_and_then (numbered_body spec) o) none
        by earlier path among None leads = refl
        by earlier path among (Some c) leads =
            of_task_at earlier c (ordered.behind k m c at
            (record { task = t.1; path = path; is = numbered spec m t is; calls = among; leads = leads }))
            (task_at spec c) refl

        same : SettledAt d e k → (path : List Ident) → Contains (body_calls t.1.body) path →
            option_map_or (F d) (callee (task_body_at spec t.0 (m.index, t.1)).context path) none
            ≡ option_map_or (F e) (callee (task_body_at spec t.0 (m.index, t.1)).context path) none
        same earlier path among =
            let there = callee-numbered m.template t.0 (task_body_at spec t.0 (m.index, t.1)).context.body path
            (template_of m t is) in
            ap (λ o. option_map_or (F d) o none) there
            ∙ by earlier path among (task_number spec m.template path) refl
            ∙ sym (ap (λ o. option_map_or (F e) o none) there)

    module _ (depth : ℕ) where
      -- what is counted over the body of the task of a number
      abbrev pub counted_at : Member → A
      counted_at m = option_map_or (F (suc depth)) (numbered_body spec m) none

      settled_at : (c : Member) → (j : ℕ) × (j < depth) × (slice_get order j ≡ Some c) →
          option_map_or (F depth) (numbered_body spec c) none ≡ counted_at c
      settled_at c before = by (task_at spec c) refl
        where
          by : (o : Option (TemplateTree × TaskTree)) → task_at spec c ≡ o →
              option_map_or (F depth) (option_map (λ t. task_body_at spec t.0 (c.index, t.1)) o) none
              ≡ option_map_or (F (suc depth)) (option_map (λ t. task_body_at spec t.0 (c.index, t.1)) o) none
          by None there = refl
          by (Some u) there =
              let less : before.0 < depth = before.1 in
              settled (suc before.0) before.0 depth (suc depth) c u (omega arith) (omega arith) (omega arith)
              before.2 there

      -- a body's count follows from what is known of the tasks that it calls
      pub counted_by : (known : Member → A) (from : ℕ) (t : TemplateTree) (b : BodyAt) →
          b.context.spec ≡ spec → b.context.template ≡ t → slice_get spec.templates from ≡ Some t →
          ((path : List Ident) (c : Member) → Contains (body_calls b.body) path → task_number spec from path ≡ Some c →
          ((j : ℕ) × (j < depth) × (slice_get order j ≡ Some c)) × (known c ≡ counted_at c)) →
          F (suc depth) b ≡ G b (λ path. option_map_or known (task_number spec from path) none)
      counted_by known from t b of_spec of_template at all =
          step depth b
          ∙ agree b (λ path. option_map_or (F depth) (callee b.context path) none)
          (λ path. option_map_or known (task_number spec from path) none) same
        where
          by : (path : List Ident) → Contains (body_calls b.body) path → (o : Option Member) →
              task_number spec from path ≡ o →
              option_map_or (F depth) (option_and_then (numbered_body spec) o) none ≡ option_map_or known o none
          by path among None leads = refl
          by path among (Some c) leads =
              let so = all path c among leads in settled_at c so.0 ∙ sym so.1

          same : (path : List Ident) → Contains (body_calls b.body) path →
              option_map_or (F depth) (callee b.context path) none
              ≡ option_map_or known (task_number spec from path) none
          same path among =
              ap (λ o. option_map_or (F depth) o none)
              ((λ i. callee (record { spec = of_spec i; template = of_template i; body = b.context.body }) path)
              ∙ callee-numbered from t b.context.body path at)
              ∙ by path among (task_number spec from path) refl
