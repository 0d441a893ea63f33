-- Tables of what is counted over the bodies of tasks, along an order of calls.
use Rattle.std.proofs.Common.{◌≡◌, ℕ, suc, ◌+◌, ◌<◌, ◌≤◌, Bool, true, false, cond, Option, None, Some, List, [], length, slice_get, refl, sym, ap, ◌∙◌, subst, arith, true≢false, inl, inr}
use Rattle.std.specs.Prelude.{◌⊎◌, Contains, unwrap_or}
use Rattle.std.specs.Map.{lookup}
use Rattle.std.specs.Option.{option_and_then, option_map, option_map_or}
use Rattle.std.proofs.lemmas.Option.{none-some, same_Some, slice_get-map, slice_get_within}
use Rattle.tm_syntax.specs.declared.member.Member.{Member}
use Rattle.tm_syntax.specs.declared.tree.Ident.{Ident}
use Rattle.tm_syntax.specs.declared.tree.Spec.{Spec}
use Rattle.tm_syntax.specs.declared.tree.TaskDef.{TaskDef}
use Rattle.tm_syntax.specs.declared.tree.Template.{Template}
use Rattle.tm_syntax.specs.Tree.{SpecTree, TemplateTree, TaskTree, row_of}
use Rattle.tm_syntax.specs.Tree.View.{body_tree, spec_tree, task_tree, template_tree}
use Rattle.tm_syntax.specs.Scopes.Calls.{body_calls, numbered_task, task_number}
use Rattle.tm_syntax.specs.Scopes.Parts.{BodyAt, body_stmts, stmts_in, task_body_at}
use Rattle.tm_syntax.specs.Scopes.Context.{Context}
use Rattle.tm_syntax.specs.Scopes.Pauses.{call_depth}
use Rattle.tm_syntax.specs.Counts.Bodies.{weight_below}
use Rattle.tm_syntax.specs.Counts.Choices as sums
use Rattle.tm_syntax.specs.Counts.Choices.{body_paths, choosing, row_paths}
use Rattle.tm_scope.specs.CallOrder.{CoversTasks, IsCallOrder}
use Rattle.tm_scope.specs.Context.{BodyPlace, body_name, context_of}
use Rattle.tm_scope.specs.declared.context.BodyName.TheVariants.{Task}
use Rattle.tm_scope.specs.Marks.{same_task}
use Rattle.tm_scope.specs.Members.{task_at}
use Rattle.tm_scope.proofs.CallGraphs.{callee-there}
use Rattle.tm_scope.proofs.CallOrders.{numbered}
use Rattle.tm_scope.proofs.Entries.{same_or_not}
use Rattle.tm_scope.proofs.TaskSets.{same_task-is, same_task-refl}
use Rattle.tm_limits.specs.declared.paths.Paths.{Paths}
use Rattle.tm_limits.specs.declared.weights.Weight.{Weight}
use Rattle.tm_limits.specs.Amount.{capped}
use Rattle.tm_limits.specs.Inner.PathSums.{AreBest, called_paths, nothing_chosen, paths_in}
use Rattle.tm_limits.specs.Inner.Weights.{call_weight, sum_weights, weight_in, weight_of}
use Rattle.tm_limits.specs.TaskBodies.{HasPaths, HasWeights, numbered_body, paths_at, weight_at}
use Rattle.tm_limits.proofs.BestPaths.{best_none}
use Rattle.tm_limits.proofs.CalledBodies.{counted_by, template_of}
use Rattle.tm_limits.proofs.PathRows.{lay, lay-agree, lay-step}
use Rattle.tm_limits.proofs.WeightSums.{sum-capped, weigh, weigh-agree, weigh-step}

-- what is called from a body stands in the order, at a position below a bound
abbrev pub StandBelow : SpecTree → List Member → ℕ → ℕ → BodyAt → Type 0
StandBelow spec order bound from b =
    (path : List Ident) (c : Member) → Contains (body_calls b.body) path → task_number spec from path ≡ Some c →
    (j : ℕ) × (j < bound) × (slice_get order j ≡ Some c)

-- what a task of an order calls stands before it
pub before_task : (spec : SpecTree) (order : List Member) → IsCallOrder spec order → (i : ℕ) (m : Member)
    (t : TemplateTree × TaskTree) → slice_get order i ≡ Some m → task_at spec m ≡ Some t →
    StandBelow spec order i m.template (task_body_at spec t.0 (m.index, t.1))
before_task spec order ordered i m t at is path c among leads =
    ordered.behind i m c at
    (record { task = t.1; path = path; is = numbered spec m t is; calls = among; leads = leads })

-- what any body calls stands in an order of all tasks
pub in_all : (spec : SpecTree) (order : List Member) → CoversTasks spec order → (from : ℕ) (b : BodyAt) →
    StandBelow spec order (length order) from b
in_all spec order covers from b path c among leads =
    let task = callee-there spec from path c leads in
    let found = covers c task.0 task.1 in
    (found.0, slice_get_within order found.0 c found.1, found.1)

-- the task of a number, as the task of a member is
numbered-at : (spec : SpecTree) (m : Member) →
    numbered_task spec m ≡ option_map (λ (t : TemplateTree × TaskTree). t.1) (task_at spec m)
numbered-at spec m = by (slice_get spec.templates m.template)
  where
    of_task : (u : TemplateTree) (o : Option TaskTree) →
        o ≡ option_map (λ (t : TemplateTree × TaskTree). t.1) (option_map (λ k. (u, k)) o)
    of_task u None = refl
    of_task u (Some k) = refl

    by : (o : Option TemplateTree) → option_and_then (λ (t : TemplateTree). slice_get t.tasks m.index) o
        ≡ option_map (λ (t : TemplateTree × TaskTree). t.1)
        (option_and_then (λ (t : TemplateTree). option_map (λ k. (t, k)) (slice_get t.tasks m.index)) o)
    by None = refl
    by (Some u) = of_task u (slice_get u.tasks m.index)

-- the task of a number of the code is that of the text
pub numbered-viewed : (s : Spec) (m : Member) → numbered_task (spec_tree s) m
    ≡ option_map task_tree
    (option_and_then (λ (t : Template). slice_get t.tasks.items m.index) (slice_get s.templates.items m.template))
numbered-viewed s m =
    ap (option_and_then (λ (t : TemplateTree). slice_get t.tasks m.index))
    (slice_get-map template_tree s.templates.items m.template)
    ∙ by (slice_get s.templates.items m.template)
  where
    by : (o : Option Template) →
        option_and_then (λ (t : TemplateTree). slice_get t.tasks m.index) (option_map template_tree o)
        ≡ option_map task_tree (option_and_then (λ (t : Template). slice_get t.tasks.items m.index) o)
    by None = refl
    by (Some t) = slice_get-map task_tree t.tasks.items m.index

-- likewise its body
pub body_of_task : (s : Spec) (m : Member) (t : Template) (def : TaskDef) →
    slice_get s.templates.items m.template ≡ Some t → slice_get t.tasks.items m.index ≡ Some def →
    numbered_body (spec_tree s) m ≡ Some (task_body_at (spec_tree s) (template_tree t) (m.index, task_tree def))
body_of_task s m t def at is =
    ap (λ o. option_map (λ (t : TemplateTree × TaskTree). task_body_at (spec_tree s) t.0 (m.index, t.1))
    (option_and_then (λ (t : TemplateTree). option_map (λ k. (t, k)) (slice_get t.tasks m.index)) o))
    (slice_get-map template_tree s.templates.items m.template ∙ ap (option_map template_tree) at)
    ∙ ap (λ o. option_map (λ (t : TemplateTree × TaskTree). task_body_at (spec_tree s) t.0 (m.index, t.1))
    (option_map (λ k. (template_tree t, k)) o))
    (slice_get-map task_tree t.tasks.items m.index ∙ ap (option_map task_tree) is)

-- where there is no task, there is no body
pub no_body : (s : Spec) (m : Member) →
    option_and_then (λ (t : Template). slice_get t.tasks.items m.index) (slice_get s.templates.items m.template)
    ≡ None →
    numbered_body (spec_tree s) m ≡ None
no_body s m none =
    by (task_at (spec_tree s) m)
    (sym (numbered-at (spec_tree s) m) ∙ numbered-viewed s m ∙ ap (option_map task_tree) none)
  where
    by : (o : Option (TemplateTree × TaskTree)) → option_map (λ (t : TemplateTree × TaskTree). t.1) o ≡ None →
        option_map (λ (t : TemplateTree × TaskTree). task_body_at (spec_tree s) t.0 (m.index, t.1)) o ≡ None
    by None e = refl
    by (Some t) e = absurd (none-some t.1 (sym e))

-- one more key of a table: it reads as what was put there, and others as before
added-reads : {X : Type 0} (old new : List (Member × X)) (m : Member) (x d : X) (q : Member) →
    lookup (same_task q) new ≡ cond (same_task m q) (Some x) (lookup (same_task q) old) →
    unwrap_or (lookup (same_task q) new) d ≡ cond (same_task m q) x (unwrap_or (lookup (same_task q) old) d)
added-reads old new m x d q e = ap (λ o. unwrap_or o d) e ∙ by (same_task m q)
  where
    by : (b : Bool) → unwrap_or (cond b (Some x) (lookup (same_task q) old)) d
        ≡ cond b x (unwrap_or (lookup (same_task q) old) d)
    by true = refl
    by false = refl

module _ (s : Spec) (order : List Member) (ordered : IsCallOrder (spec_tree s) order)
    (short : length order ≤ call_depth (spec_tree s)) where
  -- ---- weights

  module _ (w : Weight) (weights : List (Member × ℕ)) (i : ℕ) (below : i ≤ length order)
      (has : HasWeights (spec_tree s) (weight_of w) order i weights) where
    -- a body weighs what its statements do, with what stands in the table for what they call
    pub weighs : (from : ℕ) (t : TemplateTree) (b : BodyAt) → b.context.spec ≡ spec_tree s → b.context.template ≡ t →
        slice_get (spec_tree s).templates from ≡ Some t → StandBelow (spec_tree s) order i from b →
        capped (sum_weights (record { spec = s; from = from; weight = w; weights = weights }) (stmts_in b.body))
        ≡ capped (weight_below (weight_of w) (suc (call_depth (spec_tree s))) b)
    weighs from t b of_spec of_template at stand =
        sum-capped (weight_of w) (call_weight (record { spec = s; from = from; weight = w; weights = weights }))
        (λ path. option_map_or (weight_at (spec_tree s) (weight_of w)) (task_number (spec_tree s) from path) 0)
        (stmts_in b.body) same
        ∙ ap capped (sym (counted_by (spec_tree s) (weight_below (weight_of w)) 0 (weigh (weight_of w))
        (weigh-step (weight_of w)) (weigh-agree (weight_of w)) order ordered (call_depth (spec_tree s))
        (weight_at (spec_tree s) (weight_of w)) from t b of_spec of_template at
        (λ path c among leads.
        let found = stand path c among leads in
        let less : found.0 < i = found.1 in
        ((found.0, (omega arith), found.2), refl))))
      where
        by : (path : List Ident) → Contains (body_calls b.body) path → (o : Option Member) →
            task_number (spec_tree s) from path ≡ o →
            option_map_or (weight_in weights) o 0
            ≡ capped (option_map_or (weight_at (spec_tree s) (weight_of w)) o 0)
        by path among None leads = omega arith
        by path among (Some c) leads = let found = stand path c among leads in has found.0 c found.1 found.2

        same : (path : List Ident) → Contains (body_calls b.body) path →
            call_weight (record { spec = s; from = from; weight = w; weights = weights }) path
            ≡ capped (option_map_or (weight_at (spec_tree s) (weight_of w)) (task_number (spec_tree s) from path) 0)
        same path among = by path among (task_number (spec_tree s) from path) refl

    -- what the next task weighs
    weighs_next : (m : Member) (total : ℕ) → slice_get order i ≡ Some m →
        total ≡ capped (option_map_or (λ (k : TaskTree).
        sum_weights (record { spec = s; from = m.template; weight = w; weights = weights }) (stmts_in k.body))
        (numbered_task (spec_tree s) m) 0) →
        total ≡ capped (weight_at (spec_tree s) (weight_of w) m)
    weighs_next m total at is =
        is ∙ ap (λ o. capped (option_map_or (λ (k : TaskTree).
        sum_weights (record { spec = s; from = m.template; weight = w; weights = weights }) (stmts_in k.body)) o 0))
        (numbered-at (spec_tree s) m)
        ∙ by (task_at (spec_tree s) m) refl
      where
        by : (o : Option (TemplateTree × TaskTree)) → task_at (spec_tree s) m ≡ o →
            capped (option_map_or (λ (k : TaskTree).
            sum_weights (record { spec = s; from = m.template; weight = w; weights = weights }) (stmts_in k.body))
            (option_map (λ (t : TemplateTree × TaskTree). t.1) o) 0)
            ≡ capped (option_map_or (weight_below (weight_of w) (suc (call_depth (spec_tree s))))
            (option_map (λ (t : TemplateTree × TaskTree). task_body_at (spec_tree s) t.0 (m.index, t.1)) o) 0)
        by None there = refl
        by (Some t) there =
            weighs m.template t.0 (task_body_at (spec_tree s) t.0 (m.index, t.1)) refl refl
            (template_of (spec_tree s) m t there) (before_task (spec_tree s) order ordered i m t at there)

    pub weights_more : (m : Member) (total : ℕ) (new : List (Member × ℕ)) → slice_get order i ≡ Some m →
        total ≡ capped (option_map_or (λ (k : TaskTree).
        sum_weights (record { spec = s; from = m.template; weight = w; weights = weights }) (stmts_in k.body))
        (numbered_task (spec_tree s) m) 0) →
        ((q : Member) → lookup (same_task q) new
        ≡ cond (same_task m q) (Some total) (lookup (same_task q) weights)) →
        HasWeights (spec_tree s) (weight_of w) order (i + 1) new
    weights_more m total new at is updates k q less there =
        added-reads weights new m total 0 q (updates q) ∙ by (same_task m q) refl
      where
        earlier : same_task m q ≡ false → (k ≡ i) ⊎ (k ≡ i → ⊥) →
            weight_in weights q ≡ capped (weight_at (spec_tree s) (weight_of w) q)
        earlier other (inl same) =
            let one : m ≡ q = same_Some m q (sym at ∙ ap (slice_get order) (sym same) ∙ there) in
            absurd (true≢false (sym (same_task-refl m) ∙ ap (same_task m) one ∙ other))
        earlier other (inr apart) = has k q (omega (arith, apart)) there

        by : (b : Bool) → same_task m q ≡ b → cond b total (weight_in weights q)
            ≡ capped (weight_at (spec_tree s) (weight_of w) q)
        by true e =
            weighs_next m total at is ∙ ap (λ q. capped (weight_at (spec_tree s) (weight_of w) q)) (same_task-is m q e)
        by false e = earlier e (same_or_not k i)

  -- ---- paths

  nothing_is_best : AreBest nothing_chosen (choosing 0)
  nothing_is_best = record { across = best_none; inward = refl; outward = refl; between = refl }

  pub no_paths : HasPaths (spec_tree s) order 0 []
  no_paths = record {
    known = λ m. choosing 0;
    best = λ m. nothing_is_best;
    so_far = λ k m less. absurd (omega arith);
  }

  module _ (paths : List (Member × Paths)) (i : ℕ) (below : i ≤ length order)
      (has : HasPaths (spec_tree s) order i paths) where
    -- what is known of calls from a template
    abbrev pub known_calls : ℕ → List Ident → sums.Paths
    known_calls from path = option_map_or has.known (task_number (spec_tree s) from path) (choosing 0)

    pub calls_known : (from : ℕ) (path : List Ident) →
        AreBest (called_paths (spec_tree s) from paths path) (known_calls from path)
    calls_known from path = by (task_number (spec_tree s) from path)
      where
        by : (o : Option Member) →
            AreBest (option_map_or (paths_in paths) o nothing_chosen) (option_map_or has.known o (choosing 0))
        by None = nothing_is_best
        by (Some c) = has.best c

    -- a body has the paths of its row, with what is known of what it calls
    pub laid : (from : ℕ) (t : TemplateTree) (b : BodyAt) → b.context.spec ≡ spec_tree s → b.context.template ≡ t →
        slice_get (spec_tree s).templates from ≡ Some t → StandBelow (spec_tree s) order i from b →
        body_paths (suc (call_depth (spec_tree s))) b ≡ lay b (known_calls from)
    laid from t b of_spec of_template at stand =
        counted_by (spec_tree s) body_paths (choosing 0) lay lay-step lay-agree order ordered
        (call_depth (spec_tree s)) has.known from t b of_spec of_template at
        (λ path c among leads.
        let found = stand path c among leads in
        let less : found.0 < i = found.1 in
        ((found.0, (omega arith), found.2), has.so_far found.0 c found.1 found.2))

    -- the paths of the next task
    laid_next : (m : Member) → slice_get order i ≡ Some m →
        paths_at (spec_tree s) m
        ≡ option_map_or (λ b. lay b (known_calls m.template)) (numbered_body (spec_tree s) m) (choosing 0)
    laid_next m at = by (task_at (spec_tree s) m) refl
      where
        by : (o : Option (TemplateTree × TaskTree)) → task_at (spec_tree s) m ≡ o →
            option_map_or (body_paths (suc (call_depth (spec_tree s))))
            (option_map (λ (t : TemplateTree × TaskTree). task_body_at (spec_tree s) t.0 (m.index, t.1)) o) (choosing 0)
            ≡ option_map_or (λ b. lay b (known_calls m.template))
            (option_map (λ (t : TemplateTree × TaskTree). task_body_at (spec_tree s) t.0 (m.index, t.1)) o) (choosing 0)
        by None there = refl
        by (Some t) there =
            laid m.template t.0 (task_body_at (spec_tree s) t.0 (m.index, t.1)) refl refl
            (template_of (spec_tree s) m t there) (before_task (spec_tree s) order ordered i m t at there)

    pub paths_more : (m : Member) (found : Paths) (new : List (Member × Paths)) → slice_get order i ≡ Some m →
        ((within : List Ident → sums.Paths) →
        ((path : List Ident) → AreBest (called_paths (spec_tree s) m.template paths path) (within path)) →
        AreBest found (option_map_or (λ b. lay b within) (numbered_body (spec_tree s) m) (choosing 0))) →
        ((q : Member) → lookup (same_task q) new
        ≡ cond (same_task m q) (Some found) (lookup (same_task q) paths)) →
        HasPaths (spec_tree s) order (i + 1) new
    paths_more m found new at is updates = record {
      known = λ q. cond (same_task m q) (paths_at (spec_tree s) m) (has.known q);
      best = λ q.
          subst (λ p. AreBest p (cond (same_task m q) (paths_at (spec_tree s) m) (has.known q)))
          (sym (added-reads paths new m found nothing_chosen q (updates q))) (best_by q (same_task m q));
      so_far = λ k q less there. so_by k q less there (same_task m q) refl;
    }
      where
        best_by : (q : Member) (b : Bool) →
            AreBest (cond b found (paths_in paths q)) (cond b (paths_at (spec_tree s) m) (has.known q))
        best_by q true =
            subst (AreBest found) (sym (laid_next m at)) (is (known_calls m.template) (calls_known m.template))
        best_by q false = has.best q

        earlier : (k : ℕ) (q : Member) → k < i + 1 → slice_get order k ≡ Some q → same_task m q ≡ false →
            (k ≡ i) ⊎ (k ≡ i → ⊥) → has.known q ≡ paths_at (spec_tree s) q
        earlier k q less there other (inl same) =
            let one : m ≡ q = same_Some m q (sym at ∙ ap (slice_get order) (sym same) ∙ there) in
            absurd (true≢false (sym (same_task-refl m) ∙ ap (same_task m) one ∙ other))
        earlier k q less there other (inr apart) = has.so_far k q (omega (arith, apart)) there

        so_by : (k : ℕ) (q : Member) → k < i + 1 → slice_get order k ≡ Some q → (b : Bool) → same_task m q ≡ b →
            cond b (paths_at (spec_tree s) m) (has.known q) ≡ paths_at (spec_tree s) q
        so_by k q less there true e = ap (paths_at (spec_tree s)) (same_task-is m q e)
        so_by k q less there false e = earlier k q less there e (same_or_not k i)

-- a body of a task has the paths that its place tells
pub paths_of : (s : Spec) (m : Member) (def : TaskDef) (place : BodyPlace) (found : Paths)
    (within : List Ident → sums.Paths) → place.spec ≡ s → slice_get s.templates.items m.template ≡ Some place.template →
    place.body ≡ Task m.index →
    option_and_then (λ (t : Template). slice_get t.tasks.items m.index) (slice_get s.templates.items m.template)
    ≡ Some def → AreBest found (row_paths within (context_of place) (row_of (body_stmts (body_tree def.body)))) →
    AreBest found (option_map_or (λ b. lay b within) (numbered_body (spec_tree s) m) (choosing 0))
paths_of s m def place found within of_spec of_template of_body is best =
    subst (λ o. AreBest found (option_map_or (λ b. lay b within) o (choosing 0)))
    (sym (body_of_task s m place.template def of_template
    (sym (ap (option_and_then (λ (t : Template). slice_get t.tasks.items m.index)) of_template) ∙ is)))
    (subst (λ (c : Context). AreBest found (row_paths within c (row_of (body_stmts (body_tree def.body)))))
    (λ j. record {
      spec = spec_tree (of_spec j);
      template = template_tree place.template;
      body = body_name (of_body j);
    }) best)
