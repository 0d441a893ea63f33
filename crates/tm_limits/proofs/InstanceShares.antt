-- The counts over the text are what all instances add together.
use Rattle.std.proofs.Common.{◌≡◌, ℕ, suc, ◌+◌, Bool, true, false, cond, not, List, [], ◌∷◌, ◌++◌, length, map, refl, sym, ap, ◌∙◌, arith, if◌then◌else◌}
use Rattle.std.specs.Prelude.{max, sum_by, count_by}
use Rattle.std.specs.List.{enumerate_from, filter, flat_map}
use Rattle.std.proofs.lemmas.List.Sums.{length-filter, sum_by-cons}
use mathlib.Core.List.{map-map}
use Rattle.tm_syntax.specs.declared.fault.Quantity.{Quantity}
use Rattle.tm_syntax.specs.declared.fault.Quantity.TheVariants as quantity
use Rattle.tm_syntax.specs.Tree.{ProcessTree, TaskTree, TemplateTree, SpecTree}
use Rattle.tm_syntax.specs.Design.Sizes.{bits_of_number}
use Rattle.tm_syntax.specs.Scopes.Parts.{BodyAt, process_body_at, task_body_at}
use Rattle.tm_syntax.specs.Scopes.Pauses.{call_depth, is_controllable}
use Rattle.tm_syntax.specs.Counts.Bodies.{controllable_bodies, local_bits, location_bits, param_bits, process_bodies, process_locations, step_bodies, task_bits, template_bits, weight_of}
use Rattle.tm_syntax.specs.Counts.Choices.{body_paths, path_sums}
use Rattle.tm_syntax.specs.Counts.Instances.{controllable_tasks, count_processes, greatest, instance_templates}
use Rattle.tm_syntax.specs.Faults.Limits.{count_of}
use Rattle.tm_limits.specs.declared.totals.Combination.{Combination}
use Rattle.tm_limits.specs.declared.totals.Combination.TheVariants.{Sum, Greatest}
use Rattle.tm_limits.specs.Shares.{all_shares, combination_of, controllable_share, own_share, process_share, task_share, template_share, whole_count}
use Rattle.tm_limits.specs.Totals.{combined, over}
use Rattle.tm_limits.proofs.BestPaths.{greatest-append}
use Rattle.tm_limits.proofs.Sums.{over-sum, sum_by-both, sum_by-mapped}
use Rattle.tm_limits.proofs.TotalSteps.{combined-none, over-append}

-- ---- counts put together

module _ (c : Combination) {X : Type 0} where
  over-same : (f g : X → ℕ) (xs : List X) → ((x : X) → f x ≡ g x) → over c (map f xs) ≡ over c (map g xs)
  over-same f g [] same = refl
  over-same f g (x ∷ xs) same = λ i. combined c (same x i) (over-same f g xs same i)

  over-filtered : (f : X → ℕ) (test : X → Bool) (xs : List X) →
      over c (map f (filter test xs)) ≡ over c (map (λ x. if test x then f x else 0) xs)
  over-filtered f test [] = refl
  over-filtered f test (x ∷ xs) = by (test x) (over-filtered f test xs)
    where
      by : (b : Bool) → over c (map f (filter test xs)) ≡ over c (map (λ x. if test x then f x else 0) xs) →
          over c (map f (if b then x ∷ filter test xs else filter test xs))
          ≡ combined c (if b then f x else 0) (over c (map (λ x. if test x then f x else 0) xs))
      by true e = ap (combined c (f x)) e
      by false e = e ∙ sym (combined-none c (over c (map (λ x. if test x then f x else 0) xs)))

  over-zeros : (f : X → ℕ) (xs : List X) → ((x : X) → f x ≡ 0) → over c (map f xs) ≡ 0
  over-zeros f [] none = refl
  over-zeros f (x ∷ xs) none =
      ap (λ n. combined c n (over c (map f xs))) (none x) ∙ combined-none c (over c (map f xs))
      ∙ over-zeros f xs none

  over-seconds : (f : X → ℕ) (k : ℕ) (xs : List X) →
      over c (map (λ (p : ℕ × X). f p.1) (enumerate_from k xs)) ≡ over c (map f xs)
  over-seconds f k [] = refl
  over-seconds f k (x ∷ xs) = ap (combined c (f x)) (over-seconds f (k + 1) xs)

greatest-over : (ns : List ℕ) → greatest ns ≡ over Greatest ns
greatest-over [] = refl
greatest-over (n ∷ ns) = ap (max n) (greatest-over ns)

greatest-flat : {X : Type 0} (f : X → List ℕ) (xs : List X) →
    greatest (flat_map f xs) ≡ over Greatest (map (λ x. greatest (f x)) xs)
greatest-flat f [] = refl
greatest-flat f (x ∷ xs) = greatest-append (f x) (flat_map f xs) ∙ ap (max (greatest (f x))) (greatest-flat f xs)

length-ones : {X : Type 0} (xs : List X) → length xs ≡ sum_by (λ _. 1) xs
length-ones [] = refl
length-ones (x ∷ xs) =
    let rest = length-ones xs in
    let one = sum_by-cons (λ _. 1) x xs in
    omega (arith, rest, one)

no_tasks : (c : Combination) (ks : List (ℕ × TaskTree)) (f : ℕ × TaskTree → ℕ) →
    ((k : ℕ × TaskTree) → f k ≡ 0) →
    over c (map (λ (k : ℕ × TaskTree). if is_controllable k.1.kind then f k else 0) ks) ≡ 0
no_tasks c ks f none =
    over-zeros c (λ (k : ℕ × TaskTree). if is_controllable k.1.kind then f k else 0) ks
    (λ k. by k (is_controllable k.1.kind))
  where
    by : (k : ℕ × TaskTree) (b : Bool) → (if b then f k else 0) ≡ 0
    by k true = none k
    by k false = refl

module _ (spec : SpecTree) where
  -- what is added is a sum over all instances
  summed : (q : Quantity) (count : TemplateTree → ℕ) → combination_of q ≡ Sum →
      ((t : TemplateTree) → count t ≡ own_share spec q t) → sum_by count (instance_templates spec) ≡ all_shares spec q
  summed q count is each =
      over-sum count (instance_templates spec)
      ∙ over-same Sum count (own_share spec q) (instance_templates spec) each
      ∙ ap (λ c. over c (map (own_share spec q) (instance_templates spec))) (sym is)

  -- of others, the greatest counts
  among : (q : Quantity) (counts : TemplateTree → List ℕ) → combination_of q ≡ Greatest →
      ((t : TemplateTree) → greatest (counts t) ≡ own_share spec q t) →
      greatest (flat_map counts (instance_templates spec)) ≡ all_shares spec q
  among q counts is each =
      greatest-flat counts (instance_templates spec)
      ∙ over-same Greatest (λ t. greatest (counts t)) (own_share spec q) (instance_templates spec) each
      ∙ ap (λ c. over c (map (own_share spec q) (instance_templates spec))) (sym is)

  -- what processes and controllable tasks count together
  bodies_over : (c : Combination) (f : BodyAt → ℕ) (t : TemplateTree) → over c (map f (step_bodies spec t))
      ≡ combined c (over c (map (λ p. f (process_body_at spec t p)) (enumerate_from 0 t.processes)))
      (over c (map (λ (k : ℕ × TaskTree). if is_controllable k.1.kind then f (task_body_at spec t k) else 0)
      (enumerate_from 0 t.tasks)))
  bodies_over c f t =
      ap (over c) (map-append_any (process_bodies spec t) (controllable_bodies spec t))
      ∙ over-append c (map f (process_bodies spec t)) (map f (controllable_bodies spec t))
      ∙ (λ i. combined c (over c (map-map f (process_body_at spec t) (enumerate_from 0 t.processes) i))
      (over c (map-map f (task_body_at spec t)
      (filter (λ (k : ℕ × TaskTree). is_controllable k.1.kind) (enumerate_from 0 t.tasks)) i)))
      ∙ ap (combined c (over c (map (λ p. f (process_body_at spec t p)) (enumerate_from 0 t.processes))))
      (over-filtered c (λ k. f (task_body_at spec t k)) (λ (k : ℕ × TaskTree). is_controllable k.1.kind)
      (enumerate_from 0 t.tasks))
    where
      map-append_any : (xs ys : List BodyAt) → map f (xs ++ ys) ≡ map f xs ++ map f ys
      map-append_any [] ys = refl
      map-append_any (x ∷ xs) ys = ap (λ zs. f x ∷ zs) (map-append_any xs ys)

  statements : (t : TemplateTree) →
      sum_by (weight_of (λ _. 1)) (step_bodies spec t) ≡ own_share spec quantity.Statements t
  statements t =
      let whole = over-sum (weight_of (λ _. 1)) (step_bodies spec t) in
      let parts = bodies_over Sum (weight_of (λ _. 1)) t in
      omega (arith, whole, parts)

  instances : (t : TemplateTree) → 1 ≡ own_share spec quantity.Instances t
  instances t =
      let processes = over-zeros Sum (process_share spec quantity.Instances t) (enumerate_from 0 t.processes)
      (λ p. refl) in
      let tasks = no_tasks Sum (enumerate_from 0 t.tasks) (controllable_share spec quantity.Instances t) (λ k. refl) in
      omega (arith, processes, tasks)

  processes : (t : TemplateTree) → length t.processes ≡ own_share spec quantity.Processes t
  processes t =
      let count = length-ones t.processes ∙ over-sum (λ _. 1) t.processes
      ∙ sym (over-seconds Sum (λ (_ : ProcessTree). 1) 0 t.processes) in
      let tasks = no_tasks Sum (enumerate_from 0 t.tasks) (controllable_share spec quantity.Processes t) (λ k. refl) in
      omega (arith, count, tasks)

  goals : (t : TemplateTree) → length t.goals ≡ own_share spec quantity.Goals t
  goals t =
      let processes = over-zeros Sum (process_share spec quantity.Goals t) (enumerate_from 0 t.processes)
      (λ p. refl) in
      let tasks = no_tasks Sum (enumerate_from 0 t.tasks) (controllable_share spec quantity.Goals t) (λ k. refl) in
      omega (arith, processes, tasks)

  fairness : (t : TemplateTree) → count_by (λ (p : ProcessTree). not p.lazy) t.processes + length t.fairs
      ≡ own_share spec quantity.Fairness t
  fairness t =
      let count = over-sum (λ (p : ProcessTree). cond (not p.lazy) 1 0) t.processes
      ∙ over-same Sum (λ (p : ProcessTree). cond (not p.lazy) 1 0) (λ (p : ProcessTree). if p.lazy then 0 else 1)
      t.processes (λ p. by p.lazy)
      ∙ sym (over-seconds Sum (λ (p : ProcessTree). if p.lazy then 0 else 1) 0 t.processes) in
      let tasks = no_tasks Sum (enumerate_from 0 t.tasks) (controllable_share spec quantity.Fairness t) (λ k. refl) in
      omega (arith, count, tasks)
    where
      by : (b : Bool) → ◌≡◌ {A = ℕ} (cond (not b) 1 0) (if b then 0 else 1)
      by true = refl
      by false = refl

  tasks : (t : TemplateTree) → length (controllable_tasks t) ≡ own_share spec quantity.Tasks t
  tasks t =
      let none = over-zeros Sum (process_share spec quantity.Tasks t) (enumerate_from 0 t.processes) (λ p. refl) in
      let count = length-filter (λ (k : TaskTree). is_controllable k.kind) t.tasks
      ∙ over-sum (λ (k : TaskTree). cond (is_controllable k.kind) 1 0) t.tasks
      ∙ sym (over-seconds Sum (λ (k : TaskTree). cond (is_controllable k.kind) 1 0) 0 t.tasks) in
      omega (arith, none, count)

  state : (t : TemplateTree) → template_bits spec t ≡ own_share spec quantity.State t
  state t =
      let locals = over-sum (λ (p : ProcessTree). local_bits spec p.body.locals) t.processes
      ∙ sym (over-seconds Sum (λ (p : ProcessTree). local_bits spec p.body.locals) 0 t.processes)
      ∙ sym (over-sum (λ (p : ℕ × ProcessTree). local_bits spec p.1.body.locals) (enumerate_from 0 t.processes)) in
      let locations = sum_by-mapped location_bits (process_body_at spec t) (enumerate_from 0 t.processes) in
      let both = sum_by-both (λ (p : ℕ × ProcessTree). local_bits spec p.1.body.locals)
      (λ p. location_bits (process_body_at spec t p)) (enumerate_from 0 t.processes)
      ∙ over-sum (process_share spec quantity.State t) (enumerate_from 0 t.processes) in
      let kept = over-sum (task_bits spec t) t.tasks ∙ sym (over-seconds Sum (task_bits spec t) 0 t.tasks) in
      omega (arith, locals, locations, both, kept)

  choices : (t : TemplateTree) →
      greatest (flat_map (λ (b : BodyAt). path_sums (body_paths (suc (call_depth spec)) b)) (step_bodies spec t))
      ≡ own_share spec quantity.Choices t
  choices t =
      let whole =
      greatest-flat (λ (b : BodyAt). path_sums (body_paths (suc (call_depth spec)) b)) (step_bodies spec t) in
      let parts =
      bodies_over Greatest (λ (b : BodyAt). greatest (path_sums (body_paths (suc (call_depth spec)) b))) t in
      omega (arith, whole, parts)

  arguments : (t : TemplateTree) → greatest (map (λ (k : TaskTree). param_bits spec k.params)
      (filter (λ (k : TaskTree). is_controllable k.kind) t.tasks)) ≡ own_share spec quantity.Arguments t
  arguments t =
      let none = over-zeros Greatest (process_share spec quantity.Arguments t) (enumerate_from 0 t.processes)
      (λ p. refl) in
      let some = greatest-over (map (λ (k : TaskTree). param_bits spec k.params)
      (filter (λ (k : TaskTree). is_controllable k.kind) t.tasks))
      ∙ over-filtered Greatest (λ (k : TaskTree). param_bits spec k.params) (λ (k : TaskTree). is_controllable k.kind)
      t.tasks
      ∙ sym (over-seconds Greatest
      (λ (k : TaskTree). if is_controllable k.kind then param_bits spec k.params else 0) 0 t.tasks) in
      omega (arith, none, some)

  locations : (t : TemplateTree) →
      greatest (map process_locations (process_bodies spec t)) ≡ own_share spec quantity.Locations t
  locations t =
      let some = greatest-over (map process_locations (process_bodies spec t))
      ∙ ap (over Greatest) (map-map process_locations (process_body_at spec t) (enumerate_from 0 t.processes)) in
      let none = no_tasks Greatest (enumerate_from 0 t.tasks) (controllable_share spec quantity.Locations t)
      (λ k. refl) in
      omega (arith, some, none)

  -- nothing is counted of what has no count over the text
  nothing : (q : Quantity) → combination_of q ≡ Sum → ((t : TemplateTree) → template_share spec q t ≡ 0) →
      ((t : TemplateTree) (p : ℕ × ProcessTree) → process_share spec q t p ≡ 0) →
      ((t : TemplateTree) (k : ℕ × TaskTree) → task_share spec q t k ≡ 0) → 0 ≡ all_shares spec q
  nothing q is alone processes tasks =
      sym (ap (λ c. over c (map (own_share spec q) (instance_templates spec))) is
      ∙ over-zeros Sum (own_share spec q) (instance_templates spec)
      (λ t.
      let own = alone t in
      let first = over-zeros Sum (process_share spec q t) (enumerate_from 0 t.processes) (processes t) in
      let second = over-zeros Sum (task_share spec q t) (enumerate_from 0 t.tasks) (tasks t) in
      let whole = ap (λ c. combined c (combined c (template_share spec q t)
      (over c (map (process_share spec q t) (enumerate_from 0 t.processes))))
      (over c (map (task_share spec q t) (enumerate_from 0 t.tasks)))) is in
      omega (arith, own, first, second, whole)))

  if_same : (b : Bool) → ◌≡◌ {A = ℕ} (if b then 0 else 0) 0
  if_same true = refl
  if_same false = refl

  -- each count over the text is what all instances add, with what is counted beside
  pub count_is_whole : (q : Quantity) → count_of spec q ≡ whole_count spec q
  count_is_whole quantity.Specification =
      nothing quantity.Specification refl (λ t. refl) (λ t p. refl) (λ t k. if_same (is_controllable k.1.kind))
  count_is_whole quantity.Name =
      nothing quantity.Name refl (λ t. refl) (λ t p. refl) (λ t k. if_same (is_controllable k.1.kind))
  count_is_whole quantity.Atoms =
      nothing quantity.Atoms refl (λ t. refl) (λ t p. refl) (λ t k. if_same (is_controllable k.1.kind))
  count_is_whole quantity.Statements =
      summed quantity.Statements (λ t. sum_by (weight_of (λ _. 1)) (step_bodies spec t)) refl statements
  count_is_whole quantity.Instances =
      length-ones (instance_templates spec) ∙ summed quantity.Instances (λ _. 1) refl instances
  count_is_whole quantity.Processes =
      summed quantity.Processes (λ (t : TemplateTree). length t.processes) refl processes
  count_is_whole quantity.Goals = summed quantity.Goals (λ (t : TemplateTree). length t.goals) refl goals
  count_is_whole quantity.Fairness =
      ap (λ n. 1 + n) (summed quantity.Fairness
      (λ t. count_by (λ (p : ProcessTree). not p.lazy) t.processes + length t.fairs) refl fairness)
  count_is_whole quantity.Tasks = summed quantity.Tasks (λ t. length (controllable_tasks t)) refl tasks
  count_is_whole quantity.State =
      ap (λ n. n + bits_of_number (count_processes spec + 1))
      (summed quantity.State (template_bits spec) refl state)
  count_is_whole quantity.Choices =
      among quantity.Choices (λ t. flat_map (λ (b : BodyAt). path_sums (body_paths (suc (call_depth spec)) b))
      (step_bodies spec t)) refl choices
  count_is_whole quantity.Arguments =
      among quantity.Arguments (λ t. map (λ (k : TaskTree). param_bits spec k.params)
      (filter (λ (k : TaskTree). is_controllable k.kind) t.tasks)) refl arguments
  count_is_whole quantity.Locations =
      among quantity.Locations (λ t. map process_locations (process_bodies spec t)) refl locations
