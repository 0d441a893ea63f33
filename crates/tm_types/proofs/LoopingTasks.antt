-- The first task of a text that reaches itself.
use Rattle.std.proofs.Common.{◌≡◌, ℕ, zero, suc, ◌+◌, true, Option, None, Some, List, [], ◌∷◌, ◌++◌, map, slice_get, refl, sym, subst, arith}
use Rattle.std.specs.Prelude.{◌↔◌, IfNone, IfSome}
use Rattle.std.specs.List.{AllByRecursion, enumerate_from, flat_map}
use Rattle.std.specs.Option.{option_and_then, option_map}
use Rattle.tm_syntax.specs.declared.fault.FaultKind.TheVariants as kind
use Rattle.tm_syntax.specs.Tree.{TaskTree, TemplateTree, SpecTree}
use Rattle.tm_syntax.specs.Scopes.Calls.{Reaches, at_once, through, numbered_task}
use Rattle.tm_syntax.specs.Faults.{HasFault, IsFree}
use Rattle.tm_syntax.specs.Faults.Cycles.{TaskMark, CallsItself, all_tasks, template_tasks}
use Rattle.tm_syntax.specs.Faults.Marks.{first_mark}
use Rattle.tm_syntax.specs.declared.member.Member.{Member}
use Rattle.tm_scope.specs.Marks.{is_in}
use Rattle.tm_types.specs.Inner.Looping.{looping_mark, task_mark}
use Rattle.tm_names.specs.ScopeNames.{mark_of}
use Rattle.tm_names.specs.declared.scopes.mark.NameMark.{NameMark}
use Rattle.tm_types.proofs.FirstLooping.{first_is, inside, none_is, not_nothing}

-- what holds of all of two lists holds of all of each
pub all_split : {X : Type 0} (P : X → Type 0) (xs ys : List X) → AllByRecursion P (xs ++ ys) →
    AllByRecursion P xs × AllByRecursion P ys
all_split P [] ys all = (tt, all)
all_split P (x ∷ xs) ys all = let rest = all_split P xs ys all.1 in ((all.0, rest.0), rest.1)

-- what holds of all parts of parts holds of the parts of each
all_flat : {X Y : Type 0} (P : Y → Type 0) (f : X → List Y) (xs : List X) → AllByRecursion P (flat_map f xs) →
    AllByRecursion (λ x. AllByRecursion P (f x)) xs
all_flat P f [] all = tt
all_flat P f (x ∷ xs) all =
    let both = all_split P (f x) (flat_map f xs) all in
    (both.0, all_flat P f xs both.1)

all_map : {X Y : Type 0} (P : Y → Type 0) (g : X → Y) (xs : List X) → AllByRecursion P (map g xs) →
    AllByRecursion (λ x. P (g x)) xs
all_map P g [] all = tt
all_map P g (x ∷ xs) all = (all.0, all_map P g xs all.1)

-- what holds of all numbered parts holds of the one of a number
all_numbered : {X : Type 0} (P : ℕ × X → Type 0) (n : ℕ) (xs : List X) → AllByRecursion P (enumerate_from n xs) →
    (i : ℕ) (x : X) → slice_get xs i ≡ Some x → P (n + i, x)
all_numbered P n [] all i x is = absurd (not_nothing (sym is))
all_numbered P n (y ∷ ys) all zero x is =
    subst (λ (z : _). P (n + 0, z)) (inside is) (subst (λ (k : ℕ). P (k, y)) (plus_none n) all.0)
  where
    plus_none : (m : ℕ) → m ≡ m + 0
    plus_none m = omega arith
all_numbered P n (y ∷ ys) all (suc i) x is =
    subst (λ (k : ℕ). P (k, x)) (plus_one n i) (all_numbered P (n + 1) ys all.1 i x is)
  where
    plus_one : (m k : ℕ) → m + 1 + k ≡ m + suc k
    plus_one m k = omega arith

-- the template and the task of a number
task_there : (spec : SpecTree) (m : Member) (task : TaskTree) → numbered_task spec m ≡ Some task →
    (t : TemplateTree) × (slice_get spec.templates m.template ≡ Some t) × (slice_get t.tasks m.index ≡ Some task)
task_there spec m task is = by (slice_get spec.templates m.template) refl is
  where
    by : (o : Option TemplateTree) → slice_get spec.templates m.template ≡ o →
        option_and_then (λ t. slice_get t.tasks m.index) o ≡ Some task →
        (t : TemplateTree) × (slice_get spec.templates m.template ≡ Some t) × (slice_get t.tasks m.index ≡ Some task)
    by None none is = absurd (not_nothing (sym is))
    by (Some t) some is = (t, some, is)

-- a task that reaches another one is one of the text
first_call : (spec : SpecTree) (a b : Member) → Reaches spec a b →
    (task : TaskTree) × (numbered_task spec a ≡ Some task)
first_call spec a b (at_once call) = (call.task, call.is)
first_call spec a b (through call _) = (call.task, call.is)

from_none : (k : ℕ) → 0 + k ≡ k
from_none k = omega arith

-- where no task of the text reaches itself, nothing does
pub none_reaches : (spec : SpecTree) → AllByRecursion (λ k. ¬ CallsItself spec k) (all_tasks spec) → (m : Member) →
    ¬ Reaches spec m m
none_reaches spec all m reaches =
    let first = first_call spec m m reaches in
    let there = task_there spec m first.0 first.1 in
    let t : TemplateTree = there.0 in
    let in_template : AllByRecursion (λ k. ¬ CallsItself spec k) (template_tasks (m.template, t)) =
    subst (λ (n : ℕ). AllByRecursion (λ k. ¬ CallsItself spec k) (template_tasks (n, t))) (from_none m.template)
    (all_numbered (λ p. AllByRecursion (λ k. ¬ CallsItself spec k) (template_tasks p)) 0 spec.templates
    (all_flat (λ k. ¬ CallsItself spec k) template_tasks (enumerate_from 0 spec.templates) all)
    m.template t there.1) in
    let not : ¬ Reaches spec (record { template = m.template; index = 0 + m.index })
    (record { template = m.template; index = 0 + m.index }) =
    all_numbered (λ p. ¬ CallsItself spec (task_mark m.template p)) 0 t.tasks
    (all_map (λ k. ¬ CallsItself spec k) (task_mark m.template) (enumerate_from 0 t.tasks) in_template)
    m.index first.0 there.2 in
    subst (λ (n : ℕ). ¬ Reaches spec (record { template = m.template; index = n })
    (record { template = m.template; index = n })) (from_none m.index) not reaches

module _ (spec : SpecTree) (looping : List Member)
    (tells : (m : Member) → (is_in looping m ≡ true) ↔ Reaches spec m m) where
  -- the first of the tasks that reach themselves is the fault
  pub looping_found : (r : Option NameMark) →
      option_map mark_of r ≡ first_mark (flat_map (looping_mark looping) (all_tasks spec)) →
      IfSome r (λ m. HasFault kind.CallCycle spec (mark_of m))
  looping_found None found = tt
  looping_found (Some m) found =
      first_is (λ (k : TaskMark). k.mark) (CallsItself spec) (λ (k : TaskMark). is_in looping k.number)
      (λ k. tells k.number) (all_tasks spec) (mark_of m) (sym found)

  -- where there is none, no task reaches itself
  pub looping_none : (r : Option NameMark) →
      option_map mark_of r ≡ first_mark (flat_map (looping_mark looping) (all_tasks spec)) →
      IfNone r (IsFree spec kind.CallCycle)
  looping_none None found =
      none_reaches spec (none_is (λ (k : TaskMark). k.mark) (CallsItself spec)
      (λ (k : TaskMark). is_in looping k.number) (λ k. tells k.number) (all_tasks spec) (sym found))
  looping_none (Some m) found = tt
