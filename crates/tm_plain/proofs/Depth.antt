-- An order in which each task of a text stands is as long as there are tasks.
use Rattle.std.proofs.Common.{◌≡◌, ℕ, zero, suc, ◌+◌, ◌<◌, ◌≤◌, ◌⊎◌, inl, inr, Some, List, [], ◌∷◌, length, refl, sym, ap, ◌∙◌, subst, arith}
use Rattle.std.specs.Prelude.{slice_get, fold}
use Rattle.tm_syntax.specs.declared.design.Design.{Design}
use Rattle.tm_syntax.specs.declared.member.Member.{Member}
use Rattle.tm_syntax.specs.declared.tree.Spec.{Spec}
use Rattle.tm_syntax.specs.Tree.{SpecTree, TaskTree, TemplateTree}
use Rattle.tm_syntax.specs.Tree.View.{spec_tree}
use Rattle.tm_syntax.specs.Scopes.Calls.{numbered_task}
use Rattle.tm_syntax.specs.Scopes.Pauses.{call_depth}
use Rattle.tm_scope.specs.CallOrder.{CoversTasks}
use Rattle.tm_plain.specs.Machine.{AreTables}

-- an element of a list
abbrev In : {X : Type 0} → X → List X → Type 0
In x xs = (k : ℕ) × (slice_get xs k ≡ Some x)

-- no element stands twice
abbrev Once : {X : Type 0} → List X → Type 0
Once [] = Unit {0}
Once (x ∷ xs) = (¬ In x xs) × Once xs

-- a list without the element of an index
abbrev without : {X : Type 0} → ℕ → List X → List X
without k [] = []
without zero (x ∷ xs) = xs
without (suc k) (x ∷ xs) = x ∷ without k xs

without_long : {X : Type 0} (k : ℕ) (xs : List X) (x : X) → slice_get xs k ≡ Some x →
    length xs ≡ suc (length (without k xs))
without_long k [] x is = absurd (cc)
without_long zero (y ∷ xs) x is = refl
without_long (suc k) (y ∷ xs) x is = ap suc (without_long k xs x is)

-- another element is still there
still_in : {X : Type 0} (k j : ℕ) (xs : List X) (x y : X) → slice_get xs k ≡ Some x → slice_get xs j ≡ Some y →
    ¬ (x ≡ y) → In y (without k xs)
still_in k j [] x y is here other = absurd (cc)
still_in zero zero (z ∷ xs) x y is here other = let same : x ≡ y = cc in absurd (other same)
still_in zero (suc j) (z ∷ xs) x y is here other = (j, here)
still_in (suc k) zero (z ∷ xs) x y is here other = (0, here)
still_in (suc k) (suc j) (z ∷ xs) x y is here other =
    let rest = still_in k j xs x y is here other in (suc rest.0, rest.1)

-- a list whose elements stand there once, and all in another one, is not longer
fits_within : {X : Type 0} (xs ys : List X) → Once xs → ((x : X) → In x xs → In x ys) → length xs ≤ length ys
fits_within [] ys once all = omega arith
fits_within {X} (x ∷ xs) ys once all =
    let at = all x (0, refl) in
    let rest = fits_within xs (without at.0 ys) once.1 left in
    omega (arith, rest, without_long at.0 ys x at.1)
  where
    left : (y : X) → In y xs → In y (without (all x (0, refl)).0 ys)
    left y inside =
        let there = all y (suc inside.0, inside.1) in
        still_in (all x (0, refl)).0 there.0 ys x y (all x (0, refl)).1 there.1
        (λ same. once.0 (subst (λ z. In z xs) (sym same) inside))

-- the numbers of so many tasks of a template, from one on, before others
abbrev row : ℕ → ℕ → ℕ → List Member → List Member
row a i zero others = others
row a i (suc n) others = record { template = a; index = i } ∷ row a (i + 1) n others

-- the numbers of the tasks of some templates
abbrev members : ℕ → List TemplateTree → List Member
members a [] = []
members a (t ∷ ts) = row a 0 (length t.tasks) (members (a + 1) ts)

row_long : (a i n : ℕ) (others : List Member) → length (row a i n others) ≡ n + length others
row_long a i zero others = omega arith
row_long a i (suc n) others = omega (arith, row_long a (i + 1) n others)

members_long : (a n : ℕ) (ts : List TemplateTree) →
    fold (λ (sum : ℕ) (t : TemplateTree). sum + length t.tasks) n ts ≡ n + length (members a ts)
members_long a n [] = omega arith
members_long a n (t ∷ ts) =
    let first = row_long a 0 (length t.tasks) (members (a + 1) ts) in
    let rest = members_long (a + 1) (n + length t.tasks) ts in
    rest ∙ omega (arith, first)

-- what stands in a row is one of its template, or one of the others
row_has : (a i n : ℕ) (others : List Member) (m : Member) → In m (row a i n others) →
    ((m.template ≡ a) × (i ≤ m.index) × (m.index < i + n)) ⊎ In m others
row_has a i zero others m inside = inr inside
row_has a i (suc n) others m (zero, is) =
    let same : record { template = a; index = i } ≡ m = cc in
    inl (
      sym (ap (λ (k : Member). k.template) same),
      subst (λ (k : Member). i ≤ k.index) same (omega arith),
      subst (λ (k : Member). k.index < i + suc n) same (omega arith),
    )
row_has a i (suc n) others m (suc k, is) = by (row_has a (i + 1) n others m (k, is))
  where
    by : ((m.template ≡ a) × (i + 1 ≤ m.index) × (m.index < i + 1 + n)) ⊎ In m others →
        ((m.template ≡ a) × (i ≤ m.index) × (m.index < i + suc n)) ⊎ In m others
    by (inl here) = inl (here.0, omega (arith, here.1), omega (arith, here.2))
    by (inr there) = inr there

-- a number among those of templates is that of a task of one of them
members_have : (a : ℕ) (ts : List TemplateTree) (m : Member) → In m (members a ts) →
    (j : ℕ) × (t : TemplateTree) × (m.template ≡ a + j) × (slice_get ts j ≡ Some t) × (m.index < length t.tasks)
members_have a [] m inside = absurd (cc)
members_have a (t ∷ ts) m inside =
    by (members_have (a + 1) ts m) (row_has a 0 (length t.tasks) (members (a + 1) ts) m inside)
  where
    by : (In m (members (a + 1) ts) → (j : ℕ) × (u : TemplateTree) × (m.template ≡ a + 1 + j)
        × (slice_get ts j ≡ Some u) × (m.index < length u.tasks)) →
        ((m.template ≡ a) × (0 ≤ m.index) × (m.index < 0 + length t.tasks)) ⊎ In m (members (a + 1) ts) →
        (j : ℕ) × (u : TemplateTree) × (m.template ≡ a + j) × (slice_get (t ∷ ts) j ≡ Some u)
        × (m.index < length u.tasks)
    by found (inl here) = (0, t, omega (arith, here.0), refl, omega (arith, here.2))
    by found (inr there) =
        let rest = found there in
        (suc rest.0, rest.1, omega (arith, rest.2), rest.3, rest.4)

row_once : (a i n : ℕ) (others : List Member) → Once others → ((m : Member) → In m others → a < m.template) →
    Once (row a i n others)
row_once a i zero others once above = once
row_once a i (suc n) others once above = (apart, row_once a (i + 1) n others once above)
  where
    no : ((a ≡ a) × (i + 1 ≤ i) × (i < i + 1 + n)) ⊎ In (record { template = a; index = i }) others → ⊥
    no (inl here) = absurd (omega (arith, here.1))
    no (inr there) = absurd (omega (arith, above (record { template = a; index = i }) there))

    apart : ¬ In (record { template = a; index = i }) (row a (i + 1) n others)
    apart inside = no (row_has a (i + 1) n others (record { template = a; index = i }) inside)

members_once : (a : ℕ) (ts : List TemplateTree) → Once (members a ts)
members_once a [] = tt
members_once a (t ∷ ts) =
    row_once a 0 (length t.tasks) (members (a + 1) ts) (members_once (a + 1) ts)
    (λ m inside. let found = members_have (a + 1) ts m inside in omega (arith, found.2))

get_within : {X : Type 0} (xs : List X) (k : ℕ) → k < length xs → (x : X) × (slice_get xs k ≡ Some x)
get_within [] k below = absurd (omega arith)
get_within (x ∷ xs) zero below = (x, refl)
get_within (x ∷ xs) (suc k) below = get_within xs k (omega arith)

covered_is_long : (spec : SpecTree) (order : List Member) → CoversTasks spec order →
    call_depth spec ≤ length order
covered_is_long spec order covers =
    omega (
      arith,
      members_long 0 0 spec.templates,
      fits_within (members 0 spec.templates) order (members_once 0 spec.templates) there,
    )
  where
    there : (m : Member) → In m (members 0 spec.templates) → In m order
    there m inside =
        let found = members_have 0 spec.templates m inside in
        let task = get_within found.1.tasks m.index found.4 in
        let at : m.template ≡ found.0 = omega (arith, found.2) in
        let is : numbered_task spec m ≡ Some task.0 =
        by m found.0 found.1 task.0 at found.3 task.1 in
        covers m task.0 is
      where
        by : (m : Member) (j : ℕ) (t : TemplateTree) (task : TaskTree) → m.template ≡ j →
            slice_get spec.templates j ≡ Some t → slice_get t.tasks m.index ≡ Some task →
            numbered_task spec m ≡ Some task
        by m j t task at is here = cc

-- the order of the tables is as long as there are tasks
pub order_is_deep : (d : Design) (spec : Spec) (order marks : List Member) → AreTables d spec order marks →
    length order ≡ call_depth (spec_tree d.spec)
order_is_deep d spec order marks are =
    omega (arith, are.short, covered_is_long (spec_tree d.spec) order are.covers)
