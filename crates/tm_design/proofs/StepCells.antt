-- Parameters and locals are told apart as their numbers are, and, where they have names of their own, as their names.
use Rattle.std.proofs.Common.{◌≡◌, ℕ, Bool, true, false, Option, None, Some, List, cond, refl, sym, ap, ◌∙◌, subst, arith, rules}
use Rattle.std.specs.Prelude.{◌&&◌, nat_eq, find}
use Rattle.std.specs.Option.{option_map, option_map_or}
use Rattle.std.specs.Cmp.Lexicographic.{pointwise}
use Rattle.std.proofs.lemmas.Bool.Decides.{nat_tests}
use Rattle.std.proofs.lemmas.Option.{none-some, same_Some}
use Rattle.tm_syntax.specs.declared.design.Ty.{Ty}
use Rattle.tm_syntax.specs.Scopes.Context.{Slot}
use Rattle.tm_syntax.specs.Design.Cells.{Cell, in_step}
use Rattle.tm_syntax.specs.Design.Scope.{Scope, same_body, same_scope}
use Rattle.tm_scope.specs.Cells.{CellTables, cell_at, scope_of, slot_in}
use Rattle.tm_scope.specs.Context.{body_name}
use Rattle.tm_scope.specs.declared.cells.site_body.CellNumber.TheVariants.{Step}
use Rattle.tm_scope.specs.declared.cells.site_body.SiteBody.{SiteBody}
use Rattle.tm_scope.specs.declared.context.BodyName.{BodyName}
use Rattle.tm_scope.specs.declared.context.BodyName.TheVariants.{Process, Task, Outside}
use Rattle.tm_scope.specs.declared.members.SlotNumber.{SlotNumber}
use Rattle.tm_scope.specs.declared.members.SlotNumber.TheVariants.{Param, Local}
use Rattle.tm_sem.specs.Value.{Memory, Passing, read, put}
use Rattle.tm_design.specs.StepCells.{AreApart, same_slot, same_cell}
use Rattle.tm_design.specs.declared.step_cells.StepCell.{StepCell}
use Rattle.tm_design.specs.contracts.step_cells.StepCellPartialEq.TheImpl.{eq-value}

pub both_true : (a b : Bool) → (a && b) ≡ true → (a ≡ true) × (b ≡ true)
both_true true true h = (refl, refl)
both_true true false h = absurd (cc)
both_true false b h = absurd (cc)

nat_same : (a b : ℕ) → nat_eq a b ≡ true → a ≡ b
nat_same a b h = grind (arith, nat_tests)

nat_itself : (a : ℕ) → nat_eq a a ≡ true
nat_itself a = grind (arith, nat_tests)

body_same : (a b : BodyName) → same_body (body_name a) (body_name b) ≡ true → a ≡ b
body_same (Process a) (Process b) h = ap Process (nat_same a b h)
body_same (Process a) (Task b) h = absurd (cc)
body_same (Process a) Outside h = absurd (cc)
body_same (Task a) (Process b) h = absurd (cc)
body_same (Task a) (Task b) h = ap Task (nat_same a b h)
body_same (Task a) Outside h = absurd (cc)
body_same Outside (Process b) h = absurd (cc)
body_same Outside (Task b) h = absurd (cc)
body_same Outside Outside h = refl

body_itself : (a : BodyName) → same_body (body_name a) (body_name a) ≡ true
body_itself (Process a) = nat_itself a
body_itself (Task a) = nat_itself a
body_itself Outside = refl

slot_same : (a b : SlotNumber) → same_slot a b ≡ true → a ≡ b
slot_same (Param a) (Param b) h = ap Param (nat_same a b h)
slot_same (Param a) (Local b) h = absurd (cc)
slot_same (Local a) (Param b) h = absurd (cc)
slot_same (Local a) (Local b) h = ap Local (nat_same a b h)

slot_itself : (a : SlotNumber) → same_slot a a ≡ true
slot_itself (Param a) = nat_itself a
slot_itself (Local a) = nat_itself a

-- a scope determines its body of an instance
pub site_same : (a b : SiteBody) → same_scope (scope_of a) (scope_of b) ≡ true → a ≡ b
site_same a b h =
    let parts = both_true (nat_eq a.instance b.instance) (same_body (body_name a.body) (body_name b.body)) h in
    let number = nat_same a.instance b.instance parts.0 in
    let body = body_same a.body b.body parts.1 in
    (λ i. record { instance = number i; body = body i })

pub site_itself : (a : SiteBody) → same_scope (scope_of a) (scope_of a) ≡ true
site_itself a =
    ap (λ b. b && same_body (body_name a.body) (body_name a.body)) (nat_itself a.instance) ∙ body_itself a.body

pub cell_same : (a b : StepCell) → same_cell a b ≡ true → a ≡ b
cell_same a b h =
    let parts = both_true (same_scope (scope_of a.at) (scope_of b.at)) (same_slot a.slot b.slot) h in
    let at = site_same a.at b.at parts.0 in
    let slot = slot_same a.slot b.slot parts.1 in
    (λ i. record { at = at i; slot = slot i })

pub cell_itself : (a : StepCell) → same_cell a a ≡ true
cell_itself a = ap (λ b. b && same_slot a.slot a.slot) (site_itself a.at) ∙ slot_itself a.slot

-- two tests that say the same are one
pub one_test : (a b : Bool) → (a ≡ true → b ≡ true) → (b ≡ true → a ≡ true) → a ≡ b
one_test true b there back = sym (there refl)
one_test false true there back = absurd (let h = back refl in cc)
one_test false false there back = refl

-- a test that tells equal cells apart from others is `same_cell`
exact_test : (f : StepCell → StepCell → Bool) → ((a b : StepCell) → f a b ≡ true → a ≡ b) →
    ((a : StepCell) → f a a ≡ true) → (a b : StepCell) → f a b ≡ same_cell a b
exact_test f exact itself a b =
    one_test (f a b) (same_cell a b)
    (λ h. subst (λ x. same_cell a x ≡ true) (exact a b h) (cell_itself a))
    (λ h. subst (λ x. f a x ≡ true) (cell_same a b h) (itself a))

exact : (a b : StepCell) → eq-value.it a b ≡ true → a ≡ b
exact a b h = search rules

itself : (a : StepCell) → eq-value.it a a ≡ true
itself a = search rules

-- the derived test is that of the numbers
pub derived_test : (a b : StepCell) → eq-value.it a b ≡ same_cell a b
derived_test = exact_test eq-value.it exact itself

names_same : (a b : List ℕ) → pointwise nat_eq a b ≡ true → a ≡ b
names_same a b h = search rules

names_itself : (a : List ℕ) → pointwise nat_eq a a ≡ true
names_itself a = search rules

-- the cell of a parameter or local is that of its name
pub cell_of : (x : CellTables) (at : SiteBody) (slot : SlotNumber) (c : Cell) → cell_at x at (Step slot) ≡ Some c →
    (s : Slot) × (slot_in x at slot ≡ Some s) × (c ≡ in_step (scope_of at) s.name s.ty)
cell_of x at slot c is = by (slot_in x at slot) refl is
  where
    by : (o : Option Slot) → slot_in x at slot ≡ o →
        option_map (λ (s : Slot). in_step (scope_of at) s.name s.ty) o ≡ Some c →
        (s : Slot) × (slot_in x at slot ≡ Some s) × (c ≡ in_step (scope_of at) s.name s.ty)
    by None there h = absurd (none-some c h)
    by (Some s) there h = (s, there, sym (same_Some (in_step (scope_of at) s.name s.ty) c h))

-- a value that was put into a parameter or local is read again there, and nowhere else
pub read_put : (m : Memory) (a b : Scope) (n p : List ℕ) (value : ℕ) (t : Bool) (s r : Ty) →
    (same_scope b a && pointwise nat_eq p n) ≡ t →
    read (put m (in_step a n s) value) (in_step b p r) ≡ cond t value (read m (in_step b p r))
read_put m a b n p value true s r is =
    ap (λ t. option_map_or (λ (q : Passing). q.value) (cond t (Some (record { scope = a; name = n; value = value }))
    (find (λ (q : Passing). same_scope b q.scope && pointwise nat_eq p q.name) m.passing)) 0) is
read_put m a b n p value false s r is =
    ap (λ t. option_map_or (λ (q : Passing). q.value) (cond t (Some (record { scope = a; name = n; value = value }))
    (find (λ (q : Passing). same_scope b q.scope && pointwise nat_eq p q.name) m.passing)) 0) is

-- the test by names is the test by numbers
pub tests_agree : (x : CellTables) → AreApart x → (a b : StepCell) (s t : Slot) → slot_in x a.at a.slot ≡ Some s →
    slot_in x b.at b.slot ≡ Some t →
    (same_scope (scope_of b.at) (scope_of a.at) && pointwise nat_eq t.name s.name) ≡ same_cell a b
tests_agree x apart a b s t here there =
    one_test (same_scope (scope_of b.at) (scope_of a.at) && pointwise nat_eq t.name s.name) (same_cell a b)
    (λ h.
    let parts = both_true (same_scope (scope_of b.at) (scope_of a.at)) (pointwise nat_eq t.name s.name) h in
    let at : b.at ≡ a.at = site_same b.at a.at parts.0 in
    let name : t.name ≡ s.name = names_same t.name s.name parts.1 in
    let moved : slot_in x a.at b.slot ≡ Some t = subst (λ y. slot_in x y b.slot ≡ Some t) at there in
    let slot : b.slot ≡ a.slot = apart.slots a.at b.slot a.slot t s moved here name in
    let one : b ≡ a = (λ i. record { at = at i; slot = slot i }) in
    subst (λ y. same_cell a y ≡ true) (sym one) (cell_itself a))
    (λ h.
    let one : a ≡ b = cell_same a b h in
    let slot : slot_in x a.at a.slot ≡ Some t = subst (λ (y : StepCell). slot_in x y.at y.slot ≡ Some t) (sym one)
    there in
    let value : s ≡ t = same_Some s t (sym here ∙ slot) in
    subst (λ (y : StepCell). (same_scope (scope_of y.at) (scope_of a.at) && pointwise nat_eq t.name s.name) ≡ true)
    one
    (subst (λ (y : Slot). (same_scope (scope_of a.at) (scope_of a.at) && pointwise nat_eq y.name s.name) ≡ true) value
    (ap (λ b. b && pointwise nat_eq s.name s.name) (site_itself a.at) ∙ names_itself s.name)))
