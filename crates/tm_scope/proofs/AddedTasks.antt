-- Tasks of a template that are added one by one.
use Rattle.std.proofs.Common.{◌≡◌, ⊎_elim, ℕ, ◌+◌, ◌<◌, ◌≤◌, Bool, true, false, List, [], ◌∷◌, ◌++◌, length, length-append, nat_eq, nat_lt, refl, sym, ap, ◌∙◌, arith, if◌then◌else◌}
use Rattle.std.specs.Prelude.{◌||◌, ◌&&◌}
use Rattle.std.proofs.lemmas.Bool.Decides.{nat_tests}
use Rattle.tm_syntax.specs.declared.member.Member.{Member}
use Rattle.tm_scope.specs.Marks.{is_in, with_task}
use Rattle.tm_scope.proofs.Entries.{below_or_not, same_or_not}
use Rattle.tm_scope.proofs.TaskSets.{is_in-with}

-- the first tasks of a template were added
abbrev pub AreAdded : List Member → ℕ → ℕ → List Member → Type 0
AreAdded old template n new =
    ((m : Member) → is_in new m ≡ (is_in old m || (nat_eq m.template template && nat_lt m.index n)))
    × (length new ≤ length old + n)

lt_true : (i n : ℕ) → i < n → nat_lt i n ≡ true
lt_true i n below = grind (arith, nat_tests)

lt_false : (i n : ℕ) → n ≤ i → nat_lt i n ≡ false
lt_false i n above = grind (arith, nat_tests)

eq_true : (i n : ℕ) → i ≡ n → nat_eq i n ≡ true
eq_true i n same = grind (arith, nat_tests)

eq_false : (i n : ℕ) → n < i → nat_eq i n ≡ false
eq_false i n above = grind (arith, nat_tests)

none_below : (i : ℕ) → nat_lt i 0 ≡ false
none_below i = lt_false i 0 (omega arith)

or_true : (a : Bool) → (a || true) ≡ true
or_true true = refl
or_true false = refl

one_more : (i n : ℕ) → (nat_lt i n || nat_eq i n) ≡ nat_lt i (n + 1)
one_more i n =
    ⊎_elim
    (λ below. ap (λ b. b || nat_eq i n) (lt_true i n below) ∙ sym (lt_true i (n + 1) (omega (arith, below))))
    (λ above. ⊎_elim
    (λ same. ap (λ b. nat_lt i n || b) (eq_true i n same) ∙ or_true (nat_lt i n)
    ∙ sym (lt_true i (n + 1) (omega (arith, same))))
    (λ other. (λ k. lt_false i n above k || eq_false i n (omega (arith, above, other)) k)
    ∙ sym (lt_false i (n + 1) (omega (arith, above, other))))
    (same_or_not i n))
    (below_or_not i n)

as_before : (a t : Bool) → a ≡ (a || (t && false))
as_before true t = refl
as_before false true = refl
as_before false false = refl

both_parts : (a t x y : Bool) → ((a || (t && x)) || (t && y)) ≡ (a || (t && (x || y)))
both_parts true t x y = refl
both_parts false true x y = refl
both_parts false false x y = refl

pub none_added : (tasks : List Member) (template : ℕ) → AreAdded tasks template 0 tasks
none_added tasks template = (
  λ m. as_before (is_in tasks m) (nat_eq m.template template)
      ∙ ap (λ b. is_in tasks m || (nat_eq m.template template && b)) (sym (none_below m.index)),
  omega arith,
)

pub one_added : (old : List Member) (template n : ℕ) (new : List Member) → AreAdded old template n new →
    AreAdded old template (n + 1) (with_task new (record { template = template; index = n }))
one_added old template n new so = (
  λ m. is_in-with new (record { template = template; index = n }) m
      ∙ ap (λ b. b || (nat_eq m.template template && nat_eq m.index n)) (so.0 m)
      ∙ both_parts (is_in old m) (nat_eq m.template template) (nat_lt m.index n) (nat_eq m.index n)
      ∙ ap (λ b. is_in old m || (nat_eq m.template template && b)) (one_more m.index n),
  longer (is_in new (record { template = template; index = n })) so.1,
)
  where
    longer : (there : Bool) → length new ≤ length old + n →
        length (if there then new else (new ++ record { template = template; index = n } ∷ []))
        ≤ length old + (n + 1)
    longer true few = omega (arith, few)
    longer false few =
        let more = length-append new (record { template = template; index = n } ∷ []) in omega (arith, few, more)
