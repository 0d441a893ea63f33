-- Sets of states: inclusion, equality at listed states, and counting.
use Rattle.std.proofs.Common.{◌≡◌, ◌⊎◌, inl, inr, ℕ, suc, ◌+◌, ◌<◌, ◌≤◌, Bool, true, false, not, List, [], ◌∷◌, length, if◌then◌else◌, refl, sym, ap, ◌∙◌, subst, arith}
use Rattle.tm_sem.specs.State.{StateData}
use Rattle.tm_solve.specs.Sets.{StateSet, outside, IsAmong, IsWithin, IsSame, Gains, count}

pub within_here : (n : List StateData) (a : StateSet) → IsWithin n a a
within_here n a = record { within = λ s among here. here }

pub within_then : {n : List StateData} {a b c : StateSet} → IsWithin n a b → IsWithin n b c → IsWithin n a c
within_then v w = record { within = λ s among here. w.within s among (v.within s among here) }

pub same_back : {n : List StateData} {a b : StateSet} → IsSame n a b → IsSame n b a
same_back e = record { same = λ s among. sym (e.same s among) }

pub same_then : {n : List StateData} {a b c : StateSet} → IsSame n a b → IsSame n b c → IsSame n a c
same_then d e = record { same = λ s among. d.same s among ∙ e.same s among }

pub same_within : {n : List StateData} {a b : StateSet} → IsSame n a b → IsWithin n a b
same_within e = record { within = λ s among here. sym (e.same s among) ∙ here }

pub both_same : {n : List StateData} {a b : StateSet} → IsWithin n a b → IsWithin n b a → IsSame n a b
both_same {n = n} {a = a} {b = b} v w =
    record { same = λ s among. at (a s) (b s) (v.within s among) (w.within s among) }
  where
    at : (x y : Bool) → (x ≡ true → y ≡ true) → (y ≡ true → x ≡ true) → x ≡ y
    at true true v w = refl
    at true false v w = sym (v refl)
    at false true v w = w refl
    at false false v w = refl

-- a state outside is not inside
pub not_true : (b : Bool) → b ≡ false → not b ≡ true
not_true b e = ap not e

pub not_false : (b : Bool) → not b ≡ true → b ≡ false
not_false true e = sym e
not_false false e = refl

pub not_not : (b : Bool) → not (not b) ≡ b
not_not true = refl
not_not false = refl

-- what is outside shrinks as a set grows
pub outside_within : {n : List StateData} {a b : StateSet} → IsWithin n a b → IsWithin n (outside b) (outside a)
outside_within {n = n} {a = a} {b = b} w =
    record { within = λ s among out. at (a s) (b s) (w.within s among) out }
  where
    at : (x y : Bool) → (x ≡ true → y ≡ true) → not y ≡ true → not x ≡ true
    at true y v out = (ap not (sym (v refl))) ∙ out
    at false y v out = refl

pub outside_same : {n : List StateData} {a b : StateSet} → IsSame n a b → IsSame n (outside a) (outside b)
outside_same e = record { same = λ s among. ap not (e.same s among) }

pub outside_twice : (n : List StateData) (a : StateSet) → IsSame n (outside (outside a)) a
outside_twice n a = record { same = λ s among. not_not (a s) }

-- a set gains a state, or is the same
same_more : (t : StateData) (ts : List StateData) (a b : StateSet) → a t ≡ b t → IsSame ts a b → IsSame (t ∷ ts) a b
same_more t ts a b h e = record { same = λ s among. at s among }
  where
    at : (s : StateData) → IsAmong s (t ∷ ts) → a s ≡ b s
    at s (inl p) = subst (λ (u : StateData). a u ≡ b u) (sym p) h
    at s (inr r) = e.same s r

at_head : (t : StateData) (ts : List StateData) (a b : StateSet) → (a t ≡ true → b t ≡ true) → (x y : Bool) →
    a t ≡ x → b t ≡ y → Gains ts a b ⊎ IsSame ts a b → Gains (t ∷ ts) a b ⊎ IsSame (t ∷ ts) a b
at_head t ts a b w x y p q (inl g) =
    inl (record { state = g.state; listed = inr g.listed; without_it = g.without_it; with_it = g.with_it })
at_head t ts a b w true y p q (inr e) = inr (same_more t ts a b (p ∙ sym (w p)) e)
at_head t ts a b w false true p q (inr e) =
    inl (record { state = t; listed = inl refl; without_it = p; with_it = q })
at_head t ts a b w false false p q (inr e) = inr (same_more t ts a b (p ∙ sym q) e)

rest_within : {t : StateData} {ts : List StateData} {a b : StateSet} → IsWithin (t ∷ ts) a b → IsWithin ts a b
rest_within w = record { within = λ s among. w.within s (inr among) }

pub gains_or_same : (n : List StateData) (a b : StateSet) → IsWithin n a b → Gains n a b ⊎ IsSame n a b
gains_or_same [] a b w = inr (record { same = λ s among. absurd among })
gains_or_same (t ∷ ts) a b w =
    at_head t ts a b (w.within t (inl refl)) (a t) (b t) refl refl (gains_or_same ts a b (rest_within w))

-- counting
pub count_most : (n : List StateData) (a : StateSet) → count n a ≤ length n
count_most [] a = omega arith
count_most (s ∷ ss) a = at (a s) (count ss a) (length ss) (count_most ss a)
  where
    at : (x : Bool) (m k : ℕ) → m ≤ k → (if x then 1 else 0) + m ≤ suc k
    at true m k l = omega arith
    at false m k l = omega arith

count_head : (x y : Bool) (m k : ℕ) → (x ≡ true → y ≡ true) → m ≤ k →
    (if x then 1 else 0) + m ≤ (if y then 1 else 0) + k
count_head true true m k h l = omega arith
count_head true false m k h l = let wrong : false ≡ true = h refl in cc
count_head false true m k h l = omega arith
count_head false false m k h l = omega arith

pub count_within : (n : List StateData) (a b : StateSet) → IsWithin n a b → count n a ≤ count n b
count_within [] a b w = omega arith
count_within (s ∷ ss) a b w =
    count_head (a s) (b s) _ _ (w.within s (inl refl)) (count_within ss a b (rest_within w))

head_gains : (x y : Bool) (m k : ℕ) → x ≡ false → y ≡ true → m ≤ k → (if x then 1 else 0) + m < (if y then 1 else 0) + k
head_gains true y m k p q l = cc
head_gains false true m k p q l = omega arith
head_gains false false m k p q l = cc

head_more : (x y : Bool) (m k : ℕ) → (x ≡ true → y ≡ true) → m < k → (if x then 1 else 0) + m < (if y then 1 else 0) + k
head_more true true m k h l = omega arith
head_more true false m k h l = let wrong : false ≡ true = h refl in cc
head_more false true m k h l = omega arith
head_more false false m k h l = omega arith

gains_at : (n : List StateData) (a b : StateSet) → IsWithin n a b → (s : StateData) → IsAmong s n → a s ≡ false →
    b s ≡ true → count n a < count n b
gains_at [] a b w s among p q = absurd among
gains_at (t ∷ ts) a b w s (inl e) p q =
    head_gains (a t) (b t) _ _ (ap a (sym e) ∙ p) (ap b (sym e) ∙ q) (count_within ts a b (rest_within w))
gains_at (t ∷ ts) a b w s (inr r) p q =
    head_more (a t) (b t) _ _ (w.within t (inl refl)) (gains_at ts a b (rest_within w) s r p q)

pub count_gains : (n : List StateData) (a b : StateSet) → IsWithin n a b → Gains n a b → count n a < count n b
count_gains n a b w g = gains_at n a b w g.state g.listed g.without_it g.with_it
