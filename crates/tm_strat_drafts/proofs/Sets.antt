-- Sets of states: inclusion and counting.
use Rattle.std.proofs.Common.{◌≡◌, inl, inr, ℕ, ◌+◌, ◌<◌, ◌≤◌, Bool, true, false, List, [], ◌∷◌, if◌then◌else◌, refl}
use Rattle.std.proofs.Common.{sym, ap, ◌∙◌, arith}
use Rattle.tm_sem.specs.State.{StateData}
use Rattle.tm_solve.specs.Sets.{StateSet, IsAmong, IsWithin, IsSame, count}

pub within_then : {n : List StateData} {a b c : StateSet} → IsWithin n a b → IsWithin n b c → IsWithin n a c
within_then v w = record { within = λ s among here. w.within s among (v.within s among here) }

pub same_within : {n : List StateData} {a b : StateSet} → IsSame n a b → IsWithin n a b
same_within e = record { within = λ s among here. sym (e.same s among) ∙ here }

rest_within : {t : StateData} {ts : List StateData} {a b : StateSet} → IsWithin (t ∷ ts) a b → IsWithin ts a b
rest_within w = record { within = λ s among. w.within s (inr among) }

-- ---- counting
count_head : (x y : Bool) (m k : ℕ) → (x ≡ true → y ≡ true) → m ≤ k →
    (if x then 1 else 0) + m ≤ (if y then 1 else 0) + k
count_head true true m k h l = omega arith
count_head true false m k h l = let wrong : false ≡ true = h refl in cc
count_head false true m k h l = omega arith
count_head false false m k h l = omega arith

count_within : (n : List StateData) (a b : StateSet) → IsWithin n a b → count n a ≤ count n b
count_within [] a b w = omega arith
count_within (s ∷ ss) a b w =
    count_head (a s) (b s) _ _ (w.within s (inl refl)) (count_within ss a b (rest_within w))

head_gains : (x y : Bool) (m k : ℕ) → x ≡ false → y ≡ true → m ≤ k → (if x then 1 else 0) + m < (if y then 1 else 0) + k
head_gains true y m k p q l = cc
head_gains false true m k p q l = omega arith
head_gains false false m k p q l = cc

head_more : (x y : Bool) (m k : ℕ) → (x ≡ true → y ≡ true) → m < k → (if x then 1 else 0) + m < (if y then 1 else 0) + k
head_more true true m k h l = omega arith
head_more true false m k h l = let wrong : false ≡ true = h refl in cc
head_more false true m k h l = omega arith
head_more false false m k h l = omega arith

-- a part of a set that misses a state of it has fewer states
pub count_lt : (n : List StateData) (a b : StateSet) → IsWithin n a b → (s : StateData) → IsAmong s n → a s ≡ false →
    b s ≡ true → count n a < count n b
count_lt [] a b w s among p q = absurd among
count_lt (t ∷ ts) a b w s (inl e) p q =
    head_gains (a t) (b t) _ _ (ap a (sym e) ∙ p) (ap b (sym e) ∙ q) (count_within ts a b (rest_within w))
count_lt (t ∷ ts) a b w s (inr r) p q =
    head_more (a t) (b t) _ _ (w.within t (inl refl)) (count_lt ts a b (rest_within w) s r p q)
