-- The steps of a decision.
use Rattle.std.proofs.Common.{◌≡◌, ◌⊎◌, inl, inr, ℕ, zero, suc, ◌+◌, ◌<◌, ◌≤◌, ◌==◌, ◌||◌, Bool, true, false, List, [], ◌∷◌, ◌++◌, length, slice_get, Some, if◌then◌else◌, refl, sym, ap, ◌∙◌, subst, arith, eqb-true, eq-eqb}
use Rattle.std.specs.List.{range_with_len}
use Rattle.std.proofs.lemmas.List.FromFn.{length-range_with_len}
use Rattle.tm_refine.specs.declared.trace.Added.{Added}
use Rattle.tm_sem.specs.State.{StateData}
use Rattle.tm_refine.specs.Reasons.{tracked_by}
use Rattle.tm_refine.specs.Numbers.{is_in, left_below}
use Rattle.tm_refine.proofs.Tracing.{append_nil, tracked_more}

or_either : (a b : Bool) → (a || b) ≡ true → (a ≡ true) ⊎ (b ≡ true)
or_either true b e = inl refl
or_either false b e = inr e

or_assoc : (a b c : Bool) → (a || (b || c)) ≡ ((a || b) || c)
or_assoc true b c = refl
or_assoc false b c = refl

or_false : (a : Bool) → (a || false) ≡ a
or_false true = refl
or_false false = refl

in_list : (k : ℕ) (ks : List ℕ) → is_in k ks ≡ true → (i : ℕ) × (slice_get ks i ≡ Some k)
in_list k [] e = absurd (cc)
in_list k (j ∷ js) e =
    elim (or_either (k == j) (is_in k js) e) [
      | inl here ↦ (0, ap (λ (n : ℕ). Some n) (sym (eqb-true k j here)))
      | inr rest ↦ let found = in_list k js rest in (suc found.0, found.1)
    ]

pub not_in : (k : ℕ) (ks : List ℕ) → ((i : ℕ) → slice_get ks i ≡ Some k → ⊥) → is_in k ks ≡ false
not_in k ks none = by (is_in k ks) refl
  where
    by : (b : Bool) → is_in k ks ≡ b → b ≡ false
    by true e = let found = in_list k ks e in absurd (none found.0 found.1)
    by false e = refl

in_more : (i : ℕ) (ks : List ℕ) (k : ℕ) → is_in i (ks ++ k ∷ []) ≡ (is_in i ks || i == k)
in_more i [] k = or_false (i == k)
in_more i (j ∷ js) k =
    ap (λ (b : Bool). i == j || b) (in_more i js k) ∙ or_assoc (i == j) (is_in i js) (i == k)

other : (i k : ℕ) → (i ≡ k → ⊥) → (i == k) ≡ false
other i k none = by (i == k) refl
  where
    by : (b : Bool) → (i == k) ≡ b → b ≡ false
    by true e = absurd (none (eqb-true i k e))
    by false e = refl

in_others : (i : ℕ) (ks : List ℕ) (k : ℕ) → (i ≡ k → ⊥) → is_in i (ks ++ k ∷ []) ≡ is_in i ks
in_others i ks k none =
    in_more i ks k ∙ ap (λ (b : Bool). is_in i ks || b) (other i k none) ∙ or_false (is_in i ks)

in_itself : (ks : List ℕ) (k : ℕ) → is_in k ks ≡ false → is_in k (ks ++ k ∷ []) ≡ true
in_itself ks k out =
    in_more k ks k ∙ ap (λ (b : Bool). b || k == k) out ∙ eq-eqb k k refl

-- one more number below the bound
step_out : (b : Bool) (m : ℕ) → b ≡ false → (if b then 0 else 1) + m ≡ suc m
step_out true m e = absurd (cc)
step_out false m e = omega arith

step_in : (b : Bool) (m : ℕ) → b ≡ true → (if b then 0 else 1) + m ≡ m
step_in true m e = omega arith
step_in false m e = absurd (cc)

step_both : (b c : Bool) (m k : ℕ) → c ≡ b → m ≡ suc k →
    (if b then 0 else 1) + m ≡ suc ((if c then 0 else 1) + k)
step_both true true m k e f = omega arith
step_both false false m k e f = omega arith
step_both true false m k e f = absurd (cc)
step_both false true m k e f = absurd (cc)

left_same : (n : ℕ) (ks : List ℕ) (k : ℕ) → n ≤ k → left_below n (ks ++ k ∷ []) ≡ left_below n ks
left_same zero ks k less = refl
left_same (suc n) ks k less =
    ap (λ (b : Bool). (if b then 0 else 1) + left_below n (ks ++ k ∷ [])) (in_others n ks k (λ e. omega arith))
    ∙ ap (λ (m : ℕ). (if is_in n ks then 0 else 1) + m) (left_same n ks k (omega arith))

equal_or_below : (m k : ℕ) → m ≤ k → (m ≡ k) ⊎ (m < k)
equal_or_below zero zero l = inl refl
equal_or_below zero (suc k) l = inr (omega arith)
equal_or_below (suc m) zero l = absurd (omega arith)
equal_or_below (suc m) (suc k) l =
    elim (equal_or_below m k (omega arith)) [ inl e ↦ inl (ap (λ i. suc i) e) | inr h ↦ inr (omega arith) ]

pub left_more : (n : ℕ) (ks : List ℕ) (k : ℕ) → k < n → is_in k ks ≡ false →
    left_below n ks ≡ suc (left_below n (ks ++ k ∷ []))
left_more zero ks k less out = absurd (omega arith)
left_more (suc n) ks k less out =
    elim (equal_or_below k n (omega arith)) [
      | inl e ↦ subst (λ (m : ℕ). left_below (suc m) ks ≡ suc (left_below (suc m) (ks ++ k ∷ []))) e (last k out)
      | inr lower ↦ among n lower (left_more n ks k lower out)
    ]
  where
    last : (k : ℕ) → is_in k ks ≡ false → left_below (suc k) ks ≡ suc (left_below (suc k) (ks ++ k ∷ []))
    last k out =
        let one = step_out (is_in k ks) (left_below k ks) out in
        let none = step_in (is_in k (ks ++ k ∷ [])) (left_below k (ks ++ k ∷ [])) (in_itself ks k out) in
        let rest = left_same k ks k (omega arith) in
        omega arith

    among : (n : ℕ) → k < n → left_below n ks ≡ suc (left_below n (ks ++ k ∷ [])) →
        left_below (suc n) ks ≡ suc (left_below (suc n) (ks ++ k ∷ []))
    among n lower rest =
        step_both (is_in n ks) (is_in n (ks ++ k ∷ [])) (left_below n ks) (left_below n (ks ++ k ∷ []))
        (in_others n ks k (λ e. omega arith)) rest

-- ---- the first numbers
out_of_range : (a l k : ℕ) → (k < a) ⊎ (a + l ≤ k) → is_in k (range_with_len a l) ≡ false
out_of_range a zero k out = refl
out_of_range a (suc l) k out =
    ap (λ (b : Bool). b || is_in k (range_with_len (a + 1) l)) (other k a (λ e. apart e out))
    ∙ out_of_range (a + 1) l k (next out)
  where
    apart : k ≡ a → (k < a) ⊎ (a + suc l ≤ k) → ⊥
    apart e (inl low) = omega arith
    apart e (inr high) = omega arith

    next : (k < a) ⊎ (a + suc l ≤ k) → (k < a + 1) ⊎ (a + 1 + l ≤ k)
    next (inl low) = inl (omega arith)
    next (inr high) = inr (omega arith)

in_range : (a l k : ℕ) → a ≤ k → k < a + l → is_in k (range_with_len a l) ≡ true
in_range a zero k low high = absurd (omega arith)
in_range a (suc l) k low high =
    elim (equal_or_below a k low) [
      | inl e ↦
          ap (λ (b : Bool). b || is_in k (range_with_len (a + 1) l)) (eq-eqb k a (sym e))
      | inr more ↦
          ap (λ (b : Bool). k == a || b) (in_range (a + 1) l k (omega arith) (omega arith)) ∙ or_true (k == a)
    ]
  where
    or_true : (b : Bool) → (b || true) ≡ true
    or_true true = refl
    or_true false = refl

left_none : (n l : ℕ) → n ≤ l → left_below n (range_with_len 0 l) ≡ 0
left_none zero l less = refl
left_none (suc n) l less =
    step_in (is_in n (range_with_len 0 l)) (left_below n (range_with_len 0 l))
    (in_range 0 l n (omega arith) (omega arith))
    ∙ left_none n l (omega arith)

left_rest : (n l : ℕ) → l ≤ n → l + left_below n (range_with_len 0 l) ≡ n
left_rest zero l less = omega arith
left_rest (suc n) l less =
    elim (equal_or_below l (suc n) less) [
      | inl e ↦ let none = left_none (suc n) l (omega arith) in omega arith
      | inr more ↦
          let one = step_out (is_in n (range_with_len 0 l)) (left_below n (range_with_len 0 l))
          (out_of_range 0 l n (inr (omega arith))) in
          let rest = left_rest n l (omega arith) in
          omega arith
    ]

pub room_first : (n l : ℕ) (ks : List ℕ) → ks ≡ range_with_len 0 l → l ≤ n → length ks + left_below n ks ≡ n
room_first n l ks is less =
    subst (λ (js : List ℕ). length js + left_below n js ≡ n) (sym is)
    (let long = length-range_with_len 0 l in let rest = left_rest n l less in omega arith)

length_more : (ks : List ℕ) (k : ℕ) → length (ks ++ k ∷ []) ≡ suc (length ks)
length_more [] k = refl
length_more (j ∷ js) k = ap (λ n. suc n) (length_more js k)

-- one more number
pub room_more : (n : ℕ) (ks js : List ℕ) (k : ℕ) → length ks + left_below n ks ≡ n → js ≡ ks ++ k ∷ [] → k < n →
    is_in k ks ≡ false → length js + left_below n js ≡ n
room_more n ks js k room is less out =
    subst (λ (l : List ℕ). length l + left_below n l ≡ n) (sym is)
    (let long = length_more ks k in let fewer = left_more n ks k less out in omega arith)

pub room_less : (n : ℕ) (ks js : List ℕ) (k : ℕ) → js ≡ ks ++ k ∷ [] → k < n → is_in k ks ≡ false →
    left_below n js < left_below n ks
room_less n ks js k is less out =
    subst (λ (l : List ℕ). left_below n l < left_below n ks) (sym is)
    (let fewer = left_more n ks k less out in omega arith)

pub step_tracked : (first ks js : List ℕ) (added more : List Added) (k : ℕ) (left right : StateData) →
    ks ≡ tracked_by first added → js ≡ ks ++ k ∷ [] →
    more ≡ added ++ record { predicate = k; left = left; right = right } ∷ [] → js ≡ tracked_by first more
step_tracked first ks js added more k left right is grown more_is =
    grown ∙ ap (λ (l : List ℕ). l ++ k ∷ []) is
    ∙ sym (tracked_more first added (record { predicate = k; left = left; right = right }))
    ∙ ap (λ (l : List Added). tracked_by first l) (sym more_is)

pub tracked_first : (first ks : List ℕ) (added : List Added) → ks ≡ first → added ≡ [] → ks ≡ tracked_by first added
tracked_first first ks added is none =
    is ∙ sym (append_nil first) ∙ ap (λ (l : List Added). tracked_by first l) (sym none)
