-- A function has one value where the levels that it depends on have one.
use Rattle.std.proofs.Common.{◌≡◌, ◌⊎◌, inl, inr, ℕ, zero, suc, ◌<◌, ◌≤◌, ◌==◌, Bool, true, false, List, cond, refl, sym, ap, ◌∙◌, arith, true≢false, ltb}
use Rattle.std.specs.Prelude.{◌↔◌, ◌≢◌, Contains}
use Rattle.std.proofs.lemmas.Bool.{cases_lt, eq-eqb, eqb-true, le-ltb, lt-ltb}
use Rattle.tm_abs.specs.Inner.Reading.{ReadsOnly}
use Rattle.tm_dd.specs.declared.node.NodeId.{NodeId}
use Rattle.tm_dd.specs.Reduced.{IsReduced}
use Rattle.tm_dd.specs.Table.{Table, Knows, means}
use Rattle.tm_ddops.specs.Support.{DependsOn, with_value}
use Rattle.tm_game_bits.specs.Functions.{Assignment}

-- ---- the first levels as one assignment has them, the others as another
abbrev pub mixed : ℕ → Assignment → Assignment → Assignment
mixed count w v k = cond (ltb k count) (w k) (v k)

pub mixed_low : (count : ℕ) (w v : Assignment) (k : ℕ) → k < count → mixed count w v k ≡ w k
mixed_low count w v k l = ap (λ (b : Bool). cond b (w k) (v k)) (lt-ltb k count l)

pub mixed_high : (count : ℕ) (w v : Assignment) (k : ℕ) → count ≤ k → mixed count w v k ≡ v k
mixed_high count w v k l = ap (λ (b : Bool). cond b (w k) (v k)) (le-ltb k count l)

-- ---- one level
one_or_other : (a b : Bool) → (a ≡ b) ⊎ (a ≢ b)
one_or_other true true = inl refl
one_or_other false false = inl refl
one_or_other true false = inr true≢false
one_or_other false true = inr (λ e. true≢false (sym e))

stable : (a b : Bool) → ¬ (a ≢ b) → a ≡ b
stable a b h = elim (one_or_other a b) [ inl e ↦ e | inr other ↦ absurd (h other) ]

module _ (s : Table) (id : NodeId) where
  whichever : (h : Assignment) (n : ℕ) → ¬ DependsOn s id n → (a b : Bool) →
      means s id (with_value h n a) ≡ means s id (with_value h n b)
  whichever h n not_so a b = by a b
    where
      both : means s id (with_value h n true) ≡ means s id (with_value h n false)
      both = stable (means s id (with_value h n true)) (means s id (with_value h n false)) (λ differs.
          not_so (h, differs))

      by : (a b : Bool) → means s id (with_value h n a) ≡ means s id (with_value h n b)
      by true true = refl
      by false false = refl
      by true false = both
      by false true = sym both

  put_there : (n : ℕ) (w v : Assignment) (k : ℕ) → mixed (suc n) w v k ≡ with_value (mixed n w v) n (w n) k
  put_there n w v k = by (k == n) refl
    where
      by : (b : Bool) → (k == n) ≡ b → mixed (suc n) w v k ≡ with_value (mixed n w v) n (w n) k
      by true is =
          let e = eqb-true k n is in
          mixed_low (suc n) w v k (omega (arith, e)) ∙ ap w e
          ∙ sym (ap (λ (c : Bool). cond c (w n) (mixed n w v k)) is)
      by false is =
          elim (cases_lt k n) [
            | inl l ↦ mixed_low (suc n) w v k (omega (arith, l)) ∙ sym (mixed_low n w v k l)
                ∙ sym (ap (λ (c : Bool). cond c (w n) (mixed n w v k)) is)
            | inr l ↦
                let other : ¬ (k ≡ n) = λ e. true≢false (sym (eq-eqb k n e) ∙ is) in
                mixed_high (suc n) w v k (omega (arith, l, other)) ∙ sym (mixed_high n w v k l)
                ∙ sym (ap (λ (c : Bool). cond c (w n) (mixed n w v k)) is)
          ]

  was_there : (n : ℕ) (w v : Assignment) (k : ℕ) → mixed n w v k ≡ with_value (mixed n w v) n (v n) k
  was_there n w v k = by (k == n) refl
    where
      by : (b : Bool) → (k == n) ≡ b → mixed n w v k ≡ with_value (mixed n w v) n (v n) k
      by true is =
          let e = eqb-true k n is in
          mixed_high n w v k (omega (arith, e)) ∙ ap v e
          ∙ sym (ap (λ (c : Bool). cond c (v n) (mixed n w v k)) is)
      by false is = sym (ap (λ (c : Bool). cond c (v n) (mixed n w v k)) is)

  -- ---- all levels
  module _ (levels : List ℕ) (exact : (k : ℕ) → Contains levels k ↔ DependsOn s id k) (v w : Assignment)
      (same : (k : ℕ) → Contains levels k → v k ≡ w k) where
    one_more : (n : ℕ) → means s id (mixed (suc n) w v) ≡ means s id (mixed n w v)
    one_more n =
        (λ i. means s id (λ k. put_there n w v k i))
        ∙ elim (one_or_other (v n) (w n)) [
          | inl e ↦ ap (λ (b : Bool). means s id (with_value (mixed n w v) n b)) (sym e)
          | inr differs ↦
              whichever (mixed n w v) n (λ depends. differs (same n ((exact n).1 depends))) (w n) (v n)
        ]
        ∙ sym (λ i. means s id (λ k. was_there n w v k i))

    all_first : (n : ℕ) → means s id (mixed n w v) ≡ means s id v
    all_first zero = λ i. means s id (λ k. mixed_high zero w v k (omega arith) i)
    all_first (suc n) = one_more n ∙ all_first n

pub reads_only : (s : Table) → IsReduced s → (id : NodeId) → Knows s id → (levels : List ℕ) →
    ((k : ℕ) → Contains levels k ↔ DependsOn s id k) → ReadsOnly s id levels
reads_only s reduced id known levels exact v w same =
    sym (all_first s id levels exact v w same s.levels)
    ∙ reduced.independent id known (mixed s.levels w v) w (λ k above below. mixed_low s.levels w v k below)
