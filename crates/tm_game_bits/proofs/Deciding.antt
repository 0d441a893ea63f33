-- Whether something holds for some values of some levels, or for none.
use Rattle.std.proofs.Common.{◌≡◌, ℕ, zero, suc, ◌<◌, ◌⊎◌, inl, inr, Bool, true, false, eqb, cond, List, [], ◌∷◌, length, get_or, Contains, refl, sym, ap, subst, ◌∙◌, arith}
use Rattle.std.proofs.lemmas.Bool.{eqb-true, eqb-false}
use Rattle.tm_ddops.specs.Quantified.{AgreeElsewhere}
use Rattle.tm_game_bits.specs.Functions.{Assignment}

pub Contains-head : (k : ℕ) (ks : List ℕ) → Contains (k ∷ ks) k
Contains-head k ks = (0, omega arith, refl)

pub Contains-tail : (k : ℕ) (ks : List ℕ) (l : ℕ) → Contains ks l → Contains (k ∷ ks) l
Contains-tail k ks l c = (suc c.0, omega (arith, c.1), c.2)

pub Contains-cases : (k : ℕ) (ks : List ℕ) (l : ℕ) → Contains (k ∷ ks) l → (k ≡ l) ⊎ Contains ks l
Contains-cases k ks l c = by_place c.0 c.1 c.2
  where
    by_place : (i : ℕ) → i < length (k ∷ ks) → get_or (k ∷ ks) i l ≡ l → (k ≡ l) ⊎ Contains ks l
    by_place zero below is = inl is
    by_place (suc i) below is = inr (i, omega (arith, below), is)

-- v with another value at a level
abbrev set_at : ℕ → Bool → Assignment → Assignment
set_at k b v l = cond (eqb l k) b (v l)

set_at-other : (k : ℕ) (b : Bool) (v : Assignment) (l : ℕ) → ¬ (l ≡ k) → set_at k b v l ≡ v l
set_at-other k b v l other = elim (eqb l k) as (λ t. eqb l k ≡ t → cond t b (v l) ≡ v l) [
  | true ↦ λ e. absurd (other (eqb-true l k e))
  | false ↦ λ e. refl
] refl

-- who agrees but for the levels behind the first one agrees but for all
wider : (k : ℕ) (ks : List ℕ) (v : Assignment) (b : Bool) (w : Assignment) → AgreeElsewhere ks (set_at k b v) w →
    AgreeElsewhere (k ∷ ks) v w
wider k ks v b w agree l h =
    agree l (λ c. h (Contains-tail k ks l c))
    ∙ set_at-other k b v l (λ e. h (subst (Contains (k ∷ ks)) (sym e) (Contains-head k ks)))

narrower : (k : ℕ) (ks : List ℕ) (v w : Assignment) → AgreeElsewhere (k ∷ ks) v w →
    AgreeElsewhere ks (set_at k (w k) v) w
narrower k ks v w agree l h = elim (eqb l k) as (λ t. eqb l k ≡ t → w l ≡ cond t (w k) (v l)) [
  | true ↦ λ e. ap w (eqb-true l k e)
  | false ↦ λ e. agree l (λ c. elim (Contains-cases k ks l c) [
    | inl is ↦ absurd (eqb-false l k e (sym is))
    | inr there ↦ h there
  ])
] refl

module _ (P Q : Assignment → Type 0) (test : (w : Assignment) → P w ⊎ Q w) where
  abbrev IsForSome : List ℕ → Assignment → Type 0
  IsForSome levels v = (w : Assignment) × AgreeElsewhere levels v w × P w

  abbrev IsForAll : List ℕ → Assignment → Type 0
  IsForAll levels v = (w : Assignment) → AgreeElsewhere levels v w → Q w

  at_none : (v : Assignment) → P v ⊎ Q v → IsForSome [] v ⊎ IsForAll [] v
  at_none v (inl p) = inl (v, (λ k h. refl), p)
  at_none v (inr q) =
      inr (λ w agree.
      let same : v ≡ w = λ i k. sym (agree k (λ c. omega (arith, c.1))) i in
      subst Q same q)

  at_more : (k : ℕ) (ks : List ℕ) (v : Assignment) → IsForSome ks (set_at k true v) ⊎ IsForAll ks (set_at k true v) →
      IsForSome ks (set_at k false v) ⊎ IsForAll ks (set_at k false v) → IsForSome (k ∷ ks) v ⊎ IsForAll (k ∷ ks) v
  at_more k ks v (inl some) h = inl (some.0, wider k ks v true some.0 some.1, some.2)
  at_more k ks v (inr all) (inl some) = inl (some.0, wider k ks v false some.0 some.1, some.2)
  at_more k ks v (inr so) (inr not_so) =
      inr (λ w agree. elim (w k) as (λ t. AgreeElsewhere ks (set_at k t v) w → Q w) [
        | true ↦ λ a. so w a
        | false ↦ λ a. not_so w a
      ] (narrower k ks v w agree))

  -- by levels: with the first one true, and with it false
  pub some_or_all : (levels : List ℕ) (v : Assignment) → IsForSome levels v ⊎ IsForAll levels v
  some_or_all [] v = at_none v (test v)
  some_or_all (k ∷ ks) v = at_more k ks v (some_or_all ks (set_at k true v)) (some_or_all ks (set_at k false v))
