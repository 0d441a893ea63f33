-- An environment's certificate shows that the design is lost.
use Rattle.std.proofs.Common.{◌≡◌, ℕ, zero, suc, ◌+◌, ◌-◌, ◌*◌, ◌≤◌, Bool, true, false, Option, None, Some, List, [], ◌∷◌, get_or, length, refl, ap, subst, arith}
use Rattle.std.specs.Prelude.{slice_get}
use Rattle.std.specs.Option.{option_map_or}
use Rattle.std.proofs.Math.Nat.{le-max_left, le-max_right}
use Rattle.std.proofs.lemmas.Option.{slice_get-get_or}
use Rattle.tm_syntax.specs.Design.{DesignTree}
use Rattle.tm_sem.specs.State.{StateData}
use Rattle.tm_sem.specs.Step.{IsInitial}
use Rattle.tm_sem.specs.Fairness.{conditions}
use Rattle.tm_sem.specs.Loss.{Beats}
use Rattle.tm_sem.specs.Certificates.{IsIn, Level, level_before, nowhere, MeetsEnvironment, longest_of, longest_chain}
use Rattle.tm_sem.proofs.Winning.{more_steps}
use Rattle.tm_sem.proofs.Levels.{level_beats}

chain_within : (chains : List (List (StateData → Bool))) (i : ℕ) (chain : List (StateData → Bool)) →
    slice_get chains i ≡ Some chain → length chain ≤ longest_of chains
chain_within [] i chain is = absurd (cc)
chain_within (c ∷ cs) zero chain is =
    let same : c ≡ chain = cc in
    let long : length c ≡ length chain = ap length same in
    omega (arith, le-max_left (length c) (longest_of cs))
chain_within (c ∷ cs) (suc i) chain is =
    omega (arith, chain_within cs i chain is, le-max_right (length c) (longest_of cs))

level_within : (levels : List Level) (k i : ℕ) (l : Level) (chain : List (StateData → Bool)) →
    slice_get levels k ≡ Some l → slice_get l.chains i ≡ Some chain → length chain ≤ longest_chain levels
level_within [] k i l chain at is = absurd (cc)
level_within (x ∷ xs) zero i l chain at is =
    let same : x ≡ l = cc in
    let long : longest_of x.chains ≡ longest_of l.chains = ap (λ (y : Level). longest_of y.chains) same in
    omega (arith, long, chain_within l.chains i chain is, le-max_left (longest_of x.chains) (longest_chain xs))
level_within (x ∷ xs) (suc k) i l chain at is =
    omega (arith, level_within xs k i l chain at is, le-max_right (longest_of x.chains) (longest_chain xs))

-- a round of m conditions, with chains of x + 1 sets at most, costs no more than m moves a set
cost_of_parts : (n y x : ℕ) → n * (suc y * x + 1) ≤ n * (suc y * (x + 1))
cost_of_parts n y x = grind arith

cost_of_rounds : (n m most : ℕ) → 1 ≤ m → 1 ≤ most → n * (m * (most - 1) + 1) ≤ n * (m * most)
cost_of_rounds n m most some long =
    let conditions_are : suc (m - 1) ≡ m = omega arith in
    let sets_are : (most - 1) + 1 ≡ most = omega arith in
    subst (λ a. n * (a * (most - 1) + 1) ≤ n * (a * most)) conditions_are
    (subst (λ b. n * (suc (m - 1) * (most - 1) + 1) ≤ n * (suc (m - 1) * b)) sets_are
    (cost_of_parts n (m - 1) (most - 1)))

module _ (d : DesignTree) (levels : List Level) (meets : MeetsEnvironment d levels) (n : ℕ) where
  -- what a level costs at most
  abbrev cost : ℕ
  cost = n * (length (conditions d) * longest_chain levels) + 1

  -- each chain of a level holds a set
  some_chain : (k : ℕ) (l : Level) → slice_get levels k ≡ Some l → 1 ≤ longest_chain levels
  some_chain k l at =
      let many = meets.chains k l at in
      let chain = get_or l.chains 0 [] in
      let is : slice_get l.chains 0 ≡ Some chain = slice_get-get_or l.chains 0 [] (omega arith) in
      omega (arith, ((meets.e0 k l at).2 0 chain is).0, level_within levels k 0 l chain at is)

  climb : (k : ℕ) (before : List StateData) (s : StateData) → IsIn d (level_before levels k) s →
      Beats d (k * cost) before s n
  climb zero before s here = absurd (let wrong : false ≡ true = here.1 in cc)
  climb (suc k) before s here =
      of_level (λ before s there. climb k before s there) (slice_get levels k) refl here
    where
      of_level : ((before : List StateData) (s : StateData) → IsIn d (level_before levels k) s →
          Beats d (k * cost) before s n) → (o : Option Level) → slice_get levels k ≡ o →
          IsIn d (option_map_or (λ (l : Level). l.set) o nowhere) s → Beats d (suc k * cost) before s n
      of_level lower None at here = absurd (let wrong : false ≡ true = here.1 in cc)
      of_level lower (Some l) at here =
          more_steps d (k * cost + n * (length (conditions d) * (longest_chain levels - 1) + 1)) (suc k * cost) before s
          n
          (let fewer = cost_of_rounds n (length (conditions d)) (longest_chain levels) (omega arith)
          (some_chain k l at) in
          grind arith)
          (level_beats d levels meets n k l at (longest_chain levels - 1)
          (λ i chain is. omega (arith, level_within levels k i l chain at is)) (k * cost)
          lower before s here)

-- for any number of rounds the environment forces them, or an error, from some initial state, in so many steps
pub certified_is_lost : (d : DesignTree) (levels : List Level) → MeetsEnvironment d levels → (n : ℕ) →
    (first : StateData) × IsInitial d first
    × Beats d (length levels * (n * (length (conditions d) * longest_chain levels) + 1)) [] first n
certified_is_lost d levels meets n =
    (meets.e1.0, meets.e1.1, climb d levels meets n (length levels) [] meets.e1.0 meets.e1.2)
