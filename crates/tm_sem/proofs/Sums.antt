-- The ranks of goals that are pending one after the other are no more than all ranks together.
use Rattle.std.proofs.Common.{◌≡◌, ℕ, zero, suc, ◌+◌, ◌-◌, ◌<◌, ◌≤◌, ◌⊎◌, inl, inr, false, List, [], ◌∷◌, ◌++◌, length, refl, ap, ◌∙◌, subst, arith}
use Rattle.std.specs.Prelude.{slice_index}
use Rattle.std.specs.List.{AllByRecursion, sum}
use Rattle.std.proofs.lemmas.List.Sums.{sum_by-cons}
use Rattle.tm_syntax.specs.Design.{DesignTree, IsDesign}
use Rattle.tm_sem.specs.declared.state.Move.{Move}
use Rattle.tm_sem.specs.State.{StateData}
use Rattle.tm_sem.specs.Play.{Entry, goal_holds, next_goal, pending}
use Rattle.tm_sem.specs.Fairness.{HasRounds}
use Rattle.tm_sem.specs.Strategy.{IsDriven, states_of, Good}
use Rattle.tm_sem.proofs.Certified.{has_goal}
use Rattle.tm_sem.proofs.Starving.{after_goal, toll, toll_bounds, after_next, next_up, next_round, goes_up, goes_on_up, pending_within}

-- the first n of these numbers, together
abbrev pub total : ℕ → List ℕ → ℕ
total zero rs = 0
total (suc n) [] = 0
total (suc n) (r ∷ rs) = r + total n rs

one_more : (n : ℕ) (rs : List ℕ) → total (suc n) rs ≡ total n rs + slice_index rs n
one_more zero [] = refl
one_more zero (r ∷ rs) = omega arith
one_more (suc n) [] = refl
one_more (suc n) (r ∷ rs) = omega (arith, one_more n rs)

total_rises : (n m : ℕ) (rs : List ℕ) → n ≤ m → total n rs ≤ total m rs
total_rises zero m rs le = omega arith
total_rises (suc n) zero rs le = absurd (omega arith)
total_rises (suc n) (suc m) [] le = omega arith
total_rises (suc n) (suc m) (r ∷ rs) le = omega (arith, total_rises n m rs (omega arith))

total_within : (n : ℕ) (rs : List ℕ) → total n rs ≤ sum rs
total_within zero rs = omega arith
total_within (suc n) [] = omega arith
total_within (suc n) (r ∷ rs) = omega (arith, total_within n rs, sum_by-cons (λ x. x) r rs)

module _ (d : DesignTree) (ranks : List ℕ) where
  -- the toll of goals that follow one another upwards
  toll_up : (k g e : ℕ) → e ≡ suc (g + k) → e ≤ length d.goals →
      toll d ranks k g + total g ranks ≡ total e ranks
  toll_up zero g e is below =
      let same : suc g ≡ e = omega arith in
      subst (λ x. slice_index ranks g + total g ranks ≡ total x ranks) same (omega (arith, one_more g ranks))
  toll_up (suc k) g e is below =
      let up : next_goal d g ≡ g + 1 = next_up d g (omega arith) in
      let next : next_goal d g ≡ suc g = up ∙ omega arith in
      omega (arith, ap (toll d ranks k) next, toll_up k (suc g) e (omega arith) below, one_more g ranks)

  -- the toll of a way is that of its two parts
  toll_then : (k m g n : ℕ) → n ≡ suc (k + m) →
      toll d ranks n g ≡ toll d ranks k g + toll d ranks m (after_goal d (suc k) g)
  toll_then zero m g n is =
      let same : suc m ≡ n = omega arith in
      subst (λ x. toll d ranks x g ≡ slice_index ranks g + toll d ranks m (next_goal d g)) same refl
  toll_then (suc k) m g n is =
      let same : suc (suc (k + m)) ≡ n = omega arith in
      let rest = toll_then k m (next_goal d g) (suc (k + m)) refl in
      subst
      (λ x. toll d ranks x g ≡ toll d ranks (suc k) g + toll d ranks m (after_goal d (suc (suc k)) g)) same
      (omega (arith, rest))

  -- from each goal on the way to another one costs no more than all ranks together
  pub record Cheap (g j : ℕ) : Type 0 where
    pub steps : ℕ
    pub leads : after_goal d steps g ≡ j
    pub cheap : toll d ranks steps g ≤ sum ranks

  pub way : (g j : ℕ) → g < length d.goals → j < length d.goals → Cheap g j
  way g j below is_goal = of_order (order g j)
    where
      order : (a b : ℕ) → (a ≤ b) ⊎ (b < a)
      order a b = grind arith

      of_order : (g ≤ j) ⊎ (j < g) → Cheap g j
      of_order (inl up) = record {
        steps = j - g;
        leads = goes_up d (j - g) g j (omega arith) is_goal;
        cheap = omega (arith, toll_up (j - g) g (suc j) (omega arith) (omega arith), total_within (suc j) ranks);
      }
      of_order (inr down) =
          let count = length d.goals in
          let k = count - 1 - g in
          let up : after_goal d k g ≡ count - 1 = goes_up d k g (count - 1) (omega arith) (omega arith) in
          let round : after_goal d (suc k) g ≡ 0 =
          after_next d k g (count - 1) up ∙ next_round d (count - 1) (omega arith) in
          let first = toll_up k g count (omega arith) (omega arith) in
          let second = toll_up j 0 (suc j) (omega arith) (omega arith) in
          let both = toll_then k j g (suc (k + j)) refl in
          let start = ap (toll d ranks j) round in
          record {
            steps = suc (k + j);
            leads = goes_on_up d (suc k) j g j round refl is_goal (suc (k + j)) (omega arith);
            cheap = omega (
              arith,
              first,
              second,
              both,
              start,
              total_rises (suc j) g ranks (omega arith),
              total_within count ranks,
            );
          }

-- under a good driver a stretch in which a goal never holds has fewer rounds than all ranks together
pub waits_for_less_than_all : (d : DesignTree) → IsDesign d → (answers : StateData → ℕ → Move → Type 0)
    (ranks : List ℕ) → Good d answers ranks → (first : StateData) (entries : List Entry) →
    IsDriven d answers first entries → (j n : ℕ) (before stretch after : List StateData) → j < length d.goals →
    states_of first entries ≡ before ++ (stretch ++ after) →
    AllByRecursion (λ s. goal_holds d s j ≡ false) stretch → HasRounds d n stretch → n < sum ranks
waits_for_less_than_all d is answers ranks good first entries driven j n before stretch after is_goal whole fails
    rounds =
    let some = has_goal d is in
    let g = pending d before in
    let below : g < length d.goals = pending_within d before some 0 some in
    let round = way d ranks g j below is_goal in
    let fewer : n < toll d ranks round.steps g =
    toll_bounds d ranks (states_of first entries) (good.bounded first entries driven) j is_goal round.steps g
    round.leads below before stretch after whole refl fails n rounds in
    omega (arith, fewer, round.cheap)
