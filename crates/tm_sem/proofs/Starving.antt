-- Under a good driver no goal waits for ever, whichever goals are pending meanwhile.
use Rattle.std.proofs.Common.{◌≡◌, ℕ, zero, suc, ◌+◌, ◌-◌, ◌*◌, ◌<◌, ◌≤◌, ◌⊎◌, inl, inr, Bool, true, false, List, [], ◌∷◌, ◌++◌, length, refl, sym, ap, ◌∙◌, subst, arith, append_assoc}
use Rattle.std.specs.Prelude.{max, nat_lt, slice_index, if◌then◌else◌}
use Rattle.std.proofs.Math.Nat.{le-max_left, le-max_right}
use Rattle.std.proofs.lemmas.List.Sums.{fold-append}
use Rattle.std.specs.List.{AllByRecursion, fold}
use Rattle.std.proofs.lemmas.Bool.Decides.{nat_tests}
use Rattle.tm_syntax.specs.Design.{DesignTree}
use Rattle.tm_sem.specs.State.{StateData}
use Rattle.tm_sem.specs.Play.{goal_holds, next_goal, pending_at, pending}
use Rattle.tm_sem.specs.Fairness.{HasRounds, no_round, one_more}
use Rattle.tm_sem.specs.Strategy.{Waits, BoundsRounds}
use Rattle.tm_sem.specs.Loss.{IsStarved}
use Rattle.tm_sem.proofs.Counting.{SplitAt, split_at, covered_before}

module _ (d : DesignTree) where
  -- rounds stay when more stands behind
  rounds_before : {n : ℕ} (stretch rest : List StateData) → HasRounds d n stretch → HasRounds d n (stretch ++ rest)
  rounds_before stretch rest (no_round _) = no_round (stretch ++ rest)
  rounds_before _ rest (one_more {n = n} {front = front} part rounds covered) =
      subst (HasRounds d (suc n)) (sym (append_assoc front part rest))
      (one_more (part ++ rest) rounds (covered_before d part rest covered))

  -- rounds of what stands before a state and behind it: at most one more round holds the state
  pub record Shared (k : ℕ) (front back : List StateData) : Type 0 where
    pub first : ℕ
    pub second : ℕ
    pub before : HasRounds d first front
    pub behind : HasRounds d second back
    pub few : k ≤ first + suc second

  shared : {k : ℕ} (stretch : List StateData) (x : List StateData) (s : StateData) (y : List StateData) →
      HasRounds d k stretch → stretch ≡ x ++ s ∷ y → Shared k x y
  shared stretch x s y (no_round _) same =
      record { first = 0; second = 0; before = no_round x; behind = no_round y; few = omega arith }
  shared _ x s y (one_more {n = n} {front = front} part rounds covered) same =
      of_split (λ gap is. shared front x s gap rounds is) (split_at front part x s y same)
    where
      of_split : ((gap : List StateData) → front ≡ x ++ s ∷ gap → Shared n x gap) → SplitAt front part x s y →
          Shared (suc n) x y
      of_split next (inl found) = record {
        first = n;
        second = 0;
        before = subst (HasRounds d n) (sym found.1) (rounds_before front found.0 rounds);
        behind = no_round y;
        few = omega arith;
      }
      of_split next (inr found) =
          let inner = next found.0 found.1 in
          record {
            first = inner.first;
            second = suc inner.second;
            before = inner.before;
            behind = subst (HasRounds d (suc inner.second)) (sym found.2) (one_more part inner.behind covered);
            few = omega (arith, inner.few);
          }

  -- a stretch in which one goal fails: another one that is pending before it stays so, or changes at its first state
  -- that meets it
  pub data Handed (g : ℕ) : List StateData → Type 0 where
    stays_pending : {stretch : List StateData} → Waits d g g stretch → Handed g stretch
    is_handed_on : (front : List StateData) (s : StateData) (back : List StateData) → Waits d g g front →
        goal_holds d s g ≡ true → Handed g (front ++ s ∷ back)

  handed : (g : ℕ) (stretch : List StateData) → Handed g stretch
  handed g [] = stays_pending tt
  handed g (s ∷ ss) = of_test ss (goal_holds d s g) refl (handed g ss)
    where
      waits_on : (ts : List StateData) → goal_holds d s g ≡ false → Waits d g g ts → Waits d g g (s ∷ ts)
      waits_on ts fails waits =
          let same : pending_at d g s ≡ g = rw fails refl in
          (same, fails, subst (λ h. Waits d g h ts) (sym same) waits)

      of_test : (ts : List StateData) (b : Bool) → goal_holds d s g ≡ b → Handed g ts → Handed g (s ∷ ts)
      of_test ts true holds rest = is_handed_on [] s ts tt holds
      of_test ts false fails (stays_pending waits) = stays_pending (waits_on ts fails waits)
      of_test _ false fails (is_handed_on front last back waits holds) =
          is_handed_on (s ∷ front) last back (waits_on front fails waits) holds

  pending_along : (g : ℕ) (stretch : List StateData) → Waits d g g stretch → fold (pending_at d) g stretch ≡ g
  pending_along g [] waits = refl
  pending_along g (s ∷ ss) waits =
      rw waits.0 (pending_along g ss (subst (λ h. Waits d g h ss) waits.0 waits.2))

  -- the goals that follow one in the circle
  abbrev pub after_goal : ℕ → ℕ → ℕ
  after_goal zero g = g
  after_goal (suc k) g = after_goal k (next_goal d g)

  -- the ranks of a goal and of so many that follow it, together
  abbrev pub toll : List ℕ → ℕ → ℕ → ℕ
  toll ranks zero g = slice_index ranks g
  toll ranks (suc k) g = slice_index ranks g + toll ranks k (next_goal d g)

  next_within : (g : ℕ) → 0 < length d.goals → next_goal d g < length d.goals
  next_within g some = of_test (nat_lt (g + 1) (length d.goals)) refl
    where
      of_test : (b : Bool) → nat_lt (g + 1) (length d.goals) ≡ b → (if b then g + 1 else 0) < length d.goals
      of_test true is = grind (arith, nat_tests, is)
      of_test false is = some

  toll_more : (ranks : List ℕ) (k g : ℕ) → slice_index ranks g ≤ toll ranks k g
  toll_more ranks zero g = omega arith
  toll_more ranks (suc k) g = omega arith

  fails_behind : (j : ℕ) (front : List StateData) (s : StateData) (back : List StateData) →
      AllByRecursion (λ s. goal_holds d s j ≡ false) (front ++ s ∷ back) →
      (goal_holds d s j ≡ false) × AllByRecursion (λ s. goal_holds d s j ≡ false) back
  fails_behind j [] s back fails = fails
  fails_behind j (x ∷ xs) s back fails = fails_behind j xs s back fails.1

  -- the goal that is pending behind a stretch that hands it on
  pending_behind : (g : ℕ) (before front : List StateData) (s : StateData) → pending d before ≡ g →
      Waits d g g front → goal_holds d s g ≡ true → pending d (before ++ (front ++ s ∷ [])) ≡ next_goal d g
  pending_behind g before front s is waits holds =
      fold-append (pending_at d) 0 before (front ++ s ∷ [])
      ∙ ap (λ h. fold (pending_at d) h (front ++ s ∷ [])) is
      ∙ fold-append (pending_at d) g front (s ∷ [])
      ∙ ap (λ h. pending_at d h s) (pending_along g front waits)
      ∙ (rw holds refl)

  -- a list, split behind one of its items
  behind_item : (before front : List StateData) (s : StateData) (rest : List StateData) →
      before ++ (front ++ s ∷ rest) ≡ (before ++ (front ++ s ∷ [])) ++ rest
  behind_item before front s rest =
      ap (λ l. before ++ l) (sym (append_assoc front (s ∷ []) rest)) ∙ sym (append_assoc before (front ++ s ∷ []) rest)

  module _ (ranks : List ℕ) (states : List StateData) (bounds : BoundsRounds d ranks states) (j : ℕ)
      (is_goal : j < length d.goals) where
    -- the claim for a goal from which j is reached in k steps of the circle
    abbrev pub Bounded : ℕ → ℕ → Type 0
    Bounded k g =
        (before stretch after : List StateData) → states ≡ before ++ (stretch ++ after) → pending d before ≡ g →
        AllByRecursion (λ s. goal_holds d s j ≡ false) stretch → (n : ℕ) → HasRounds d n stretch → n < toll ranks k g

    while_pending : (k g : ℕ) → g < length d.goals → (before stretch after : List StateData) →
        states ≡ before ++ (stretch ++ after) → pending d before ≡ g → Waits d g g stretch → (n : ℕ) →
        HasRounds d n stretch → n < toll ranks k g
    while_pending k g below before stretch after whole is waits n rounds =
        let fewer : n < slice_index ranks g =
        bounds g n before stretch after below whole (subst (λ h. Waits d g h stretch) (sym is) waits) rounds in
        omega (arith, fewer, toll_more ranks k g)

    handing_on : (k g : ℕ) → g < length d.goals → Bounded k (next_goal d g) → (before front : List StateData)
        (s : StateData) (back after : List StateData) → states ≡ before ++ ((front ++ s ∷ back) ++ after) →
        pending d before ≡ g → Waits d g g front → goal_holds d s g ≡ true →
        AllByRecursion (λ s. goal_holds d s j ≡ false) back → (n : ℕ) → HasRounds d n (front ++ s ∷ back) →
        n < slice_index ranks g + toll ranks k (next_goal d g)
    handing_on k g below next before front s back after whole is waits holds fails n rounds =
        let parts = shared (front ++ s ∷ back) front s back rounds refl in
        let here = whole ∙ ap (λ l. before ++ l) (append_assoc front (s ∷ back) after) in
        let first : parts.first < slice_index ranks g =
        bounds g parts.first before front (s ∷ (back ++ after)) below here
        (subst (λ h. Waits d g h front) (sym is) waits) parts.before in
        let second : parts.second < toll ranks k (next_goal d g) =
        next (before ++ (front ++ s ∷ [])) back after (here ∙ behind_item before front s (back ++ after))
        (pending_behind g before front s is waits holds) fails parts.second parts.behind in
        omega (arith, parts.few, first, second)

    -- where one goal never holds, a stretch has fewer rounds than the toll of the goals up to it
    pub toll_bounds : (k g : ℕ) → after_goal k g ≡ j → g < length d.goals → Bounded k g
    toll_bounds zero g leads below before stretch after whole is fails n rounds =
        of_handed stretch (handed g stretch) whole fails rounds
      where
        of_handed : (stretch : List StateData) → Handed g stretch → states ≡ before ++ (stretch ++ after) →
            AllByRecursion (λ s. goal_holds d s j ≡ false) stretch → HasRounds d n stretch → n < slice_index ranks g
        of_handed stretch (stays_pending waits) whole fails rounds =
            while_pending zero g below before stretch after whole is waits n rounds
        of_handed _ (is_handed_on front s back waits holds) whole fails rounds =
            let failing : goal_holds d s j ≡ false = (fails_behind j front s back fails).0 in
            let holding : goal_holds d s j ≡ true = subst (λ h. goal_holds d s h ≡ true) leads holds in
            let wrong : false ≡ true = sym failing ∙ holding in
            absurd (cc)
    toll_bounds (suc k) g leads below before stretch after whole is fails n rounds =
        of_handed (toll_bounds k (next_goal d g) leads (next_within g (omega (arith, is_goal)))) stretch
        (handed g stretch) whole fails rounds
      where
        of_handed : Bounded k (next_goal d g) → (stretch : List StateData) → Handed g stretch →
            states ≡ before ++ (stretch ++ after) → AllByRecursion (λ s. goal_holds d s j ≡ false) stretch →
            HasRounds d n stretch → n < slice_index ranks g + toll ranks k (next_goal d g)
        of_handed next stretch (stays_pending waits) whole fails rounds =
            while_pending (suc k) g below before stretch after whole is waits n rounds
        of_handed next _ (is_handed_on front s back waits holds) whole fails rounds =
            handing_on k g below next before front s back after whole is waits holds
            (fails_behind j front s back fails).1 n rounds

  -- ---- the way round

  pub after_next : (k g h : ℕ) → after_goal k g ≡ h → after_goal (suc k) g ≡ next_goal d h
  after_next zero g h is = ap (next_goal d) is
  after_next (suc k) g h is = after_next k (next_goal d g) h is

  pub next_up : (g : ℕ) → g + 1 < length d.goals → next_goal d g ≡ g + 1
  next_up g below = of_test (nat_lt (g + 1) (length d.goals)) refl
    where
      of_test : (b : Bool) → nat_lt (g + 1) (length d.goals) ≡ b → (if b then g + 1 else 0) ≡ g + 1
      of_test true is = refl
      of_test false is = absurd (grind (arith, nat_tests, is))

  pub next_round : (g : ℕ) → g + 1 ≡ length d.goals → next_goal d g ≡ 0
  next_round g last = of_test (nat_lt (g + 1) (length d.goals)) refl
    where
      of_test : (b : Bool) → nat_lt (g + 1) (length d.goals) ≡ b → (if b then g + 1 else 0) ≡ 0
      of_test true is = absurd (grind (arith, nat_tests, is))
      of_test false is = refl

  -- so many goals further up
  pub goes_up : (k g j : ℕ) → j ≡ g + k → j < length d.goals → after_goal k g ≡ j
  goes_up zero g j is below = omega arith
  goes_up (suc k) g j is below =
      let before : after_goal k g ≡ g + k = goes_up k g (g + k) refl (omega arith) in
      let up : next_goal d (g + k) ≡ (g + k) + 1 = next_up (g + k) (omega arith) in
      after_next k g (g + k) before ∙ up ∙ omega arith

  pub goes_on_up : (k m g j : ℕ) → after_goal k g ≡ 0 → j ≡ m → j < length d.goals → (n : ℕ) → n ≡ k + m →
      after_goal n g ≡ j
  goes_on_up k zero g j leads is below n count =
      let same : k ≡ n = omega arith in
      let first : 0 ≡ j = omega arith in
      subst (λ x. after_goal x g ≡ j) same (leads ∙ first)
  goes_on_up k (suc m) g j leads is below n count =
      let before : after_goal (k + m) g ≡ m = goes_on_up k m g m leads refl (omega arith) (k + m) refl in
      let same : suc (k + m) ≡ n = omega arith in
      let up : next_goal d m ≡ m + 1 = next_up m (omega arith) in
      let last : m + 1 ≡ j = omega arith in
      subst (λ x. after_goal x g ≡ j) same (after_next (k + m) g m before ∙ up ∙ last)

  -- each goal follows each one, in fewer than twice as many steps as there are goals
  pub record Follows (g j : ℕ) : Type 0 where
    pub steps : ℕ
    pub few : steps < length d.goals + length d.goals
    pub leads : after_goal steps g ≡ j

  pub follows : (g j : ℕ) → g < length d.goals → j < length d.goals → Follows g j
  follows g j below is_goal = of_order (order g j)
    where
      order : (a b : ℕ) → (a ≤ b) ⊎ (b < a)
      order a b = grind arith

      of_order : (g ≤ j) ⊎ (j < g) → Follows g j
      of_order (inl up) =
          record { steps = j - g; few = omega arith; leads = goes_up (j - g) g j (omega arith) is_goal }
      of_order (inr down) =
          let last = length d.goals - 1 in
          let up : after_goal (last - g) g ≡ last = goes_up (last - g) g last (omega arith) (omega arith) in
          let round : after_goal (suc (last - g)) g ≡ 0 =
          after_next (last - g) g last up ∙ next_round last (omega arith) in
          record {
            steps = suc (last - g) + j;
            few = omega arith;
            leads = goes_on_up (suc (last - g)) j g j round refl is_goal (suc (last - g) + j) refl;
          }

  -- the greatest of the ranks
  abbrev pub greatest_rank : List ℕ → ℕ
  greatest_rank [] = 0
  greatest_rank (r ∷ rs) = max r (greatest_rank rs)

  rank_within : (ranks : List ℕ) (g : ℕ) → slice_index ranks g ≤ greatest_rank ranks
  rank_within [] g = omega arith
  rank_within (r ∷ rs) zero = omega (arith, le-max_left r (greatest_rank rs))
  rank_within (r ∷ rs) (suc g) = omega (arith, rank_within rs g, le-max_right r (greatest_rank rs))

  toll_within : (ranks : List ℕ) (k g : ℕ) → toll ranks k g ≤ suc k * greatest_rank ranks
  toll_within ranks zero g = grind (arith, rank_within ranks g)
  toll_within ranks (suc k) g = grind (arith, rank_within ranks g, toll_within ranks k (next_goal d g))

  -- so many rounds no goal waits for
  abbrev pub patience : List ℕ → ℕ
  patience ranks = (length d.goals + length d.goals) * greatest_rank ranks

  -- the pending goal is one of the design's
  pub pending_within : (states : List StateData) → 0 < length d.goals → (g : ℕ) → g < length d.goals →
      fold (pending_at d) g states < length d.goals
  pending_within [] some g below = below
  pending_within (s ∷ ss) some g below = pending_within ss some (pending_at d g s) (of_test (goal_holds d s g))
    where
      of_test : (b : Bool) → (if b then next_goal d g else g) < length d.goals
      of_test true = next_within g some
      of_test false = below

  few_enough : (ranks : List ℕ) (k g : ℕ) → k < length d.goals + length d.goals → toll ranks k g ≤ patience ranks
  few_enough ranks k g few =
      let total = toll_within ranks k g in
      let more : suc k * greatest_rank ranks ≤ patience ranks = times_more (suc k) (length d.goals + length d.goals)
      (greatest_rank ranks) (omega arith) in
      omega (arith, total, more)
    where
      times_more : (a b c : ℕ) → a ≤ b → a * c ≤ b * c
      times_more a b c le =
          let rest : (b - a) + a ≡ b = omega arith in
          subst (λ x. a * c ≤ x * c) rest (grind arith)

  pub never_starves : (ranks : List ℕ) (states : List StateData) → 0 < length d.goals → BoundsRounds d ranks states →
      IsStarved d states (patience ranks) → ⊥
  never_starves ranks states some bounds starved =
      let g = pending d starved.before in
      let below : g < length d.goals = pending_within starved.before some 0 some in
      let way = follows g starved.goal below starved.is_goal in
      let fewer : patience ranks < toll ranks way.steps g =
      toll_bounds ranks states bounds starved.goal starved.is_goal way.steps g way.leads below starved.before
      starved.stretch starved.after starved.whole refl starved.fails (patience ranks) starved.rounds in
      omega (arith, fewer, few_enough ranks way.steps g way.few)
