-- A driver with a certificate lets no goal wait for as many rounds as the goal has ranked regions.
use Rattle.std.proofs.Common.{◌≡◌, ℕ, ◌+◌, ◌<◌, ◌≤◌, Bool, true, false, Some, List, [], ◌∷◌, ◌++◌, inl, inr, get_or, refl, sym, ap, subst, arith, length, map}
use Rattle.std.specs.Prelude.{slice_get}
use Rattle.std.specs.List.{fold, position_or_len}
use Rattle.std.proofs.lemmas.Option.{slice_get-get_or}
use Rattle.std.proofs.lemmas.List.{get_or-map}
use Rattle.tm_syntax.specs.Design.{DesignTree, IsDesign}
use Rattle.tm_sem.specs.declared.state.Move.{Move}
use Rattle.tm_sem.specs.declared.state.Move.TheVariants.{Stutter}
use Rattle.tm_sem.specs.State.{StateData}
use Rattle.tm_sem.specs.Step.{is_driver_move, is_driver_turn}
use Rattle.tm_sem.specs.Play.{Entry, StepsAlong, pending_at, pending}
use Rattle.tm_sem.specs.Fairness.{HasRounds}
use Rattle.tm_sem.specs.Strategy.{AreAnswered, IsDriven, states_of, Waits, Good}
use Rattle.tm_sem.specs.Certificates.{DriverSets, RankedSet, rank, IsIn, IsMade, AreRanked, IsFairAtRank, MeetsDriver}
use Rattle.tm_sem.proofs.Counting.{behind_first}
use Rattle.tm_sem.proofs.Extending.{time_passes}
use Rattle.tm_sem.proofs.Falling.{Awaits, Falls, rounds_cost_ranks}
use Rattle.tm_sem.proofs.Certified.{has_goal, pending_below, stays, safe_along}

-- the state after time has passed
abbrev pub later : StateData → StateData
later s = record s { last = 0 }

-- the last of a state and those behind it
abbrev pub last_of : StateData → List StateData → StateData
last_of s [] = s
last_of s (t ∷ ts) = last_of t ts

-- a ranked region that holds nowhere
nothing_ranked : RankedSet
nothing_ranked = record { fair = 0; set = λ s. false }

module _ (d : DesignTree) (answers : StateData → ℕ → Move → Type 0) (c : DriverSets)
    (meets : MeetsDriver d answers c) (some : 0 < length d.goals) (j : ℕ) (is_goal : j < length d.goals)
    (ranked : List RankedSet) (are : AreRanked c j ranked) where
  -- the condition of its rank is what a state of the region waits for
  awaits : (s : StateData) → IsIn d c.region s → Awaits d (rank ranked) (IsFairAtRank d ranked) s
  awaits s here =
      let k = position_or_len (λ (r : RankedSet). r.set s) ranked in
      let r = get_or ranked k nothing_ranked in
      let within : k < length ranked = omega (arith, meets.c2 s j ranked here are) in
      let is : slice_get ranked k ≡ Some r = slice_get-get_or ranked k nothing_ranked within in
      record {
        condition = r.fair;
        within = meets.fairs j k ranked r are is;
        falls = λ u same fair. (k, r, same, is, fair);
      }

  -- the states of a stretch that waits, from its first one on, and then a stutter
  along : (g : ℕ) (s : StateData) (entries : List Entry) (xs after : List StateData) → g < length d.goals →
      IsIn d c.region s → StepsAlong d s entries → AreAnswered d answers g s entries →
      map (λ (e : Entry). e.state) entries ≡ xs ++ after → Waits d j g (s ∷ xs) →
      Falls d (rank ranked) (IsFairAtRank d ranked) s (xs ++ later (last_of s xs) ∷ [])
  along g s entries [] after below here steps answered same waits = (
    awaits s here,
    meets.c5 s (later s) j ranked Stutter [] here are waits.1 (inl refl) (time_passes d s),
    (λ fair. meets.c6 s (later s) j ranked Stutter [] here are waits.1 fair (inl refl) (time_passes d s)),
    tt,
  )
  along g s [] (x ∷ xs) after below here steps answered same waits = absurd (cc)
  along g s (e ∷ es) (x ∷ xs) after below here steps answered same waits =
      let head : e.state ≡ x = ap (λ ys. get_or ys 0 x) same in
      let next = pending_below d g s some below in
      let there = stays d answers c meets some s e.state (pending_at d g s) e.move e.choices next here answered.0
      steps.0 in
      let made = made_of (is_driver_move e.move) refl in
      subst
      (λ y. Falls d (rank ranked) (IsFairAtRank d ranked) s (y ∷ (xs ++ later (last_of y xs) ∷ []))) head (
        awaits s here,
        meets.c5 s e.state j ranked e.move e.choices here are waits.1 made steps.0,
        (λ fair. meets.c6 s e.state j ranked e.move e.choices here are waits.1 fair made steps.0),
        along (pending_at d g s) e.state es xs after next there steps.1 answered.1 (ap behind_first same)
            (subst (λ y. Waits d j (pending_at d g s) (y ∷ xs)) (sym head) waits.2),
      )
    where
      made_of : (b : Bool) → is_driver_move e.move ≡ b → IsMade answers j s e.move
      made_of true is = inr (subst (λ h. answers s h e.move) waits.0 (answered.0 is))
      made_of false is = inl is

  -- the states of a stretch that waits, anywhere in the play, and then a stutter
  within : (g : ℕ) (s : StateData) (entries : List Entry) (before : List StateData) (x : StateData)
      (xs after : List StateData) → g < length d.goals → IsIn d c.region s → StepsAlong d s entries →
      AreAnswered d answers g s entries →
      s ∷ map (λ (e : Entry). e.state) entries ≡ before ++ ((x ∷ xs) ++ after) →
      Waits d j (fold (pending_at d) g before) (x ∷ xs) →
      IsIn d c.region x × Falls d (rank ranked) (IsFairAtRank d ranked) x (xs ++ later (last_of x xs) ∷ [])
  within g s entries [] x xs after below here steps answered same waits =
      let head : s ≡ x = ap (λ ys. get_or ys 0 s) same in
      subst
      (λ y. IsIn d c.region y × Falls d (rank ranked) (IsFairAtRank d ranked) y (xs ++ later (last_of y xs) ∷ []))
      head (
        here,
        along g s entries xs after below here steps answered (ap behind_first same)
            (subst (λ y. Waits d j g (y ∷ xs)) (sym head) waits),
      )
  within g s [] (b ∷ bs) x xs after below here steps answered same waits =
      absurd (none_behind bs (ap behind_first same))
    where
      none_behind : (bs : List StateData) → [] ≡ bs ++ ((x ∷ xs) ++ after) → ⊥
      none_behind [] is = cc
      none_behind (y ∷ ys) is = cc
  within g s (e ∷ es) (b ∷ bs) x xs after below here steps answered same waits =
      let head : s ≡ b = ap (λ ys. get_or ys 0 s) same in
      let next = pending_below d g s some below in
      let there = stays d answers c meets some s e.state (pending_at d g s) e.move e.choices next here answered.0
      steps.0 in
      within (pending_at d g s) e.state es bs x xs after next there steps.1 answered.1 (ap behind_first same)
      (subst (λ y. Waits d j (fold (pending_at d) (pending_at d g y) bs) (x ∷ xs)) (sym head) waits)

  -- a stretch that waits has fewer rounds than there are ranked regions
  pub few_rounds : (first : StateData) (entries : List Entry) → IsDriven d answers first entries → (k : ℕ)
      (before stretch after : List StateData) → states_of first entries ≡ before ++ (stretch ++ after) →
      Waits d j (pending d before) stretch → HasRounds d k stretch → k < length ranked
  few_rounds first entries driven k before [] after same waits rounds =
      let here = meets.c1 first driven.play.initial in
      let none : k + rank ranked first ≤ rank ranked first =
      rounds_cost_ranks d (rank ranked) (IsFairAtRank d ranked) first (omega arith) rounds tt in
      omega (arith, none, meets.c2 first j ranked here are)
  few_rounds first entries driven k before (x ∷ xs) after same waits rounds =
      let found = within 0 first entries before x xs after some (meets.c1 first driven.play.initial) driven.play.steps
      driven.answered same waits in
      let fewer : k + rank ranked (later (last_of x xs)) ≤ rank ranked x =
      rounds_cost_ranks d (rank ranked) (IsFairAtRank d ranked) (later (last_of x xs)) (omega arith) rounds
      found.1 in
      omega (arith, fewer, meets.c2 x j ranked found.0 are)

-- a strategy with a certificate is good, with the numbers of ranked regions
pub certified_is_good : (d : DesignTree) (answers : StateData → ℕ → Move → Type 0) (c : DriverSets) → IsDesign d →
    ((s : StateData) (g : ℕ) → is_driver_turn d s ≡ true → (move : Move) × answers s g move) →
    MeetsDriver d answers c → Good d answers (map length c.goals)
certified_is_good d answers c is answer meets = record {
  safe = λ first entries driven. safe_along d answers c meets (has_goal d is) answer 0 first entries (has_goal d is)
      (meets.c1 first driven.play.initial) driven.play.steps driven.answered;
  bounded = λ first entries driven j k before stretch after is_goal same waits rounds.
      let below : j < length c.goals = omega (arith, meets.goals) in
      let ranked = get_or c.goals j [] in
      let fewer : k < length ranked =
      few_rounds d answers c meets (has_goal d is) j is_goal ranked (slice_get-get_or c.goals j [] below) first
      entries driven k before stretch after same waits rounds in
      rw (get_or-map length c.goals j [] 0 below) fewer;
}
