-- Certificates of the environment whose sets agree at the valid states.
use Rattle.std.proofs.Common.{◌≡◌, ◌⊎◌, inl, inr, ℕ, zero, suc, ◌<◌, Bool, ◌||◌, Some, List, [], ◌∷◌, map, length, slice_get, refl, sym, ap, ◌∙◌, subst, arith}
use Rattle.std.specs.Option.{option_map_or}
use Rattle.std.specs.List.{AllByRecursion, AllZip, flat_map, position_or_len, range_with_len}
use Rattle.tm_agreement.specs.Agreement.{Agree, LevelAgrees, LevelsAgree}
use Rattle.tm_sem.specs.Certificates.{IsIn, IsNew, Level, MeetsEnvironment, last_level, level_before, nowhere, set_before}
use Rattle.tm_syntax.specs.Design.{DesignTree}
use Rattle.tm_verdict.specs.Environment.{FailsAt, HasShape, IsChain, IsLevel, IsRefused, IsReported, LevelPart, Passes, begins_lost, chain_of, chains_of, goal_of, grows, has_new, holds_before, is_chain, is_forced_on, is_forced_within, is_in_chain, level_goal, level_parts, lies_in, lower_in, set_parts, waits_or_falls}
use Rattle.tm_sem.specs.Fairness.{IsFair}
use Rattle.tm_sem.specs.Forcing.{Forced}
use Rattle.tm_sem.specs.Play.{goal_holds}
use Rattle.tm_verdict.specs.Reported.{IsFirstOf}
use Rattle.tm_sem.specs.State.{StateData}
use Rattle.tm_sem.specs.Step.{IsState}
use Rattle.tm_agreement.proofs.Agreeing.{agree_flip, all_weaker, forced_more, in_other, zip_any, zip_at, zip_flip, zip_length, zip_position, zip_told}
use Rattle.tm_verdict.proofs.LevelParts.{meets_of_parts, parts_pass}

-- a set of a state
abbrev Set : Type 0
Set = StateData → Bool

module _ (d : DesignTree) where
  level_flip : (a b : Level) → LevelAgrees d a b → LevelAgrees d b a
  level_flip a b agree = record {
    goal = sym agree.goal;
    set = agree_flip d a.set b.set agree.set;
    chains = zip_flip (AllZip (Agree d)) (AllZip (Agree d)) (zip_flip (Agree d) (Agree d) (agree_flip d)) a.chains
        b.chains agree.chains;
  }

  pub flipped : (x y : List Level) → LevelsAgree d x y → LevelsAgree d y x
  flipped x y agree = zip_flip (LevelAgrees d) (LevelAgrees d) level_flip x y agree

  before_same : (x y : List Level) → LevelsAgree d x y → (k : ℕ) (s : StateData) → IsState d s →
      level_before x k s ≡ level_before y k s
  before_same x y agree zero s is = refl
  before_same x y agree (suc k) s is =
      told x y k agree
    where
      told : (xs ys : List Level) (j : ℕ) → LevelsAgree d xs ys →
          option_map_or (λ (l : Level). l.set) (slice_get xs j) nowhere s
          ≡ option_map_or (λ (l : Level). l.set) (slice_get ys j) nowhere s
      told [] [] j all = refl
      told [] (m ∷ ys) j all = absurd all
      told (l ∷ xs) [] j all = absurd all
      told (l ∷ xs) (m ∷ ys) zero all = all.0.set.same s is
      told (l ∷ xs) (m ∷ ys) (suc j) all = told xs ys j all.1

  set_before_same : (one other : List Set) → AllZip (Agree d) one other → (x : ℕ) (s : StateData) → IsState d s →
      set_before one x s ≡ set_before other x s
  set_before_same one other agree zero s is = refl
  set_before_same one other agree (suc x) s is =
      told one other x agree
    where
      told : (xs ys : List Set) (j : ℕ) → AllZip (Agree d) xs ys →
          option_map_or (λ (set : Set). set) (slice_get xs j) nowhere s
          ≡ option_map_or (λ (set : Set). set) (slice_get ys j) nowhere s
      told [] [] j all = refl
      told [] (m ∷ ys) j all = absurd all
      told (l ∷ xs) [] j all = absurd all
      told (l ∷ xs) (m ∷ ys) zero all = all.0.same s is
      told (l ∷ xs) (m ∷ ys) (suc j) all = told xs ys j all.1

  -- ---- from one certificate to another
  module _ (x y : List Level) (agree : LevelsAgree d x y) where
    own_of : (k : ℕ) (l : Level) → IsLevel y k l → (own : Level) × IsLevel x k own × LevelAgrees d own l
    own_of k l is = zip_at (LevelAgrees d) x y k l agree is

    chain_own : (own l : Level) → LevelAgrees d own l → (i : ℕ) (chain : List Set) → IsChain l i chain →
        (other : List Set) × IsChain own i other × AllZip (Agree d) other chain
    chain_own own l both i chain is = zip_at (AllZip (Agree d)) own.chains l.chains i chain both.chains is

    -- the level before, both ways
    before_x : (k : ℕ) (s : StateData) → IsIn d (level_before y k) s → IsIn d (level_before x k) s
    before_x k s within = (within.0, before_same x y agree k s within.0 ∙ within.1)

    before_y : (k : ℕ) (s : StateData) → IsIn d (level_before x k) s → IsIn d (level_before y k) s
    before_y k s within = (within.0, sym (before_same x y agree k s within.0) ∙ within.1)

    set_x : (own l : Level) → LevelAgrees d own l → (s : StateData) → IsIn d l.set s → IsIn d own.set s
    set_x own l both = in_other d l.set own.set (agree_flip d own.set l.set both.set)

    set_y : (own l : Level) → LevelAgrees d own l → (s : StateData) → IsIn d own.set s → IsIn d l.set s
    set_y own l both = in_other d own.set l.set both.set

    new_x : (own l : Level) → LevelAgrees d own l → (k : ℕ) (s : StateData) → IsNew d y k l s → IsNew d x k own s
    new_x own l both k s new = (set_x own l both s new.0, before_same x y agree k s new.0.0 ∙ new.1)

    new_y : (own l : Level) → LevelAgrees d own l → (k : ℕ) (s : StateData) → IsNew d x k own s → IsNew d y k l s
    new_y own l both k s new = (set_y own l both s new.0, sym (before_same x y agree k s new.0.0) ∙ new.1)

    lower_same : (k : ℕ) (one other : List Set) → AllZip (Agree d) one other → (s : StateData) → IsState d s →
        (t : StateData) → IsState d t → lower_in x k one s t ≡ lower_in y k other s t
    lower_same k one other both s is t there =
        let place = zip_position (Agree d) (λ (set : Set). set s) (λ (set : Set). set s) (λ a b same. same.same s is)
        one other both in
        let before = set_before_same one other both (position_or_len (λ (set : Set). set s) one) t there
        ∙ ap (λ n. set_before other n t) place in
        let level = before_same x y agree k t there in
        λ i. before i || level i

    last_y : (s : StateData) → IsIn d (last_level x) s → IsIn d (last_level y) s
    last_y s within =
        let count = zip_length (LevelAgrees d) x y agree in
        let before = before_same x y agree (length x) s within.0 in
        (within.0, ap (λ n. level_before y n s) (sym count) ∙ sym before ∙ within.1)

    pub passes : (part : LevelPart) → Passes d x part → Passes d y part
    passes (holds_before k) pass = λ l is s within.
        let own = own_of k l is in
        set_y own.0 l own.2 s (pass own.0 own.1 s (before_x k s within))
    passes (has_new k) pass = λ l is.
        let own = own_of k l is in
        let new = pass own.0 own.1 in
        (new.0, new_y own.0 l own.2 k new.0 new.1)
    passes (is_chain k i) pass = λ l chain is at.
        let own = own_of k l is in
        let other = chain_own own.0 l own.2 i chain at in
        let some = pass own.0 other.0 own.1 other.1 in
        omega (arith, some, zip_length (Agree d) other.0 chain other.2)
    passes (grows k i n) pass = λ l chain set is at there s within.
        let own = own_of k l is in
        let other = chain_own own.0 l own.2 i chain at in
        let one = zip_at (Agree d) other.0 chain n set other.2 there in
        in_other d one.0 set one.2 s
        (pass own.0 other.0 one.0 own.1 other.1 one.1 s
        (within.0, set_before_same other.0 chain other.2 n s within.0 ∙ within.1))
    passes (lies_in k i n) pass = λ l chain set is at there s within.
        let own = own_of k l is in
        let other = chain_own own.0 l own.2 i chain at in
        let one = zip_at (Agree d) other.0 chain n set other.2 there in
        set_y own.0 l own.2 s
        (pass own.0 other.0 one.0 own.1 other.1 one.1 s
        (in_other d set one.0 (agree_flip d one.0 set one.2) s within))
    passes begins_lost pass = (pass.0, pass.1, last_y pass.0 pass.2)
    passes (is_forced_on k) pass = λ l s is new holds.
        let own = own_of k l is in
        forced_more d (IsIn d (level_before x k)) (IsIn d (level_before y k)) s (before_y k)
        (pass own.0 s own.1 (new_x own.0 l own.2 k s new)
        (ap (λ j. goal_holds d s j) own.2.goal ∙ holds))
    passes (is_in_chain k i) pass = λ l chain s is at new.
        let own = own_of k l is in
        let other = chain_own own.0 l own.2 i chain at in
        sym (zip_any (Agree d) (λ (set : Set). set s) (λ (set : Set). set s) (λ a b same. same.same s new.0.0) other.0
        chain other.2)
        ∙ pass own.0 other.0 s own.1 other.1 (new_x own.0 l own.2 k s new)
    passes (is_forced_within k) pass = λ l s is new.
        let own = own_of k l is in
        forced_more d (IsIn d own.0.set) (IsIn d l.set) s (set_y own.0 l own.2)
        (pass own.0 s own.1 (new_x own.0 l own.2 k s new))
    passes (waits_or_falls k i) pass = λ l chain s is at new.
        let own = own_of k l is in
        let other = chain_own own.0 l own.2 i chain at in
        falls k other.0 chain other.2 s new.0.0 i
        (pass own.0 other.0 s own.1 other.1 (new_x own.0 l own.2 k s new))
      where
        falls : (k : ℕ) (one other : List Set) → AllZip (Agree d) one other → (s : StateData) → IsState d s → (i : ℕ) →
            (IsFair d s i ⊎ Forced d (IsIn d (lower_in x k one s)) s) →
            IsFair d s i ⊎ Forced d (IsIn d (lower_in y k other s)) s
        falls k one other both s is i (inl fair) = inl fair
        falls k one other both s is i (inr forced) =
            inr (forced_more d (IsIn d (lower_in x k one s)) (IsIn d (lower_in y k other s)) s
            (λ t within. (within.0, sym (lower_same k one other both s is t within.0) ∙ within.1)) forced)

    -- ---- the parts are the same ones
    parts_for : ℕ → (ℕ → ℕ) → (ℕ → ℕ → ℕ) → List LevelPart
    parts_for n chains sets =
        flat_map (λ parts. parts)
        (flat_map
        (λ k. holds_before k ∷ has_new k
        ∷ flat_map (λ i. is_chain k i ∷ flat_map (set_parts k i) (range_with_len 0 (sets k i)))
        (range_with_len 0 (chains k)))
        (range_with_len 0 n)
        ∷ (begins_lost ∷ [])
        ∷ map is_forced_on (range_with_len 0 n)
        ∷ flat_map (λ k. map (is_in_chain k) (range_with_len 0 (chains k))) (range_with_len 0 n)
        ∷ map is_forced_within (range_with_len 0 n)
        ∷ flat_map (λ k. map (waits_or_falls k) (range_with_len 0 (chains k))) (range_with_len 0 n)
        ∷ [])

    chains_agree : (k : ℕ) → AllZip (AllZip (Agree d)) (chains_of x k) (chains_of y k)
    chains_agree k = told x y k agree
      where
        told : (xs ys : List Level) (j : ℕ) → LevelsAgree d xs ys →
            AllZip (AllZip (Agree d)) (chains_of xs j) (chains_of ys j)
        told [] [] j all = tt
        told [] (m ∷ ys) j all = absurd all
        told (l ∷ xs) [] j all = absurd all
        told (l ∷ xs) (m ∷ ys) zero all = all.0.chains
        told (l ∷ xs) (m ∷ ys) (suc j) all = told xs ys j all.1

    chain_count : (k i : ℕ) → length (chain_of x k i) ≡ length (chain_of y k i)
    chain_count k i = told (chains_of x k) (chains_of y k) i (chains_agree k)
      where
        told : (xs ys : List (List Set)) (j : ℕ) → AllZip (AllZip (Agree d)) xs ys →
            length (option_map_or (λ (chain : List Set). chain) (slice_get xs j) [])
            ≡ length (option_map_or (λ (chain : List Set). chain) (slice_get ys j) [])
        told [] [] j all = refl
        told [] (m ∷ ys) j all = absurd all
        told (l ∷ xs) [] j all = absurd all
        told (l ∷ xs) (m ∷ ys) zero all = zip_length (Agree d) l m all.0
        told (l ∷ xs) (m ∷ ys) (suc j) all = told xs ys j all.1

    pub parts_same : level_parts x ≡ level_parts y
    unfolding parts_for
    parts_same =
        let count = zip_length (LevelAgrees d) x y agree in
        let chains : (k : ℕ) → length (chains_of x k) ≡ length (chains_of y k) =
        λ k. zip_length (AllZip (Agree d)) (chains_of x k) (chains_of y k) (chains_agree k) in
        λ j. parts_for (count j) (λ k. chains k j) (λ k i. chain_count k i j)

    shape : HasShape d x → HasShape d y
    shape has = record {
      goals = λ k l is.
          let own = own_of k l is in subst (λ (j : ℕ). j < length d.goals) own.2.goal (has.goals k own.0 own.1);
      chains = λ k l is.
          let own = own_of k l is in
          sym (zip_length (AllZip (Agree d)) own.0.chains l.chains own.2.chains) ∙ has.chains k own.0 own.1;
    }

    pub meets : MeetsEnvironment d x → MeetsEnvironment d y
    meets all =
        meets_of_parts d y (shape (record { goals = all.goals; chains = all.chains }))
        (subst (AllByRecursion (Passes d y)) parts_same
        (all_weaker (Passes d x) (Passes d y) passes (level_parts x) (parts_pass d x all)))

    goal_same : (k : ℕ) → goal_of x k ≡ goal_of y k
    goal_same k =
        zip_told (LevelAgrees d) (λ (l : Level). l.goal) (λ (l : Level). l.goal) 0 (λ a b both. both.goal) x y k agree

    pub goals_same : (part : LevelPart) → level_goal x part ≡ level_goal y part
    goals_same (holds_before k) = goal_same k
    goals_same (has_new k) = goal_same k
    goals_same (is_chain k i) = goal_same k
    goals_same (grows k i n) = goal_same k
    goals_same (lies_in k i n) = goal_same k
    goals_same begins_lost = refl
    goals_same (is_forced_on k) = goal_same k
    goals_same (is_in_chain k i) = goal_same k
    goals_same (is_forced_within k) = goal_same k
    goals_same (waits_or_falls k i) = goal_same k

    -- ---- where a part fails
    other_of : (k : ℕ) (l : Level) → IsLevel x k l → (m : Level) × IsLevel y k m × LevelAgrees d l m
    other_of k l is =
        let found = zip_at (LevelAgrees d) y x k l (flipped x y agree) is in
        (found.0, found.1, level_flip found.0 l found.2)

    chain_other : (l m : Level) → LevelAgrees d l m → (i : ℕ) (chain : List Set) → IsChain l i chain →
        (other : List Set) × IsChain m i other × AllZip (Agree d) chain other
    chain_other l m both i chain is =
        let found = zip_at (AllZip (Agree d)) m.chains l.chains i chain (level_flip l m both).chains is in
        (found.0, found.1, zip_flip (Agree d) (Agree d) (agree_flip d) found.0 chain found.2)

    set_other : (chain other : List Set) → AllZip (Agree d) chain other → (n : ℕ) (set : Set) →
        slice_get chain n ≡ Some set → (found : Set) × (slice_get other n ≡ Some found) × Agree d set found
    set_other chain other both n set is =
        let back = zip_flip (Agree d) (Agree d) (agree_flip d) chain other both in
        let found = zip_at (Agree d) other chain n set back is in
        (found.0, found.1, agree_flip d found.0 set found.2)

    pub fails : (part : LevelPart) (s : StateData) → FailsAt d x part s → FailsAt d y part s
    fails (holds_before k) s (l, is, within, off) =
        let m = other_of k l is in
        (m.0, m.1, before_y k s within, sym (m.2.set.same s within.0) ∙ off)
    fails (has_new k) s none = none
    fails (is_chain k i) s none = none
    fails (grows k i n) s (l, chain, set, is, at, there, within, off) =
        let m = other_of k l is in
        let other = chain_other l m.0 m.2 i chain at in
        let one = set_other chain other.0 other.2 n set there in (
          m.0,
          other.0,
          one.0,
          m.1,
          other.1,
          one.1,
          (within.0, sym (set_before_same chain other.0 other.2 n s within.0) ∙ within.1),
          sym (one.2.same s within.0) ∙ off,
        )
    fails (lies_in k i n) s (l, chain, set, is, at, there, within, off) =
        let m = other_of k l is in
        let other = chain_other l m.0 m.2 i chain at in
        let one = set_other chain other.0 other.2 n set there in (
          m.0,
          other.0,
          one.0,
          m.1,
          other.1,
          one.1,
          in_other d set one.0 one.2 s within,
          sym (m.2.set.same s within.0) ∙ off,
        )
    fails begins_lost s none = none
    fails (is_forced_on k) s (l, is, new, holds, free) =
        let m = other_of k l is in (
          m.0,
          m.1,
          new_y l m.0 m.2 k s new,
          ap (λ j. goal_holds d s j) (sym m.2.goal) ∙ holds,
          λ forced. free
              (forced_more d (IsIn d (level_before y k)) (IsIn d (level_before x k)) s (before_x k) forced),
        )
    fails (is_in_chain k i) s (l, chain, is, at, new, off) =
        let m = other_of k l is in
        let other = chain_other l m.0 m.2 i chain at in (
          m.0,
          other.0,
          m.1,
          other.1,
          new_y l m.0 m.2 k s new,
          sym (zip_any (Agree d) (λ (set : Set). set s) (λ (set : Set). set s) (λ a b same. same.same s new.0.0) chain
              other.0 other.2) ∙ off,
        )
    fails (is_forced_within k) s (l, is, new, free) =
        let m = other_of k l is in (
          m.0,
          m.1,
          new_y l m.0 m.2 k s new,
          λ forced. free (forced_more d (IsIn d m.0.set) (IsIn d l.set) s (set_x l m.0 m.2) forced),
        )
    fails (waits_or_falls k i) s (l, chain, is, at, new, unfair, free) =
        let m = other_of k l is in
        let other = chain_other l m.0 m.2 i chain at in (
          m.0,
          other.0,
          m.1,
          other.1,
          new_y l m.0 m.2 k s new,
          unfair,
          λ forced. free
              (forced_more d (IsIn d (lower_in y k other.0 s)) (IsIn d (lower_in x k chain s)) s
              (λ t within. (within.0, lower_same k chain other.0 other.2 s new.0.0 t within.0 ∙ within.1)) forced),
        )

  -- ---- both ways
  module _ (x y : List Level) (agree : LevelsAgree d x y) where
    back : LevelsAgree d y x
    back = flipped x y agree

    first_of : (part : LevelPart) (s : StateData) → IsFirstOf d (FailsAt d x part) s → IsFirstOf d (FailsAt d y part) s
    first_of part s first = record {
      here = fails x y agree part s first.here;
      none_before = λ t failing. first.none_before t (fails y x back part t failing);
    }

    reported : (part : LevelPart) (s : StateData) → IsReported d x part s → IsReported d y part s
    reported (has_new k) s (none, first) = (λ pass. none (passes y x back (has_new k) pass), first)
    reported (is_chain k i) s (none, first) = (λ pass. none (passes y x back (is_chain k i) pass), first)
    reported begins_lost s (none, first) = (λ pass. none (passes y x back begins_lost pass), first)
    reported (holds_before k) s first = first_of (holds_before k) s first
    reported (grows k i n) s first = first_of (grows k i n) s first
    reported (lies_in k i n) s first = first_of (lies_in k i n) s first
    reported (is_forced_on k) s first = first_of (is_forced_on k) s first
    reported (is_in_chain k i) s first = first_of (is_in_chain k i) s first
    reported (is_forced_within k) s first = first_of (is_forced_within k) s first
    reported (waits_or_falls k i) s first = first_of (waits_or_falls k i) s first

    pub refused : (condition goal : ℕ) (s : StateData) → IsRefused d x condition goal s →
        IsRefused d y condition goal s
    refused condition goal s is = record {
      before = is.before;
      part = is.part;
      behind = is.behind;
      parts = sym (parts_same x y agree) ∙ is.parts;
      passed = all_weaker (Passes d x) (Passes d y) (passes x y agree) is.before is.passed;
      number = is.number;
      of_goal = is.of_goal ∙ goals_same x y agree is.part;
      reported = reported is.part s is.reported;
    }
