-- What is reported, from the least state of a set.
use Rattle.std.proofs.Common.{◌≡◌, ℕ, zero, suc, ◌<◌, Bool, true, ◌&&◌, List, [], ◌∷◌, Option, Some, None, length, refl, sym, ap, ◌∙◌, subst, arith}
use Rattle.std.specs.Prelude.{◌↔◌, MatchOption, slice_get}
use Rattle.std.specs.Option.{option_map_or}
use Rattle.std.proofs.lemmas.Bool.{and_from, and_parts}
use Rattle.tm_dd.specs.declared.node.NodeId.{NodeId}
use Rattle.tm_dd.specs.declared.node.TheConstants.{FALSE}
use Rattle.tm_dd.specs.Table.{means}
use Rattle.tm_envcheck.specs.declared.levels.LevelDiagrams.{LevelDiagrams}
use Rattle.tm_envcheck.specs.Inner.Loaded.{before_at}
use Rattle.tm_envcheck.specs.Inner.Over.{AreLevelsOver, IsReady}
use Rattle.tm_envcheck.specs.Inner.Reports.{IsFailure, IsInitialReport, IsWant}
use Rattle.tm_envcheck.specs.Inner.Told.{TellLevels}
use Rattle.tm_envcheck.specs.Tried.{AreTried}
use Rattle.tm_envcheck.specs.Verdict.{CanCheck}
use Rattle.tm_envcheck.proofs.LevelParts.{test_is}
use Rattle.tm_envcheck.proofs.Trying.{part_wanted}
use Rattle.tm_game_bits.specs.Functions.{Assignment}
use Rattle.tm_game.specs.Game.{GameData, Grows, IsSet, IsStates}
use Rattle.tm_game.specs.Least.{HoldsNowhere, test_of}
use Rattle.tm_game.proofs.MadeSets.{false_set, false_test}
use Rattle.tm_game.proofs.SetTests.{set_tells}
use Rattle.tm_sem.specs.Certificates.{IsIn, Level, last_level, level_before, nowhere}
use Rattle.tm_sem.specs.State.{StateData}
use Rattle.tm_sem.specs.StateBits.{IsLeast}
use Rattle.tm_sem.specs.Step.{IsInitial, IsState}
use Rattle.tm_syntax.specs.Design.{DesignTree}
use Rattle.tm_verdict.specs.declared.verdict.Verdict.{Verdict}
use Rattle.tm_verdict.specs.declared.verdict.Verdict.TheVariants.{Accepted, Refused}
use Rattle.tm_verdict.specs.Environment.{IsReported, Passes, begins_lost}
use Rattle.tm_verdict.specs.Reported.{IsFirstOf}

-- ---- the least state
pub least_some : (d : DesignTree) (set : StateData → Bool) (found : Option StateData) (s : StateData) →
    found ≡ Some s → MatchOption found (HoldsNowhere d set) (IsLeast d set) → IsLeast d set s
least_some d set found s is =
    subst (λ (o : Option StateData). MatchOption o (HoldsNowhere d set) (IsLeast d set)) is

pub least_none : (d : DesignTree) (set : StateData → Bool) (found : Option StateData) → found ≡ None →
    MatchOption found (HoldsNowhere d set) (IsLeast d set) → HoldsNowhere d set
least_none d set found is =
    subst (λ (o : Option StateData). MatchOption o (HoldsNowhere d set) (IsLeast d set)) is

-- a set that is wanted has no state
pub want_refused : (d : DesignTree) (set : StateData → Bool) (condition goal : ℕ) (v : Verdict) → HoldsNowhere d set →
    IsInitialReport d condition goal v → IsWant d set condition goal v
want_refused d set condition goal Accepted none is = absurd is
want_refused d set condition goal (Refused number of_goal s) none is = (none, is.0, is.1, is.2)

-- what a list has at an index
there_is : {A : Type 0} (xs : List A) (k : ℕ) → k < length xs → (x : A) × (slice_get xs k ≡ Some x)
there_is [] k below = absurd (omega arith)
there_is (x ∷ xs) zero below = (x, refl)
there_is (x ∷ xs) (suc k) below = there_is xs k (omega arith)

-- the set of the last level is a set of states
pub last_in : (g : GameData) (levels : List LevelDiagrams) → AreLevelsOver g levels → (last : NodeId) →
    last ≡ before_at levels (length levels) → IsSet g last
last_in g levels are last is = subst (IsSet g) (sym is) (at (length levels) refl)
  where
    at : (n : ℕ) → length levels ≡ n → IsSet g (before_at levels n)
    at zero none = false_set g
    at (suc k) some =
        let found = there_is levels k (omega (arith, some)) in
        subst (IsSet g) (sym (ap (λ o. option_map_or (λ (m : LevelDiagrams). m.set) o FALSE) found.1))
        (are k found.0 found.1).set

-- ---- initial states
module _ (d : DesignTree) (g : GameData) (ready : IsReady g) (can : CanCheck d g) (initial : NodeId)
    (initial_is : IsStates d g.order g.diagrams.table (IsInitial d) initial) where
  initial_iff : (s : StateData) → IsState d s → (test_of d g initial s ≡ true) ↔ IsInitial d s
  initial_iff = set_tells d g can.of ready.order (IsInitial d) initial initial_is

  pub initial_in : (s : StateData) → IsInitial d s → IsIn d (test_of d g initial) s
  initial_in s begins =
      let valid = can.regular.initial s begins in
      (valid, (initial_iff s valid).1 begins)

  pub in_initial : (s : StateData) → IsIn d (test_of d g initial) s → IsInitial d s
  in_initial s here = (initial_iff s here.0).0 here.1

  pub initial_reported : (condition goal : ℕ) (v : Verdict) →
      IsFailure d (test_of d g initial) condition goal v → IsInitialReport d condition goal v
  initial_reported condition goal Accepted none = none can.begins.0 (initial_in can.begins.0 can.begins.1)
  initial_reported condition goal (Refused c k s) is = (
    is.0,
    is.1,
    record {
      here = in_initial s is.2.here;
      none_before = λ t begins. is.2.none_before t (initial_in t begins);
    },
  )

  -- ---- E1
  module _ (of : List Level) (levels : List LevelDiagrams) (tell : TellLevels d g of levels) (h : GameData)
      (grown : Grows g h) (lost last : NodeId) (last_is : last ≡ before_at levels (length levels))
      (lost_is : (v : Assignment) → means h.diagrams.table lost v
      ≡ (means g.diagrams.table initial v && means g.diagrams.table last v)) where
    last_told : last_level of ≡ test_of d g (before_at levels (length levels))
    last_told = at (length levels) refl
      where
        at : (n : ℕ) → length levels ≡ n → level_before of (length of) ≡ test_of d g (before_at levels n)
        at zero none =
            let all : length of ≡ 0 = omega (arith, tell.count, none) in
            ap (level_before of) all ∙ sym (false_test d g)
        at (suc k) some =
            let all : length of ≡ suc k = omega (arith, tell.count, some) in
            let found = there_is levels k (omega (arith, some)) in
            ap (level_before of) all
            ∙ ap (λ o. option_map_or (λ (m : Level). m.set) o nowhere) (tell.each k found.0 found.1).here
            ∙ sym (ap (λ o. test_of d g (option_map_or (λ (m : LevelDiagrams). m.set) o FALSE)) found.1)

    lost_at : (s : StateData) → test_of d h lost s ≡ (test_of d g initial s && last_level of s)
    lost_at s =
        test_is d g h grown lost
        (λ v. means g.diagrams.table initial v && means g.diagrams.table last v) lost_is s
        ∙ (λ i. test_of d g initial s && (ap (test_of d g) last_is ∙ sym last_told) i s)

    pub begins_lost_tried : (v : Verdict) → IsWant d (test_of d h lost) 1 0 v → AreTried d of (begins_lost ∷ []) v
    begins_lost_tried =
        part_wanted d of begins_lost (test_of d h lost) enough reported 1 0 refl refl
      where
        enough : (s : StateData) → IsIn d (test_of d h lost) s → Passes d of begins_lost
        enough s here =
            let both = and_parts (test_of d g initial s) (last_level of s) (sym (lost_at s) ∙ here.1) in
            (s, in_initial s (here.0, both.0), (here.0, both.1))

        reported : (s : StateData) → ((t : StateData) → ¬ IsIn d (test_of d h lost) t) → IsFirstOf d (IsInitial d) s →
            IsReported d of begins_lost s
        reported s none first = (
          λ passes.
              let begins = initial_in passes.0 passes.1 in
              none passes.0 (
                begins.0,
                lost_at passes.0
                    ∙ and_from (test_of d g initial passes.0) (last_level of passes.0) begins.1 passes.2.1,
              ),
          first,
        )
