-- The parts that speak of a level are tried by diagrams.
use Rattle.std.proofs.Common.{◌≡◌, ◌⊎◌, ℕ, Bool, true, false, ◌&&◌, not, List, [], ◌∷◌, Some, refl, sym, ap, ◌∙◌, subst}
use Rattle.std.specs.Prelude.{◌↔◌, slice_get}
use Rattle.std.specs.Option.{option_map_or}
use Rattle.std.proofs.lemmas.Bool.{and_from, and_parts, not-true, not_from_false}
use Rattle.tm_game_bits.specs.AssignedStates.{assignment_of}
use Rattle.tm_dd.specs.declared.node.NodeId.{NodeId}
use Rattle.tm_dd.specs.Table.{means}
use Rattle.tm_envcheck.specs.declared.levels.LevelDiagrams.{LevelDiagrams}
use Rattle.tm_envcheck.specs.Inner.Over.{IsLevelOver, IsReady}
use Rattle.tm_envcheck.specs.Inner.Reports.{IsFailure, IsWant}
use Rattle.tm_envcheck.specs.Inner.Told.{TellsLevel, level_told}
use Rattle.tm_envcheck.specs.Tried.{AreTried}
use Rattle.tm_envcheck.specs.Verdict.{CanCheck}
use Rattle.tm_envcheck.proofs.Growing.{test_kept}
use Rattle.tm_envcheck.proofs.Trying.{part_tried, part_wanted}
use Rattle.tm_verdict.specs.Levels.{IsDecided, IsForced, IsFound}
use Rattle.tm_game_bits.specs.Functions.{Assignment}
use Rattle.tm_game.specs.Game.{GameData, Grows, IsStates}
use Rattle.tm_game.specs.Least.{test_of}
use Rattle.tm_game.proofs.SetTests.{set_tells}
use Rattle.tm_sem.specs.Certificates.{IsIn, Level, level_before}
use Rattle.tm_sem.specs.Play.{goal_holds}
use Rattle.tm_sem.specs.State.{StateData}
use Rattle.tm_sem.specs.Step.{IsInitial, IsState}
use Rattle.tm_syntax.specs.Design.{DesignTree}
use Rattle.tm_verdict.specs.declared.verdict.Verdict.{Verdict}
use Rattle.tm_verdict.specs.Environment.{IsReported, Passes, goal_of, has_new, holds_before, is_forced_on, is_forced_within}
use Rattle.tm_verdict.specs.Reported.{IsFirstOf}

-- ---- truths
pub in_first_alone : (a b : Bool) → (a && not b) ≡ true → (a ≡ true) × (b ≡ false)
in_first_alone a b h = let both = and_parts a (not b) h in (both.0, not-true b both.1)

pub first_alone : (a b : Bool) → a ≡ true → b ≡ false → (a && not b) ≡ true
first_alone a b p q = and_from a (not b) p (not_from_false b q)

-- ---- tests
-- an id that is told by levels, as a test of states
pub test_is : (d : DesignTree) (g h : GameData) → Grows g h → (id : NodeId) (f : Assignment → Bool) →
    ((v : Assignment) → means h.diagrams.table id v ≡ f v) → (s : StateData) →
    test_of d h id s ≡ f (assignment_of d g.order s)
test_is d g h grows id f value s =
    value (assignment_of d h.order s) ∙ ap (λ (o : List ℕ). f (assignment_of d o s)) grows.order

-- what is forced into one of two equal sets
pub forced_same : (d : DesignTree) (a b : StateData → Bool) (s : StateData) → a ≡ b → IsForced d a s → IsForced d b s
forced_same d a b s same = subst (λ (set : StateData → Bool). IsForced d set s) same

pub decided_same : (d : DesignTree) (a b : StateData → Bool) (s : StateData) → a ≡ b →
    IsForced d a s ⊎ (¬ IsForced d a s) → IsForced d b s ⊎ (¬ IsForced d b s)
decided_same d a b s same =
    subst (λ (set : StateData → Bool). IsForced d set s ⊎ (¬ IsForced d set s)) same

module _ (d : DesignTree) (g : GameData) (of : List Level) (k : ℕ) (l : LevelDiagrams)
    (tells : TellsLevel d g of k l) where
  -- the level that is told is the one of its place
  pub same_level : (m : Level) → slice_get of k ≡ Some m → m ≡ level_told d g l
  same_level m is =
      let same : Some m ≡ Some (level_told d g l) = sym is ∙ tells.here in
      cc

  pub goal_is : l.goal ≡ goal_of of k
  goal_is = sym (ap (λ o. option_map_or (λ (m : Level). m.goal) o 0) tells.here)

  pub before_at : (s : StateData) → level_before of k s ≡ test_of d g l.before s
  before_at s = λ i. tells.before i s

  module _ (over : IsLevelOver g l) where
    -- a state that is new
    pub new_is : (s : StateData) → test_of d g l.added s ≡ (test_of d g l.set s && not (test_of d g l.before s))
    new_is s = over.added_is (assignment_of d g.order s)

    pub added : (s : StateData) → test_of d g l.added s ≡ true →
        (test_of d g l.set s ≡ true) × (level_before of k s ≡ false)
    added s here =
        let parts = in_first_alone (test_of d g l.set s) (test_of d g l.before s) (sym (new_is s) ∙ here) in
        (parts.0, before_at s ∙ parts.1)

    pub is_added : (s : StateData) (m : Level) → slice_get of k ≡ Some m → m.set s ≡ true →
        level_before of k s ≡ false → test_of d g l.added s ≡ true
    is_added s m is here out =
        let same : m.set s ≡ test_of d g l.set s = ap (λ (n : Level). n.set s) (same_level m is) in
        new_is s
        ∙ first_alone (test_of d g l.set s) (test_of d g l.before s) (sym same ∙ here) (sym (before_at s) ∙ out)

  module _ (can : CanCheck d g) where
    pub holds_before_tried : (h : GameData) → Grows g h → (lost : NodeId) →
        ((v : Assignment) → means h.diagrams.table lost v
        ≡ (means g.diagrams.table l.before v && not (means g.diagrams.table l.set v))) → (v : Verdict) →
        IsFailure d (test_of d h lost) 0 l.goal v → AreTried d of (holds_before k ∷ []) v
    holds_before_tried h grows lost value =
        part_tried d of can.regular (holds_before k) tt tt (λ s valid. tt) (test_of d h lost) each 0 l.goal refl goal_is
      where
        lost_is : (s : StateData) → test_of d h lost s ≡ (test_of d g l.before s && not (test_of d g l.set s))
        lost_is s =
            test_is d g h grows lost
            (λ v. means g.diagrams.table l.before v && not (means g.diagrams.table l.set v)) value s

        each : (s : StateData) → IsState d s → (test_of d h lost s ≡ true) ↔ IsFound d of (holds_before k) s
        each s valid = (
          λ here.
              let parts = in_first_alone (test_of d g l.before s) (test_of d g l.set s) (sym (lost_is s) ∙ here) in
              (level_told d g l, tells.here, before_at s ∙ parts.0, parts.1),
          λ is.
              let same : is.0.set s ≡ test_of d g l.set s = ap (λ (n : Level). n.set s) (same_level is.0 is.1) in
              lost_is s
              ∙ first_alone (test_of d g l.before s) (test_of d g l.set s) (sym (before_at s) ∙ is.2)
              (sym same ∙ is.3),
        )

    pub has_new_tried : IsLevelOver g l → (v : Verdict) → IsWant d (test_of d g l.added) 0 l.goal v →
        AreTried d of (has_new k ∷ []) v
    has_new_tried over =
        part_wanted d of (has_new k) (test_of d g l.added) enough reported 0 l.goal refl goal_is
      where
        enough : (s : StateData) → IsIn d (test_of d g l.added) s → Passes d of (has_new k)
        enough s here m is =
            let parts = added over s here.1 in
            let same : m.set s ≡ test_of d g l.set s = ap (λ (n : Level). n.set s) (same_level m is) in
            (s, ((here.0, same ∙ parts.0), parts.1))

        reported : (s : StateData) → ((t : StateData) → ¬ IsIn d (test_of d g l.added) t) →
            IsFirstOf d (IsInitial d) s → IsReported d of (has_new k) s
        reported s nowhere first = (
          λ passes.
              let new = passes (level_told d g l) tells.here in
              nowhere new.0
              (new.1.0.0, is_added over new.0 (level_told d g l) tells.here new.1.0.1 new.1.1),
          first,
        )

    -- ---- what is forced
    module _ (over : IsLevelOver g l) (h : GameData) (failing : NodeId) where
      pub forced_within_tried : ((s : StateData) → IsState d s → (test_of d h failing s ≡ true)
          ↔ ((test_of d g l.added s ≡ true) × (¬ IsForced d (test_of d g l.set) s))) →
          ((s : StateData) → IsState d s →
          IsForced d (test_of d g l.set) s ⊎ (¬ IsForced d (test_of d g l.set) s)) → (v : Verdict) →
          IsFailure d (test_of d h failing) 4 l.goal v → AreTried d of (is_forced_within k ∷ []) v
      forced_within_tried value settled =
          part_tried d of can.regular (is_forced_within k) tt tt known (test_of d h failing) each 4 l.goal refl goal_is
        where
          known : (s : StateData) → IsState d s → IsDecided d of (is_forced_within k) s
          known s valid m is =
              decided_same d (test_of d g l.set) m.set s (ap (λ (n : Level). n.set) (sym (same_level m is)))
              (settled s valid)

          each : (s : StateData) → IsState d s → (test_of d h failing s ≡ true) ↔ IsFound d of (is_forced_within k) s
          each s valid = (
            λ here. let parts = (value s valid).0 here in (level_told d g l, tells.here, added over s parts.0, parts.1),
            λ is.
                let same = ap (λ (n : Level). n.set) (same_level is.0 is.1) in
                (value s valid).1 (
                  is_added over s is.0 is.1 is.2.0 is.2.1,
                  λ forced. is.3 (forced_same d (test_of d g l.set) is.0.set s (sym same) forced),
                ),
          )

    module _ (over : IsLevelOver g l) (ready : IsReady g) (h : GameData) (grows : Grows g h) (holds here failing :
        NodeId)
        (holds_is : IsStates d g.order g.diagrams.table (λ s. goal_holds d s l.goal ≡ true) holds)
        (here_is : (v : Assignment) → means h.diagrams.table here v
        ≡ (means g.diagrams.table l.added v && means g.diagrams.table holds v)) (i : GameData) where
      here_at : (s : StateData) → test_of d h here s ≡ (test_of d g l.added s && test_of d g holds s)
      here_at s =
          test_is d g h grows here (λ v. means g.diagrams.table l.added v && means g.diagrams.table holds v) here_is s

      lower : test_of d h l.before ≡ level_before of k
      lower = test_kept g h grows d l.before over.before ∙ sym tells.before

      pub forced_on_tried : ((s : StateData) → IsState d s → (test_of d i failing s ≡ true)
          ↔ ((test_of d h here s ≡ true) × (¬ IsForced d (test_of d h l.before) s))) →
          ((s : StateData) → IsState d s →
          IsForced d (test_of d h l.before) s ⊎ (¬ IsForced d (test_of d h l.before) s)) → (v : Verdict) →
          IsFailure d (test_of d i failing) 2 l.goal v → AreTried d of (is_forced_on k ∷ []) v
      forced_on_tried value settled =
          part_tried d of can.regular (is_forced_on k) tt tt known (test_of d i failing) each 2 l.goal refl goal_is
        where
          known : (s : StateData) → IsState d s → IsDecided d of (is_forced_on k) s
          known s valid = decided_same d (test_of d h l.before) (level_before of k) s lower (settled s valid)

          each : (s : StateData) → IsState d s → (test_of d i failing s ≡ true) ↔ IsFound d of (is_forced_on k) s
          each s valid = (
            λ there.
                let parts = (value s valid).0 there in
                let both = and_parts (test_of d g l.added s) (test_of d g holds s) (sym (here_at s) ∙ parts.0) in (
                  level_told d g l,
                  tells.here,
                  added over s both.0,
                  (set_tells d g can.of ready.order (λ t. goal_holds d t l.goal ≡ true) holds holds_is s valid).0
                      both.1,
                  λ forced. parts.1 (forced_same d (level_before of k) (test_of d h l.before) s (sym lower) forced),
                ),
            λ is.
                let goal : is.0.goal ≡ l.goal = ap (λ (n : Level). n.goal) (same_level is.0 is.1) in
                (value s valid).1 (
                  here_at s
                      ∙ and_from (test_of d g l.added s) (test_of d g holds s)
                      (is_added over s is.0 is.1 is.2.0 is.2.1)
                      ((set_tells d g can.of ready.order (λ t. goal_holds d t l.goal ≡ true) holds holds_is s valid).1
                      (ap (goal_holds d s) (sym goal) ∙ is.3)),
                  λ forced. is.4 (forced_same d (test_of d h l.before) (level_before of k) s lower forced),
                ),
          )
