-- The parts that speak of a chain are tried by diagrams.
use Rattle.std.proofs.Common.{◌≡◌, ◌⊎◌, inl, inr, ℕ, suc, ◌+◌, ◌<◌, Bool, true, false, ◌&&◌, ◌||◌, not, List, [], ◌∷◌, Some, Vec, Global, get_or, length, map, refl, sym, ap, ◌∙◌, subst, arith}
use Rattle.std.specs.Prelude.{◌↔◌, slice_get}
use Rattle.std.specs.List.{flat_map, list_any, range_with_len}
use Rattle.std.specs.Option.{option_map, option_map_or}
use Rattle.std.proofs.lemmas.Bool.{cases_Bool}
use Rattle.std.proofs.lemmas.List.{length-map}
use Rattle.std.proofs.lemmas.Option.{slice_get-map}
use Rattle.tm_game_bits.specs.AssignedStates.{assignment_of}
use Rattle.tm_dd.specs.declared.node.NodeId.{NodeId}
use Rattle.tm_dd.specs.Table.{means}
use Rattle.tm_envcheck.specs.declared.levels.LevelDiagrams.{LevelDiagrams}
use Rattle.tm_envcheck.specs.Inner.Over.{AreSets, IsLevelOver, IsReady, chains_in}
use Rattle.tm_envcheck.specs.Inner.Reports.{IsFailure, IsInitialReport}
use Rattle.tm_envcheck.specs.Inner.Stuck.{IsSettled, IsStuckIn, lower_than}
use Rattle.tm_envcheck.specs.Inner.Told.{TellsLevel, TellsSet, chain_told, level_told}
use Rattle.tm_envcheck.specs.Tried.{AreTried}
use Rattle.tm_envcheck.specs.Verdict.{CanCheck}
use Rattle.tm_envcheck.proofs.Growing.{chain_kept, test_kept}
use Rattle.tm_envcheck.proofs.LevelParts.{added, first_alone, forced_same, goal_is, in_first_alone, is_added, same_level, test_is}
use Rattle.tm_envcheck.proofs.Trying.{part_fails, part_tried}
use Rattle.tm_verdict.specs.Levels.{IsAtPlace, IsDecided, IsForced, IsFound, lower_at}
use Rattle.tm_game_bits.specs.Functions.{Assignment}
use Rattle.tm_game.specs.Game.{AreFairs, GameData, Grows, IsStates}
use Rattle.tm_game.specs.Least.{test_of}
use Rattle.tm_game.proofs.SetTests.{set_tells}
use Rattle.tm_sem.specs.Certificates.{Level, either, level_before, set_before}
use Rattle.tm_sem.specs.Fairness.{IsFair}
use Rattle.tm_sem.specs.State.{StateData}
use Rattle.tm_sem.specs.Step.{IsInitial, IsState}
use Rattle.tm_syntax.specs.Design.{DesignTree}
use Rattle.tm_verdict.specs.declared.verdict.Verdict.{Verdict}
use Rattle.tm_verdict.specs.declared.verdict.Verdict.TheVariants.{Accepted, Refused}
use Rattle.tm_verdict.specs.Environment.{IsReported, Passes, chain_of, chain_parts, chains_of, grows, is_chain}
use Rattle.tm_verdict.specs.Environment.{is_in_chain, level_meaning, lies_in, set_parts, waits_or_falls}
use Rattle.tm_verdict.proofs.Trying.{refused_stop, tried_then}
use Rattle.tm_verdict.specs.Reported.{IsFirstOf}

-- ---- the sets of chains
pub any_told : (d : DesignTree) (g : GameData) (ids : List NodeId) (s : StateData) →
    list_any (λ (set : StateData → Bool). set s) (chain_told d g ids)
    ≡ list_any (λ (id : NodeId). means g.diagrams.table id (assignment_of d g.order s)) ids
any_told d g [] s = refl
any_told d g (id ∷ ids) s = λ i. test_of d g id s || any_told d g ids s i

-- the set of a place, and the one before the next place
pub told_at : (d : DesignTree) (g : GameData) (chain : List NodeId) (x : ℕ) (set : NodeId) →
    slice_get chain x ≡ Some set → slice_get (chain_told d g chain) x ≡ Some (test_of d g set)
told_at d g chain x set at = slice_get-map (test_of d g) chain x ∙ ap (option_map (test_of d g)) at

pub set_before_next : (d : DesignTree) (g : GameData) (chain : List NodeId) (x : ℕ) (set : NodeId) →
    slice_get chain x ≡ Some set → set_before (chain_told d g chain) (x + 1) ≡ test_of d g set
set_before_next d g chain x set at =
    let next : x + 1 ≡ suc x = omega arith in
    ap (set_before (chain_told d g chain)) next
    ∙ ap (λ o. option_map_or (λ (one : StateData → Bool). one) o (λ s. false)) (told_at d g chain x set at)

-- the chain of a place in a level
pub chain_in : (l : LevelDiagrams) (i : ℕ) (chain : Vec NodeId Global) → slice_get l.chains.items i ≡ Some chain →
    slice_get (chains_in l) i ≡ Some chain.items
chain_in l i chain at =
    slice_get-map (λ (c : Vec NodeId Global). c.items) l.chains.items i
    ∙ ap (option_map (λ (c : Vec NodeId Global). c.items)) at

pub chains_count : (l : LevelDiagrams) → length (chains_in l) ≡ length l.chains.items
chains_count l = length-map l.chains.items (λ (c : Vec NodeId Global). c.items)

-- the diagram of a fairness condition
pub fair_told : (d : DesignTree) (g : GameData) (fairs : List NodeId) → fairs ≡ g.fairs → AreFairs d g → (i : ℕ)
    (e : NodeId) → i < length fairs → IsStates d g.order g.diagrams.table (λ s. IsFair d s i) (get_or fairs i e)
fair_told d g fairs same are i e below =
    subst (λ (ids : List NodeId). IsStates d g.order g.diagrams.table (λ s. IsFair d s i) (get_or ids i e)) (sym same)
    (are i e (subst (λ (ids : List NodeId). i < length ids) same below))

module _ (d : DesignTree) (g : GameData) (of : List Level) (k : ℕ) (l : LevelDiagrams)
    (tells : TellsLevel d g of k l) where
  -- ---- a set
  module _ (can : CanCheck d g) (i x : ℕ) (before set : NodeId) (set_told : TellsSet d g of k i x before set)
      (h : GameData) (grown : Grows g h) where
    -- the set that is told is the one of its place
    one_set : (m : Level) (chain : List (StateData → Bool)) (other : StateData → Bool) → slice_get of k ≡ Some m →
        slice_get m.chains i ≡ Some chain → slice_get chain x ≡ Some other →
        (m ≡ set_told.level) × (chain ≡ set_told.chain) × (other ≡ test_of d g set)
    one_set m chain other is of_chain at =
        let levels : Some m ≡ Some set_told.level = sym is ∙ set_told.of_level in
        let level : m ≡ set_told.level = cc in
        let chains : Some chain ≡ Some set_told.chain =
        sym of_chain ∙ ap (λ (n : Level). slice_get n.chains i) level ∙ set_told.of_chain in
        let same : chain ≡ set_told.chain = cc in
        let sets : Some other ≡ Some (test_of d g set) =
        sym at ∙ ap (λ (c : List (StateData → Bool)). slice_get c x) same ∙ set_told.here in
        let one : other ≡ test_of d g set = cc in
        (level, same, one)

    pub grows_tried : (lost : NodeId) → ((v : Assignment) → means h.diagrams.table lost v
        ≡ (means g.diagrams.table before v && not (means g.diagrams.table set v))) → (v : Verdict) →
        IsFailure d (test_of d h lost) 0 l.goal v → AreTried d of (grows k i x ∷ []) v
    grows_tried lost value =
        part_tried d of can.regular (grows k i x) tt tt (λ s valid. tt) (test_of d h lost) each 0 l.goal refl
        (goal_is d g of k l tells)
      where
        lost_is : (s : StateData) → test_of d h lost s ≡ (test_of d g before s && not (test_of d g set s))
        lost_is s =
            test_is d g h grown lost (λ v. means g.diagrams.table before v && not (means g.diagrams.table set v)) value
            s

        each : (s : StateData) → IsState d s → (test_of d h lost s ≡ true) ↔ IsFound d of (grows k i x) s
        each s valid = (
          λ here.
              let parts = in_first_alone (test_of d g before s) (test_of d g set s) (sym (lost_is s) ∙ here) in (
                set_told.level,
                set_told.chain,
                test_of d g set,
                set_told.of_level,
                set_told.of_chain,
                set_told.here,
                (λ j. set_told.lower j s) ∙ parts.0,
                parts.1,
              ),
          λ is.
              let one = one_set is.0 is.1 is.2 is.3 is.4 is.5 in
              let lower : set_before is.1 x s ≡ test_of d g before s =
              ap (λ (c : List (StateData → Bool)). set_before c x s) one.1 ∙ (λ j. set_told.lower j s) in
              lost_is s
              ∙ first_alone (test_of d g before s) (test_of d g set s) (sym lower ∙ is.6)
              (sym (ap (λ (c : StateData → Bool). c s) one.2) ∙ is.7),
        )

    pub lies_in_tried : (outside : NodeId) → ((v : Assignment) → means h.diagrams.table outside v
        ≡ (means g.diagrams.table set v && not (means g.diagrams.table l.set v))) → (v : Verdict) →
        IsFailure d (test_of d h outside) 0 l.goal v → AreTried d of (lies_in k i x ∷ []) v
    lies_in_tried outside value =
        part_tried d of can.regular (lies_in k i x) tt tt (λ s valid. tt) (test_of d h outside) each 0 l.goal refl
        (goal_is d g of k l tells)
      where
        outside_is : (s : StateData) → test_of d h outside s ≡ (test_of d g set s && not (test_of d g l.set s))
        outside_is s =
            test_is d g h grown outside (λ v. means g.diagrams.table set v && not (means g.diagrams.table l.set v))
            value s

        each : (s : StateData) → IsState d s → (test_of d h outside s ≡ true) ↔ IsFound d of (lies_in k i x) s
        each s valid = (
          λ here.
              let parts = in_first_alone (test_of d g set s) (test_of d g l.set s) (sym (outside_is s) ∙ here) in
              let same = same_level d g of k l tells set_told.level set_told.of_level in (
                set_told.level,
                set_told.chain,
                test_of d g set,
                set_told.of_level,
                set_told.of_chain,
                set_told.here,
                parts.0,
                ap (λ (n : Level). n.set s) same ∙ parts.1,
              ),
          λ is.
              let one = one_set is.0 is.1 is.2 is.3 is.4 is.5 in
              let same = same_level d g of k l tells is.0 is.3 in
              outside_is s
              ∙ first_alone (test_of d g set s) (test_of d g l.set s)
              (sym (ap (λ (c : StateData → Bool). c s) one.2) ∙ is.6)
              (sym (ap (λ (n : Level). n.set s) same) ∙ is.7),
        )

  -- ---- the chains of the level
  chains_told : chains_of of k ≡ map (chain_told d g) (chains_in l)
  chains_told = ap (λ o. option_map_or (λ (m : Level). m.chains) o []) tells.here

  pub chains_long : length (chains_of of k) ≡ length (chains_in l)
  chains_long = ap length chains_told ∙ length-map (chains_in l) (chain_told d g)

  -- ---- a chain
  module _ (i : ℕ) (chain : List NodeId) (there : slice_get (chains_in l) i ≡ Some chain) where
    pub chain_there : slice_get (level_told d g l).chains i ≡ Some (chain_told d g chain)
    chain_there = slice_get-map (chain_told d g) (chains_in l) i ∙ ap (option_map (chain_told d g)) there

    -- its set of a place
    pub set_there : (x : ℕ) (set : NodeId) → slice_get chain x ≡ Some set → (before : NodeId) →
        set_before (chain_told d g chain) x ≡ test_of d g before → TellsSet d g of k i x before set
    set_there x set at before lower = record {
      level = level_told d g l;
      chain = chain_told d g chain;
      of_level = tells.here;
      of_chain = chain_there;
      here = told_at d g chain x set at;
      lower = lower;
    }

    -- the chain that is told is the one of its place
    pub one_chain : (m : Level) (other : List (StateData → Bool)) → slice_get of k ≡ Some m →
        slice_get m.chains i ≡ Some other → other ≡ chain_told d g chain
    one_chain m other is at =
        let chains : Some other ≡ Some (chain_told d g chain) =
        sym at ∙ ap (λ (n : Level). slice_get n.chains i) (same_level d g of k l tells m is) ∙ chain_there in
        cc

    pub chain_is : chain_of of k i ≡ chain_told d g chain
    chain_is =
        ap (λ (cs : List (List (StateData → Bool))). option_map_or (λ (c : List (StateData → Bool)). c)
        (slice_get cs i) []) chains_told
        ∙ ap (λ o. option_map_or (λ (c : List (StateData → Bool)). c) o []) chain_there

    pub chain_long : length (chain_of of k i) ≡ length chain
    chain_long = ap length chain_is ∙ length-map chain (test_of d g)

    -- a chain with sets
    pub is_chain_passes : 0 < length chain → Passes d of (is_chain k i)
    is_chain_passes some m other is at =
        let long = ap length (one_chain m other is at) ∙ length-map chain (test_of d g) in
        omega arith

    -- an empty one
    pub is_chain_tried : length chain ≡ 0 → (v : Verdict) → IsInitialReport d 0 l.goal v →
        AreTried d of (is_chain k i ∷ []) v
    is_chain_tried none =
        part_fails d of (is_chain k i) reported 0 l.goal refl (goal_is d g of k l tells)
      where
        reported : (s : StateData) → IsFirstOf d (IsInitial d) s → IsReported d of (is_chain k i) s
        reported s first = (
          λ passes.
              let some = passes (level_told d g l) (chain_told d g chain) tells.here chain_there in
              let long = length-map chain (test_of d g) in
              absurd (omega arith),
          first,
        )

    -- all parts of the chain by itself
    pub empty_tried : length chain ≡ 0 → (v : Verdict) → IsInitialReport d 0 l.goal v →
        AreTried d of (chain_parts of k i) v
    empty_tried none Accepted is = absurd is
    empty_tried none (Refused condition goal s) is =
        refused_stop (level_meaning d of) (is_chain k i ∷ [])
        (flat_map (set_parts k i) (range_with_len 0 (length (chain_of of k i)))) condition goal s
        (is_chain_tried none (Refused condition goal s) is)

    pub sets_tried : 0 < length chain → (v : Verdict) →
        AreTried d of (flat_map (set_parts k i) (range_with_len 0 (length chain))) v →
        AreTried d of (chain_parts of k i) v
    sets_tried some v tried =
        tried_then (level_meaning d of) (is_chain k i ∷ [])
        (flat_map (set_parts k i) (range_with_len 0 (length (chain_of of k i)))) v (is_chain_passes some, tt)
        (subst (λ (n : ℕ). AreTried d of (flat_map (set_parts k i) (range_with_len 0 n)) v) (sym chain_long) tried)

    module _ (can : CanCheck d g) (over : IsLevelOver g l) where
      -- every new state is in the chain
      pub in_chain_tried : (h : GameData) → Grows g h → (n : GameData) → Grows h n → (held outside : NodeId) →
          ((v : Assignment) → means h.diagrams.table held v
          ≡ list_any (λ (id : NodeId). means g.diagrams.table id v) chain) →
          ((v : Assignment) → means n.diagrams.table outside v
          ≡ (means h.diagrams.table l.added v && not (means h.diagrams.table held v))) → (v : Verdict) →
          IsFailure d (test_of d n outside) 3 l.goal v → AreTried d of (is_in_chain k i ∷ []) v
      in_chain_tried h grown n more held outside held_is value =
          part_tried d of can.regular (is_in_chain k i) tt tt (λ s valid. tt) (test_of d n outside) each 3 l.goal refl
          (goal_is d g of k l tells)
        where
          held_at : (s : StateData) →
              test_of d h held s ≡ list_any (λ (set : StateData → Bool). set s) (chain_told d g chain)
          held_at s =
              test_is d g h grown held (λ v. list_any (λ (id : NodeId). means g.diagrams.table id v) chain) held_is s
              ∙ sym (any_told d g chain s)

          outside_is : (s : StateData) → test_of d n outside s
              ≡ (test_of d g l.added s && not (list_any (λ (set : StateData → Bool). set s) (chain_told d g chain)))
          outside_is s =
              test_is d h n more outside
              (λ v. means h.diagrams.table l.added v && not (means h.diagrams.table held v)) value s
              ∙ (λ j. test_kept g h grown d l.added over.added j s && not (held_at s j))

          each : (s : StateData) → IsState d s → (test_of d n outside s ≡ true) ↔ IsFound d of (is_in_chain k i) s
          each s valid = (
            λ here.
                let parts = in_first_alone (test_of d g l.added s)
                (list_any (λ (set : StateData → Bool). set s) (chain_told d g chain)) (sym (outside_is s) ∙ here) in (
                  level_told d g l,
                  chain_told d g chain,
                  tells.here,
                  chain_there,
                  added d g of k l tells over s parts.0,
                  parts.1,
                ),
            λ is.
                let same = one_chain is.0 is.1 is.2 is.3 in
                outside_is s
                ∙ first_alone (test_of d g l.added s)
                (list_any (λ (set : StateData → Bool). set s) (chain_told d g chain))
                (is_added d g of k l tells over s is.0 is.2 is.4.0 is.4.1)
                (sym (ap (λ (c : List (StateData → Bool)). list_any (λ (set : StateData → Bool). set s) c) same)
                ∙ is.5),
          )

      -- each waits for its condition, or falls
      module _ (ready : IsReady g) (h : GameData) (grown : Grows g h) (chain_sets : AreSets g chain)
          (met unmet failing : NodeId) (met_is : IsStates d g.order g.diagrams.table (λ s. IsFair d s i) met)
          (unmet_is : (v : Assignment) → means h.diagrams.table unmet v
          ≡ (means g.diagrams.table l.added v && not (means g.diagrams.table met v))) (n : GameData) where
        unmet_at : (s : StateData) → test_of d h unmet s ≡ (test_of d g l.added s && not (test_of d g met s))
        unmet_at s =
            test_is d g h grown unmet (λ v. means g.diagrams.table l.added v && not (means g.diagrams.table met v))
            unmet_is s

        told_same : chain_told d h chain ≡ chain_told d g chain
        told_same = chain_kept g h grown d chain chain_sets

        below_same : test_of d h l.before ≡ level_before of k
        below_same = test_kept g h grown d l.before over.before ∙ sym tells.before

        lower_same : (x : ℕ) →
            lower_than (chain_told d h chain) (test_of d h l.before) x ≡ lower_at of k (chain_told d g chain) x
        lower_same x = λ j. either (set_before (told_same j) x) (below_same j)

        fair_iff : (s : StateData) → IsState d s → (test_of d g met s ≡ true) ↔ IsFair d s i
        fair_iff = set_tells d g can.of ready.order (λ t. IsFair d t i) met met_is

        pub waits_tried : Passes d of (is_in_chain k i) → ((s : StateData) → IsState d s →
            (test_of d n failing s ≡ true)
            ↔ IsStuckIn d (chain_told d h chain) (test_of d h unmet) (test_of d h l.before) s) →
            ((s : StateData) → IsState d s → (x : ℕ) → x < length chain →
            IsSettled d (chain_told d h chain) (test_of d h l.before) x s) → (v : Verdict) →
            IsFailure d (test_of d n failing) 5 l.goal v → AreTried d of (waits_or_falls k i ∷ []) v
        waits_tried rests value settled =
            part_tried d of can.regular (waits_or_falls k i) tt rests known (test_of d n failing) each 5 l.goal refl
            (goal_is d g of k l tells)
          where
            either_way : (s : StateData) (x : ℕ) (other : List (StateData → Bool)) → other ≡ chain_told d g chain →
                (test_of d g met s ≡ true) ⊎ (test_of d g met s ≡ false) → IsState d s →
                IsSettled d (chain_told d h chain) (test_of d h l.before) x s →
                (IsFair d s i ⊎ IsForced d (lower_at of k other x) s)
                ⊎ (¬ (IsFair d s i ⊎ IsForced d (lower_at of k other x) s))
            either_way s x other same (inl fair) valid settles = inl (inl ((fair_iff s valid).0 fair))
            either_way s x other same (inr unfair) valid (inl forced) =
                inl (inr (forced_same d (lower_than (chain_told d h chain) (test_of d h l.before) x)
                (lower_at of k other x) s
                (lower_same x ∙ ap (λ (c : List (StateData → Bool)). lower_at of k c x) (sym same)) forced))
            either_way s x other same (inr unfair) valid (inr free) = inr neither
              where
                neither : ¬ (IsFair d s i ⊎ IsForced d (lower_at of k other x) s)
                neither (inl fair) = let met_there = (fair_iff s valid).1 fair in absurd (cc)
                neither (inr forced) =
                    free (forced_same d (lower_at of k other x)
                    (lower_than (chain_told d h chain) (test_of d h l.before) x) s
                    (ap (λ (c : List (StateData → Bool)). lower_at of k c x) same ∙ sym (lower_same x)) forced)

            known : (s : StateData) → IsState d s → IsDecided d of (waits_or_falls k i) s
            known s valid m other x is at place =
                let same = one_chain m other is at in
                either_way s x other same (cases_Bool (test_of d g met s)) valid
                (settled s valid x (
                let long = ap length same ∙ length-map chain (test_of d g) in
                omega (arith, place.below)
                ))

            each : (s : StateData) → IsState d s → (test_of d n failing s ≡ true) ↔ IsFound d of (waits_or_falls k i) s
            each s valid = (
              λ there.
                  let stuck = (value s valid).0 there in
                  let parts = in_first_alone (test_of d g l.added s) (test_of d g met s) (sym (unmet_at s) ∙ stuck.1)
                  in (
                    level_told d g l,
                    chain_told d g chain,
                    stuck.0,
                    tells.here,
                    chain_there,
                    added d g of k l tells over s parts.0,
                    subst (λ (c : List (StateData → Bool)). IsAtPlace c stuck.0 s) told_same stuck.2,
                    λ fair. let met_there = (fair_iff s valid).1 fair in absurd (cc (parts.1)),
                    λ forced. stuck.3
                        (forced_same d (lower_at of k (chain_told d g chain) stuck.0)
                        (lower_than (chain_told d h chain) (test_of d h l.before) stuck.0) s
                        (sym (lower_same stuck.0)) forced),
                  ),
              λ is.
                  let same = one_chain is.0 is.1 is.3 is.4 in
                  (value s valid).1 (
                    is.2,
                    unmet_at s
                        ∙ first_alone (test_of d g l.added s) (test_of d g met s)
                        (is_added d g of k l tells over s is.0 is.3 is.5.0 is.5.1)
                        (unfair s valid (cases_Bool (test_of d g met s)) is.7),
                    subst (λ (c : List (StateData → Bool)). IsAtPlace c is.2 s) (same ∙ sym told_same) is.6,
                    λ forced. is.8
                        (forced_same d (lower_than (chain_told d h chain) (test_of d h l.before) is.2)
                        (lower_at of k is.1 is.2) s
                        (lower_same is.2 ∙ ap (λ (c : List (StateData → Bool)). lower_at of k c is.2) (sym same))
                        forced),
                  ),
            )
              where
                unfair : (t : StateData) → IsState d t → (test_of d g met t ≡ true) ⊎ (test_of d g met t ≡ false) →
                    (¬ IsFair d t i) → test_of d g met t ≡ false
                unfair t state (inl met_there) not_fair = absurd (not_fair ((fair_iff t state).0 met_there))
                unfair t state (inr out) not_fair = out
