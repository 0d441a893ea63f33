-- What is tried is the set of the states at which a part is found to fail.
use Rattle.std.proofs.Common.{◌≡◌, ℕ, ◌+◌, ◌-◌, ◌<◌, Bool, true, ◌&&◌, not, List, [], ◌∷◌, None, Some, Vec, length}
use Rattle.std.proofs.Common.{get_or, sym, ap, ◌∙◌, subst, arith, true≢false}
use Rattle.std.specs.Prelude.{MatchOption, Option, false, is_some, slice_get}
use Rattle.std.specs.declared.alloc.Global.{Global}
use Rattle.std.specs.Option.{option_map_or}
use Rattle.std.proofs.lemmas.Option.{slice_get-get_or, slice_get_within}
use Rattle.tm_check.specs.declared.loaded.DriverDiagrams.{DriverDiagrams}
use Rattle.tm_check.specs.declared.loaded.RankedDiagrams.{RankedDiagrams}
use Rattle.tm_check.specs.Loaded.{AreRankedDiagrams, IsRanked, row_at}
use Rattle.tm_check.specs.Told.{IsTold, last_within}
use Rattle.tm_check.specs.Tried.{AreTried, IsFirstFailure}
use Rattle.tm_check.proofs.Keeping.{driver_is, told_kept}
use Rattle.tm_check.proofs.OnePart.{part_tried}
use Rattle.tm_check.proofs.Parts.{adding_is, beginning_is, lying_is, ranked_here, ranking_is}
use Rattle.tm_check.proofs.States.{set_is, states_none, test_all, test_only}
use Rattle.tm_cir.specs.Answer.{Answers}
use Rattle.tm_cir.specs.Tree.{BlockTree}
use Rattle.tm_dd.specs.declared.node.NodeId.{NodeId}
use Rattle.tm_dd.specs.declared.node.TheConstants.{FALSE}
use Rattle.tm_dd.specs.Table.{Table, assignment, means}
use Rattle.tm_dd.proofs.CallerLaws.{means-FALSE}
use Rattle.tm_ddops.specs.Least.{IsLeast}
use Rattle.tm_ddops.specs.Manager.{Diagrams, IsFunction}
use Rattle.tm_game_bits.specs.AssignedStates.{assignment_of, state_of}
use Rattle.tm_verdict.specs.Found.{IsFound, NamesStates, RestsOn, within_rank}
use Rattle.tm_game.specs.Game.{GameData, Grows, IsSet, IsStates}
use Rattle.tm_game.specs.Least.{HoldsNowhere, test_of}
use Rattle.tm_sem.specs.Certificates.{AreRanked, DriverSets, RankedSet, rank}
use Rattle.tm_sem.specs.State.{StateData}
use Rattle.tm_sem.specs.Step.{IsInitial}
use Rattle.tm_syntax.specs.Design.{DesignTree}
use Rattle.tm_verdict.specs.declared.verdict.Verdict.{Verdict}
use Rattle.tm_verdict.specs.declared.verdict.Verdict.TheVariants.{Accepted, Refused}
use Rattle.tm_verdict.specs.Driver.{DriverPart, adds_state, begins_within, driver_condition, driver_goal}
use Rattle.tm_verdict.specs.Driver.{driver_meaning, is_ranked, lies_within}
use Rattle.tm_verdict.proofs.Trying.{refused_alone}

-- the states of all ranks are those of the last one and lower ones
pub last_is : (d : DesignTree) (order : List ℕ) (s : Table) (ranked : List RankedSet) (xs : List RankedDiagrams) →
    AreRankedDiagrams d order s ranked xs →
    IsStates d order s (λ st. within_rank ranked (length ranked) st ≡ true) (last_within xs)
last_is d order s [] [] are = states_none d order s (λ st. within_rank [] 0 st ≡ true) (λ st h. absurd (cc))
last_is d order s [] (x ∷ xs) are = absurd (omega (arith, are.count))
last_is d order s (r ∷ rs) [] are = absurd (omega (arith, are.count))
last_is d order s (r ∷ rs) (x ∷ xs) are =
    let last : length (x ∷ xs) - 1 < length (x ∷ xs) = omega arith in
    let there = slice_get-get_or (x ∷ xs) (length (x ∷ xs) - 1) x last in
    let here = slice_get-get_or (r ∷ rs) (length (x ∷ xs) - 1) r (omega (arith, are.count)) in
    let is = are.each (length (x ∷ xs) - 1) (get_or (r ∷ rs) (length (x ∷ xs) - 1) r)
    (get_or (x ∷ xs) (length (x ∷ xs) - 1) x) here there in
    let all : 1 + (length (x ∷ xs) - 1) ≡ length (r ∷ rs) = omega (arith, are.count) in
    let id_is : (get_or (x ∷ xs) (length (x ∷ xs) - 1) x).within ≡ last_within (x ∷ xs) =
    sym (ap (λ o. option_map_or (λ (y : RankedDiagrams). y.within) o FALSE) there) in
    subst (IsStates d order s (λ st. within_rank (r ∷ rs) (length (r ∷ rs)) st ≡ true)) id_is
    (subst (λ (n : ℕ). IsStates d order s (λ st. within_rank (r ∷ rs) n st ≡ true)
    (get_or (x ∷ xs) (length (x ∷ xs) - 1) x).within) all is.within)

module _ (d : DesignTree) (bs : List BlockTree) (c : DriverSets) (told : DriverDiagrams) where
  -- ---- a set decides on its part
  module _ (h : GameData) (is : IsTold d bs c h told) (part : DriverPart) (failing : NodeId)
      (found : IsStates d h.order h.diagrams.table (IsFound d (Answers bs) c part) failing) where
    pub found_set : IsSet h failing
    found_set = set_is d h is.of is.sized (IsFound d (Answers bs) c part) failing found

    pub found_tried : (condition goal : ℕ) (v : Verdict) → NamesStates part → RestsOn d (Answers bs) c part →
        condition ≡ driver_condition part → goal ≡ driver_goal part → IsFirstFailure d h failing condition goal v →
        AreTried d (Answers bs) c (part ∷ []) v
    found_tried condition goal v names rests number of_goal first =
        part_tried d is.regular (Answers bs) (driver_is d bs is.blocks) c h is.of is.sized part failing condition goal v
        names rests number of_goal found first

  module _ (g h : GameData) (is : IsTold d bs c g told) (grows : Grows g h) where
    at_h : (P : StateData → Type 0) (id : NodeId) → IsStates d g.order h.diagrams.table P id →
        IsStates d h.order h.diagrams.table P id
    at_h P id here = subst (λ (o : List ℕ). IsStates d o h.diagrams.table P id) (sym grows.order) here

    module _ (goal : ℕ) (there : goal < length told.goals.items) where
      row : AreRankedDiagrams d g.order g.diagrams.table (ranked_here d bs c g told is goal there).0 (row_at told goal)
      row = is.diagrams.each goal (ranked_here d bs c g told is goal there).0
          (ranked_here d bs c g told is goal there).1

      module _ (index : ℕ) (x : RankedDiagrams) (at : slice_get (row_at told goal) index ≡ Some x) where
        -- one of them
        pub own : (r : RankedSet) × (slice_get (ranked_here d bs c g told is goal there).0 index ≡ Some r)
            × IsRanked d g.order g.diagrams.table (ranked_here d bs c g told is goal there).0 index r x
        own =
            let spare : RankedSet = record { fair = 0; set = λ s. true } in
            let below = slice_get_within (row_at told goal) index x at in
            let here = slice_get-get_or (ranked_here d bs c g told is goal there).0 index spare
            (omega (arith, below, row.count)) in (
              get_or (ranked_here d bs c g told is goal there).0 index spare,
              here,
              row.each index (get_or (ranked_here d bs c g told is goal there).0 index spare) x here at,
            )

        pub lying_found : (id : NodeId) → IsFunction h.diagrams.table id
            (λ v. means g.diagrams.table x.set v && not (means g.diagrams.table told.region v)) →
            IsStates d h.order h.diagrams.table (IsFound d (Answers bs) c (lies_within goal index)) id
        lying_found id fn =
            at_h (IsFound d (Answers bs) c (lies_within goal index)) id
            (lying_is d g.order (Answers bs) c g.diagrams.table h.diagrams.table told.region x.set id is.diagrams.region
            goal index (ranked_here d bs c g told is goal there).0 own.0 (ranked_here d bs c g told is goal there).1
            own.1 own.2.set fn)

        pub adding_found : (id : NodeId) → IsFunction h.diagrams.table id
            (λ v. means g.diagrams.table x.set v && not (means g.diagrams.table x.before v)) →
            IsStates d h.order h.diagrams.table
            (λ st. rank (ranked_here d bs c g told is goal there).0 st ≡ 1 + index) id
        adding_found id fn =
            at_h (λ st. rank (ranked_here d bs c g told is goal there).0 st ≡ 1 + index) id
            (adding_is d g.order g.diagrams.table h.diagrams.table (ranked_here d bs c g told is goal there).0 index
            own.0 x.set x.before id own.1 own.2.set own.2.before fn)

      -- those that have a rank
      pub all_found : IsStates d g.order g.diagrams.table
          (λ st. within_rank (ranked_here d bs c g told is goal there).0
          (length (ranked_here d bs c g told is goal there).0) st ≡ true) (last_within (row_at told goal))
      all_found =
          last_is d g.order g.diagrams.table (ranked_here d bs c g told is goal there).0 (row_at told goal) row

      pub ranking_found : (id : NodeId) → IsFunction h.diagrams.table id (λ v. means g.diagrams.table told.region v
          && not (means g.diagrams.table (last_within (row_at told goal)) v)) →
          IsStates d h.order h.diagrams.table (IsFound d (Answers bs) c (is_ranked goal)) id
      ranking_found id fn =
          at_h (IsFound d (Answers bs) c (is_ranked goal)) id
          (ranking_is d g.order (Answers bs) c g.diagrams.table h.diagrams.table told.region
          (last_within (row_at told goal)) id is.diagrams.region goal (ranked_here d bs c g told is goal there).0
          (ranked_here d bs c g told is goal there).1 all_found fn)

    pub beginning_found : (initial id : NodeId) → IsStates d g.order g.diagrams.table (IsInitial d) initial →
        IsFunction h.diagrams.table id
        (λ v. means g.diagrams.table initial v && not (means g.diagrams.table told.region v)) →
        IsStates d h.order h.diagrams.table (IsFound d (Answers bs) c begins_within) id
    beginning_found initial id initial_is fn =
        at_h (IsFound d (Answers bs) c begins_within) id
        (beginning_is d g.order (Answers bs) c g.diagrams.table h.diagrams.table told.region initial id
        is.diagrams.region initial_is fn)

-- ---- a ranked region adds a state
-- values that make a known function true, and what it is where none were found
pub found_somewhere : (m n : Diagrams) (id : NodeId) → m ≡ n → (o : Option (Vec Bool Global)) →
    MatchOption o (id ≡ FALSE) (λ values. IsLeast m.table id values.items) → is_some o ≡ true →
    (v : ℕ → Bool) × (means n.table id v ≡ true)
found_somewhere m n id same None is there = absurd (cc)
found_somewhere m n id same (Some values) is there = (
  assignment values.items,
  ap (λ (x : Diagrams). means x.table id (assignment values.items)) (sym same) ∙ is.holds,
)

pub found_nowhere : (m : Diagrams) (id : NodeId) (o : Option (Vec Bool Global)) →
    MatchOption o (id ≡ FALSE) (λ values. IsLeast m.table id values.items) → is_some o ≡ false → id ≡ FALSE
found_nowhere m id None is nowhere = is
found_nowhere m id (Some values) is nowhere = absurd (cc)

module _ (d : DesignTree) (bs : List BlockTree) (c : DriverSets) (told : DriverDiagrams) (g h : GameData)
    (is : IsTold d bs c g told) (grows : Grows g h) (goal : ℕ) (there : goal < length told.goals.items) (index : ℕ)
    (x : RankedDiagrams) (at : slice_get (row_at told goal) index ≡ Some x) (id : NodeId)
    (fn : IsFunction h.diagrams.table id
    (λ v. means g.diagrams.table x.set v && not (means g.diagrams.table x.before v))) where
  later : IsTold d bs c h told
  later = told_kept d g h grows bs c told is

  same_ranked : (other : List RankedSet) → AreRanked c goal other → other ≡ (ranked_here d bs c g told is goal there).0
  same_ranked other also =
      let same : Some other ≡ Some (ranked_here d bs c g told is goal there).0 =
      sym also ∙ (ranked_here d bs c g told is goal there).1 in
      cc

  added : IsStates d h.order h.diagrams.table (λ st. rank (ranked_here d bs c g told is goal there).0 st ≡ 1 + index) id
  added = adding_found d bs c told g h is grows goal there index x at id fn

  pub adds_passes : (v : ℕ → Bool) → means h.diagrams.table id v ≡ true →
      AreTried d (Answers bs) c (adds_state goal index ∷ []) Accepted
  adds_passes v here = (
    λ ranked are. (
      state_of d h.order v,
      (added.only v here).0,
      subst (λ (xs : List RankedSet). rank xs (state_of d h.order v) ≡ 1 + index) (sym (same_ranked ranked are))
          (added.only v here).1,
    ),
    tt,
  )

  adds_none : id ≡ FALSE → HoldsNowhere d (test_of d h id)
  adds_none empty s here =
      absurd (true≢false
      (sym here.1
      ∙ ap (λ (x : NodeId). means h.diagrams.table x (assignment_of d h.order s)) empty
      ∙ means-FALSE h.diagrams.table (assignment_of d h.order s)))

  -- one that adds none is refused at the first initial state
  pub adds_refused : id ≡ FALSE → (initial : NodeId) → IsStates d h.order h.diagrams.table (IsInitial d) initial →
      (v : Verdict) → IsFirstFailure d h initial 0 goal v →
      AreTried d (Answers bs) c (adds_state goal index ∷ []) v
  adds_refused empty initial initial_is Accepted never =
      let begin = later.begins in
      let valid = later.regular.initial begin.0 begin.1 in
      absurd (never begin.0 (
        valid,
        test_all d h later.of later.sized h.diagrams.table (IsInitial d) initial initial_is begin.0 valid begin.1,
      ))
  adds_refused empty initial initial_is (Refused number j s) first =
      refused_alone (driver_meaning d (Answers bs) c) (adds_state goal index) number j s first.0 first.1 (
        (ranked_here d bs c g told is goal there).0,
        (ranked_here d bs c g told is goal there).1,
        λ adds. adds_none empty adds.0 (
          adds.1,
          test_all d h later.of later.sized h.diagrams.table
              (λ st. rank (ranked_here d bs c g told is goal there).0 st ≡ 1 + index) id added adds.0 adds.1 adds.2,
        ),
        record {
          here = test_only d h later.of later.sized h.diagrams.table (IsInitial d) initial initial_is s first.2.here.0
              first.2.here.1;
          none_before = λ t begins.
              let valid = later.regular.initial t begins in
              first.2.none_before t (
                valid,
                test_all d h later.of later.sized h.diagrams.table (IsInitial d) initial initial_is t valid begins,
              );
        },
      )
