-- The parts of sets over cells, and what is found of cells, as ids of a game with its pool.
use Rattle.std.proofs.Common.{◌≡◌, ℕ, ◌-◌, ◌<◌, ◌&&◌, not, Bool, true, false, List, map, length, Option, Some, None, refl, sym, ap, ◌∙◌, subst}
use Rattle.std.proofs.Math.Logic.{∥∥₁_elim}
use Rattle.std.proofs.Props.{props}
use Rattle.std.specs.List.{filter}
use Rattle.std.specs.Prelude.{◌↔◌, All, MatchOption, is_some, nat_lt}
use Rattle.tm_abs.specs.Split.{IsCut, PartsAreOne}
use Rattle.tm_abs.specs.Tracked.{AreInPool, IsPooled, tracked_of}
use Rattle.tm_dd.specs.declared.node.NodeId.{NodeId}
use Rattle.tm_dd.specs.Table.{Knows, means}
use Rattle.tm_flat.specs.Flat.{FlatTerms, flat_terms}
use Rattle.tm_flat.specs.declared.flat.Flat.{Flat}
use Rattle.tm_flat_pool.specs.Cells.{IsInLower, IsInUpper}
use Rattle.tm_flat_pool.specs.Predicates.{Predicate, pool}
use Rattle.tm_game.specs.Game.{GameData, Grows, IsOf, IsSet, IsStates}
use Rattle.tm_game.specs.Least.{HoldsNowhere, test_of}
use Rattle.tm_game.proofs.Growing.{means_kept, set_kept}
use Rattle.tm_game.proofs.SetTests.{set_tells as set_tells_at, states_set as starts_set}
use Rattle.tm_game_bits.specs.AssignedStates.{assignment_of}
use Rattle.tm_game_bits.specs.Functions.{Assignment}
use Rattle.tm_game_bits.specs.States.{ReadsState}
use Rattle.tm_game_pool.specs.Separating.{Separates, predicates_at}
use Rattle.tm_refine.specs.Parts.{TellCells, lower_part, upper_part}
use Rattle.tm_refine.specs.PartLaws.{lower_holds, lower_when, upper_meets, upper_when}
use Rattle.tm_refine.specs.Pooled.{CanBeDecided, CanDecide, pool_ids, term_test, tests_of}
use Rattle.tm_refine.specs.Searching.{IsParted}
use Rattle.tm_refine.specs.Solved.{IsOut}
use Rattle.tm_refine.proofs.PoolKeeps.{pooled_of}
use Rattle.tm_refine.specs.PoolTests.{pool_long, tests_tell, within_below, within_same}
use Rattle.tm_sem.specs.Certificates.{IsIn}
use Rattle.tm_sem.specs.State.{StateData}
use Rattle.tm_sem.specs.StateBits.{IsLeast}
use Rattle.tm_sem.specs.Step.{IsInitial, IsState}
use Rattle.tm_solve.specs.Exact.{LeavesOut}
use Rattle.tm_solve.specs.Ids.{Is}
use Rattle.tm_solve.specs.Sets.{IsAmong, StateSet}
use Rattle.tm_solve_exact.specs.Exact.{IsExactOf, IsStateSet, coding, exact_game, set_of, valid_set}
use Rattle.tm_solve_exact.specs.Listed.{and_both, and_parts}
use Rattle.tm_solve_exact.proofs.Growing.{coding_same, coding_told, kept_exact, set_tells, states_set, valid_told}
use Rattle.tm_solve_exact.proofs.Staying.{among_valid, iff_same, valid_among}
use Rattle.tm_solve_exact.proofs.Truncated.{set_prop}
use Rattle.tm_syntax.specs.Design.{DesignTree}
use Rattle.tm_term.specs.declared.term.TermId.{TermId}

-- a set as states of the game and as a test of the design
pub set_is_test : (d : DesignTree) (g : GameData) → IsExactOf d g → (id : NodeId) → set_of g id ≡ test_of d g id
set_is_test d g is id = λ i s. means g.diagrams.table id ((coding_same d g is i).assignment_of s)

module _ (d : DesignTree) (g : GameData) (is : IsExactOf d g) where
  pub listed_valid : (s : StateData) → IsAmong s (exact_game g).states → IsState d s
  listed_valid s among = among_valid d (coding g) (coding_told d g is) (valid_set g) (valid_told d g is) s among

  pub valid_listed : (s : StateData) → IsState d s → IsAmong s (exact_game g).states
  valid_listed s valid = valid_among d (coding g) (coding_told d g is) (valid_set g) (valid_told d g is) s valid

  -- ---- parts
  module _ (predicates : List Predicate) (ps : List StateSet) (cells : TellCells d predicates ps) (a : StateSet) where
    pub upper_iff : (s : StateData) → IsState d s →
        (upper_part (exact_game g).states ps a s ≡ true) ↔ IsInUpper d predicates a s
    upper_iff s valid = (
      λ h.
          let found = upper_meets (exact_game g).states ps a s h in
          let there = listed_valid found.0 found.1 in
          record { valid = valid; meets = (found.0, there, cells.cell s found.0 valid there found.2, found.3) },
      λ u.
          upper_when (exact_game g).states ps a s u.meets.0 (valid_listed u.meets.0 u.meets.1)
          (cells.told s u.meets.0 valid u.meets.1 u.meets.2) u.meets.3,
    )

    pub lower_iff : (s : StateData) → IsState d s →
        (lower_part (exact_game g).states ps a s ≡ true) ↔ IsInLower d predicates a s
    lower_iff s valid = (
      λ h. record {
        valid = valid;
        within = λ t there cell.
            lower_holds (exact_game g).states ps a s h t (valid_listed t there) (cells.told s t valid there cell);
      },
      λ l.
          lower_when (exact_game g).states ps a s
          (λ t among like.
          let there = listed_valid t among in
          l.within t there (cells.cell s t valid there like)),
    )

-- an id of the states of which something holds is that of a set where the same holds
module _ (d : DesignTree) (g h : GameData) (is : IsExactOf d g) (grows : Grows g h) where
  pub is_of_states : (P : StateData → Type 0) (a : StateSet) (id : NodeId) → IsStates d g.order h.diagrams.table P id →
      ((s : StateData) → IsState d s → (a s ≡ true) ↔ P s) → Is (exact_game g).states (pool_ids h) id a
  is_of_states P a id answer iff =
      let after = kept_exact d g is h grows in
      let states : IsStates d h.order h.diagrams.table P id =
      subst (λ (o : List ℕ). IsStates d o h.diagrams.table P id) (sym grows.order) answer in
      record {
        known = states_set d h after P id states;
        means = record {
          same = λ s among.
              let valid = listed_valid d g is s among in
              let tells = set_tells d h after P id states s valid in
              iff_same (set_of h id s) (a s) (λ e. (iff s valid).1 (tells.0 e)) (λ e. tells.1 ((iff s valid).0 e));
        };
      }

module _ (g h : GameData) (can : CanBeDecided g) (grows : Grows g h) (ks : List ℕ) (set id : NodeId) where
  pooled_prop : (a : StateSet) → IsProp (Is (exact_game g).states (pool_ids h) id a)
  pooled_prop a = hlevel (set_prop, props)

  pub upper_is :
      ((d : DesignTree) → IsPooled d g →
      IsStates d g.order h.diagrams.table (IsInUpper d (tracked_of d ks) (test_of d g set)) id) →
      Is (exact_game g).states (pool_ids h) id (upper_part (exact_game g).states (tests_of g ks) (set_of g set))
  upper_is answer =
      ∥∥₁_elim can (pooled_prop (upper_part (exact_game g).states (tests_of g ks) (set_of g set)))
      (λ x.
      let is = x.1.solve.exact in
      is_of_states x.0 g h is grows (IsInUpper x.0 (tracked_of x.0 ks) (set_of g set))
      (upper_part (exact_game g).states (tests_of g ks) (set_of g set)) id
      (subst (λ (a : StateSet). IsStates x.0 g.order h.diagrams.table (IsInUpper x.0 (tracked_of x.0 ks) a) id)
      (sym (set_is_test x.0 g is set)) (answer x.0 (pooled_of x.0 g x.1)))
      (upper_iff x.0 g is (tracked_of x.0 ks) (tests_of g ks) (tests_tell x.0 g x.1.pool ks) (set_of g set)))

  pub lower_is :
      ((d : DesignTree) → IsPooled d g →
      IsStates d g.order h.diagrams.table (IsInLower d (tracked_of d ks) (test_of d g set)) id) →
      Is (exact_game g).states (pool_ids h) id (lower_part (exact_game g).states (tests_of g ks) (set_of g set))
  lower_is answer =
      ∥∥₁_elim can (pooled_prop (lower_part (exact_game g).states (tests_of g ks) (set_of g set)))
      (λ x.
      let is = x.1.solve.exact in
      is_of_states x.0 g h is grows (IsInLower x.0 (tracked_of x.0 ks) (set_of g set))
      (lower_part (exact_game g).states (tests_of g ks) (set_of g set)) id
      (subst (λ (a : StateSet). IsStates x.0 g.order h.diagrams.table (IsInLower x.0 (tracked_of x.0 ks) a) id)
      (sym (set_is_test x.0 g is set)) (answer x.0 (pooled_of x.0 g x.1)))
      (lower_iff x.0 g is (tracked_of x.0 ks) (tests_of g ks) (tests_tell x.0 g x.1.pool ks) (set_of g set)))

-- the length of a pool that was read
pub pool_len : (g : GameData) (f : Flat) (n : ℕ) → flat_terms f ≡ g.flat → n ≡ length f.pool.items →
    n ≡ length g.flat.pool
pool_len g f n same e = e ∙ ap (λ (t : FlatTerms). length t.pool) same

-- ---- numbers of which some name nothing
module _ (g : GameData) (ks js : List ℕ) (n : ℕ) (long : n ≡ length g.flat.pool)
    (is : ks ≡ filter (λ k. nat_lt k n) js) where
  pub tests_same : tests_of g ks ≡ tests_of g js
  tests_same = ap (λ (ids : List TermId). map (term_test g) ids) (within_same g.flat.pool n ks js long is)

  pub in_pool : AreInPool g ks
  in_pool = subst (λ (m : ℕ). All (λ k. k < m) ks) long (within_below n ks js is)

-- ---- what is found of cells
module _ (d : DesignTree) (g : GameData) (can : CanDecide d g) (ks js : List ℕ) (n : ℕ)
    (long : n ≡ length g.flat.pool) (is : ks ≡ filter (λ k. nat_lt k n) js) where
  -- numbers that the pool does not have track nothing
  pub tracked_same : tracked_of d ks ≡ predicates_at (pool d) js
  tracked_same = within_same (pool d) n ks js (long ∙ sym (pool_long d g can.pool)) is

  pub cut_told : (set : NodeId) (o : Option (StateData × StateData)) →
      MatchOption o (PartsAreOne d (tracked_of d ks) (test_of d g set))
      (λ p. IsCut d (tracked_of d ks) (test_of d g set) p.0 p.1) →
      MatchOption o (PartsAreOne d (predicates_at (pool d) js) (set_of g set))
      (λ p. IsCut d (predicates_at (pool d) js) (set_of g set) p.0 p.1)
  cut_told set o found =
      subst (λ (ps : List Predicate). MatchOption o (PartsAreOne d ps (set_of g set))
      (λ p. IsCut d ps (set_of g set) p.0 p.1)) tracked_same
      (subst (λ (a : StateSet). MatchOption o (PartsAreOne d (tracked_of d ks) a)
      (λ p. IsCut d (tracked_of d ks) a p.0 p.1)) (sym (set_is_test d g can.solve.exact set)) found)

  pub apart_told : (o : Option (StateData × StateData)) →
      MatchOption o (Separates d (predicates_at (pool d) ks))
      (λ p. IsParted d (predicates_at (pool d) ks) p.0 p.1) →
      MatchOption o (Separates d (predicates_at (pool d) js))
      (λ p. IsParted d (predicates_at (pool d) js) p.0 p.1)
  apart_told o found =
      subst (λ (ps : List Predicate). MatchOption o (Separates d ps) (λ p. IsParted d ps p.0 p.1)) tracked_same found

-- ---- initial states
test_either : (b : Bool) → (b ≡ false → ⊥) → b ≡ true
test_either true none = refl
test_either false none = absurd (none refl)

not_true : (b : Bool) → not b ≡ true → b ≡ false
not_true true e = absurd (cc)
not_true false e = refl

false_not : (b : Bool) → b ≡ false → not b ≡ true
false_not true e = absurd (cc)
false_not false e = refl

-- what a game tells of its initial states
pub starts_known : (g : GameData) → CanBeDecided g → (initial : NodeId) →
    ((d : DesignTree) → IsOf d g → IsStates d g.order g.diagrams.table (IsInitial d) initial) →
    Knows g.diagrams.table initial
starts_known g can initial starts =
    ∥∥₁_elim can (hlevel props) (λ x. (starts x.0 x.1.solve.exact.ordered.of).known)

-- the initial states outside of a set are a set
module _ (g h : GameData) (can : CanBeDecided g) (grows : Grows g h) (set initial out : NodeId)
    (known : IsStateSet g set)
    (starts : (d : DesignTree) → IsOf d g → IsStates d g.order g.diagrams.table (IsInitial d) initial)
    (there : Knows h.diagrams.table out)
    (meaning : (v : Assignment) → means h.diagrams.table out v
    ≡ (means h.diagrams.table initial v && not (means h.diagrams.table set v))) where
  reads_prop : IsProp (ReadsState (length h.order) (means h.diagrams.table out))
  reads_prop = hlevel props

  reads_of : (d : DesignTree) → CanDecide d g → ReadsState (length h.order) (means h.diagrams.table out)
  reads_of d decided v w same =
      let of = decided.solve.exact.ordered.of in
      let one = set_kept g h grows initial
      (starts_set d g of decided.solve.exact.ordered.order (IsInitial d) initial (starts d of)) in
      let two = set_kept g h grows set known.set in
      meaning v ∙ (λ i. one.reads v w same i && not (two.reads v w same i)) ∙ sym (meaning w)

  pub out_set : IsSet h out
  out_set = record { known = there; reads = ∥∥₁_elim can reads_prop (λ x. reads_of x.0 x.1) }

-- an initial state outside of a set, where the sets of both are told
module _ (d : DesignTree) (g h : GameData) (can : CanDecide d g) (grows : Grows g h) (set initial out : NodeId)
    (known : IsStateSet g set) (starts : IsStates d g.order g.diagrams.table (IsInitial d) initial)
    (meaning : (v : Assignment) → means h.diagrams.table out v
    ≡ (means h.diagrams.table initial v && not (means h.diagrams.table set v))) where
  at : (s : StateData) → test_of d h out s
      ≡ (means g.diagrams.table initial (assignment_of d g.order s) && not (set_of g set s))
  at s =
      ap (λ (o : List ℕ). means h.diagrams.table out (assignment_of d o s)) grows.order
      ∙ meaning (assignment_of d g.order s)
      ∙ (λ i.
      means_kept g h grows initial starts.known i (assignment_of d g.order s)
      && not (means_kept g h grows set known.set.known i (assignment_of d g.order s)))
      ∙ (λ i. means g.diagrams.table initial (assignment_of d g.order s)
      && not (sym (set_is_test d g can.solve.exact set) i s))

  start_tells : (s : StateData) → IsState d s →
      (means g.diagrams.table initial (assignment_of d g.order s) ≡ true) ↔ IsInitial d s
  start_tells s valid =
      set_tells_at d g can.solve.exact.ordered.of can.solve.exact.ordered.order (IsInitial d) initial starts s valid

  out_found : (s : StateData) → IsIn d (test_of d h out) s → LeavesOut d (set_of g set)
  out_found s here =
      let parts = and_parts (means g.diagrams.table initial (assignment_of d g.order s)) (not (set_of g set s))
      (sym (at s) ∙ here.1) in
      (s, (start_tells s here.0).0 parts.0, (here.0, parts.1))

  none_found : HoldsNowhere d (test_of d h out) → (s : StateData) → IsInitial d s → IsIn d (set_of g set) s
  none_found none s starts_there =
      let valid = can.initial s starts_there in (
        valid,
        test_either (set_of g set s)
            (λ e.
            none s (
              valid,
              at s
                  ∙ and_both (means g.diagrams.table initial (assignment_of d g.order s)) (not (set_of g set s))
                  ((start_tells s valid).1 starts_there) (false_not (set_of g set s) e),
            )),
      )

  pub out_told : (o : Option StateData) →
      MatchOption o (HoldsNowhere d (test_of d h out)) (IsLeast d (test_of d h out)) →
      IsOut d (set_of g set) (is_some o)
  out_told None none = none_found none
  out_told (Some s) least = out_found s least.here
