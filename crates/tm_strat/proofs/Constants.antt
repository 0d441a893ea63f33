-- Moves with constant arguments: the least pair of a set tells one that is good at a state of it.
use Rattle.std.proofs.Common.{◌≡◌, inl, inr, ℕ, zero, suc, ◌+◌, ◌-◌, ◌<◌, Bool, true, false, ◌&&◌, List}
use Rattle.std.proofs.Common.{Option, None, Some, length, nat_eq, nat_lt, get_or, slice_get, refl, sym, ap, ◌∙◌}
use Rattle.std.proofs.Common.{subst, arith}
use Rattle.std.proofs.Math.Logic.{∥∥₁_elim}
use Rattle.std.proofs.Props.{props}
use Rattle.std.proofs.lemmas.Bool.{cases_lt, eqb-true, true≢false}
use Rattle.std.proofs.lemmas.Bool.Decides.{nat_tests}
use Rattle.std.proofs.lemmas.List.{get_or_default}
use Rattle.std.specs.Prelude.{if◌then◌else◌}
use Rattle.tm_base.specs.Bits.{bits_of}
use Rattle.tm_dd.specs.declared.node.NodeId.{NodeId}
use Rattle.tm_dd.specs.declared.node.TheConstants.{FALSE}
use Rattle.tm_dd.specs.Table.{assignment, means}
use Rattle.tm_dd.proofs.CallerLaws.{means-FALSE}
use Rattle.tm_ddops.specs.Manager.{IsFunction}
use Rattle.tm_flat.specs.Inputs.{room}
use Rattle.tm_game.specs.Game.{GameData}
use Rattle.tm_game_bits.proofs.Extended.{means-Extends}
use Rattle.tm_game_bits.specs.Functions.{Assignment}
use Rattle.tm_game_bits.specs.States.{AreOneState}
use Rattle.tm_sem.specs.State.{StateData}
use Rattle.tm_solve.specs.Sets.{IsAmong, StateSet}
use Rattle.tm_solve_exact.specs.Exact.{HasDesign, IsExactOf, IsStateSet, coding, exact_game, exact_ids, first_values}
use Rattle.tm_solve_exact.specs.Exact.{set_of, valid_set}
use Rattle.tm_solve_exact.specs.Listed.{and_both, and_parts, listed}
use Rattle.tm_solve_exact.proofs.Growing.{coding_told}
use Rattle.tm_syntax.specs.Design.{DesignTree}
use Rattle.tm_strat.proofs.Carrying.{grown}
use Rattle.tm_strat.proofs.Choices.{constant_kept, game_same, means_kept}
use Rattle.tm_strat.specs.Choice.{IsChoice, IsPairs, PairAt, choice, constant_set, id_in}
use Rattle.tm_strat.specs.Choice.{pairs_of, with_bits}
use Rattle.tm_strat.specs.Constants.{AreApart, AreBitsFrom, ConstantOrNone, HasBits, IsConstant, NoneBelow}
use Rattle.tm_strat.specs.Constants.{met_by}
use Rattle.tm_strat.specs.declared.choosing.GoalMoves.{GoalMoves}
use Rattle.tm_strat_drafts.specs.Growth.{Carried}
use Rattle.tm_strat_drafts.specs.Moves.{IsCare, good_now}
use Rattle.tm_strat_drafts.specs.Sets.{HasState}
use Rattle.tm_strat_drafts.specs.declared.drafts.MoveChoice.{MoveChoice}
use Rattle.tm_strat_drafts.specs.declared.drafts.MoveChoice.TheVariants.{Candidate, Constant}

first_are : (count : ℕ) (v : Assignment) → AreOneState count (assignment (first_values count v)) v
first_are zero v k below = absurd (omega arith)
first_are (suc n) v zero below = refl
first_are (suc n) v (suc k) below = first_are n (λ level. v (suc level)) k (omega (arith, below))

pub room_is : room ≡ 64
unfolding room
room_is = refl

pub bits_length : (w n : ℕ) → length (bits_of w n) ≡ w
bits_length zero n = refl
bits_length (suc w) n = omega (arith, bits_length w n)

-- ---- one shape
module _ (g : GameData) (of : HasDesign g) (pairs set : NodeId) (in_pairs : IsPairs g pairs)
    (in_set : IsStateSet g set) (bits : ℕ) (values : List Bool)
    (those : AreBitsFrom values (length g.order) bits)
    (good : means g.diagrams.table pairs (assignment values) ≡ true)
    (there : means g.diagrams.table set (assignment values) ≡ true) where
  near : Assignment
  near = assignment (first_values (length g.order) (assignment values))

  state : StateData
  state = (coding g).state_of near

  valid : valid_set g near ≡ true
  unfolding near
  valid =
      in_set.valid near
      (in_set.set.reads near (assignment values) (first_are (length g.order) (assignment values)) ∙ there)

  among : IsAmong state (exact_game g).states
  unfolding near state
  among = listed (coding g) (valid_set g) (assignment values) valid

  module _ (d : DesignTree) (is : IsExactOf d g) where
    back : AreOneState (length g.order) ((coding g).assignment_of state) (assignment values)
    unfolding near state
    back k below =
        (coding_told d g is).one ((coding g).assignment_of state) near ((coding_told d g is).again near) k below
        ∙ first_are (length g.order) (assignment values) k below

    bit_here : (k : ℕ) → k < length g.order + room →
        with_bits (length g.order) bits ((coding g).assignment_of state) k ≡ assignment values k
    bit_here k below =
        elim (cases_lt k (length g.order)) as (λ _.
        with_bits (length g.order) bits ((coding g).assignment_of state) k ≡ assignment values k) [
          | inl low ↦
              let is_low : nat_lt k (length g.order) ≡ true = grind (arith, nat_tests, low) in
              ap (λ (t : Bool). if t then (coding g).assignment_of state k
              else get_or (bits_of 64 bits) (k - length g.order) ((coding g).assignment_of state k)) is_low
              ∙ back k low
          | inr high ↦
              let is_high : nat_lt k (length g.order) ≡ false = grind (arith, nat_tests, high) in
              let wide = room_is in
              let within : k - length g.order < 64 = omega (arith, wide, below, high) in
              let long : k - length g.order < length (bits_of 64 bits) = omega (arith, within, bits_length 64 bits) in
              let place : length g.order + (k - length g.order) ≡ k = omega (arith, high) in
              ap (λ (t : Bool). if t then (coding g).assignment_of state k
              else get_or (bits_of 64 bits) (k - length g.order) ((coding g).assignment_of state k)) is_high
              ∙ get_or_default (bits_of 64 bits) (k - length g.order) ((coding g).assignment_of state k) false long
              ∙ those.each (k - length g.order) within
              ∙ ap (λ (j : ℕ). get_or values j false) place
        ]

    met : met_by g pairs set bits state ≡ true
    met =
        and_both (set_of g set state) (constant_set g pairs bits state)
        (in_set.set.reads ((coding g).assignment_of state) (assignment values) back ∙ there)
        (in_pairs.reads (with_bits (length g.order) bits ((coding g).assignment_of state)) (assignment values) bit_here
        ∙ good)

  pub has_state : HasState (exact_game g).states (met_by g pairs set bits)
  has_state = record {
    state = state;
    listed = among;
    without_it = refl;
    with_it = ∥∥₁_elim of (hlevel props) (λ x. met x.0 x.1);
  }

module _ (g h : GameData) (of : HasDesign g) (carried : Carried g h) (pairs set : NodeId) (in_pairs : IsPairs g pairs)
    (in_set : IsStateSet g set) where
  pairs_same : means h.diagrams.table pairs ≡ means g.diagrams.table pairs
  pairs_same =
      means-Extends g.diagrams.table h.diagrams.table (grown g h carried).diagrams pairs in_pairs.known

  set_same : means h.diagrams.table set ≡ means g.diagrams.table set
  set_same = means-Extends g.diagrams.table h.diagrams.table (grown g h carried).diagrams set in_set.set.known

  module _ (id : NodeId) (function : IsFunction h.diagrams.table id
      (λ v. means h.diagrams.table pairs v && means h.diagrams.table set v)) where
    pub apart_is : id ≡ FALSE → AreApart g pairs set
    apart_is none = record {
      apart = λ v good there.
          true≢false
          (sym (function.meaning v
          ∙ and_both (means h.diagrams.table pairs v) (means h.diagrams.table set v)
          (ap (λ f. f v) pairs_same ∙ good) (ap (λ f. f v) set_same ∙ there))
          ∙ ap (λ (i : NodeId). means h.diagrams.table i v) none
          ∙ means-FALSE h.diagrams.table v);
    }

    pub bits_are : (bits : ℕ) → HasBits h id bits → HasState (exact_game g).states (met_by g pairs set bits)
    bits_are bits has =
        let parts = and_parts (means h.diagrams.table pairs (assignment has.values))
        (means h.diagrams.table set (assignment has.values))
        (sym (function.meaning (assignment has.values)) ∙ has.holds) in
        has_state g of pairs set in_pairs in_set bits has.values
        (subst (λ (o : List ℕ). AreBitsFrom has.values (length o) bits) (grown g h carried).order has.those)
        (sym (ap (λ f. f (assignment has.values)) pairs_same) ∙ parts.0)
        (sym (ap (λ f. f (assignment has.values)) set_same) ∙ parts.1)

  -- what is found once the game has grown was there
  met_same : (bits : ℕ) → met_by h pairs set bits ≡ met_by g pairs set bits
  met_same bits = λ i s.
      means_kept g h of carried set in_set i s && constant_kept g h of carried pairs in_pairs bits i s

  pub state_back : (bits : ℕ) → HasState (exact_game h).states (met_by h pairs set bits) →
      HasState (exact_game g).states (met_by g pairs set bits)
  state_back bits has =
      subst (λ (a : StateSet). HasState (exact_game g).states a) (met_same bits)
      (subst (λ (q : Rattle.tm_solve.specs.Game.Game). HasState q.states (met_by h pairs set bits))
      (game_same g h of carried) has)

  pub apart_back : AreApart h pairs set → AreApart g pairs set
  apart_back none = record {
    apart = λ v good there.
        none.apart v (ap (λ f. f v) pairs_same ∙ good) (ap (λ f. f v) set_same ∙ there);
  }

-- ---- all shapes
pub none_begun : (g : GameData) (pairs : List NodeId) (set : NodeId) → NoneBelow g pairs set 0
none_begun g pairs set = record { none = λ k below. absurd (omega arith) }

pub none_more : (g : GameData) (pairs : List NodeId) (set : NodeId) (n : ℕ) → NoneBelow g pairs set n →
    AreApart g (id_in pairs n) set → NoneBelow g pairs set (n + 1)
none_more g pairs set n before last = record {
  none = λ k below.
      elim (cases_lt k n) as (λ _. AreApart g (id_in pairs k) set) [
        | inl low ↦ before.none k low
        | inr high ↦
            let same : n ≡ k = omega (arith, below, high) in
            subst (λ (j : ℕ). AreApart g (id_in pairs j) set) same last
      ];
}

-- ---- the move that is found
module _ (g : GameData) (tests : List NodeId) (goals : List GoalMoves) (is : IsChoice g tests goals) (pending : ℕ)
    (set : NodeId) where
  pub constant_is : (m : MoveChoice) → IsConstant g (pairs_of (slice_get goals pending)) set m →
      HasState (exact_game g).states (λ s. set_of g set s && good_now (choice g tests goals pending) m s)
  constant_is (Candidate n) none = absurd none
  constant_is (Constant shape bits) has = has

  -- some shape has a move that is good at some state of a set for which blocks are made
  pub never_none : IsCare (choice g tests goals pending) (exact_ids g) set →
      NoneBelow g (pairs_of (slice_get goals pending)) set (length (pairs_of (slice_get goals pending))) → ⊥
  never_none care none =
      ∥∥₁_elim
      ((is.moves pending).some ((coding g).assignment_of care.some.state)
      (care.within.within care.some.state care.some.listed care.some.with_it))
      (hlevel props) no_pair
    where
      no_pair : PairAt g (slice_get goals pending) ((coding g).assignment_of care.some.state) → ⊥
      no_pair pair =
          (none.none pair.shape pair.below).apart pair.values pair.good
          (care.known.set.reads pair.values ((coding g).assignment_of care.some.state) pair.same ∙ care.some.with_it)

-- the id whose position is 0 is the empty set
pub nothing_same : (id : NodeId) (t : Bool) → t ≡ nat_eq id.0 0 → t ≡ true → id ≡ FALSE
nothing_same id t same is = λ i. record { 0 = position i }
  where
    position : id.0 ≡ 0
    position = eqb-true id.0 0 (sym same ∙ is)

-- what was found among the pairs of the pending goal
module _ (g : GameData) (tests : List NodeId) (goals : List GoalMoves) (is : IsChoice g tests goals) (pending : ℕ)
    (set : NodeId) (pairs : List NodeId) (those : List GoalMoves) (same : those ≡ goals)
    (are : pairs ≡ pairs_of (slice_get those pending)) (found : Option MoveChoice)
    (has : ConstantOrNone g pairs set found) where
  there : ConstantOrNone g (pairs_of (slice_get goals pending)) set found
  there =
      subst (λ (l : List NodeId). ConstantOrNone g l set found)
      (are ∙ ap (λ (l : List GoalMoves). pairs_of (slice_get l pending)) same) has

  pub found_some : (m : MoveChoice) → found ≡ Some m →
      HasState (exact_game g).states (λ s. set_of g set s && good_now (choice g tests goals pending) m s)
  found_some m is_some =
      constant_is g tests goals is pending set m
      (subst (λ (o : Option MoveChoice). ConstantOrNone g (pairs_of (slice_get goals pending)) set o) is_some there)

  pub found_none : found ≡ None → IsCare (choice g tests goals pending) (exact_ids g) set → ⊥
  found_none is_none care =
      never_none g tests goals is pending set care
      (subst (λ (o : Option MoveChoice). ConstantOrNone g (pairs_of (slice_get goals pending)) set o) is_none there)
