-- The two states of a cut cell.
use Rattle.std.proofs.Common.{◌≡◌, ℕ, Bool, true, false, not, ◌&&◌, List, [], refl, sym, ap, ◌∙◌, subst, arith}
use Rattle.std.specs.Prelude.{◌↔◌}
use Rattle.std.proofs.lemmas.Bool.{and_from, and_parts}
use Rattle.tm_abs.proofs.Splitting.{cell_back, parts_are_one}
use Rattle.tm_abs.proofs.ValidParts.{both_set}
use Rattle.tm_abs.specs.Inner.Narrowed.{IsCutOff, IsNarrowed}
use Rattle.tm_abs.specs.Split.{IsCut, PartsAreOne}
use Rattle.tm_dd.specs.declared.node.NodeId.{NodeId}
use Rattle.tm_dd.specs.NodeId.{complement}
use Rattle.tm_dd.specs.Table.{means}
use Rattle.tm_dd.proofs.CallerLaws.{means-complement}
use Rattle.tm_ddops.specs.Manager.{IsFunction}
use Rattle.tm_flat_pool.specs.Cells.{IsInUpper, SameCell}
use Rattle.tm_flat_pool.specs.Predicates.{Predicate}
use Rattle.tm_game.proofs.Growing.{grows_then, means_kept, of_kept, order_kept, set_kept, states_kept}
use Rattle.tm_game.proofs.SetTests.{coding_told, set_tells, states_set}
use Rattle.tm_game.specs.Game.{GameData, Grows, IsOf, IsSet, IsStates}
use Rattle.tm_game.specs.Least.{HoldsNowhere, test_of}
use Rattle.tm_game.specs.Start.{state_bits_in}
use Rattle.tm_game_bits.specs.AssignedStates.{assignment_of, state_of}
use Rattle.tm_game_bits.specs.Functions.{Assignment}
use Rattle.tm_game_bits.specs.Order.{IsOrder}
use Rattle.tm_sem.specs.State.{StateData}
use Rattle.tm_sem.specs.StateBits.{IsLeast}
use Rattle.tm_sem.specs.Step.{IsState}
use Rattle.tm_syntax.specs.Design.{DesignTree}

-- a set of valid states, narrowed down by no predicate
pub narrowed_none : (d : DesignTree) (g : GameData) → IsOf d g → IsOrder (state_bits_in g.flat) g.order →
    (valid set : NodeId) → IsStates d g.order g.diagrams.table (λ s. Unit {0}) valid → IsSet g set →
    ((v : Assignment) → means g.diagrams.table set v ≡ true → IsState d (state_of d g.order v)) →
    (state : StateData) → IsState d state → test_of d g set state ≡ true →
    IsNarrowed d g g.diagrams.table set [] state valid set
narrowed_none d g of order valid set valid_is set_is set_valid state state_valid there = record {
  valid = state_valid;
  there = there;
  cell_is = record {
    known = valid_is.known;
    only = λ v h. ((valid_is.only v h).0, λ k p below. absurd (omega (arith, below)));
    all = λ v h. valid_is.all v (h.0, tt);
  };
  sought_is = record {
    known = set_is.known;
    only = λ v h. (set_valid v h, ((λ k p below. absurd (omega (arith, below))), same v ∙ h));
    all = λ v h. sym (same v) ∙ h.1.1;
  };
}
  where
    same : (v : Assignment) →
        means g.diagrams.table set (assignment_of d g.order (state_of d g.order v)) ≡ means g.diagrams.table set v
    same v =
        let coding = coding_told d g of order in
        set_is.reads (assignment_of d g.order (state_of d g.order v)) v
        (coding.one (assignment_of d g.order (state_of d g.order v)) v (coding.again v))

-- the states that the upper part of a set adds to it
module _ (d : DesignTree) (g h : GameData) (grows : Grows g h) (of : IsOf d g)
    (order : IsOrder (state_bits_in g.flat) g.order) (predicates : List Predicate) (c upper cut : NodeId)
    (c_set : IsSet g c)
    (upper_is : IsStates d g.order h.diagrams.table (IsInUpper d predicates (test_of d g c)) upper)
    (cut_is : IsFunction h.diagrams.table cut
    (λ v. means h.diagrams.table upper v && means h.diagrams.table (complement c) v)) where
  -- where a set is true as it was
  c_same : (t : StateData) → means h.diagrams.table c (assignment_of d h.order t) ≡ test_of d g c t
  c_same t =
      (λ i. means_kept g h grows c c_set.known i (assignment_of d h.order t))
      ∙ ap (λ (o : List ℕ). means g.diagrams.table c (assignment_of d o t)) grows.order

  upper_now : IsStates d h.order h.diagrams.table (IsInUpper d predicates (test_of d g c)) upper
  upper_now =
      subst (λ (o : List ℕ). IsStates d o h.diagrams.table (IsInUpper d predicates (test_of d g c)) upper)
      (sym grows.order) upper_is

  pub cut_valid : (v : Assignment) → means h.diagrams.table cut v ≡ true → IsState d (state_of d h.order v)
  cut_valid v here =
      (upper_now.only v (and_parts (means h.diagrams.table upper v) (means h.diagrams.table (complement c) v)
      (sym (cut_is.meaning v) ∙ here)).0).0

  pub cut_then : IsCutOff d h predicates (test_of d g c) cut
  cut_then t valid here =
      let at = assignment_of d h.order t in
      let parts = and_parts (means h.diagrams.table upper at) (means h.diagrams.table (complement c) at)
      (sym (cut_is.meaning at) ∙ here) in (
        (set_tells d h (of_kept g h grows d of) (order_kept g h grows order)
            (IsInUpper d predicates (test_of d g c)) upper upper_now t valid).0 parts.0,
        sym (c_same t)
            ∙ is_not (means h.diagrams.table c at) (sym (means-complement h.diagrams.table c at) ∙ parts.1),
      )
    where
      is_not : (b : Bool) → not b ≡ true → b ≡ false
      is_not true e = absurd (cc)
      is_not false e = refl

  then_cut : (t : StateData) → IsInUpper d predicates (test_of d g c) t → test_of d g c t ≡ false →
      test_of d h cut t ≡ true
  then_cut t upper_there out =
      let at = assignment_of d h.order t in
      cut_is.meaning at
      ∙ and_from (means h.diagrams.table upper at) (means h.diagrams.table (complement c) at)
      ((set_tells d h (of_kept g h grows d of) (order_kept g h grows order)
      (IsInUpper d predicates (test_of d g c)) upper upper_now t upper_there.valid).1 upper_there)
      (means-complement h.diagrams.table c at ∙ ap not (c_same t ∙ out))

  -- there are none
  pub none_cut : HoldsNowhere d (test_of d h cut) → PartsAreOne d predicates (test_of d g c)
  none_cut nowhere =
      parts_are_one d predicates (test_of d g c) (λ t upper_there.
      stable (test_of d g c t) (λ out. nowhere t (upper_there.valid, then_cut t upper_there out)))
    where
      stable : (b : Bool) → ¬ (b ≡ false) → b ≡ true
      stable true n = refl
      stable false n = absurd (n refl)

-- a state that is cut off, and its cell
module _ (d : DesignTree) (g h k l : GameData) (gh : Grows g h) (hk : Grows h k) (kl : Grows k l) (of : IsOf d g)
    (order : IsOrder (state_bits_in g.flat) g.order) (predicates : List Predicate) (c cut : NodeId) (c_set : IsSet g c)
    (off : IsCutOff d h predicates (test_of d g c) cut) (state : StateData) (cell sought inside : NodeId)
    (narrowed : IsNarrowed d h k.diagrams.table cut predicates state cell sought)
    (inside_is : IsFunction l.diagrams.table inside
    (λ v. means l.diagrams.table cell v && means l.diagrams.table c v)) where
  whole : Grows g l
  whole = grows_then g k l (grows_then g h k gh hk) kl

  state_cut : IsInUpper d predicates (test_of d g c) state × (test_of d g c state ≡ false)
  state_cut = off state narrowed.valid narrowed.there

  cell_now : IsStates d l.order l.diagrams.table (SameCell d predicates state) cell
  cell_now =
      states_kept k l kl d (SameCell d predicates state) cell
      (subst (λ (o : List ℕ). IsStates d o k.diagrams.table (SameCell d predicates state) cell) (sym hk.order)
      narrowed.cell_is)

  c_last : (t : StateData) → means l.diagrams.table c (assignment_of d l.order t) ≡ test_of d g c t
  c_last t =
      (λ i. means_kept g l whole c c_set.known i (assignment_of d l.order t))
      ∙ ap (λ (o : List ℕ). means g.diagrams.table c (assignment_of d o t)) whole.order

  pub inside_set : IsSet l inside
  inside_set =
      both_set l cell c inside
      (states_set d l (of_kept g l whole d of) (order_kept g l whole order) (SameCell d predicates state) cell cell_now)
      (set_kept g l whole c c_set) inside_is

  cell_tells : (t : StateData) → IsState d t →
      (means l.diagrams.table cell (assignment_of d l.order t) ≡ true) ↔ SameCell d predicates state t
  cell_tells t valid =
      set_tells d l (of_kept g l whole d of) (order_kept g l whole order) (SameCell d predicates state) cell cell_now
      t valid

  -- its cell meets the set
  pub some_inside : ¬ HoldsNowhere d (test_of d l inside)
  some_inside nowhere =
      let met = state_cut.0.meets in
      let at = assignment_of d l.order met.0 in
      nowhere met.0 (
        met.1,
        inside_is.meaning at
            ∙ and_from (means l.diagrams.table cell at) (means l.diagrams.table c at)
            ((cell_tells met.0 met.1).1 met.2) (c_last met.0 ∙ met.3),
      )

  pub is_cut : (first : StateData) → IsLeast d (test_of d l inside) first →
      IsCut d predicates (test_of d g c) first state
  is_cut first least =
      let at = assignment_of d l.order first in
      let parts = and_parts (means l.diagrams.table cell at) (means l.diagrams.table c at)
      (sym (inside_is.meaning at) ∙ least.here.1) in
      record {
        inside_valid = least.here.0;
        out_valid = narrowed.valid;
        cell = cell_back d predicates state first ((cell_tells first least.here.0).0 parts.0);
        inside_it = sym (c_last first) ∙ parts.1;
        out_of_it = state_cut.1;
      }
