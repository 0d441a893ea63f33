-- The valid states of a set, and the cells that meet or lie in them.
use Rattle.std.proofs.Common.{◌≡◌, ℕ, ◌<◌, Bool, true, not, ◌&&◌, List, length, All, sym, ap, ◌∙◌, subst}
use Rattle.std.proofs.Math.Logic.{∥∥₁_elim}
use Rattle.std.proofs.Props.{props}
use Rattle.std.proofs.lemmas.Bool.{and_from, and_parts}
use Rattle.tm_abs.proofs.Splitting.{left_lower, lower_left, not_both}
use Rattle.tm_abs.specs.Tracked.{AreInPool, HasPooled, IsPooled}
use Rattle.tm_dd.specs.declared.node.NodeId.{NodeId}
use Rattle.tm_dd.specs.NodeId.{complement}
use Rattle.tm_dd.specs.Table.{Table, means}
use Rattle.tm_dd.proofs.CallerLaws.{Knows-complement, means-complement}
use Rattle.tm_ddops.specs.Manager.{IsFunction}
use Rattle.tm_flat.specs.Flat.{FlatTerms}
use Rattle.tm_flat_pool.specs.Cells.{IsInLower, IsInUpper}
use Rattle.tm_flat_pool.specs.Predicates.{Predicate}
use Rattle.tm_game.proofs.Growing.{grows_then, means_kept, of_kept, order_kept, set_kept, states_kept}
use Rattle.tm_game.proofs.SetTests.{set_tells, states_set}
use Rattle.tm_game.specs.Game.{GameData, Grows, IsOf, IsSet, IsStates}
use Rattle.tm_game.specs.Least.{test_of}
use Rattle.tm_game.specs.Start.{state_bits_in}
use Rattle.tm_game_bits.proofs.Extended.{IsSetOf-Extends}
use Rattle.tm_game_bits.proofs.Leading.{not_true}
use Rattle.tm_game_bits.specs.AssignedStates.{assignment_of, state_of}
use Rattle.tm_game_bits.specs.Functions.{Assignment}
use Rattle.tm_game_bits.specs.Order.{IsOrder}
use Rattle.tm_game_pool.proofs.Pooled.{pool_grown}
use Rattle.tm_sem.specs.State.{StateData}
use Rattle.tm_sem.specs.Step.{IsState}
use Rattle.tm_syntax.specs.Design.{DesignTree}

-- a grown game has the pool still
pub pooled_kept : (d : DesignTree) (g h : GameData) → Grows g h → IsPooled d g → IsPooled d h
pooled_kept d g h grows pooled = record {
  of = of_kept g h grows d pooled.of;
  pool = pool_grown d g h grows pooled.pool;
}

pub some_kept : (g h : GameData) → Grows g h → HasPooled g → HasPooled h
some_kept g h grows some = ∥∥₁_elim some (squash₁) (λ x. ∣ (x.0, pooled_kept x.0 g h grows x.1) ∣₁)

-- that an id is a set can hold in one way
pub set_prop : (g : GameData) (id : NodeId) → IsProp (IsSet g id)
set_prop g id = hlevel props

-- the numbers stay those of predicates
pub in_pool_kept : (g h : GameData) → Grows g h → (xs ys : List ℕ) → xs ≡ ys → AreInPool g ys → AreInPool h xs
in_pool_kept g h grows xs ys same all =
    subst (λ (f : FlatTerms). All (λ k. k < length f.pool) xs) (sym grows.flat)
    (subst (λ (ks : List ℕ). All (λ k. k < length g.flat.pool) ks) (sym same) all)

-- the complement of a set reads the levels of a state alone, too
pub complement_set : (g : GameData) (id : NodeId) → IsSet g id → IsSet g (complement id)
complement_set g id set = record {
  known = Knows-complement g.diagrams.table id set.known;
  reads = λ v w same.
      means-complement g.diagrams.table id v ∙ ap not (set.reads v w same)
      ∙ sym (means-complement g.diagrams.table id w);
}

-- what is not in a set is in its complement
pub complement_test : (d : DesignTree) (g : GameData) (id : NodeId) (s : StateData) →
    test_of d g (complement id) s ≡ not (test_of d g id s)
complement_test d g id s = means-complement g.diagrams.table id (assignment_of d g.order s)

-- both of two sets of states read the levels of a state alone
pub both_set : (g : GameData) (a b id : NodeId) → IsSet g a → IsSet g b →
    IsFunction g.diagrams.table id (λ v. means g.diagrams.table a v && means g.diagrams.table b v) → IsSet g id
both_set g a b id first second is = record {
  known = is.known;
  reads = λ v w same.
      let one = first.reads v w same in
      let two = second.reads v w same in
      is.meaning v ∙ (λ i. one i && two i) ∙ sym (is.meaning w);
}

-- parts are of the values that a set has at valid states
pub upper_tests : (d : DesignTree) (predicates : List Predicate) (f h : StateData → Bool) →
    ((t : StateData) → IsState d t → f t ≡ h t) → (s : StateData) → IsInUpper d predicates f s →
    IsInUpper d predicates h s
upper_tests d predicates f h same s upper = record {
  valid = upper.valid;
  meets = (
    upper.meets.0,
    upper.meets.1,
    upper.meets.2,
    sym (same upper.meets.0 upper.meets.1) ∙ upper.meets.3,
  );
}

module _ (d : DesignTree) (g h : GameData) (grows : Grows g h) (of : IsOf d g)
    (order : IsOrder (state_bits_in g.flat) g.order)
    (valid_is : IsStates d g.order g.diagrams.table (λ s. Unit {0}) g.valid) (c id : NodeId) (c_set : IsSet g c)
    (is : IsFunction h.diagrams.table id (λ v. means h.diagrams.table g.valid v && means h.diagrams.table c v)) where
  -- the part is a set of valid states
  pub valid_set : IsSet h id
  valid_set =
      both_set h g.valid c id
      (set_kept g h grows g.valid (states_set d g of order (λ s. Unit {0}) g.valid valid_is))
      (set_kept g h grows c c_set) is

  pub valid_only : (v : Assignment) → means h.diagrams.table id v ≡ true → means h.diagrams.table h.valid v ≡ true
  valid_only v here =
      subst (λ (x : NodeId). means h.diagrams.table x v ≡ true) (sym grows.valid)
      (and_parts (means h.diagrams.table g.valid v) (means h.diagrams.table c v) (sym (is.meaning v) ∙ here)).0

  -- a valid state is in it exactly where it is in the set
  pub valid_test : (t : StateData) → IsState d t → test_of d h id t ≡ test_of d g c t
  valid_test t valid =
      let v = assignment_of d h.order t in
      let there : means h.diagrams.table g.valid v ≡ true =
      (set_tells d h (of_kept g h grows d of) (order_kept g h grows order) (λ s. Unit {0}) g.valid
      (states_kept g h grows d (λ s. Unit {0}) g.valid valid_is) t valid).1 tt in
      is.meaning v ∙ (λ i. there i && means h.diagrams.table c v)
      ∙ (λ i. means_kept g h grows c c_set.known i v)
      ∙ ap (λ (o : List ℕ). means g.diagrams.table c (assignment_of d o t)) grows.order

  module _ (predicates : List Predicate) (s : Table) where
    -- the cells that meet it meet the set
    pub upper_valid : (final : NodeId) → IsStates d h.order s (IsInUpper d predicates (test_of d h id)) final →
        IsStates d g.order s (IsInUpper d predicates (test_of d g c)) final
    upper_valid final part =
        subst (λ (o : List ℕ). IsStates d o s (IsInUpper d predicates (test_of d g c)) final) grows.order (record {
          known = part.known;
          only = λ v here.
              let there = part.only v here in (
                there.0,
                upper_tests d predicates (test_of d h id) (test_of d g c) valid_test (state_of d h.order v) there.1,
              );
          all = λ v there.
              part.all v (
                there.0,
                upper_tests d predicates (test_of d g c) (test_of d h id) (λ t valid. sym (valid_test t valid))
                    (state_of d h.order v) there.1,
              );
        })

-- what the cells that meet the complement leave are the cells that lie in a set
pub lower_valid : (d : DesignTree) (order : List ℕ) (predicates : List Predicate) (set out : StateData → Bool) →
    ((t : StateData) → out t ≡ not (set t)) → (t : Table) (valid left final : NodeId) →
    IsStates d order t (λ u. Unit {0}) valid → IsStates d order t (IsInUpper d predicates out) left →
    IsFunction t final (λ v. means t valid v && means t (complement left) v) →
    IsStates d order t (IsInLower d predicates set) final
lower_valid d order predicates set out opposite t valid left final valid_is left_is is = record {
  known = is.known;
  only = λ v here.
      let parts = and_parts (means t valid v) (means t (complement left) v) (sym (is.meaning v) ∙ here) in
      let state = (valid_is.only v parts.0).0 in (
        state,
        lower_left d predicates set (state_of d order v) state (λ upper.
            not_both (means t left v)
            (left_is.all v (
              state,
              upper_tests d predicates (λ u. not (set u)) out (λ u there. sym (opposite u)) (state_of d order v) upper,
            ))
            (sym (means-complement t left v) ∙ parts.1)),
      );
  all = λ v there.
      is.meaning v
      ∙ and_from (means t valid v) (means t (complement left) v) (valid_is.all v (there.0, tt))
      (means-complement t left v
      ∙ ap not (not_true (means t left v) (λ here.
      left_lower d predicates set (state_of d order v) there.1
      (upper_tests d predicates out (λ u. not (set u)) (λ u valid. opposite u) (state_of d order v)
      (left_is.only v here).1))));
}

-- the calls that make the lower part
module _ (d : DesignTree) (g h k : GameData) (gh : Grows g h) (hk : Grows h k) (pooled : IsPooled d g)
    (order : IsOrder (state_bits_in g.flat) g.order)
    (valid_is : IsStates d g.order g.diagrams.table (λ s. Unit {0}) g.valid) (predicates : List Predicate)
    (c outside left : NodeId) (c_set : IsSet g c)
    (outside_is : IsFunction h.diagrams.table outside
    (λ v. means h.diagrams.table g.valid v && means h.diagrams.table (complement c) v))
    (left_is : IsStates d h.order k.diagrams.table (IsInUpper d predicates (test_of d h outside)) left) where
  -- the cells that meet the complement
  left_first : IsStates d g.order k.diagrams.table (IsInUpper d predicates (test_of d g (complement c))) left
  left_first =
      upper_valid d g h gh pooled.of order valid_is (complement c) outside (complement_set g c c_set) outside_is
      predicates k.diagrams.table left left_is

  pub left_set : IsSet k left
  left_set =
      states_set d k (of_kept g k (grows_then g h k gh hk) d pooled.of) (order_kept g k (grows_then g h k gh hk) order)
      (IsInUpper d predicates (test_of d h outside)) left
      (subst (λ (o : List ℕ). IsStates d o k.diagrams.table (IsInUpper d predicates (test_of d h outside)) left)
      (sym hk.order) left_is)

  pub lower_made : (l : GameData) → Grows k l → (final : NodeId) →
      IsFunction l.diagrams.table final
      (λ v. means l.diagrams.table k.valid v && means l.diagrams.table (complement left) v) →
      IsStates d g.order l.diagrams.table (IsInLower d predicates (test_of d g c)) final
  lower_made l kl final is =
      lower_valid d g.order predicates (test_of d g c) (test_of d g (complement c)) (complement_test d g c)
      l.diagrams.table k.valid left final
      (subst (λ (id : NodeId). IsStates d g.order l.diagrams.table (λ s. Unit {0}) id) (sym (hk.valid ∙ gh.valid))
      (IsSetOf-Extends g.diagrams.table l.diagrams.table
      (grows_then g k l (grows_then g h k gh hk) kl).diagrams
      (λ v. IsState d (state_of d g.order v) × Unit {0}) g.valid valid_is))
      (IsSetOf-Extends k.diagrams.table l.diagrams.table kl.diagrams
      (λ v. IsState d (state_of d g.order v) ×
      IsInUpper d predicates (test_of d g (complement c)) (state_of d g.order v)) left left_first) is
