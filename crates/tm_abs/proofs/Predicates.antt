-- The diagram of the term of a predicate.
use Rattle.std.proofs.Common.{◌≡◌, inl, inr, ℕ, suc, ◌+◌, ◌-◌, ◌<◌, ◌≤◌, ◌==◌, Bool, true, false, cond, List, [], ◌∷◌, Some, None, Option, length, get_or, map, take, refl, sym, ap, ◌∙◌, subst, arith}
use Rattle.std.specs.Prelude.{All, IsSomeAnd, MatchOption, slice_get, sum}
use Rattle.std.proofs.lemmas.Bool.{cases_lt, eqb-true}
use Rattle.std.proofs.lemmas.Slice.Zip.{AllZip-right}
use Rattle.tm_abs.proofs.Turning.{bit_of}
use Rattle.tm_abs.specs.declared.atoms.Atom.{Atom}
use Rattle.tm_abs.specs.Inner.Atoms.{IsAtom}
use Rattle.tm_abs.specs.Inner.Reading.{AreRead, IsPredicate, ReadsOnly, Tells, bit_at}
use Rattle.tm_abs.specs.Tracked.{IsPooled}
use Rattle.tm_base.specs.Arithmetic.{bit}
use Rattle.tm_base.specs.Bits.{number_of}
use Rattle.tm_blast.proofs.CallerLaws.{AreBits-extended, AreBits-more_terms}
use Rattle.tm_blast.specs.Bits.{AreBits, input_values}
use Rattle.tm_dd.specs.declared.node.NodeId.{NodeId}
use Rattle.tm_dd.specs.declared.node.Node.{Node}
use Rattle.tm_dd.specs.declared.node.TheConstants.{FALSE, TRUE}
use Rattle.tm_dd.specs.Reduced.{IsNode}
use Rattle.tm_dd.specs.Table.{Table, Knows, means}
use Rattle.tm_dd.proofs.CallerLaws.{means-FALSE, means-TRUE}
use Rattle.tm_ddops.specs.Support.{DependsOn, with_value}
use Rattle.tm_flat.specs.Flat.{FlatTerms}
use Rattle.tm_flat.specs.Inputs.{room}
use Rattle.tm_flat_pool.specs.PoolTerms.{IsPredicateTerm}
use Rattle.tm_flat_pool.specs.Predicates.{Predicate, pool, predicate_holds}
use Rattle.tm_game.proofs.Ordered.{order_is, widths_are}
use Rattle.tm_game.specs.Game.{GameData, Grows, IsOf}
use Rattle.tm_game.specs.Start.{state_bits_in}
use Rattle.tm_game_bits.proofs.InputLevels.{are_bits, levels_fit, values_told}
use Rattle.tm_game_bits.specs.AssignedStates.{state_of}
use Rattle.tm_game_bits.specs.Functions.{Assignment}
use Rattle.tm_game_bits.specs.Inputs.{arguments_at, choice_level, choices_at, input_levels}
use Rattle.tm_game_bits.specs.Order.{IsOrder}
use Rattle.tm_game_bits.specs.States.{AreOneState, ReadsState}
use Rattle.tm_game_steps.proofs.OneBit.{has_bit, truth_is}
use Rattle.tm_game_steps.specs.Changes.{IsTruthOf}
use Rattle.tm_sem.specs.StateBits.{state_widths}
use Rattle.tm_syntax.specs.Design.{DesignTree}
use Rattle.tm_term.specs.declared.term.TermId.{TermId}
use Rattle.tm_term.specs.Table.{IsKnown}
use Rattle.tm_term.specs.Value.{value_of}

pub same_bits : (a b : Bool) → bit a ≡ bit b → a ≡ b
same_bits true true e = refl
same_bits false false e = refl
same_bits true false e = absurd (omega (arith, e))
same_bits false true e = absurd (omega (arith, e))

-- values of inputs are the same where the levels below a bound are
same_inputs : (levels : List (List ℕ)) (bound : ℕ) → All (All (λ level. level < bound)) levels → (v w : Assignment) →
    AreOneState bound v w → input_values levels v ≡ input_values levels w
same_inputs levels bound below v w same = lists levels below
  where
    bits : (ks : List ℕ) → All (λ level. level < bound) ks → map v ks ≡ map w ks
    bits [] all = refl
    bits (k ∷ ks) all =
        (λ i. same k (all 0 k (omega arith)) i ∷ bits ks (λ j d inside. all (suc j) d (omega (arith, inside))) i)

    lists : (ls : List (List ℕ)) → All (All (λ level. level < bound)) ls → input_values ls v ≡ input_values ls w
    lists [] all = refl
    lists (l ∷ ls) all =
        (λ i. number_of (bits l (all 0 l (omega arith)) i)
        ∷ lists ls (λ j d inside. all (suc j) d (omega (arith, inside))) i)

module _ (d : DesignTree) (g : GameData) (pooled : IsPooled d g) (k : ℕ) (term : TermId)
    (at : slice_get g.flat.pool k ≡ Some term) where
  -- the predicate of this number
  pub told : (p : Predicate) × (slice_get (pool d) k ≡ Some p) × IsPredicateTerm g.terms d p term
  told = by (slice_get (pool d) k) (slice_get g.flat.pool k) refl at
      (AllZip-right (IsPredicateTerm g.terms d) (pool d) g.flat.pool pooled.pool.predicates k)
    where
      by : (o : Option Predicate) (t : Option TermId) → slice_get (pool d) k ≡ o → t ≡ Some term →
          MatchOption t (Unit {0}) (λ u. IsSomeAnd o (λ p. IsPredicateTerm g.terms d p u)) →
          (p : Predicate) × (slice_get (pool d) k ≡ Some p) × IsPredicateTerm g.terms d p term
      by o None e f h = absurd (cc)
      by None (Some u) e f h = absurd h
      by (Some p) (Some u) e f h =
          let same : u ≡ term = cc in
          (p, e, subst (λ (x : TermId). IsPredicateTerm g.terms d p x) same h)

  pub term_known : IsKnown g.terms term
  term_known = told.2.term.0

  pub has_first : (s : Table) (ids : List NodeId) →
      AreBits g.terms (input_levels g.order (state_widths d)) s term ids → 0 < length ids
  has_first s ids are =
      omega (
        arith,
        has_bit g.terms (input_levels g.order (state_widths d)) s term ids are told.2.term.1,
      )

  module _ (order : IsOrder (state_bits_in g.flat) g.order) where
    order_told : IsOrder (sum (state_widths d)) g.order
    order_told = order_is g.terms d g.flat pooled.of.flat g.order order

    module _ (s : Table) (ids : List NodeId)
        (are : AreBits g.terms (input_levels g.order (state_widths d)) s term ids) (id : NodeId)
        (first : id ≡ get_or ids 0 id) where
      truth : IsTruthOf g.terms (input_levels g.order (state_widths d)) s term id
      truth =
          truth_is g.terms (input_levels g.order (state_widths d)) s term ids id are told.2.term.1 first

      inputs_alone : ReadsState (length g.order + 128) (means s id)
      unfolding room
      inputs_alone v w same =
          let fit = levels_fit d g.order order_told g.terms pooled.of.flat.inputs (length g.order + 128)
          (omega arith) in
          same_bits (means s id v) (means s id w)
          (sym (truth.value v)
          ∙ ap (λ (values : List ℕ). value_of g.terms values term)
          (same_inputs (input_levels g.order (state_widths d)) (length g.order + 128) fit.below v w same)
          ∙ truth.value w)

      tells_it : (p : Predicate) → slice_get (pool d) k ≡ Some p → Tells d g.order (means s id) p
      tells_it p is v valid =
          let same : told.0 ≡ p = by (slice_get (pool d) k) told.0 p told.1 is in
          same_bits (means s id v) (predicate_holds d (state_of d g.order v) p)
          (sym (truth.value v)
          ∙ ap (λ (values : List ℕ). value_of g.terms values term) (values_told d g.order order_told v)
          ∙ told.2.holds (state_of d g.order v) (choices_at g.order v) (arguments_at g.order v) valid
          (are_bits v (choice_level g.order)) (are_bits v (length g.order))
          ∙ ap (λ (q : Predicate). bit (predicate_holds d (state_of d g.order v) q)) same)
        where
          by : (o : Option Predicate) (q r : Predicate) → o ≡ Some q → o ≡ Some r → q ≡ r
          by o q r e f = cc

      pub is_predicate : IsPredicate d g s k id
      is_predicate = record {
        known = truth.known;
        function = (term, at, truth.value);
        inputs = inputs_alone;
        tells = tells_it;
      }

-- the bits of a term of a game are its bits in each game that has grown, whichever design that is of
module _ (e d : DesignTree) (g k h : GameData) (of : IsOf e g) (now : IsOf d h) (gh : Grows g h) (kh : Grows k h) where
  same_widths : state_widths e ≡ state_widths d
  same_widths =
      sym (widths_are g.terms e g.flat of.flat)
      ∙ ap (λ (f : FlatTerms). take (length f.widths - 128) f.widths) (sym gh.flat)
      ∙ widths_are h.terms d h.flat now.flat

  pub bits_grown : (term : TermId) → IsKnown g.terms term → (ids : List NodeId) →
      AreBits g.terms (input_levels g.order (state_widths e)) k.diagrams.table term ids →
      AreBits h.terms (input_levels h.order (state_widths d)) h.diagrams.table term ids
  bits_grown term known ids are =
      subst (λ (o : List ℕ). AreBits h.terms (input_levels o (state_widths d)) h.diagrams.table term ids)
      (sym gh.order)
      (subst (λ (ws : List ℕ). AreBits h.terms (input_levels g.order ws) h.diagrams.table term ids) same_widths
      (AreBits-more_terms g.terms h.terms (input_levels g.order (state_widths e)) h.diagrams.table term ids gh.terms
      known
      (AreBits-extended g.terms (input_levels g.order (state_widths e)) k.diagrams.table h.diagrams.table term ids
      kh.diagrams are)))

-- a node that is the bit of its level
pub bit_node : (s : Table) (id : NodeId) (n : Node) → IsNode s id n → n.lo ≡ FALSE → n.hi ≡ TRUE →
    means s id ≡ bit_at n.level
bit_node s id n is lo hi = λ i v.
    (is.meaning v
    ∙ bit_of (v n.level) (means s n.hi v) (means s n.lo v)
    (ap (λ (x : NodeId). means s x v) hi ∙ means-TRUE s v)
    (ap (λ (x : NodeId). means s x v) lo ∙ means-FALSE s v)) i

-- levels that an id depends on are those that it reads
input_read : (s : Table) (id : NodeId) (bound level : ℕ) → ReadsState bound (means s id) → DependsOn s id level →
    level < bound
input_read s id bound level reads depends =
    elim (cases_lt level bound) [
      | inl below ↦ below
      | inr above ↦
          absurd (depends.1 (reads (with_value depends.0 level true) (with_value depends.0 level false) (λ j inside.
          other j (j == level) refl (omega (arith, above, inside)))))
    ]
  where
    other : (j : ℕ) (b : Bool) → (j == level) ≡ b → j < level →
        with_value depends.0 level true j ≡ with_value depends.0 level false j
    other j true e less = let is = eqb-true j level e in absurd (omega (arith, is, less))
    other j false e less =
        ap (λ (b : Bool). cond b true (depends.0 j)) e ∙ sym (ap (λ (b : Bool). cond b false (depends.0 j)) e)

-- a predicate as an atom at the level of its number
pub atom_is : (d : DesignTree) (g : GameData) (s : Table) (k : ℕ) (id : NodeId) → IsPredicate d g s k id → (a : Atom) →
    a.holds ≡ id → AreRead s id a.reads.items → a.level + 1 + k ≡ s.levels →
    length g.order + 128 + length g.flat.pool ≤ s.levels → k < length g.flat.pool → IsAtom (length g.order) s a
atom_is d g s k id predicate a holds are level room below = record {
  behind = omega (arith, level, room, below);
  there = omega (arith, level);
  known = subst (Knows s) (sym holds) predicate.known;
  reads = subst (λ (x : NodeId). ReadsOnly s x a.reads.items) (sym holds) are.only;
  inputs = λ j there. input_read s id (length g.order + 128) j predicate.inputs ((are.exact j).0 there);
}
