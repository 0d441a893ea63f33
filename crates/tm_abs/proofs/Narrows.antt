-- The calls that narrow a cell.
use Rattle.std.proofs.Common.{◌≡◌, ◌≢◌, ℕ, true, ◌&&◌, List, [], ◌∷◌, ◌++◌, Some, length, refl, sym, ap, ◌∙◌, subst}
use Rattle.std.specs.Prelude.{slice_get}
use Rattle.std.proofs.lemmas.Bool.{and_from, and_parts}
use Rattle.tm_abs.proofs.Narrowing.{narrowed_kept, narrowed_with, narrowed_without, met_reads, none_of_false, some_state, sought_again}
use Rattle.tm_abs.proofs.Predicates.{told}
use Rattle.tm_abs.proofs.Readings.{predicate_first}
use Rattle.tm_abs.proofs.Tracking.{tracked_one}
use Rattle.tm_abs.specs.Inner.Narrowed.{IsNarrowed}
use Rattle.tm_abs.specs.Inner.Reading.{IsPredicate, Tells}
use Rattle.tm_abs.specs.Tracked.{IsPooled, tracked_of}
use Rattle.tm_dd.specs.declared.node.NodeId.{NodeId}
use Rattle.tm_dd.specs.declared.node.TheConstants.{FALSE}
use Rattle.tm_dd.specs.NodeId.{complement}
use Rattle.tm_dd.specs.Reduced.{Extends, IsReduced}
use Rattle.tm_dd.specs.Table.{Table, Knows, means}
use Rattle.tm_dd.proofs.CallerLaws.{Extends-refl, Extends-trans}
use Rattle.tm_ddops.specs.Manager.{IsFunction}
use Rattle.tm_flat.specs.Flat.{FlatTerms}
use Rattle.tm_flat_pool.specs.Cells.{SameCell}
use Rattle.tm_flat_pool.specs.Predicates.{Predicate, pool}
use Rattle.tm_game.proofs.Growing.{grows_then, of_kept, order_kept}
use Rattle.tm_game.proofs.SetTests.{coding_told, states_set}
use Rattle.tm_game.specs.Game.{GameData, Grows, IsOf, IsSet, IsStates}
use Rattle.tm_game.specs.Least.{HoldsNowhere, test_of}
use Rattle.tm_game.specs.Start.{state_bits_in}
use Rattle.tm_game_bits.proofs.Extended.{Knows-Extends, means-Extends}
use Rattle.tm_game_bits.specs.AssignedStates.{assignment_of, coding_of, state_of}
use Rattle.tm_game_bits.specs.Coding.{IsCoding}
use Rattle.tm_game_bits.specs.Functions.{Function}
use Rattle.tm_game_bits.specs.Order.{IsOrder}
use Rattle.tm_game_bits.specs.States.{ReadsState}
use Rattle.tm_sem.specs.State.{StateData}
use Rattle.tm_sem.specs.StateBits.{IsLeast}
use Rattle.tm_sem.specs.Step.{IsState}
use Rattle.tm_syntax.specs.Design.{DesignTree}

-- both of two functions stay so when diagrams are added
pub both_kept : (s t : Table) → Extends s t → (a b id : NodeId) → Knows s a → Knows s b →
    IsFunction s id (λ v. means s a v && means s b v) → IsFunction t id (λ v. means t a v && means t b v)
both_kept s t e a b id first second is = record {
  known = Knows-Extends s t e id is.known;
  meaning = λ v.
      let one = sym (e.same_meaning a first v) in
      let two = sym (e.same_meaning b second v) in
      e.same_meaning id is.known v ∙ is.meaning v ∙ (λ i. one i && two i);
}

-- a game has had the order that it has
pub order_before : (g h : GameData) → Grows g h → IsOrder (state_bits_in h.flat) h.order →
    IsOrder (state_bits_in g.flat) g.order
order_before g h grows order =
    subst (λ (f : FlatTerms). IsOrder (state_bits_in f) g.order) grows.flat
    (subst (λ (o : List ℕ). IsOrder (state_bits_in h.flat) o) grows.order order)

-- ---- what is sought

module _ (d : DesignTree) (first m : GameData) (fm : Grows first m) (of : IsOf d first)
    (order : IsOrder (state_bits_in first.flat) first.order) (set : NodeId) (predicates : List Predicate)
    (state : StateData) (cell sought : NodeId)
    (is : IsNarrowed d first m.diagrams.table set predicates state cell sought) where
  is_sought : StateData → Type 0
  is_sought t = SameCell d predicates state t × (test_of d first set t ≡ true)

  -- it is a set of states
  pub sought_set : IsSet m sought
  unfolding is_sought
  sought_set =
      states_set d m (of_kept first m fm d of) (order_kept first m fm order) is_sought sought
      (subst (λ (o : List ℕ). IsStates d o m.diagrams.table is_sought sought) (sym fm.order) is.sought_is)

  -- some state is in it
  pub some_sought : ¬ HoldsNowhere d (test_of d m sought)
  unfolding is_sought
  some_sought nowhere =
      let back = (coding_told d first of order).back state is.valid in
      nowhere state (
        is.valid,
        ap (λ (o : List ℕ). means m.diagrams.table sought (assignment_of d o state)) fm.order
            ∙ is.sought_is.all (assignment_of d first.order state) (
              subst (IsState d) (sym back) is.valid,
              subst is_sought (sym back) ((λ k q below. refl), is.there),
            ),
      )

  -- the least one will do
  pub sought_least : (t : StateData) → IsLeast d (test_of d m sought) t → (k : GameData) → Grows m k →
      IsNarrowed d first k.diagrams.table set predicates t cell sought
  sought_least t least k mk =
      narrowed_kept d first m.diagrams.table k.diagrams.table mk.diagrams set predicates t cell sought
      (sought_again d first (coding_told d first of order) m.diagrams.table set predicates state cell sought is t
      least.here.0
      (ap (λ (o : List ℕ). means m.diagrams.table sought (assignment_of d o t)) (sym fm.order) ∙ least.here.1))

-- what is narrowed to an id is narrowed to an equal id
pub narrowed_same : (d : DesignTree) (first : GameData) (s : Table) (set : NodeId) (predicates : List Predicate)
    (state : StateData) (cell sought more : NodeId) → more ≡ sought →
    IsNarrowed d first s set predicates state cell sought → IsNarrowed d first s set predicates state cell more
narrowed_same d first s set predicates state cell sought more same is =
    subst (λ (x : NodeId). IsNarrowed d first s set predicates state cell x) (sym same) is

module _ (d : DesignTree) (first g h k : GameData) (pooled : IsPooled d first) (fg : Grows first g) (gh : Grows g h)
    (hk : Grows h k) (order : IsOrder (state_bits_in g.flat) g.order) (set : NodeId) (before : List Predicate)
    (state : StateData) (cell sought : NodeId)
    (is : IsNarrowed d first g.diagrams.table set before state cell sought) (number : ℕ) (holds : NodeId)
    (predicate : IsPredicate d g h.diagrams.table number holds) (met : NodeId)
    (met_is : IsFunction k.diagrams.table met
    (λ v. means k.diagrams.table sought v && means k.diagrams.table holds v)) where
  coding : IsCoding d (coding_of d first.order)
  coding = coding_told d first pooled.of (order_before first g fg order)

  its : IsPredicate d first h.diagrams.table number holds
  its = predicate_first d first g pooled fg h.diagrams.table number holds predicate

  abbrev p : Predicate
  p = (told d first pooled number its.function.0 its.function.1).0

  p_at : slice_get (pool d) number ≡ Some p
  p_at = (told d first pooled number its.function.0 its.function.1).1

  -- at the diagrams that there are then
  module _ (s : Table) (e : Extends k.diagrams.table s) where
    whole : Extends g.diagrams.table s
    whole = Extends-trans g.diagrams.table k.diagrams.table s (grows_then g h k gh hk).diagrams e

    narrowed_now : IsNarrowed d first s set before state cell sought
    narrowed_now = narrowed_kept d first g.diagrams.table s whole set before state cell sought is

    tells_now : Tells d first.order (means s holds) p
    tells_now =
        subst (λ (f : Function). Tells d first.order f p)
        (sym (means-Extends h.diagrams.table s (Extends-trans h.diagrams.table k.diagrams.table s hk.diagrams e) holds
        its.known)) (its.tells p p_at)

    met_now : IsFunction s met (λ v. means s sought v && means s holds v)
    met_now =
        both_kept k.diagrams.table s e sought holds met
        (Knows-Extends g.diagrams.table k.diagrams.table (grows_then g h k gh hk).diagrams sought is.sought_is.known)
        (Knows-Extends h.diagrams.table k.diagrams.table hk.diagrams holds its.known) met_is

    predicates_now : before ++ tracked_of d (number ∷ []) ≡ before ++ p ∷ []
    predicates_now = ap (λ (ps : List Predicate). before ++ ps) (tracked_one d number p p_at)

  order_then : k.order ≡ first.order
  order_then = hk.order ∙ gh.order ∙ fg.order

  pub met_set : IsSet k met
  met_set = record {
    known = met_is.known;
    reads =
        subst (λ (o : List ℕ). ReadsState (length o) (means k.diagrams.table met)) (sym order_then)
        (met_reads d first coding k.diagrams.table set before state cell sought
        (narrowed_now k.diagrams.table (Extends-refl k.diagrams.table)) p holds
        (tells_now k.diagrams.table (Extends-refl k.diagrams.table)) met met_is);
  }

  -- some state is, where it is not false
  pub some_met : IsReduced k.diagrams.table → met ≢ FALSE →
      (t : StateData) × IsState d t × (test_of d k met t ≡ true)
  some_met reduced differ =
      some_state d k.order (subst (λ (o : List ℕ). IsCoding d (coding_of d o)) (sym order_then) coding)
      k.diagrams.table reduced met met_is.known met_set.reads
      (λ v h.
      let parts = and_parts (means k.diagrams.table sought v) (means k.diagrams.table holds v)
      (sym (met_is.meaning v) ∙ h) in
      subst (λ (o : List ℕ). IsState d (state_of d o v)) (sym order_then)
      ((narrowed_now k.diagrams.table (Extends-refl k.diagrams.table)).sought_is.only v parts.0).0)
      differ

  -- none is, where it is false
  pub none_met : met ≡ FALSE → HoldsNowhere d (test_of d k met)
  none_met same t h = none_of_false k.diagrams.table met (assignment_of d k.order t) same h.1

  module _ (l : GameData) (kl : Grows k l) (next : NodeId) where
    -- where some state is sought at which the predicate holds
    pub narrow_with : (t : StateData) → IsState d t × (test_of d k met t ≡ true) →
        IsFunction l.diagrams.table next
        (λ v. means l.diagrams.table cell v && means l.diagrams.table holds v) →
        IsNarrowed d first l.diagrams.table set (before ++ tracked_of d (number ∷ [])) t next met
    narrow_with t here next_is =
        subst (λ (ps : List Predicate). IsNarrowed d first l.diagrams.table set ps t next met)
        (sym (predicates_now l.diagrams.table kl.diagrams))
        (narrowed_with d first coding l.diagrams.table set before state cell sought
        (narrowed_now l.diagrams.table kl.diagrams) p holds (tells_now l.diagrams.table kl.diagrams) met
        (met_now l.diagrams.table kl.diagrams) t here.0
        (kl.diagrams.same_meaning met met_is.known (assignment_of d first.order t)
        ∙ ap (λ (o : List ℕ). means k.diagrams.table met (assignment_of d o t)) (sym order_then)
        ∙ here.1) next next_is)

    -- where there is none
    pub narrow_without : HoldsNowhere d (test_of d k met) →
        IsFunction l.diagrams.table next
        (λ v. means l.diagrams.table cell v && means l.diagrams.table (complement holds) v) →
        IsNarrowed d first l.diagrams.table set (before ++ tracked_of d (number ∷ [])) state next sought
    narrow_without nowhere next_is =
        subst (λ (ps : List Predicate). IsNarrowed d first l.diagrams.table set ps state next sought)
        (sym (predicates_now l.diagrams.table kl.diagrams))
        (narrowed_without d first coding l.diagrams.table set before state cell sought
        (narrowed_now l.diagrams.table kl.diagrams) p holds (tells_now l.diagrams.table kl.diagrams) none next next_is)
      where
        none : (t : StateData) → IsState d t → means l.diagrams.table sought (assignment_of d first.order t) ≡ true →
            ¬ (means l.diagrams.table holds (assignment_of d first.order t) ≡ true)
        none t valid one two =
            let at = assignment_of d first.order t in
            let now = met_now l.diagrams.table kl.diagrams in
            nowhere t (
              valid,
              ap (λ (o : List ℕ). means k.diagrams.table met (assignment_of d o t)) order_then
                  ∙ sym (kl.diagrams.same_meaning met met_is.known at)
                  ∙ now.meaning at
                  ∙ and_from (means l.diagrams.table sought at) (means l.diagrams.table holds at) one two,
            )
