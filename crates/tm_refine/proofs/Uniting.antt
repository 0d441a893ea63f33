-- The sets of a solution are unions of cells where every known id is one.
use Rattle.std.proofs.Common.{◌≡◌, ℕ, zero, suc, List, [], ◌∷◌, map, slice_get, Some, refl, sym, subst}
use Rattle.tm_dd.specs.declared.node.NodeId.{NodeId}
use Rattle.tm_solve.specs.declared.iterates.Iterates.{Iterates}
use Rattle.tm_solve.specs.declared.iterates.Ranking.{Ranking}
use Rattle.tm_solve.specs.declared.iterates.RankSet.{RankSet}
use Rattle.tm_solve.specs.declared.iterates.Chain.{Chain}
use Rattle.tm_syntax.specs.Design.{DesignTree}
use Rattle.tm_sem.specs.Certificates.{RankedSet, Level}
use Rattle.tm_flat_pool.specs.Predicates.{Predicate}
use Rattle.tm_flat_pool.specs.Cells.{IsUnion, AreDriverUnions, AreLevelUnions}
use Rattle.tm_solve.specs.Sets.{StateSet}
use Rattle.tm_solve.specs.Game.{Game}
use Rattle.tm_solve.specs.Operator.{Operator}
use Rattle.tm_solve.specs.Exact.{IsGameOf}
use Rattle.tm_solve.specs.Ids.{Ids}
use Rattle.tm_solve.specs.Iterates.{Each, KnowsAll, KnowsChain, KnowsLevel, KnowsRanks, chain_sets, driver_sets, level_of, levels_of, ranked_set, ranked_sets}
use Rattle.tm_refine.specs.Parts.{IsUnionOf, TellCells}
use Rattle.tm_solve.proofs.Items.{some_same}

each_get : {A : Type 0} (P : A → Type 0) (xs : List A) (k : ℕ) (x : A) → Each P xs → slice_get xs k ≡ Some x → P x
each_get P [] k x all got = absurd (cc)
each_get P (y ∷ ys) zero x all got = subst P (some_same got) all.0
each_get P (y ∷ ys) (suc k) x all got = each_get P ys k x all.1 got

record Seen {A B : Type 0} (f : A → B) (xs : List A) (k : ℕ) (y : B) : Type 0 where
  item : A
  got : slice_get xs k ≡ Some item
  is : f item ≡ y

seen : {A B : Type 0} (f : A → B) (xs : List A) (k : ℕ) (y : B) → slice_get (map f xs) k ≡ Some y → Seen f xs k y
seen f [] k y got = absurd (cc)
seen f (x ∷ xs) zero y got = record { item = x; got = refl; is = some_same got }
seen f (x ∷ xs) (suc k) y got =
    let rest = seen f xs k y got in record { item = rest.item; got = rest.got; is = rest.is }

-- a union of the cells of tests is one of the cells of the predicates that they tell
pub is_union : {d : DesignTree} {op : Operator} {g : Game} → IsGameOf d op g → (predicates : List Predicate)
    (ps : List StateSet) → TellCells d predicates ps → (a : StateSet) → IsUnionOf g.states ps a →
    IsUnion d predicates a
is_union exact predicates ps cells a union s t v w cell =
    union.same s t (exact.all s v) (exact.all t w) (cells.told s t v w cell)

module _ (d : DesignTree) (predicates : List Predicate) (ids : Ids) (it : Iterates) (known : KnowsAll ids it)
    (unions : (id : NodeId) → ids.knows id → IsUnion d predicates (ids.means id)) where
  rank_union : (ranking : Ranking) → KnowsRanks ids ranking.sets.items → (k : ℕ) (r : RankedSet) →
      slice_get (ranked_sets ids ranking) k ≡ Some r → IsUnion d predicates r.set
  rank_union ranking all k r got =
      let one : Seen (ranked_set ids) ranking.sets.items k r = seen (ranked_set ids) ranking.sets.items k r got in
      subst (λ (q : RankedSet). IsUnion d predicates q.set) one.is
      (unions one.item.set
      (each_get (λ (x : RankSet). ids.knows x.set) ranking.sets.items k one.item all one.got))

  pub driver_unions : AreDriverUnions d predicates (driver_sets ids it)
  driver_unions = record {
    region = unions it.region known.region;
    ranks = λ goal k ranked r are got.
        let of : Seen (ranked_sets ids) it.ranks.items goal ranked =
        seen (ranked_sets ids) it.ranks.items goal ranked are in
        rank_union of.item
        (each_get (λ (x : Ranking). KnowsRanks ids x.sets.items) it.ranks.items goal of.item known.ranks of.got) k r
        (subst (λ (l : List RankedSet). slice_get l k ≡ Some r) (sym of.is) got);
  }

  set_union : (chain : Chain) → KnowsChain ids chain → (x : ℕ) (set : StateSet) →
      slice_get (chain_sets ids chain) x ≡ Some set → IsUnion d predicates set
  set_union chain all x set got =
      let one : Seen ids.means chain.sets.items x set = seen ids.means chain.sets.items x set got in
      subst (λ (a : StateSet). IsUnion d predicates a) one.is
      (unions one.item (each_get ids.knows chain.sets.items x one.item all one.got))

  pub level_unions : AreLevelUnions d predicates (levels_of ids it)
  level_unions = record {
    sets = λ k l got.
        let of : Seen (level_of ids) it.levels.items k l = seen (level_of ids) it.levels.items k l got in
        subst (λ (m : Level). IsUnion d predicates m.set) of.is
        (unions of.item.set (each_get (KnowsLevel ids) it.levels.items k of.item known.levels of.got).0);
    chains = λ k i x l chain set got got_chain got_set.
        let of : Seen (level_of ids) it.levels.items k l = seen (level_of ids) it.levels.items k l got in
        let all = (each_get (KnowsLevel ids) it.levels.items k of.item known.levels of.got).1 in
        let one : Seen (chain_sets ids) of.item.chains.items i chain =
        seen (chain_sets ids) of.item.chains.items i chain
        (subst (λ (m : Level). slice_get m.chains i ≡ Some chain) (sym of.is) got_chain) in
        set_union one.item (each_get (KnowsChain ids) of.item.chains.items i one.item all one.got) x set
        (subst (λ (c : List StateSet). slice_get c x ≡ Some set) (sym one.is) got_set);
  }
