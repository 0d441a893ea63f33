-- What is left of a game where it has grown, and of the sets in which moves are to end.
use Rattle.std.proofs.Common.{◌≡◌, ◌⊎◌, inl, inr, ℕ, zero, suc, ◌+◌, ◌<◌, get_or, sym, ◌∙◌, List, [], ◌∷◌, ◌++◌, Option}
use Rattle.std.proofs.Common.{None, Some, map, length, slice_get, take, ap, subst}
use Rattle.tm_check.proofs.Pushed.{pushed_at}
use Rattle.std.proofs.lemmas.Option.{slice_get-get_or}
use Rattle.std.proofs.lemmas.List.Elements.{All-contains, All-get_or, All-map, All-more}
use Rattle.std.specs.Prelude.{All, Contains}
use Rattle.tm_dd.specs.declared.node.NodeId.{NodeId}
use Rattle.tm_dd.specs.Table.{Knows, Table}
use Rattle.tm_game.specs.Game.{GameData, Grows, IsOf, IsSet}
use Rattle.tm_flat.specs.declared.flat.Flat.{Flat}
use Rattle.tm_flat.specs.Flat.{FlatTerms, flat_terms, step_terms}
use Rattle.tm_game.specs.Moves.{HasTask}
use Rattle.tm_game.specs.declared.moves.MoveShape.TheVariants.{Call}
use Rattle.std.proofs.lemmas.List.{length-map}
use Rattle.tm_game.proofs.Growing.{grows_none, grows_then, of_kept, set_kept}
use Rattle.tm_check.specs.Reads.{IsSized}
use Rattle.tm_check.proofs.Growth.{sized_kept}
use Rattle.tm_solve.specs.declared.iterates.Iterates.{Iterates}
use Rattle.tm_solve.specs.declared.iterates.RankSet.{RankSet}
use Rattle.tm_solve.specs.declared.iterates.Ranking.{Ranking}
use Rattle.tm_solve.specs.Iterates.{Each, KnowsAll, KnowsRanks}
use Rattle.tm_solve_exact.specs.Exact.{exact_ids}
use Rattle.tm_strat.specs.Targets.{AreSets, AreSetsOf, HasSets}
use Rattle.tm_syntax.specs.Design.{DesignTree}
use Rattle.tm_strat_drafts.specs.Growth.{Carried}

pub some_same : {A : Type 0} {x y : A} → Some x ≡ Some y → x ≡ y
some_same {A = A} {x = x} {y = y} e = ap (λ (o : Option A). or_else o) e
  where
    or_else : Option A → A
    or_else None = x
    or_else (Some z) = z

-- what grows to a game grows on
pub carry : (base g h : GameData) → Grows base g → Grows g h → Grows base h
carry base g h before after = grows_then base g h before after

-- from its own beginning
pub grown : (g h : GameData) → Carried g h → Grows g h
grown g h carried = carried g (grows_none g)

pub set_stays : (g h : GameData) → Carried g h → (id : NodeId) → IsSet g id → IsSet h id
set_stays g h carried id set = set_kept g h (grown g h carried) id set

pub sets_stay : (g h : GameData) → Carried g h → (ids : List NodeId) → AreSets g ids → AreSets h ids
sets_stay g h carried ids sets = record { each = λ k id is. set_stays g h carried id (sets.each k id is) }

pub ranks_stay : (g h : GameData) → Carried g h → (ranks : List RankSet) → HasSets g ranks → HasSets h ranks
ranks_stay g h carried ranks sets = record { each = λ k r is. set_stays g h carried r.set (sets.each k r is) }

pub all_stay : (g h : GameData) → Carried g h → (it : Iterates) → AreSetsOf g it → AreSetsOf h it
all_stay g h carried it sets = record {
  region = set_stays g h carried it.region sets.region;
  ranks = λ j r is. ranks_stay g h carried r.sets.items (sets.ranks j r is);
}

pub of_stays : (g h : GameData) → Carried g h → (d : DesignTree) → IsOf d g → IsOf d h
of_stays g h carried d of = of_kept g h (grown g h carried) d of

pub sized_stays : (g h : GameData) → Carried g h → IsSized g → IsSized h
sized_stays g h carried sized = sized_kept g h (grown g h carried) sized

-- the task of a number is there
pub task_there : (f : Flat) (g : FlatTerms) (n : ℕ) → flat_terms f ≡ g → n < length f.tasks.items →
    HasTask g (Call n)
task_there f g n same below =
    subst (λ (h : FlatTerms). n < length h.tasks) same
    (subst (λ (k : ℕ). n < k) (sym (length-map f.tasks.items step_terms)) below)

-- ---- sets
each_at : {A : Type 0} (P : A → Type 0) (xs : List A) (k : ℕ) (x : A) → Each P xs → slice_get xs k ≡ Some x → P x
each_at P [] k x all is = cc
each_at {A = A} P (y ∷ ys) zero x all is = subst P (some_same is) all.0
each_at P (y ∷ ys) (suc k) x all is = each_at P ys k x all.1 is

pub all_known : (g : GameData) (it : Iterates) → KnowsAll (exact_ids g) it → AreSetsOf g it
all_known g it knows = record {
  region = knows.region.set;
  ranks = λ j r is. record {
    each = λ k s there.
        (each_at (λ (x : RankSet). (exact_ids g).knows x.set) r.sets.items k s
        (each_at (λ (x : Ranking). KnowsRanks (exact_ids g) x.sets.items) it.ranks.items j r knows.ranks is) there).set;
  };
}

pub none_sets : (g : GameData) (ids : List NodeId) → ids ≡ [] → AreSets g ids
none_sets g ids is = subst (AreSets g) (sym is) (record { each = λ k id there. none k id there })
  where
    none : (k : ℕ) (id : NodeId) → slice_get [] k ≡ Some id → IsSet g id
    none k id there = cc

pub sets_more : (g : GameData) (ids more : List NodeId) (id : NodeId) → AreSets g ids → IsSet g id →
    more ≡ ids ++ id ∷ [] → AreSets g more
sets_more g ids more id sets set items = record {
  each = λ k other there. by k other
      (pushed_at ids id k other (subst (λ (l : List NodeId). slice_get l k ≡ Some other) items there));
}
  where
    by : (k : ℕ) (other : NodeId) → (slice_get ids k ≡ Some other) ⊎ ((k ≡ length ids) × (id ≡ other)) → IsSet g other
    by k other (inl before) = sets.each k other before
    by k other (inr last) = subst (IsSet g) last.1 set

pub one_set : (g : GameData) (ids more : List NodeId) (id : NodeId) → ids ≡ [] → IsSet g id → more ≡ ids ++ id ∷ [] →
    AreSets g more
one_set g ids more id none set items = sets_more g ids more id (none_sets g ids none) set items

pub set_at : (g : GameData) (ids : List NodeId) (k : ℕ) (id : NodeId) → AreSets g ids → k < length ids →
    id ≡ get_or ids k id → IsSet g id
set_at g ids k id sets below is = sets.each k id (slice_get-get_or ids k id below ∙ ap Some (sym is))

-- one part more is known
pub parts_step : (t : Table) (parts : List (ℕ × NodeId)) (k : ℕ) (p : ℕ × NodeId) → k < length parts →
    p ≡ get_or parts k p → All (λ q. Knows t q.1) (take k parts) → Knows t p.1 →
    All (λ q. Knows t q.1) (take (k + 1) parts)
parts_step t parts k p below is all known =
    All-more (λ (q : ℕ × NodeId). Knows t q.1) parts k p below all
    (subst (λ (q : ℕ × NodeId). Knows t q.1) is known)

pub unknown_part : (t : Table) (parts : List (ℕ × NodeId)) (k : ℕ) (p : ℕ × NodeId) → k < length parts →
    p ≡ get_or parts k p → ¬ Knows t p.1 → ¬ All (λ q. Knows t q.1) parts
unknown_part t parts k p below is unknown all =
    unknown (subst (λ (q : ℕ × NodeId). Knows t q.1) (sym is)
    (All-get_or (λ (q : ℕ × NodeId). Knows t q.1) parts k p below all))

pub parts_known : (t : Table) (parts : List (ℕ × NodeId)) → All (λ p. Knows t p.1) parts → (g : NodeId) →
    Contains (map (λ p. p.1) parts) g → Knows t g
parts_known t parts all g there =
    All-contains (Knows t) (map (λ p. p.1) parts) g (All-map (Knows t) (λ p. p.1) parts all) there
