-- The steps to the shortest decided prefix.
use Rattle.std.proofs.Common.{◌≡◌, ℕ, suc, ◌+◌, ◌-◌, ◌<◌, ◌≤◌, Bool, true, false, List, [], ◌∷◌, ◌++◌, take, map, length, Option, Some, None, refl, sym, ap, ◌∙◌, subst, arith}
use Rattle.std.specs.List.{range_with_len}
use Rattle.std.specs.Prelude.{MatchOption}
use Rattle.std.proofs.Math.Seq.{take-length}
use Rattle.std.proofs.lemmas.List.{length-take, length-take-le}
use Rattle.std.proofs.lemmas.List.FromFn.{length-range_with_len}
use Rattle.tm_solve.specs.declared.iterates.Iterates.{Iterates}
use Rattle.tm_refine.specs.declared.trace.Added.{Added}
use Rattle.tm_syntax.specs.Design.{DesignTree}
use Rattle.tm_sem.specs.Certificates.{DriverSets, Level, MeetsEnvironment, MeetsMoveForm}
use Rattle.tm_flat_pool.specs.Cells.{AreDriverUnions, AreLevelUnions, Undecided}
use Rattle.tm_flat_pool.specs.Predicates.{Predicate, pool}
use Rattle.tm_dd.specs.declared.node.NodeId.{NodeId}
use Rattle.tm_solve.specs.Fixpoints.{Holds, InRegion}
use Rattle.tm_solve.specs.Game.{Game}
use Rattle.tm_solve.specs.Sets.{IsSame, StateSet}
use Rattle.tm_solve.specs.Ids.{Ids, Is, Extends, Side, Stay}
use Rattle.tm_solve.specs.Iterates.{KnowsAll, driver_sets, levels_of}
use Rattle.tm_refine.specs.Reasons.{AreReasons, tracked_by}
use Rattle.tm_game_pool.specs.Separating.{predicates_at}
use Rattle.tm_refine.specs.Searching.{AreFailed, ArePairs, Certifies, IsFirst, IsSearching, IsWon, IsWonAt, NoneOf, NoOther, tracked_at}
use Rattle.tm_refine.proofs.RoundSides.{all_kept, driver_sets_stay, levels_of_stay}
use Rattle.tm_refine.proofs.HandDown.{failed_below, failed_longer, honest_take, undecided_of}
use Rattle.std.proofs.Common.{Vec, Global}
use Rattle.tm_syntax.specs.Design.Atoms.{first_atoms}
use Rattle.tm_refine.specs.Decided.{IsHonest, IsSpent, IsWithin, numbers_of}
use Rattle.tm_refine.specs.Searching.{AreUnions, IsNamed}
use Rattle.tm_refine.proofs.DecideSteps.{room_first, tracked_first}

-- ---- solutions stay certificates
abbrev plain : Side → Ids → Ids
plain s a = record { knows = a.knows; kept = a.knows; means = a.means; of = a.of; side = s }

module _ (s : Side) (a b : Ids) (stay : Stay a b) (it : Iterates) (k : KnowsAll a it) where
  extends_plain : Extends (plain s a) (plain s b)
  extends_plain = record {
    known = stay.known;
    same = stay.same;
    kept = λ id known. (stay.known id known, stay.same id known);
    of = stay.of;
    side = refl;
  }

  known_plain : KnowsAll (plain s a) it
  known_plain = record { region = k.region; ranks = k.ranks; levels = k.levels }

  still_known : KnowsAll b it
  still_known =
      let all : KnowsAll (plain s b) it = all_kept (plain s a) (plain s b) it extends_plain known_plain in
      record { region = all.region; ranks = all.ranks; levels = all.levels }

  driver_same : driver_sets b it ≡ driver_sets a it
  driver_same = driver_sets_stay (plain s a) (plain s b) it extends_plain known_plain

  levels_same : levels_of b it ≡ levels_of a it
  levels_same = levels_of_stay (plain s a) (plain s b) it extends_plain known_plain

  still_won : (d : DesignTree) (predicates : List Predicate) (upper : Bool) → IsWon d predicates upper a it →
      IsWon d predicates upper b it
  still_won d predicates true won = record {
    meets = subst (λ (ls : List Level). MeetsEnvironment d ls) (sym levels_same) won.meets;
    unions = subst (λ (ls : List Level). AreLevelUnions d predicates ls) (sym levels_same) won.unions;
  }
  still_won d predicates false won = record {
    meets = subst (λ (c : DriverSets). MeetsMoveForm d c) (sym driver_same) won.meets;
    unions = subst (λ (c : DriverSets). AreDriverUnions d predicates c) (sym driver_same) won.unions;
  }

pub known_still : (a b : Ids) (it : Iterates) → Stay a b → KnowsAll a it → KnowsAll b it
known_still a b it stay k = still_known a.side a b stay it k

pub won_still : (d : DesignTree) (first : ℕ) (added : List Added) (upper : Bool) (a b : Ids) (it : Iterates)
    (count : ℕ) → Stay a b → KnowsAll a it → IsWonAt d first added upper a it count →
    IsWonAt d first added upper b it count
won_still d first added upper a b it count stay k won = record {
  within = won.within;
  won = still_won a.side a b stay it k d (tracked_at d first added count) upper won.won;
}

-- ---- lengths
length_map : (xs : List Added) → length (map (λ (a : Added). a.predicate) xs) ≡ length xs
length_map [] = refl
length_map (x ∷ xs) = ap (λ n. suc n) (length_map xs)

length_numbers : (xs ys : List ℕ) → length (xs ++ ys) ≡ length xs + length ys
length_numbers [] ys = omega arith
length_numbers (x ∷ xs) ys = let e = length_numbers xs ys in omega arith

pub length_tracked : (first : ℕ) (added : List Added) →
    length (tracked_by (range_with_len 0 first) added) ≡ first + length added
length_tracked first added =
    let a = length_numbers (range_with_len 0 first) (map (λ (x : Added). x.predicate) added) in
    let b = length-range_with_len 0 first in
    let e = length_map added in
    omega arith

pub searching_fits : (d : DesignTree) (first : ℕ) (tracked : List ℕ) (added : List Added) →
    IsSearching d first tracked added → first + length added ≤ length (pool d)
searching_fits d first tracked added s =
    let a : length tracked ≡ first + length added =
    ap (λ (l : List ℕ). length l) s.numbers ∙ length_tracked first added in
    let r = s.room in
    omega arith

-- ---- the whole list as a prefix
pub at_all : (d : DesignTree) (first : ℕ) (tracked : List ℕ) (added : List Added) → IsSearching d first tracked added →
    predicates_at (pool d) tracked ≡ tracked_at d first added (length added)
at_all d first tracked added s =
    ap (λ (l : List ℕ). predicates_at (pool d) l) (s.numbers
    ∙ ap (λ (l : List Added). tracked_by (range_with_len 0 first) l) (sym (take-length added)))

pub won_whole : (d : DesignTree) (first : ℕ) (tracked : List ℕ) (added : List Added) (upper upper' : Bool) (ids : Ids)
    (it : Iterates) → IsSearching d first tracked added → upper ≡ upper' →
    IsWon d (predicates_at (pool d) tracked) upper ids it →
    IsWonAt d first added upper' ids it (length added)
won_whole d first tracked added upper upper' ids it s same won = record {
  within = omega arith;
  won = subst (λ (u : Bool). IsWon d (tracked_at d first added (length added)) u ids it) same
      (subst (λ (l : List Predicate). IsWon d l upper ids it) (at_all d first tracked added s) won);
}

pub failed_whole : (d : DesignTree) (first : ℕ) (tracked : List ℕ) (added longer : List Added) (upper upper' : Bool) →
    IsSearching d first tracked added → upper ≡ upper' → NoneOf d (predicates_at (pool d) tracked) upper →
    ((m : List Added) × (longer ≡ added ++ m)) → AreFailed d first longer upper' (length added + 1)
failed_whole d first tracked added longer upper upper' s same none more =
    subst (λ (l : List Added). AreFailed d first l upper' (length added + 1)) (sym more.1)
    (failed_longer d first added more.0 upper' (length added + 1) (omega arith)
    (failed_below d first added upper' (length added)
    (subst (λ (u : Bool). NoneOf d (tracked_at d first added (length added)) u) same
    (subst (λ (l : List Predicate). NoneOf d l upper) (at_all d first tracked added s) none))))

-- ---- a prefix that is tried
module _ (d : DesignTree) (first : ℕ) (added : List Added) (numbers : List ℕ) (k : ℕ)
    (are : numbers ≡ tracked_by (range_with_len 0 first) (take k added)) (upper upper' : Bool)
    (same : upper ≡ upper') where
  pub won_prefix : (ids : Ids) (it : Iterates) → k ≤ length added →
      IsWon d (predicates_at (pool d) numbers) upper ids it → IsWonAt d first added upper' ids it k
  won_prefix ids it within won = record {
    within = within;
    won = subst (λ (u : Bool). IsWon d (tracked_at d first added k) u ids it) same
        (subst (λ (l : List ℕ). IsWon d (predicates_at (pool d) l) upper ids it) are won);
  }

  pub failed_prefix : NoneOf d (predicates_at (pool d) numbers) upper → AreFailed d first added upper' (k + 1)
  failed_prefix none =
      failed_below d first added upper' k
      (subst (λ (u : Bool). NoneOf d (tracked_at d first added k) u) same
      (subst (λ (l : List ℕ). NoneOf d (predicates_at (pool d) l) upper) are none))

-- ---- the end
module _ (d : DesignTree) (first : ℕ) (added : List Added) (upper : Bool) (other : NoOther d upper) (count : ℕ)
    (failed : AreFailed d first added upper count) where
  pub undecided_at : (k : ℕ) → k < count → Undecided d (tracked_at d first added k)
  undecided_at k less = undecided_of d (tracked_at d first added k) upper (failed.none k less) other

  pub honest_at : (k : ℕ) → k ≤ count → ArePairs d (pool d) (range_with_len 0 first) added →
      AreReasons d (pool d) (range_with_len 0 first) (take k added)
  honest_at k less pairs =
      honest_take d (pool d) (range_with_len 0 first) added k pairs (λ m below. undecided_at m (omega arith))

-- ---- from call to call
pub searching_at : (d : DesignTree) (first : ℕ) (ks js : List ℕ) (xs : List Added) → js ≡ ks →
    IsSearching d first ks xs → IsSearching d first js xs
searching_at d first ks js xs same s = subst (λ (l : List ℕ). IsSearching d first l xs) (sym same) s

pub none_at : (d : DesignTree) (ks js : List ℕ) (u v : Bool) → js ≡ ks → v ≡ u →
    NoneOf d (predicates_at (pool d) ks) u → NoneOf d (predicates_at (pool d) js) v
none_at d ks js u v tracked same none =
    subst (λ (w : Bool). NoneOf d (predicates_at (pool d) js) w) (sym same)
    (subst (λ (l : List ℕ). NoneOf d (predicates_at (pool d) l) u) (sym tracked) none)

pub named_at : (d : DesignTree) (u v : Bool) → v ≡ u → IsNamed d u → IsNamed d v
named_at d u v same named = subst (λ (w : Bool). IsNamed d w) (sym same) named

pub count_smaller : (n a b : ℕ) → a < b → b ≤ n → n - b < n - a
count_smaller n a b less within = omega arith

pub searching_first : (d : DesignTree) (first : ℕ) (ks : List ℕ) → ks ≡ range_with_len 0 first →
    first ≤ length (pool d) → IsSearching d first ks []
searching_first d first ks is less = record {
  numbers = tracked_first (range_with_len 0 first) ks [] is refl;
  room = room_first (length (pool d)) first ks is less;
  pairs = tt;
}

-- ---- what is chosen
module _ (d : DesignTree) (first : ℕ) (added : List Added) (upper : Bool) (other : NoOther d upper) (ids : Ids)
    (it : Iterates) (count : ℕ) (best : IsFirst d first added upper ids it count) (tracked : List ℕ)
    (s : IsSearching d first tracked added) (claims : first ≡ first_atoms d) where
  honest_rest : (k : ℕ) → k ≤ count → (rest : Vec Added Global) → rest.items ≡ take k added →
      IsHonest d (record { first = first; added = rest })
  honest_rest k less rest is = record {
    first = claims;
    reasons = subst (λ (l : List Added). AreReasons d (pool d) (range_with_len 0 first) l) (sym is)
        (honest_at d first added upper other count best.failed k less s.pairs);
  }

  pub spent_at : (k : ℕ) → k < count → (rest : Vec Added Global) → rest.items ≡ take k added → (budget : Option ℕ) →
      budget ≡ Some k → IsHonest d (record { first = first; added = rest })
      × IsSpent d budget (record { first = first; added = rest })
  spent_at k less rest is budget all =
      let within : k ≤ length added = let w = best.won.within in omega arith in
      let long : length rest.items ≡ k = ap (λ (l : List Added). length l) is ∙ length-take-le k added within in (
        honest_rest k (omega arith) rest is,
        record {
          all_spent = all ∙ ap (λ (n : ℕ). Some n) (sym long);
          fewer =
              let a = length_tracked first rest.items in
              let f = searching_fits d first tracked added s in
              let w = best.won.within in
              omega arith;
          undecided =
              subst (λ (l : List Added). Undecided d (predicates_at (pool d) (tracked_by (range_with_len 0 first) l)))
              (sym is) (undecided_at d first added upper other count best.failed k less);
        },
      )

  pub chosen_at : (rest : Vec Added Global) → rest.items ≡ take count added → (u : Bool) → upper ≡ u →
      IsHonest d (record { first = first; added = rest }) × Certifies d u ids it
      × AreUnions d (predicates_at (pool d) (numbers_of (record { first = first; added = rest }))) u ids it
  chosen_at rest is u same =
      let won : IsWon d (tracked_at d first added count) u ids it =
      subst (λ (v : Bool). IsWon d (tracked_at d first added count) v ids it) same best.won.won in (
        honest_rest count (omega arith) rest is,
        won.meets,
        subst (λ (l : List Added).
            AreUnions d (predicates_at (pool d) (tracked_by (range_with_len 0 first) l)) u ids it) (sym is) won.unions,
      )

pub of_nothing : {X : Type 0} (o : Option X) (P : Type 0) (Q : X → Type 0) → MatchOption o P Q → o ≡ None → P
of_nothing o P Q m e = subst (λ (p : Option _). MatchOption p P Q) e m

-- where no sets are one of the other side, none are where the side is said in another way
pub other_at : (d : DesignTree) (u v : Bool) → v ≡ u → NoOther d u → NoOther d v
other_at d u v same other = subst (λ (w : Bool). NoOther d w) (sym same) other

module _ (d : DesignTree) (first : ℕ) (added : List Added) (u v : Bool) (same : v ≡ u) where
  pub failed_at : (count : ℕ) → AreFailed d first added u count → AreFailed d first added v count
  failed_at count failed = subst (λ (w : Bool). AreFailed d first added w count) (sym same) failed

  pub won_at : (ids : Ids) (it : Iterates) (count : ℕ) → IsWonAt d first added u ids it count →
      IsWonAt d first added v ids it count
  won_at ids it count won = subst (λ (w : Bool). IsWonAt d first added w ids it count) (sym same) won

  pub first_at : (ids : Ids) (it : Iterates) (count : ℕ) → IsFirst d first added u ids it count →
      IsFirst d first added v ids it count
  first_at ids it count best = subst (λ (w : Bool). IsFirst d first added w ids it count) (sym same) best

-- the additions were read through a slice
pub first_read : (d : DesignTree) (first : ℕ) (xs ys : List Added) → xs ≡ ys → (upper : Bool) (a b : Ids)
    (it best : Iterates) (count shortest : ℕ) →
    (AreFailed d first xs upper count → IsWonAt d first xs upper a it (length xs) →
    IsFirst d first xs upper b best shortest) →
    AreFailed d first ys upper count → IsWonAt d first ys upper a it (length ys) →
    IsFirst d first ys upper b best shortest
first_read d first xs ys same upper a b it best count shortest told =
    subst (λ (l : List Added).
    AreFailed d first l upper count → IsWonAt d first l upper a it (length l) → IsFirst d first l upper b best shortest)
    same told

-- ---- the exact region, where other sets are forgotten
holds_kept : (g h : Game) (set set' : StateSet) → h ≡ g → IsSame g.states set' set →
    Holds g.states set (InRegion g) → Holds h.states set' (InRegion h)
holds_kept g h set set' same one holds =
    let there : Holds g.states set' (InRegion g) = record {
      only = λ s among here. holds.only s among (sym (one.same s among) ∙ here);
      all = λ s among here. one.same s among ∙ holds.all s among here;
    } in
    subst (λ (k : Game). Holds k.states set' (InRegion k)) (sym same) there

pub region_same : (g h : Game) (a b : Ids) (kept : NodeId) → Stay a b → h ≡ g → a.knows kept →
    Holds g.states (a.means kept) (InRegion g) → Holds h.states (b.means kept) (InRegion h)
region_same g h a b kept stay game known holds =
    subst (λ (q : Game). Holds q.states (b.means kept) (InRegion q)) (sym game)
    (subst (λ (m : StateSet). Holds g.states m (InRegion g)) (sym (stay.same kept known)) holds)

pub region_kept : (g h k : Game) (a b c : Ids) (kept kept' : NodeId) → Stay a b → h ≡ g → k ≡ h → a.knows kept →
    Is h.states c kept' (b.means kept) → Holds g.states (a.means kept) (InRegion g) →
    Holds k.states (c.means kept') (InRegion k)
region_kept g h k a b c kept kept' stay first second known is holds =
    holds_kept h k (b.means kept) (c.means kept') second is.means (region_same g h a b kept stay first known holds)

-- ---- within a budget
-- the first so many additions are no more
few_taken : (k : ℕ) (added : List Added) → length (take k added) ≤ k
few_taken k added = let n = length-take k added in omega (arith, n)

-- so a trace of them is within a budget that allows as many
pub cut_within : (k n : ℕ) → k ≤ n → (first : ℕ) (added : List Added) (rest : Vec Added Global) →
    rest.items ≡ take k added → (budget : Option ℕ) → budget ≡ Some n →
    IsWithin budget (record { first = first; added = rest })
cut_within k n allowed first added rest is budget all =
    let taken : length rest.items ≤ k = subst (λ (l : List Added). length l ≤ k) (sym is) (few_taken k added) in
    let few : length rest.items ≤ n = omega arith in
    subst (λ (b : Option ℕ). IsWithin b (record { first = first; added = rest })) (sym all) few
