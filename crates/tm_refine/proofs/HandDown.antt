-- What finer cells leave undecided coarser ones do, and reasons from pairs.
use Rattle.std.proofs.Common.{◌≡◌, ℕ, zero, suc, ◌+◌, ◌<◌, ◌≤◌, Bool, true, false, List, [], ◌∷◌, ◌++◌, take, map, length, slice_get, Option, Some, None, refl, sym, ap, ◌∙◌, subst, arith}
use Rattle.std.specs.Option.{option_map_or}
use Rattle.std.specs.List.{range_with_len}
use Rattle.std.proofs.lemmas.List.{take-append-le}
use Rattle.std.proofs.lemmas.List.Elements.{All-nil, All-cons, All-head, All-tail}
use Rattle.tm_refine.specs.declared.trace.Added.{Added}
use Rattle.tm_syntax.specs.Design.{DesignTree}
use Rattle.tm_sem.specs.State.{StateData}
use Rattle.tm_sem.specs.Certificates.{DriverSets, Level}
use Rattle.tm_flat_pool.specs.Predicates.{Predicate, predicate_holds, pool}
use Rattle.tm_flat_pool.specs.Cells.{AreDriverUnions, AreLevelUnions, IsUnion, SameCell, Undecided}
use Rattle.tm_refine.specs.Reasons.{AreReasons, tracked_by}
use Rattle.tm_game_pool.specs.Separating.{predicates_at}
use Rattle.tm_refine.specs.Searching.{AreFailed, ArePairs, IsPair, NoOther, NoneOf, Refines, tracked_at}

module _ {d : DesignTree} (finer coarser : List Predicate) (r : Refines d finer coarser) where
  pub union_up : (set : StateData → Bool) → IsUnion d coarser set → IsUnion d finer set
  union_up set u s t valid_s valid_t cell = u s t valid_s valid_t (r s t valid_s valid_t cell)

  pub driver_unions_up : (c : DriverSets) → AreDriverUnions d coarser c → AreDriverUnions d finer c
  driver_unions_up c u = record {
    region = union_up c.region u.region;
    ranks = λ goal k ranked x are got. union_up x.set (u.ranks goal k ranked x are got);
  }

  pub level_unions_up : (levels : List Level) → AreLevelUnions d coarser levels → AreLevelUnions d finer levels
  level_unions_up levels u = record {
    sets = λ k l got. union_up l.set (u.sets k l got);
    chains = λ k i x l chain set got got_chain got_set.
        union_up set (u.chains k i x l chain set got got_chain got_set);
  }

  pub undecided_down : Undecided d finer → Undecided d coarser
  undecided_down un = record {
    driver = λ c unions. un.driver c (driver_unions_up c unions);
    environment = λ levels unions. un.environment levels (level_unions_up levels unions);
  }

  pub none_down : (upper : Bool) → NoneOf d finer upper → NoneOf d coarser upper
  none_down true none = λ levels unions. none levels (level_unions_up levels unions)
  none_down false none = λ c unions. none c (driver_unions_up c unions)

pub undecided_of : (d : DesignTree) (predicates : List Predicate) (upper : Bool) → NoneOf d predicates upper →
    NoOther d upper → Undecided d predicates
undecided_of d predicates true none other = record { driver = λ c unions. other c; environment = none }
undecided_of d predicates false none other = record { driver = none; environment = λ levels unions. other levels }

-- ---- more predicates refine
module _ (d : DesignTree) (s t : StateData) (more : List Predicate) where
  abbrev Same : Predicate → Type 0
  Same p = predicate_holds d s p ≡ predicate_holds d t p

  first_cell : (qs : List Predicate) → SameCell d (qs ++ more) s t → SameCell d qs s t
  first_cell [] c = All-nil Same
  first_cell (q ∷ qs) c =
      All-cons Same q qs (All-head Same q (qs ++ more) c) (first_cell qs (All-tail Same q (qs ++ more) c))

pub refines_more : (d : DesignTree) (ps more : List Predicate) → Refines d (ps ++ more) ps
refines_more d ps more s t valid_s valid_t cell = first_cell d s t more ps cell

pub at_more : (ps : List Predicate) (ks js : List ℕ) →
    predicates_at ps (ks ++ js) ≡ predicates_at ps ks ++ predicates_at ps js
at_more ps [] js = refl
at_more ps (k ∷ ks) js =
    ap (λ (l : List Predicate). option_map_or (λ (p : Predicate). p ∷ l) (slice_get ps k) l) (at_more ps ks js)
    ∙ by (slice_get ps k)
  where
    by : (o : Option Predicate) →
        option_map_or (λ (p : Predicate). p ∷ (predicates_at ps ks ++ predicates_at ps js)) o
        (predicates_at ps ks ++ predicates_at ps js)
        ≡ option_map_or (λ (p : Predicate). p ∷ predicates_at ps ks) o (predicates_at ps ks) ++ predicates_at ps js
    by None = refl
    by (Some p) = refl

pub refines_at : (d : DesignTree) (ps : List Predicate) (ks js : List ℕ) →
    Refines d (predicates_at ps (ks ++ js)) (predicates_at ps ks)
refines_at d ps ks js =
    subst (λ (l : List Predicate). Refines d l (predicates_at ps ks)) (sym (at_more ps ks js))
    (refines_more d (predicates_at ps ks) (predicates_at ps js))

append_twice : (xs ys zs : List ℕ) → (xs ++ ys) ++ zs ≡ xs ++ (ys ++ zs)
append_twice [] ys zs = refl
append_twice (x ∷ xs) ys zs = ap (λ r. x ∷ r) (append_twice xs ys zs)

append_none : (ks : List ℕ) → ks ++ [] ≡ ks
append_none [] = refl
append_none (k ∷ ks) = ap (λ r. k ∷ r) (append_none ks)

map_both : (xs ys : List Added) →
    map (λ (b : Added). b.predicate) (xs ++ ys)
    ≡ map (λ (b : Added). b.predicate) xs ++ map (λ (b : Added). b.predicate) ys
map_both [] ys = refl
map_both (b ∷ bs) ys = ap (λ r. b.predicate ∷ r) (map_both bs ys)

pub tracked_both : (tracked : List ℕ) (xs ys : List Added) →
    tracked_by tracked (xs ++ ys) ≡ tracked_by tracked xs ++ map (λ (b : Added). b.predicate) ys
tracked_both tracked xs ys =
    ap (λ (ks : List ℕ). tracked ++ ks) (map_both xs ys)
    ∙ sym (append_twice tracked (map (λ (b : Added). b.predicate) xs) (map (λ (b : Added). b.predicate) ys))

record Longer (k m : ℕ) (xs : List Added) : Type 0 where
  rest : List Added
  is : take m xs ≡ take k xs ++ rest

longer : (k m : ℕ) (xs : List Added) → k ≤ m → Longer k m xs
longer zero m xs less = record { rest = take m xs; is = refl }
longer (suc k) zero xs less = absurd (omega arith)
longer (suc k) (suc m) [] less = record { rest = []; is = refl }
longer (suc k) (suc m) (x ∷ xs) less =
    let one : Longer k m xs = longer k m xs (omega arith) in
    record { rest = one.rest; is = ap (λ (l : List Added). x ∷ l) one.is }

-- a longer prefix refines a shorter one
pub refines_prefix : (d : DesignTree) (first : ℕ) (added : List Added) (k m : ℕ) → k ≤ m →
    Refines d (tracked_at d first added m) (tracked_at d first added k)
refines_prefix d first added k m less =
    let one : Longer k m added = longer k m added less in
    subst (λ (l : List ℕ). Refines d (predicates_at (pool d) l) (tracked_at d first added k))
    (sym (ap (λ (l : List Added). tracked_by (range_with_len 0 first) l) one.is
    ∙ tracked_both (range_with_len 0 first) (take k added) one.rest))
    (refines_at d (pool d) (tracked_by (range_with_len 0 first) (take k added))
    (map (λ (b : Added). b.predicate) one.rest))

-- where a side fails over one prefix, it fails over each shorter one
pub failed_below : (d : DesignTree) (first : ℕ) (added : List Added) (upper : Bool) (m : ℕ) →
    NoneOf d (tracked_at d first added m) upper → AreFailed d first added upper (m + 1)
failed_below d first added upper m none = record {
  none = λ k less. none_down (tracked_at d first added m) (tracked_at d first added k)
      (refines_prefix d first added k m (omega arith)) upper none;
}

-- and over each prefix of a longer list
pub failed_longer : (d : DesignTree) (first : ℕ) (added more : List Added) (upper : Bool) (count : ℕ) →
    count ≤ length added + 1 → AreFailed d first added upper count → AreFailed d first (added ++ more) upper count
failed_longer d first added more upper count within failed = record {
  none = λ k less.
      subst (λ (l : List Added). NoneOf d (predicates_at (pool d) (tracked_by (range_with_len 0 first) l)) upper)
      (sym (take-append-le k added more (omega arith))) (failed.none k less);
}

-- ---- pairs are reasons where each list before is undecided
pub honest_take : (d : DesignTree) (ps : List Predicate) (tracked : List ℕ) (xs : List Added) (k : ℕ) →
    ArePairs d ps tracked xs →
    ((m : ℕ) → m < k → Undecided d (predicates_at ps (tracked_by tracked (take m xs)))) →
    AreReasons d ps tracked (take k xs)
honest_take d ps tracked xs zero pairs under = tt
honest_take d ps tracked [] (suc k) pairs under = tt
honest_take d ps tracked (a ∷ xs) (suc k) pairs under = (
  record {
    left = pairs.0.left;
    right = pairs.0.right;
    one_cell = pairs.0.one_cell;
    first = pairs.0.first;
    undecided = subst (λ (ks : List ℕ). Undecided d (predicates_at ps ks)) (append_none tracked)
        (under zero (omega arith));
  },
  honest_take d ps (tracked ++ a.predicate ∷ []) xs k pairs.1
      (λ m less. subst (λ (ks : List ℕ). Undecided d (predicates_at ps ks))
      (sym (append_twice tracked (a.predicate ∷ []) (map (λ (b : Added). b.predicate) (take m xs))))
      (under (suc m) (omega arith))),
)

-- one more pair at the end
pub pairs_more : (d : DesignTree) (ps : List Predicate) (tracked : List ℕ) (added : List Added) (a : Added) →
    ArePairs d ps tracked added → IsPair d ps (tracked_by tracked added) a → ArePairs d ps tracked (added ++ a ∷ [])
pairs_more d ps tracked [] a pairs pair =
    (subst (λ (ks : List ℕ). IsPair d ps ks a) (append_none tracked) pair, tt)
pairs_more d ps tracked (b ∷ bs) a pairs pair = (
  pairs.0,
  pairs_more d ps (tracked ++ b.predicate ∷ []) bs a pairs.1
      (subst (λ (ks : List ℕ). IsPair d ps ks a)
      (sym (append_twice tracked (b.predicate ∷ []) (map (λ (x : Added). x.predicate) bs))) pair),
)
