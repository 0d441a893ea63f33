-- The ids of the sets of certificates, and diagrams for them.
use Rattle.std.proofs.Common.{◌≡◌, inl, inr, ℕ, zero, suc, ◌+◌, ◌<◌, Bool, List, [], ◌∷◌, ◌++◌, length, get_or, replicate, set, slice_get, Some, refl, sym, ap, ◌∙◌, subst, arith}
use Rattle.std.specs.Prelude.{All, Contains}
use Rattle.std.specs.List.{flat_map}
use Rattle.std.proofs.lemmas.Bool.{cases_eq}
use Rattle.std.proofs.lemmas.List.{get_or-set_other, get_or-set_same, length-replicate, length-set, replicate_more}
use Rattle.std.proofs.lemmas.List.Elements.{All-append, All-cons, All-map, Contains-append_left, Contains-append_right}
use Rattle.std.proofs.lemmas.Option.{get_or_from_slice_get, none-some, same_Some, slice_get-get_or, slice_get_within}
use Rattle.tm_cert.specs.declared.cert.Entry.{Entry}
use Rattle.tm_cert.specs.declared.cert.Rank.{Rank}
use Rattle.tm_cert.specs.Cert.{LevelData}
use Rattle.tm_cert.specs.Nodes.{ids_of}
use Rattle.tm_dd.specs.declared.node.NodeId.{NodeId}
use Rattle.tm_dd.specs.declared.node.TheConstants.{FALSE}
use Rattle.tm_dd.specs.Table.{Table, Knows}
use Rattle.tm_numbering.proofs.Items.{at_index, mapped_get}
use Rattle.tm_reorder.specs.Inner.Keys.{AreFound, AreKeyed, chain_keys, driver_keys, environment_keys, level_keys, rank_keys}
use Rattle.tm_reorder.specs.Inner.Moved.{AreMoved, IsMoved}
use Rattle.tm_reorder.specs.Inner.Raised.{AreRaised}
use Rattle.tm_verdict.specs.Fitting.{FitsLevel, FitsRank}

-- ---- items of lists that are joined
contains_at : {X : Type 0} (xs : List X) (k : ℕ) (x : X) → slice_get xs k ≡ Some x → Contains xs x
contains_at xs k x at = (k, slice_get_within xs k x at, get_or_from_slice_get xs k x x at)

pub key_at : (keys : List ℕ) (k : ℕ) → Contains keys k → (i : ℕ) × (slice_get keys i ≡ Some k)
key_at keys k has = (has.0, slice_get-get_or keys has.0 k has.1 ∙ ap Some has.2)

in_flat_map : {X A : Type 0} (f : X → List A) (xs : List X) (k : ℕ) (x : X) (y : A) → slice_get xs k ≡ Some x →
    Contains (f x) y → Contains (flat_map f xs) y
in_flat_map f [] k x y at has = absurd (none-some x at)
in_flat_map {X} {A} f (z ∷ zs) zero x y at has =
    Contains-append_left (f z) (flat_map f zs) y
    (subst (λ (w : X). Contains (f w) y) (sym (same_Some z x at)) has)
in_flat_map f (z ∷ zs) (suc k) x y at has =
    Contains-append_right (f z) (flat_map f zs) y (in_flat_map f zs k x y at has)

all_flat_map : {X A : Type 0} (P : A → Type 0) (f : X → List A) (xs : List X) →
    ((k : ℕ) (x : X) → slice_get xs k ≡ Some x → All P (f x)) → All P (flat_map f xs)
all_flat_map P f [] all = λ k d below. absurd (omega (arith, below))
all_flat_map P f (x ∷ xs) all =
    All-append P (f x) (flat_map f xs) (all 0 x refl) (all_flat_map P f xs (λ k. all (suc k)))

-- ---- a driver's sets
module _ (region : ℕ) (goals : List (List Rank)) where
  pub region_key : Contains (driver_keys region goals) region
  region_key = contains_at (driver_keys region goals) 0 region refl

  pub rank_key : (i j : ℕ) (ranks : List Rank) (r : Rank) → slice_get goals i ≡ Some ranks →
      slice_get ranks j ≡ Some r → Contains (driver_keys region goals) r.set
  rank_key i j ranks r at there =
      Contains-append_right (region ∷ []) (flat_map rank_keys goals) r.set
      (in_flat_map rank_keys goals i ranks r.set at
      (contains_at (rank_keys ranks) j r.set (mapped_get (λ (q : Rank). q.set) ranks j r there)))

  pub driver_keys_below : (fairs count : ℕ) → region < count → All (All (FitsRank fairs count)) goals →
      All (λ key. key < count) (driver_keys region goals)
  driver_keys_below fairs count low fits =
      All-cons (λ key. key < count) region (flat_map rank_keys goals) low
      (all_flat_map (λ key. key < count) rank_keys goals
      (λ i ranks at. All-map (λ key. key < count) (λ (r : Rank). r.set) ranks
      (λ j d below. (at_index (All (FitsRank fairs count)) goals i ranks fits at j d below).set)))

-- ---- an environment's sets
module _ (levels : List LevelData) (i : ℕ) (l : LevelData) (at : slice_get levels i ≡ Some l) where
  pub level_key : Contains (environment_keys levels) l.set
  level_key =
      in_flat_map level_keys levels i l l.set at (contains_at (level_keys l) 0 l.set refl)

  pub chain_key : (j k : ℕ) (chain : List ℕ) (n : ℕ) → slice_get l.chains j ≡ Some chain →
      slice_get chain k ≡ Some n → Contains (environment_keys levels) n
  chain_key j k chain n there is =
      in_flat_map level_keys levels i l n at
      (Contains-append_right (l.set ∷ []) (chain_keys l.chains) n
      (in_flat_map (λ (c : List ℕ). c) l.chains j chain n there (contains_at chain k n is)))

pub environment_keys_below : (goals fairs count : ℕ) (levels : List LevelData) →
    All (FitsLevel goals fairs count) levels → All (λ key. key < count) (environment_keys levels)
environment_keys_below goals fairs count levels fits =
    all_flat_map (λ key. key < count) level_keys levels
    (λ i l at.
    let fit = at_index (FitsLevel goals fairs count) levels i l fits at in
    All-cons (λ key. key < count) l.set (chain_keys l.chains) fit.set
    (all_flat_map (λ key. key < count) (λ (c : List ℕ). c) l.chains
    (λ j chain there. at_index (All (λ key. key < count)) l.chains j chain fit.chains there)))

-- ---- diagrams for keys
-- those of the first so many keys are right
pub record AreFirstKeyed (s : Table) (see : (ℕ → Bool) → ℕ → Bool) (nodes : List Entry) (keys : List ℕ) (done : ℕ)
    (ids : List NodeId) : Type 0 where
  pub count : length ids ≡ ids_of nodes
  pub known : (k : ℕ) → Knows s (get_or ids k FALSE)
  pub each : (i k : ℕ) → i < done → slice_get keys i ≡ Some k → IsMoved s see nodes k (get_or ids k FALSE)

-- a list of the one constant alone, and two more
pub two_more : (count : ℕ) (filled one two : List NodeId) → filled ≡ replicate count FALSE →
    one ≡ filled ++ FALSE ∷ [] → two ≡ one ++ FALSE ∷ [] → two ≡ replicate (count + 1 + 1) FALSE
two_more count filled one two filled_is one_is two_is =
    two_is
    ∙ ap (λ (ids : List NodeId). ids ++ FALSE ∷ [])
    (one_is ∙ ap (λ (ids : List NodeId). ids ++ FALSE ∷ []) filled_is ∙ replicate_more count FALSE)
    ∙ replicate_more (count + 1) FALSE

all_false : (n k : ℕ) → get_or (replicate n FALSE) k FALSE ≡ FALSE
all_false zero k = refl
all_false (suc n) zero = refl
all_false (suc n) (suc k) = all_false n k

module _ (s : Table) (see : (ℕ → Bool) → ℕ → Bool) (nodes : List Entry) (keys values : List ℕ)
    (loaded : List NodeId) (found : AreFound s see nodes keys values loaded) where
  pub keyed_none : (count : ℕ) (ids : List NodeId) → length nodes ≡ count → ids ≡ replicate (count + 1 + 1) FALSE →
      AreFirstKeyed s see nodes keys 0 ids
  keyed_none count ids long items =
      subst (AreFirstKeyed s see nodes keys 0) (sym items) (record {
        count = let all = length-replicate (count + 1 + 1) FALSE in omega (arith, all, long);
        known = λ k. subst (Knows s) (sym (all_false (count + 1 + 1) k)) (omega arith);
        each = λ i k below. absurd (omega (arith, below));
      })

  pub keyed_more : (done key value : ℕ) (id : NodeId) (ids : List NodeId) → slice_get keys done ≡ Some key →
      slice_get values done ≡ Some value → slice_get loaded value ≡ Some id → key < length ids →
      AreFirstKeyed s see nodes keys done ids → AreFirstKeyed s see nodes keys (done + 1) (set ids key id)
  keyed_more done key value id ids key_is value_is id_is within before = record {
    count = length-set ids key id ∙ before.count;
    known = known;
    each = each;
  }
    where
      here : get_or (set ids key id) key FALSE ≡ id
      here = get_or-set_same ids key id FALSE within

      known : (k : ℕ) → Knows s (get_or (set ids key id) k FALSE)
      known k = elim (cases_eq k key) as (λ _. Knows s (get_or (set ids key id) k FALSE)) [
        | inl same ↦
            subst (λ (n : ℕ). Knows s (get_or (set ids key id) n FALSE)) (sym same)
            (subst (Knows s) (sym here) (found.known value id id_is))
        | inr other ↦ subst (Knows s) (sym (get_or-set_other ids key k id FALSE other)) (before.known k)
      ]

      right : IsMoved s see nodes key (get_or (set ids key id) key FALSE)
      right =
          subst (IsMoved s see nodes key) (sym here) (found.each done key value id key_is value_is id_is)

      each : (i k : ℕ) → i < done + 1 → slice_get keys i ≡ Some k →
          IsMoved s see nodes k (get_or (set ids key id) k FALSE)
      each i k below at =
          elim (cases_eq k key) as (λ _. IsMoved s see nodes k (get_or (set ids key id) k FALSE)) [
            | inl same ↦ subst (λ (n : ℕ). IsMoved s see nodes n (get_or (set ids key id) n FALSE)) (sym same) right
            | inr other ↦
                subst (IsMoved s see nodes k) (sym (get_or-set_other ids key k id FALSE other))
                (before.each i k (before_done i k at other below) at)
          ]
        where
          before_done : (j n : ℕ) → slice_get keys j ≡ Some n → (n ≡ key → ⊥) → j < done + 1 → j < done
          before_done j n there differs low =
              elim (cases_eq j done) as (λ _. j < done) [
                | inl same ↦
                    absurd (differs (same_Some n key
                    (sym there ∙ ap (λ (m : ℕ). slice_get keys m) same ∙ key_is)))
                | inr apart ↦ omega (arith, apart, low)
              ]

  pub keyed_all : (ids : List NodeId) → AreFirstKeyed s see nodes keys (length keys) ids →
      AreKeyed s see nodes keys ids
  keyed_all ids are = record {
    count = are.count;
    known = λ k id at. subst (Knows s) (get_or_from_slice_get ids k id FALSE at) (are.known k);
    each = λ i k id there at.
        subst (IsMoved s see nodes k) (get_or_from_slice_get ids k id FALSE at)
        (are.each i k (slice_get_within keys i k there) there);
  }

-- the sets of certificates are found among what is loaded of raised ones
pub found_raised : (s : Table) (see : (ℕ → Bool) → ℕ → Bool) (nodes raised : List Entry) (keys values : List ℕ)
    (loaded : List NodeId) → AreRaised nodes keys raised values → AreMoved s see raised loaded →
    AreFound s see nodes keys values loaded
found_raised s see nodes raised keys values loaded are moved = record {
  known = λ n id at. (moved.each n id at).known;
  each = λ i k n id key_is value_is at.
      let told = are.told.each i k n key_is value_is in
      let is = moved.each n id at in
      record { known = is.known; meaning = λ v. is.meaning v ∙ told.same (see v) };
}

-- what is read of the values of raised sets is below the number of their diagrams
pub values_given : (many : ℕ) (raised given : List Entry) (values given_values : List ℕ) → given ≡ raised →
    given_values ≡ values → many ≡ ids_of given → All (λ value. value < ids_of raised) values →
    All (λ value. value < many) given_values
values_given many raised given values given_values same values_same count below =
    subst (All (λ (value : ℕ). value < many)) (sym values_same)
    (λ i d within.
    let low = below i d within in
    let long = ap (λ (es : List Entry). length es) same in
    omega (arith, low, count, long))
