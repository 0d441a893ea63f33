-- The pairs of all shapes, and the states at which some move is good.
use Rattle.std.proofs.Common.{◌≡◌, ◌⊎◌, inl, inr, ℕ, ◌+◌, ◌-◌, ◌<◌, ◌≤◌, Bool, true, false, ◌||◌, List, [], ◌∷◌, ◌++◌}
use Rattle.std.proofs.Common.{Option, Some, length, nat_lt, refl, sym, ap, ◌∙◌, subst, arith}
use Rattle.std.proofs.lemmas.Bool.{cases_lt, true≢false}
use Rattle.std.proofs.lemmas.Bool.Decides.{nat_tests}
use Rattle.std.proofs.lemmas.List.{get_or_append_left, get_or_at, get_or_past, length_push}
use Rattle.std.proofs.lemmas.List.FromFn.{get_or-range_with_len, length-range_with_len}
use Rattle.std.specs.List.{range_with_len}
use Rattle.std.specs.Prelude.{Contains, if◌then◌else◌, slice_get}
use Rattle.tm_dd.specs.declared.node.NodeId.{NodeId}
use Rattle.tm_dd.specs.declared.node.TheConstants.{FALSE}
use Rattle.tm_dd.specs.Table.{Knows, Table, means}
use Rattle.tm_dd.proofs.CallerLaws.{means-FALSE}
use Rattle.tm_ddops.specs.Manager.{IsFunction}
use Rattle.tm_ddops.specs.Quantified.{AgreeElsewhere, IsExists}
use Rattle.tm_flat.specs.Inputs.{room}
use Rattle.tm_game.specs.Game.{GameData, Grows, IsSet}
use Rattle.tm_game.specs.declared.moves.MoveShape.{MoveShape}
use Rattle.tm_game.proofs.MadeSets.{false_set}
use Rattle.tm_game_bits.specs.Functions.{Assignment}
use Rattle.tm_game_bits.specs.States.{AreOneState, ReadsState}
use Rattle.tm_game_bits.proofs.Bits.{range_within}
use Rattle.tm_game_bits.proofs.Extended.{IsSetOf-Extends, Knows-Extends, means-Extends}
use Rattle.tm_game_bits.proofs.Sets.{some_true, true_first, true_second}
use Rattle.tm_strat.specs.Choice.{HasPair, id_in}
use Rattle.tm_strat.specs.Targets.{AreSets}
use Rattle.tm_strat.specs.Zoned.{AreArgumentLevels, AreShapePairs, AreZonePairs, IsCareOf, IsZonePair}
use Rattle.tm_syntax.specs.Design.{DesignTree}

-- ---- lists
-- an id of a list behind which another was put
pub id_before : (ids : List NodeId) (id : NodeId) (more : List NodeId) → more ≡ ids ++ id ∷ [] → (k : ℕ) →
    k < length ids → id_in more k ≡ id_in ids k
id_before ids id more items k below =
    ap (λ (l : List NodeId). id_in l k) items ∙ get_or_append_left ids (id ∷ []) FALSE k below

pub id_last : (ids : List NodeId) (id : NodeId) (more : List NodeId) → more ≡ ids ++ id ∷ [] → (k : ℕ) →
    length ids ≡ k → id_in more k ≡ id
id_last ids id more items k same = ap (λ (l : List NodeId). id_in l k) items ∙ get_or_at ids id [] FALSE k same

pub long_more : (ids : List NodeId) (id : NodeId) (more : List NodeId) → more ≡ ids ++ id ∷ [] →
    length more ≡ length ids + 1
long_more ids id more items =
    let long = length_push ids id in ap (λ (l : List NodeId). length l) items ∙ omega (arith, long)

-- one of a list of sets, the empty one past its end
pub set_in : (g : GameData) (ids : List NodeId) → AreSets g ids → (k : ℕ) → IsSet g (id_in ids k)
set_in g ids sets k =
    elim (cases_lt k (length ids)) as (λ _. IsSet g (id_in ids k)) [
      | inl below ↦ sets.each k (id_in ids k) (Rattle.std.proofs.lemmas.Option.slice_get-get_or ids k FALSE below)
      | inr past ↦ subst (IsSet g) (sym (get_or_past ids k FALSE past)) (false_set g)
    ]

-- ---- the pairs of all shapes
module _ (d : DesignTree) (g : GameData) (zones targets : List NodeId) (shapes : List MoveShape) where
  pub shapes_none : (t : Table) → AreShapePairs d g zones targets t shapes [] 0
  shapes_none t = record { count_is = refl; each = λ k shape below there. absurd (omega arith) }

  pub shapes_more : (m h : GameData) → Grows m h → (k : ℕ) (shape : MoveShape) (good : NodeId)
      (pairs more : List NodeId) → slice_get shapes k ≡ Some shape →
      AreShapePairs d g zones targets m.diagrams.table shapes pairs k →
      AreZonePairs d g zones targets (length targets) h.diagrams.table shape good → more ≡ pairs ++ good ∷ [] →
      AreShapePairs d g zones targets h.diagrams.table shapes more (k + 1)
  shapes_more m h grows k shape good pairs more here before last items = record {
    count_is = let long = long_more pairs good more items in let count = before.count_is in omega (arith, long, count);
    each = λ j other below there. at j other below there (cases_lt j k);
  }
    where
      at : (j : ℕ) (other : MoveShape) → j < k + 1 → slice_get shapes j ≡ Some other → (j < k) ⊎ (k ≤ j) →
          AreZonePairs d g zones targets (length targets) h.diagrams.table other (id_in more j)
      at j other below there (inl low) =
          let count = before.count_is in
          subst (λ (i : NodeId). AreZonePairs d g zones targets (length targets) h.diagrams.table other i)
          (sym (id_before pairs good more items j (omega (arith, low, count))))
          (IsSetOf-Extends m.diagrams.table h.diagrams.table grows.diagrams
          (IsZonePair d g zones targets (length targets) other) (id_in pairs j) (before.each j other low there))
      at j other below there (inr high) =
          let count = before.count_is in
          let same : k ≡ j = omega (arith, below, high) in
          let one : Some shape ≡ Some other = sym here ∙ ap (λ (n : ℕ). slice_get shapes n) same ∙ there in
          subst (λ (i : NodeId). AreZonePairs d g zones targets (length targets) h.diagrams.table other i)
          (sym (id_last pairs good more items j (omega (arith, count, same))))
          (subst (λ (s : MoveShape). AreZonePairs d g zones targets (length targets) h.diagrams.table s good)
          (Rattle.tm_strat.proofs.Carrying.some_same one) last)

-- ---- the states at which some move is good
pub care_none : (g : GameData) (t : Table) → IsCareOf g t [] FALSE
care_none g t = record {
  known = omega arith;
  only = λ v h. absurd (true≢false (sym h ∙ means-FALSE t v));
  all = λ v h. let low = h.below in absurd (omega (arith, low));
}

-- levels with the values of others where they are of arguments
mixed : ℕ → Assignment → Assignment → Assignment
mixed first v w k = if nat_lt k first then v k else (if nat_lt k (first + room) then w k else v k)

mixed_state : (first : ℕ) (v w : Assignment) → AreOneState first w v → AreOneState (first + room) (mixed first v w) w
unfolding mixed
mixed_state first v w one k below =
    elim (cases_lt k first) as (λ _. mixed first v w k ≡ w k) [
      | inl low ↦
          let is_low : nat_lt k first ≡ true = grind (arith, nat_tests, low) in
          ap (λ (b : Bool). if b then v k else (if nat_lt k (first + room) then w k else v k)) is_low ∙ sym (one k low)
      | inr high ↦
          let is_high : nat_lt k first ≡ false = grind (arith, nat_tests, high) in
          let within : nat_lt k (first + room) ≡ true = grind (arith, nat_tests, below) in
          ap (λ (b : Bool). if b then v k else (if nat_lt k (first + room) then w k else v k)) is_high
          ∙ ap (λ (b : Bool). if b then w k else v k) within
    ]

mixed_elsewhere : (first : ℕ) (levels : List ℕ) → levels ≡ range_with_len first room → (v w : Assignment) →
    AgreeElsewhere levels v (mixed first v w)
unfolding mixed
mixed_elsewhere first levels are v w k outside =
    elim (cases_lt k first) as (λ _. mixed first v w k ≡ v k) [
      | inl low ↦
          let is_low : nat_lt k first ≡ true = grind (arith, nat_tests, low) in
          ap (λ (b : Bool). if b then v k else (if nat_lt k (first + room) then w k else v k)) is_low
      | inr high ↦
          let is_high : nat_lt k first ≡ false = grind (arith, nat_tests, high) in
          ap (λ (b : Bool). if b then v k else (if nat_lt k (first + room) then w k else v k)) is_high ∙ behind high
    ]
  where
    there : first ≤ k → k < first + room → Contains levels k
    there high low =
        subst (λ (l : List ℕ). Contains l k) (sym are) (
          k - first,
          let long = length-range_with_len first room in omega (arith, long, high, low),
          get_or-range_with_len first room (k - first) k (omega (arith, high, low)) ∙ omega (arith, high),
        )

    behind : first ≤ k → (if nat_lt k (first + room) then w k else v k) ≡ v k
    behind high =
        elim (cases_lt k (first + room)) as (λ _. (if nat_lt k (first + room) then w k else v k) ≡ v k) [
          | inl low ↦ absurd (outside (there high low))
          | inr past ↦
              let not_so : nat_lt k (first + room) ≡ false = grind (arith, nat_tests, past) in
              ap (λ (b : Bool). if b then w k else v k) not_so
        ]

-- one shape more
module _ (g m e h : GameData) (to_e : Grows m e) (to_h : Grows e h) (levels : List ℕ)
    (are : AreArgumentLevels g levels) (pairs more : List NodeId) (care good states id : NodeId)
    (before : IsCareOf g m.diagrams.table pairs care)
    (pairs_known : (k : ℕ) → k < length pairs → Knows m.diagrams.table (id_in pairs k))
    (good_known : Knows e.diagrams.table good)
    (reads : ReadsState (length g.order + room) (means e.diagrams.table good))
    (exists : IsExists e.diagrams.table levels good states)
    (made : IsFunction h.diagrams.table id (λ v. means h.diagrams.table care v || means h.diagrams.table states v))
    (items : more ≡ pairs ++ good ∷ []) where
  care_same : (v : Assignment) → means h.diagrams.table care v ≡ means m.diagrams.table care v
  care_same v =
      let known_e = Knows-Extends m.diagrams.table e.diagrams.table to_e.diagrams care before.known in
      ap (λ f. f v)
      (means-Extends e.diagrams.table h.diagrams.table to_h.diagrams care known_e
      ∙ means-Extends m.diagrams.table e.diagrams.table to_e.diagrams care before.known)

  states_same : (v : Assignment) → means h.diagrams.table states v ≡ means e.diagrams.table states v
  states_same v =
      ap (λ f. f v) (means-Extends e.diagrams.table h.diagrams.table to_h.diagrams states exists.known)

  good_same : (v : Assignment) → means h.diagrams.table good v ≡ means e.diagrams.table good v
  good_same v = ap (λ f. f v) (means-Extends e.diagrams.table h.diagrams.table to_h.diagrams good good_known)

  pair_same : (k : ℕ) → k < length pairs → (v : Assignment) →
      means h.diagrams.table (id_in pairs k) v ≡ means m.diagrams.table (id_in pairs k) v
  pair_same k below v =
      let known_m = pairs_known k below in
      let known_e = Knows-Extends m.diagrams.table e.diagrams.table to_e.diagrams (id_in pairs k) known_m in
      ap (λ f. f v)
      (means-Extends e.diagrams.table h.diagrams.table to_h.diagrams (id_in pairs k) known_e
      ∙ means-Extends m.diagrams.table e.diagrams.table to_e.diagrams (id_in pairs k) known_m)

  long : length more ≡ length pairs + 1
  long = long_more pairs good more items

  only : (v : Assignment) → (means h.diagrams.table care v ≡ true) ⊎ (means h.diagrams.table states v ≡ true) →
      HasPair (length g.order) h.diagrams.table more v
  only v (inl earlier) =
      let pair = before.only v (sym (care_same v) ∙ earlier) in
      let low = pair.below in
      record {
        shape = pair.shape;
        values = pair.values;
        below = omega (arith, low, long);
        same = pair.same;
        good = ap (λ (i : NodeId). means h.diagrams.table i pair.values)
            (id_before pairs good more items pair.shape low)
            ∙ pair_same pair.shape low pair.values
            ∙ pair.good;
      }
  only v (inr now) =
      let found = exists.some v (sym (states_same v) ∙ now) in
      record {
        shape = length pairs;
        values = found.0;
        below = omega (arith, long);
        same = λ k below.
            found.1 k
            (λ there.
            let within = range_within (length g.order) room k (subst (λ (l : List ℕ). Contains l k) are there) in
            omega (arith, below, within.0));
        good = ap (λ (i : NodeId). means h.diagrams.table i found.0) (id_last pairs good more items (length pairs) refl)
            ∙ good_same found.0
            ∙ found.2;
      }

  all : (v : Assignment) (pair : HasPair (length g.order) h.diagrams.table more v) →
      (pair.shape < length pairs) ⊎ (length pairs ≤ pair.shape) →
      (means h.diagrams.table care v || means h.diagrams.table states v) ≡ true
  all v pair (inl low) =
      true_first (means h.diagrams.table care v) (means h.diagrams.table states v)
      (care_same v
      ∙ before.all v (record {
        shape = pair.shape;
        values = pair.values;
        below = low;
        same = pair.same;
        good = sym (pair_same pair.shape low pair.values)
            ∙ sym (ap (λ (i : NodeId). means h.diagrams.table i pair.values)
            (id_before pairs good more items pair.shape low))
            ∙ pair.good;
      }))
  all v pair (inr high) =
      let under = pair.below in
      let last : length pairs ≡ pair.shape = omega (arith, high, under, long) in
      let w = mixed (length g.order) v pair.values in
      true_second (means h.diagrams.table care v) (means h.diagrams.table states v)
      (states_same v
      ∙ exists.enough v w (mixed_elsewhere (length g.order) levels are v pair.values)
      (reads w pair.values (mixed_state (length g.order) v pair.values pair.same)
      ∙ sym (good_same pair.values)
      ∙ sym (ap (λ (i : NodeId). means h.diagrams.table i pair.values) (id_last pairs good more items pair.shape last))
      ∙ pair.good))

  pub care_more : IsCareOf g h.diagrams.table more id
  care_more = record {
    known = made.known;
    only = λ v held.
        only v (some_true (means h.diagrams.table care v) (means h.diagrams.table states v)
        (sym (made.meaning v) ∙ held));
    all = λ v pair. made.meaning v ∙ all v pair (cases_lt pair.shape (length pairs));
  }
