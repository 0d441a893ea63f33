-- Where a process stands at a magic block.
use Rattle.std.proofs.Common.{◌≡◌, ◌⊎◌, ℕ, ◌+◌, ◌<◌, ◌≤◌, Bool, true, false, ◌||◌, List, length, get_or, inl, inr, sym, ap, ◌∙◌, subst, arith}
use Rattle.std.proofs.lemmas.Bool.{cases_lt}
use Rattle.std.proofs.lemmas.List.{get_or_default}
use Rattle.std.proofs.lemmas.List.Elements.{All-weaker}
use Rattle.tm_base.specs.Arithmetic.{bit}
use Rattle.tm_dd.specs.declared.node.NodeId.{NodeId}
use Rattle.tm_dd.specs.declared.node.TheConstants.{FALSE}
use Rattle.tm_dd.specs.Reduced.{Extends}
use Rattle.tm_dd.specs.Table.{Table, Knows, means}
use Rattle.tm_dd.proofs.CallerLaws.{means-FALSE}
use Rattle.tm_ddops.specs.Manager.{IsFunction}
use Rattle.tm_game_bits.specs.Diagrams.{IsSetOf}
use Rattle.tm_game_bits.specs.Functions.{Assignment}
use Rattle.tm_game_bits.proofs.Sets.{IsSetOf-same, some_true, true_first, true_second}
use Rattle.tm_game_steps.specs.declared.places.Place.{Place}
use Rattle.tm_game_steps.specs.Inner.Turns.{AreTests, HasBlockBelow, IsBlockAt}
use Rattle.tm_game_steps.specs.Places.{ArePlaces, IsPlace, IsTest}
use Rattle.tm_game_steps.specs.Setting.{IsTruthIn, Setting, has_value, values_at}
use Rattle.tm_game_steps.proofs.Ready.{same_bit}
use Rattle.tm_term.specs.Table.{Table as Terms}

-- the places of tables have tests
pub tests_of : (t : Terms) (rows : List (List Bool)) (first : ℕ) (places : List Place) → ArePlaces t rows first places →
    AreTests t first places
tests_of t rows first places are =
    All-weaker (IsPlace t rows first)
    (λ (place : Place). IsTest t (first + place.process) place.location place.stands)
    (λ (place : Place) is. is.stands) places are.each

pub turn_none : (x : Setting) (s : Table) (places : List Place) → IsSetOf s (HasBlockBelow x places 0) FALSE
turn_none x s places = record {
  known = omega arith;
  only = λ v h. let never = means-FALSE s v in absurd (cc);
  all = λ v h. absurd (omega (arith, h.1));
}

-- one more place
pub turn_more : (x : Setting) (s u : Table) (places : List Place) (index : ℕ) (place : Place) (turn id : NodeId) →
    index < length places → place ≡ get_or places index place → IsSetOf s (HasBlockBelow x places index) turn →
    IsSetOf u (λ v. (means s turn v ≡ true) ⊎ IsBlockAt x place v) id →
    IsSetOf u (HasBlockBelow x places (index + 1)) id
turn_more x s u places index place turn id inside here so_far is =
    IsSetOf-same u (λ v. (means s turn v ≡ true) ⊎ IsBlockAt x place v) (HasBlockBelow x places (index + 1)) id to from
    is
  where
    place_is : (d : Place) → get_or places index d ≡ place
    place_is d = get_or_default places index d place inside ∙ sym here

    to : (v : Assignment) → (means s turn v ≡ true) ⊎ IsBlockAt x place v → HasBlockBelow x places (index + 1) v
    to v (inl earlier) = let found = so_far.only v earlier in (found.0, omega (arith, found.1), found.2)
    to v (inr block) =
        (index, omega arith, λ d. subst (λ (p : Place). IsBlockAt x p v) (sym (place_is d)) block)

    from : (v : Assignment) → HasBlockBelow x places (index + 1) v → (means s turn v ≡ true) ⊎ IsBlockAt x place v
    from v found =
        elim (cases_lt found.0 index) as (λ _. (means s turn v ≡ true) ⊎ IsBlockAt x place v) [
          | inl before ↦ inl (so_far.all v (found.0, before, found.2))
          | inr behind ↦
              let at : found.0 ≡ index = omega (arith, found.1) in
              inr
              (subst (λ (p : Place). IsBlockAt x p v) (ap (λ k. get_or places k place) at ∙ place_is place)
              (found.2 place))
        ]

-- a place that is no block
pub turn_skip : (x : Setting) (s : Table) (place : Place) (other : NodeId) → place.magic ≡ false → Knows s other →
    IsSetOf s (λ v. (means s other v ≡ true) ⊎ IsBlockAt x place v) other
turn_skip x s place other no_block known = record { known = known; only = λ v h. inl h; all = all }
  where
    all : (v : Assignment) → (means s other v ≡ true) ⊎ IsBlockAt x place v → means s other v ≡ true
    all v (inl h) = h
    all v (inr block) = let two = block.0 in absurd (cc)

-- a place that is one
pub turn_here : (x : Setting) (s t u : Table) (place : Place) (other here id : NodeId) → place.magic ≡ true →
    Knows s other → Extends s t → Extends t u →
    IsTest x.terms (x.first + place.process) place.location place.stands → IsTruthIn x t place.stands here →
    IsFunction u id (λ v. means u other v || means u here v) →
    IsSetOf u (λ v. (means s other v ≡ true) ⊎ IsBlockAt x place v) id
turn_here x s t u place other here id block known first second test truth is =
    record { known = is.known; only = only; all = all }
  where
    other_same : (v : Assignment) → means u other v ≡ means s other v
    other_same v =
        second.same_meaning other (Rattle.tm_game_bits.proofs.Extended.Knows-Extends s t first other known) v
        ∙ first.same_meaning other known v

    -- the diagram is true where the process stands there
    bits : (v : Assignment) → bit (means u here v)
        ≡ bit (has_value (x.first + place.process) place.location (values_at x v))
    bits v =
        ap bit (second.same_meaning here truth.known v) ∙ sym (truth.value v) ∙ test.is (values_at x v)

    only : (v : Assignment) → means u id v ≡ true → (means s other v ≡ true) ⊎ IsBlockAt x place v
    only v h =
        elim (some_true (means u other v) (means u here v) (sym (is.meaning v) ∙ h)) [
          | inl earlier ↦ inl (sym (other_same v) ∙ earlier)
          | inr stands ↦
              inr (
                block,
                same_bit (has_value (x.first + place.process) place.location (values_at x v)) (means u here v)
                    (sym (bits v)) stands,
              )
        ]

    all : (v : Assignment) → (means s other v ≡ true) ⊎ IsBlockAt x place v → means u id v ≡ true
    all v (inl h) = is.meaning v ∙ true_first (means u other v) (means u here v) (other_same v ∙ h)
    all v (inr at) =
        is.meaning v
        ∙ true_second (means u other v) (means u here v)
        (same_bit (means u here v) (has_value (x.first + place.process) place.location (values_at x v)) (bits v) at.1)

-- all places
pub turn_all : (x : Setting) (s : Table) (places : List Place) (index : ℕ) (turn : NodeId) → length places ≤ index →
    index ≤ length places → IsSetOf s (HasBlockBelow x places index) turn →
    IsSetOf s (HasBlockBelow x places (length places)) turn
turn_all x s places index turn low high is =
    let same : index ≡ length places = omega arith in
    subst (λ (n : ℕ). IsSetOf s (HasBlockBelow x places n) turn) same is
