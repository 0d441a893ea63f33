-- States that do not fall in a chain, place by place.
use Rattle.std.proofs.Common.{◌≡◌, ◌⊎◌, inl, inr, ℕ, ◌+◌, ◌<◌, ◌≤◌, Bool, true, false, ◌&&◌, ◌||◌, not, List, Some, length, take, get_or, sym, ap, ◌∙◌, subst, arith}
use Rattle.std.specs.Prelude.{◌↔◌, slice_get}
use Rattle.std.specs.List.{list_any}
use Rattle.std.proofs.Math.Nat.{eq-or-lt_of_le}
use Rattle.std.proofs.lemmas.Bool.{and_from, and_parts, or_cases, or_left, or_right}
use Rattle.std.proofs.lemmas.List.{length-map, take-map}
use Rattle.std.proofs.lemmas.List.Folds.{list_any_more}
use Rattle.std.proofs.lemmas.Option.{get_or_from_slice_get}
use Rattle.tm_dd.specs.declared.node.NodeId.{NodeId}
use Rattle.tm_dd.specs.Table.{means}
use Rattle.tm_envcheck.specs.Inner.Stuck.{IsSettled, IsStuckBelow, IsStuckIn, lower_than}
use Rattle.tm_envcheck.specs.Inner.Told.{chain_told}
use Rattle.tm_envcheck.proofs.Growing.{means_at, test_kept}
use Rattle.tm_envcheck.proofs.ChainParts.{any_told, told_at}
use Rattle.tm_envcheck.proofs.LevelParts.{decided_same, first_alone, forced_same, in_first_alone, test_is}
use Rattle.tm_verdict.specs.Levels.{IsAtPlace, IsForced}
use Rattle.tm_game_bits.specs.Functions.{Assignment}
use Rattle.tm_game.specs.Game.{GameData, Grows, IsSet}
use Rattle.tm_game.specs.Least.{test_of}
use Rattle.tm_sem.specs.Certificates.{either, set_before}
use Rattle.tm_sem.specs.State.{StateData}
use Rattle.tm_syntax.specs.Design.{DesignTree}

second_alone : (a b : Bool) → a ≡ false → (a || b) ≡ true → b ≡ true
second_alone true b out h = absurd (cc)
second_alone false b out h = h

-- ---- one place
module _ (d : DesignTree) (a b c e : GameData) (first : Grows a b) (second : Grows b c) (third : Grows c e)
    (unmet held before below set placed here lower : NodeId) (in_unmet : IsSet a unmet) (in_set : IsSet a set)
    (in_held : IsSet a held) (in_before : IsSet a before) (in_below : IsSet a below) (still_before : IsSet b before)
    (still_below : IsSet b below) (in_here : IsSet c here)
    (placed_is : (v : Assignment) → means b.diagrams.table placed v
    ≡ (means a.diagrams.table unmet v && means a.diagrams.table set v))
    (here_is : (v : Assignment) → means c.diagrams.table here v
    ≡ (means b.diagrams.table placed v && not (means b.diagrams.table held v)))
    (lower_is : (v : Assignment) → means e.diagrams.table lower v
    ≡ (means c.diagrams.table before v || means c.diagrams.table below v)) where
  here_at : (s : StateData) → test_of d e here s
      ≡ ((test_of d a unmet s && test_of d a set s) && not (test_of d a held s))
  here_at s =
      (λ i. test_kept c e third d here in_here i s)
      ∙ test_is d b c second here (λ v. means b.diagrams.table placed v && not (means b.diagrams.table held v)) here_is
      s
      ∙ (λ i.
      test_is d a b first placed (λ v. means a.diagrams.table unmet v && means a.diagrams.table set v) placed_is s i
      && not (test_kept a b first d held in_held i s))

  lower_at : test_of d e lower ≡ either (test_of d a before) (test_of d a below)
  lower_at =
      (λ i s.
      test_is d c e third lower (λ v. means c.diagrams.table before v || means c.diagrams.table below v) lower_is s i)
      ∙ (λ i s. test_kept b c second d before still_before i s || test_kept b c second d below still_below i s)
      ∙ (λ i s. test_kept a b first d before in_before i s || test_kept a b first d below in_below i s)

  pub stuck_at_value : (n : GameData) (id : NodeId) (s : StateData) → (test_of d n id s ≡ true)
      ↔ ((test_of d e here s ≡ true) × (¬ IsForced d (test_of d e lower) s)) → (test_of d n id s ≡ true)
      ↔ ((((test_of d a unmet s && test_of d a set s) && not (test_of d a held s)) ≡ true)
      × (¬ IsForced d (either (test_of d a before) (test_of d a below)) s))
  stuck_at_value n id s value = (
    λ there.
        let is = value.0 there in (
          sym (here_at s) ∙ is.0,
          λ forced. is.1
              (forced_same d (either (test_of d a before) (test_of d a below)) (test_of d e lower) s (sym lower_at)
              forced),
        ),
    λ is.
        value.1 (
          here_at s ∙ is.0,
          λ forced. is.1
              (forced_same d (test_of d e lower) (either (test_of d a before) (test_of d a below)) s lower_at forced),
        ),
  )

  pub stuck_at_decided : (s : StateData) →
      IsForced d (test_of d e lower) s ⊎ (¬ IsForced d (test_of d e lower) s) →
      IsForced d (either (test_of d a before) (test_of d a below)) s
      ⊎ (¬ IsForced d (either (test_of d a before) (test_of d a below)) s)
  stuck_at_decided s =
      decided_same d (test_of d e lower) (either (test_of d a before) (test_of d a below)) s lower_at

-- ---- place by place
module _ (d : DesignTree) (a g : GameData) (grown : Grows a g) (chain : List NodeId) (done : ℕ) (set : NodeId)
    (inside : done < length chain) (set_at : slice_get chain done ≡ Some set) (unmet below before held : NodeId)
    (in_unmet : IsSet a unmet) (in_below : IsSet a below) (in_before : IsSet a before) (in_set : IsSet a set)
    (lower : set_before (chain_told d a chain) done ≡ test_of d a before)
    (held_is : (v : Assignment) → means g.diagrams.table held v
    ≡ list_any (λ (id : NodeId). means a.diagrams.table id v) (take done chain)) where
  abbrev told : List (StateData → Bool)
  told = chain_told d a chain

  long : length told ≡ length chain
  long = length-map chain (test_of d a)

  told_here : slice_get told done ≡ Some (test_of d a set)
  told_here = told_at d a chain done set set_at

  held_at : (s : StateData) →
      test_of d g held s ≡ list_any (λ (one : StateData → Bool). one s) (take done told)
  held_at s =
      test_is d a g grown held (λ v. list_any (λ (id : NodeId). means a.diagrams.table id v) (take done chain)) held_is
      s
      ∙ sym (any_told d a (take done chain) s)
      ∙ ap (λ (sets : List (StateData → Bool)). list_any (λ (one : StateData → Bool). one s) sets)
      (sym (take-map (test_of d a) done chain))

  within_is : (s : StateData) → list_any (λ (one : StateData → Bool). one s) (take (1 + done) told)
      ≡ (list_any (λ (one : StateData → Bool). one s) (take done told) || test_of d a set s)
  within_is s =
      let more : 1 + done ≡ done + 1 = omega arith in
      ap (λ n. list_any (λ (one : StateData → Bool). one s) (take n told)) more
      ∙ list_any_more (λ (one : StateData → Bool). one s) told done (test_of d a set) (omega (arith, long))
      ∙ ap (λ (one : StateData → Bool). list_any (λ (other : StateData → Bool). other s) (take done told) || one s)
      (get_or_from_slice_get told done (test_of d a set) (test_of d a set) told_here)

  lower_is : either (test_of d a before) (test_of d a below) ≡ lower_than told (test_of d a below) done
  lower_is = λ i. either (sym lower i) (test_of d a below)

  lower_kept : either (test_of d g before) (test_of d g below) ≡ lower_than told (test_of d a below) done
  lower_kept =
      (λ i. either (test_kept a g grown d before in_before i) (test_kept a g grown d below in_below i)) ∙ lower_is

  abbrev IsHere : StateData → Type 0
  IsHere s =
      (test_of d a unmet s ≡ true) × IsAtPlace told done s
      × (¬ IsForced d (lower_than told (test_of d a below) done) s)

  -- what is found at this place
  here_iff : (n : GameData) (here : NodeId) (s : StateData) → (test_of d n here s ≡ true)
      ↔ ((((test_of d g unmet s && test_of d g set s) && not (test_of d g held s)) ≡ true)
      × (¬ IsForced d (either (test_of d g before) (test_of d g below)) s)) → (test_of d n here s ≡ true) ↔ IsHere s
  here_iff n here s value = (
    λ there.
        let is = value.0 there in
        let parts = in_first_alone (test_of d g unmet s && test_of d g set s) (test_of d g held s) is.0 in
        let both = and_parts (test_of d g unmet s) (test_of d g set s) parts.0 in (
          (λ i. sym (test_kept a g grown d unmet in_unmet) i s) ∙ both.0,
          record {
            below = omega (arith, long);
            within =
                within_is s
                ∙ or_right (list_any (λ (one : StateData → Bool). one s) (take done told)) (test_of d a set s)
                ((λ i. sym (test_kept a g grown d set in_set) i s) ∙ both.1);
            not_before = sym (held_at s) ∙ parts.1;
          },
          λ forced. is.1
              (forced_same d (lower_than told (test_of d a below) done)
              (either (test_of d g before) (test_of d g below)) s (sym lower_kept) forced),
        ),
    λ is.
        let set_there = second_alone (list_any (λ (one : StateData → Bool). one s) (take done told))
        (test_of d a set s) is.1.not_before (sym (within_is s) ∙ is.1.within) in
        value.1 (
          first_alone (test_of d g unmet s && test_of d g set s) (test_of d g held s)
              (and_from (test_of d g unmet s) (test_of d g set s)
              ((λ i. test_kept a g grown d unmet in_unmet i s) ∙ is.0)
              ((λ i. test_kept a g grown d set in_set i s) ∙ set_there))
              (held_at s ∙ is.1.not_before),
          λ forced. is.2
              (forced_same d (either (test_of d g before) (test_of d g below))
              (lower_than told (test_of d a below) done) s lower_kept forced),
        ),
  )

  -- one place more
  module _ (n m : GameData) (more : Grows g n) (here failing all : NodeId) (in_failing : IsSet g failing)
      (next : Grows n m)
      (all_is : (v : Assignment) → means m.diagrams.table all v
      ≡ (means n.diagrams.table failing v || means n.diagrams.table here v)) (o : GameData) (later : Grows m o)
      (in_all : IsSet m all) (s : StateData)
      (here_value : (test_of d n here s ≡ true)
      ↔ ((((test_of d g unmet s && test_of d g set s) && not (test_of d g held s)) ≡ true)
      × (¬ IsForced d (either (test_of d g before) (test_of d g below)) s)))
      (so_far : (test_of d g failing s ≡ true) ↔ IsStuckBelow d told (test_of d a unmet) (test_of d a below) done s)
    where
      all_at : test_of d o all s ≡ (test_of d g failing s || test_of d n here s)
      all_at =
          (λ i. test_kept m o later d all in_all i s)
          ∙ test_is d n m next all (λ v. means n.diagrams.table failing v || means n.diagrams.table here v) all_is s
          ∙ (λ i. test_kept g n more d failing in_failing i s || test_of d n here s)

      pub stuck_more : (test_of d o all s ≡ true)
          ↔ IsStuckBelow d told (test_of d a unmet) (test_of d a below) (done + 1) s
      stuck_more = (to, from)
        where
          to_one : (test_of d g failing s ≡ true) ⊎ (test_of d n here s ≡ true) →
              IsStuckBelow d told (test_of d a unmet) (test_of d a below) (done + 1) s
          to_one (inl earlier) =
              let was = so_far.0 earlier in
              (was.0, omega (arith, was.1), was.2, was.3, was.4)
          to_one (inr there) =
              let is = (here_iff n here s here_value).0 there in
              (done, omega arith, is.0, is.1, is.2)

          to : test_of d o all s ≡ true → IsStuckBelow d told (test_of d a unmet) (test_of d a below) (done + 1) s
          to there = to_one (or_cases (test_of d g failing s) (test_of d n here s) (sym all_at ∙ there))

          by : (x : ℕ) → (x ≡ done) ⊎ (x < done) → test_of d a unmet s ≡ true → IsAtPlace told x s →
              (¬ IsForced d (lower_than told (test_of d a below) x) s) → test_of d o all s ≡ true
          by x (inl same) met place free =
              all_at
              ∙ or_right (test_of d g failing s) (test_of d n here s)
              ((here_iff n here s here_value).1 (
                met,
                subst (λ (y : ℕ). IsAtPlace told y s) same place,
                subst (λ (y : ℕ). ¬ IsForced d (lower_than told (test_of d a below) y) s) same free,
              ))
          by x (inr earlier) met place free =
              all_at
              ∙ or_left (test_of d g failing s) (test_of d n here s) (so_far.1 (x, earlier, met, place, free))

          from : IsStuckBelow d told (test_of d a unmet) (test_of d a below) (done + 1) s → test_of d o all s ≡ true
          from (x, low, met, place, free) = by x (eq-or-lt_of_le (omega (arith, low))) met place free

  pub settled_more : (s : StateData) →
      ((x : ℕ) → x < done → IsSettled d told (test_of d a below) x s) →
      IsForced d (either (test_of d g before) (test_of d g below)) s
      ⊎ (¬ IsForced d (either (test_of d g before) (test_of d g below)) s) → (x : ℕ) → x < done + 1 →
      IsSettled d told (test_of d a below) x s
  settled_more s earlier here x low = by (eq-or-lt_of_le (omega (arith, low)))
    where
      by : (x ≡ done) ⊎ (x < done) → IsSettled d told (test_of d a below) x s
      by (inl same) =
          subst (λ (y : ℕ). IsSettled d told (test_of d a below) y s) (sym same)
          (decided_same d (either (test_of d g before) (test_of d g below))
          (lower_than told (test_of d a below) done) s lower_kept here)
      by (inr less) = earlier x less

-- none at the first place, and all at the end
pub stuck_first : (d : DesignTree) (chain : List (StateData → Bool)) (unmet below : StateData → Bool) (s : StateData)
    (b : Bool) → b ≡ false → (b ≡ true) ↔ IsStuckBelow d chain unmet below 0 s
stuck_first d chain unmet below s b out = (λ there. absurd (cc), λ is. absurd (omega (arith, is.1)))

pub stuck_all : (d : DesignTree) (chain : List (StateData → Bool)) (unmet below : StateData → Bool) (count : ℕ)
    (s : StateData) (b : Bool) → length chain ≤ count → (b ≡ true) ↔ IsStuckBelow d chain unmet below count s →
    (b ≡ true) ↔ IsStuckIn d chain unmet below s
stuck_all d chain unmet below count s b all value = (
  λ there. let is = value.0 there in (is.0, is.2, is.3, is.4),
  λ is. value.1 (is.0, omega (arith, is.2.below), is.1, is.2, is.3),
)

-- ---- the union of a chain
module _ (a g n : GameData) (grown : Grows a g) (chain : List NodeId) (done : ℕ) (held more : NodeId)
    (inside : done < length chain) (d : NodeId) (in_set : IsSet a (get_or chain done d))
    (held_is : (v : Assignment) → means g.diagrams.table held v
    ≡ list_any (λ (id : NodeId). means a.diagrams.table id v) (take done chain))
    (more_is : (v : Assignment) → means n.diagrams.table more v
    ≡ (means g.diagrams.table held v || means g.diagrams.table (get_or chain done d) v)) where
  pub union_more : (v : Assignment) → means n.diagrams.table more v
      ≡ list_any (λ (id : NodeId). means a.diagrams.table id v) (take (done + 1) chain)
  union_more v =
      more_is v
      ∙ (λ i. held_is v i || means_at a g grown (get_or chain done d) in_set v i)
      ∙ sym (list_any_more (λ (id : NodeId). means a.diagrams.table id v) chain done d inside)
