-- A part of an environment's certificate fails exactly where it is found to.
use Rattle.std.proofs.Common.{◌≡◌, ℕ, ◌+◌, ◌<◌, ◌≤◌, ◌⊎◌, inl, inr, Bool, true, false, List, take, refl, sym, ◌∙◌, subst, arith, true≢false}
use Rattle.std.specs.List.{list_any, position_or_len}
use Rattle.tm_syntax.specs.Design.{DesignTree}
use Rattle.tm_sem.specs.declared.state.Move.{Move}
use Rattle.tm_sem.specs.declared.state.Outcome.TheVariants.{Next}
use Rattle.tm_sem.specs.State.{StateData}
use Rattle.tm_sem.specs.Step.{IsState}
use Rattle.tm_sem.specs.Forcing.{Forced, Leads, by_driver, by_environment, errs, lands}
use Rattle.tm_sem.specs.Certificates.{IsIn, Level, level_before}
use Rattle.tm_verdict.specs.Environment.{FailsAt, LevelPart, begins_lost, grows, has_new, holds_before, is_chain, is_forced_on, is_forced_within, is_in_chain, lies_in, waits_or_falls}
use Rattle.tm_verdict.specs.Levels.{IsAtPlace, IsForced, IsFound, RestsOn, lower_at}
use Rattle.tm_verdict.specs.Regular.{IsRegular}
use Rattle.tm_verdict.proofs.Ranks.{before_or_not, some_place, stands, stands_before}

module _ (chain : List (StateData → Bool)) (s : StateData) where
  -- the place of a state in a chain
  abbrev pub place : ℕ
  place = position_or_len (λ (set : StateData → Bool). set s) chain

  place_is : (x : ℕ) → IsAtPlace chain x s → place ≡ x
  place_is x at = by (before_or_not place x)
    where
      by : (place < x) ⊎ (x ≤ place) → place ≡ x
      by (inl before) =
          absurd (true≢false
          (sym (stands (λ (set : StateData → Bool). set s) chain x before (omega (arith, before, at.below)))
          ∙ at.not_before))
      by (inr behind) =
          omega (arith, behind, stands_before (λ (set : StateData → Bool). set s) chain (1 + x) at.within)

  pub at_place : list_any (λ (set : StateData → Bool). set s) chain ≡ true → IsAtPlace chain place s
  at_place is = record {
    below = some_place (λ (set : StateData → Bool). set s) chain is;
    within =
        stands (λ (set : StateData → Bool). set s) chain (1 + place) (omega arith)
        (some_place (λ (set : StateData → Bool). set s) chain is);
    not_before = none (list_any (λ (set : StateData → Bool). set s) (take place chain)) refl;
  }
    where
      none : (b : Bool) → list_any (λ (set : StateData → Bool). set s) (take place chain) ≡ b →
          list_any (λ (set : StateData → Bool). set s) (take place chain) ≡ false
      none false same = same
      none true same =
          absurd (omega (arith, stands_before (λ (set : StateData → Bool). set s) chain place same))

module _ (d : DesignTree) (regular : IsRegular d) (levels : List Level) where
  leads_to_set : (set : StateData → Bool) (s : StateData) (move : Move) → Leads d (IsIn d set) s move →
      Leads d (λ t. set t ≡ true) s move
  leads_to_set set s move (errs choices step) = errs choices step
  leads_to_set set s move (lands choices t step into) = lands choices t step into.1

  leads_to_valid : (set : StateData → Bool) (s : StateData) (move : Move) → IsState d s →
      Leads d (λ t. set t ≡ true) s move → Leads d (IsIn d set) s move
  leads_to_valid set s move valid (errs choices step) = errs choices step
  leads_to_valid set s move valid (lands choices t step into) =
      lands choices t step (regular.steady s move choices (Next t) valid step, into)

  -- what is forced into the valid states of a set is forced into it, and from a valid state the other way round
  pub is_forced : (set : StateData → Bool) (s : StateData) → Forced d (IsIn d set) s → IsForced d set s
  is_forced set s (by_environment move others leads) = by_environment move others (leads_to_set set s move leads)
  is_forced set s (by_driver turn each) =
      by_driver turn (λ move allowed. leads_to_set set s move (each move allowed))

  pub forced_valid : (set : StateData → Bool) (s : StateData) → IsState d s → IsForced d set s →
      Forced d (IsIn d set) s
  forced_valid set s valid (by_environment move others leads) =
      by_environment move others (leads_to_valid set s move valid leads)
  forced_valid set s valid (by_driver turn each) =
      by_driver turn (λ move allowed. leads_to_valid set s move valid (each move allowed))

  pub fails : (part : LevelPart) → (s : StateData) → IsState d s → IsFound d levels part s → FailsAt d levels part s
  fails (holds_before k) s valid (l, is, here, out) = (l, is, (valid, here), out)
  fails (has_new k) s valid found = found
  fails (is_chain k i) s valid found = found
  fails (grows k i x) s valid (l, chain, set, is, of, at, here, out) = (l, chain, set, is, of, at, (valid, here), out)
  fails (lies_in k i x) s valid (l, chain, set, is, of, at, here, out) =
      (l, chain, set, is, of, at, (valid, here), out)
  fails begins_lost s valid found = found
  fails (is_forced_on k) s valid (l, is, added, holds, free) =
      (l, is, ((valid, added.0), added.1), holds, λ forced. free (is_forced (level_before levels k) s forced))
  fails (is_in_chain k i) s valid (l, chain, is, of, added, outside) =
      (l, chain, is, of, ((valid, added.0), added.1), outside)
  fails (is_forced_within k) s valid (l, is, added, free) =
      (l, is, ((valid, added.0), added.1), λ forced. free (is_forced l.set s forced))
  fails (waits_or_falls k i) s valid (l, chain, x, is, of, added, at, unfair, free) = (
    l,
    chain,
    is,
    of,
    ((valid, added.0), added.1),
    unfair,
    λ forced. free (is_forced (lower_at levels k chain x) s
        (subst (λ y. Forced d (IsIn d (lower_at levels k chain y)) s) (place_is chain s x at) forced)),
  )

  pub found : (part : LevelPart) → RestsOn d levels part → (s : StateData) → FailsAt d levels part s →
      IsState d s × IsFound d levels part s
  found (holds_before k) rests s (l, is, here, out) = (here.0, (l, is, here.1, out))
  found (has_new k) rests s fails = absurd fails
  found (is_chain k i) rests s fails = absurd fails
  found (grows k i x) rests s (l, chain, set, is, of, at, here, out) =
      (here.0, (l, chain, set, is, of, at, here.1, out))
  found (lies_in k i x) rests s (l, chain, set, is, of, at, here, out) =
      (here.0, (l, chain, set, is, of, at, here.1, out))
  found begins_lost rests s fails = absurd fails
  found (is_forced_on k) rests s (l, is, new, holds, free) = (
    new.0.0,
    (
      l,
      is,
      (new.0.1, new.1),
      holds,
      λ forced. free (forced_valid (level_before levels k) s new.0.0 forced),
    ),
  )
  found (is_in_chain k i) rests s (l, chain, is, of, new, outside) =
      (new.0.0, (l, chain, is, of, (new.0.1, new.1), outside))
  found (is_forced_within k) rests s (l, is, new, free) =
      (new.0.0, (l, is, (new.0.1, new.1), λ forced. free (forced_valid l.set s new.0.0 forced)))
  found (waits_or_falls k i) rests s (l, chain, is, of, new, unfair, free) = (
    new.0.0,
    (
      l,
      chain,
      place chain s,
      is,
      of,
      (new.0.1, new.1),
      at_place chain s (rests l chain s is of new),
      unfair,
      λ forced. free (forced_valid (lower_at levels k chain (place chain s)) s new.0.0 forced),
    ),
  )
