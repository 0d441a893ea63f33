-- Over all bits a move leads where it leads over all lists of choices.
use Rattle.std.proofs.Common.{◌≡◌, ◌≢◌, ℕ, ◌+◌, ◌<◌, ◌≤◌, Bool, true, false, Option, None, Some, List, [], map, length, refl, sym, ap, ◌∙◌, subst, arith, MatchOption, ◌⊎◌, inl, inr, fold, zip}
use Rattle.std.specs.Prelude.{◌==◌, ◌&&◌, slice_index, nat_lt, not}
use Rattle.std.specs.Bool.{then_some}
use Rattle.std.specs.Option.{option_map_or, option_and_then}
use Rattle.std.specs.List.{range_with_len}
use Rattle.std.proofs.lemmas.List.{get_or_past}
use Rattle.std.proofs.lemmas.List.FromFn.{length-map-range_with_len, get_or-map-range_with_len}
use Rattle.tm_base.specs.Arithmetic.{bit}
use Rattle.tm_syntax.specs.Design.{DesignTree}
use Rattle.tm_syntax.specs.Design.Cells.{Called}
use Rattle.tm_syntax.specs.Design.Locations.{rest, end_number}
use Rattle.tm_syntax.specs.Design.Work.{body_items}
use Rattle.tm_sem.specs.declared.state.Move.{Move}
use Rattle.tm_sem.specs.declared.state.Move.TheVariants as moves
use Rattle.tm_sem.specs.declared.state.Outcome.{Outcome}
use Rattle.tm_sem.specs.declared.state.Outcome.TheVariants.{NoOutcome}
use Rattle.tm_sem.specs.State.{StateData}
use Rattle.tm_sem.specs.Run.{Run}
use Rattle.tm_sem.specs.Step.{Work, work, call_work, arguments_fit, task_of, outcome_of, Comes, Step, stands_at_magic, is_driver_turn, memory_of}
use Rattle.tm_sem.specs.Value.{put}
use Rattle.tm_flat.specs.BitRun.{items_ending}
use Rattle.tm_flat.specs.BitStep.{outcome_at, HasRoom}
use Rattle.tm_flat.specs.Fitting.{ItemsFit}
use Rattle.tm_flat.specs.Inputs.{room, AreBits, bits_in}
use Rattle.tm_flat.proofs.ToBits.{list_to_bits}
use Rattle.tm_flat.proofs.ToList.{bits_to_list}

-- ---- bits as a list
abbrev pub listed : ℕ → (ℕ → Bool) → List ℕ
listed n bits = map (λ p. bit (bits p)) (range_with_len 0 n)

bit_small : (b : Bool) → bit b < 2
bit_small true = omega arith
bit_small false = omega arith

bit_is : (b : Bool) → (bit b == 1) ≡ b
bit_is true = refl
bit_is false = refl

within_or_past : (p n : ℕ) → (p < n) ⊎ (n ≤ p)
within_or_past p n = grind arith

module _ (n : ℕ) (bits : ℕ → Bool) where
  listed_within : (p : ℕ) → p < n → slice_index (listed n bits) p ≡ bit (bits p)
  listed_within p h = get_or-map-range_with_len (λ q. bit (bits q)) 0 n p p 0 h (omega arith)

  listed_past : (p : ℕ) → n ≤ p → slice_index (listed n bits) p ≡ 0
  listed_past p h = get_or_past (listed n bits) p 0 (omega (arith, length-map-range_with_len (λ q. bit (bits q)) 0 n))

  listed_small : (p : ℕ) → slice_index (listed n bits) p < 2
  listed_small p = of (within_or_past p n)
    where
      of : (p < n) ⊎ (n ≤ p) → slice_index (listed n bits) p < 2
      of (inl h) = omega (arith, listed_within p h, bit_small (bits p))
      of (inr h) = omega (arith, listed_past p h)

  listed_reads : ((p : ℕ) → n ≤ p → bits p ≡ false) → (p : ℕ) → bits_in (listed n bits) p ≡ bits p
  listed_reads off p = of (within_or_past p n)
    where
      of : (p < n) ⊎ (n ≤ p) → bits_in (listed n bits) p ≡ bits p
      of (inl h) = ap (λ x. x == 1) (listed_within p h) ∙ bit_is (bits p)
      of (inr h) = ap (λ x. x == 1) (listed_past p h) ∙ sym (off p h)

  pub listed_is : ((p : ℕ) → n ≤ p → bits p ≡ false) → bits_in (listed n bits) ≡ bits
  listed_is off = λ i p. listed_reads off p i

pub listed_are_bits : (bits : ℕ → Bool) → AreBits (listed room bits)
listed_are_bits bits = record {
  count = length-map-range_with_len (λ q. bit (bits q)) 0 room;
  each = listed_small room bits;
}

-- ---- what is done in a step fits
then_is : {X : Type 0} → (b : Bool) (a v : X) → then_some b a ≡ Some v → a ≡ v
then_is true a v is = cc
then_is false a v is = absurd (cc)

module _ (d : DesignTree) (fits : HasRoom d) (s : StateData) where
  nothing_fits : ItemsFit room d [] 0
  nothing_fits = omega arith

  call_fits : (t : ℕ) (args : List ℕ) (v : Work) → call_work d s t args ≡ Some v → ItemsFit room d v.items 0
  call_fits t args v = of (task_of d t) refl
    where
      of : (c : Option Called) → task_of d t ≡ c →
          option_and_then (λ callee. then_some (is_driver_turn d s && arguments_fit d callee.params args)
          (record {
            items = body_items callee.scope [] callee.body;
            memory = fold (λ m p. put m p.0 p.1) (memory_of s) (zip callee.params args);
            mover = None;
            last = 1;
          })) c ≡ Some v → ItemsFit room d v.items 0
      of None known is = absurd (cc)
      of (Some callee) known is =
          subst (λ (w : Work). ItemsFit room d w.items 0)
          (then_is (is_driver_turn d s && arguments_fit d callee.params args)
          (record {
            items = body_items callee.scope [] callee.body;
            memory = fold (λ m p. put m p.0 p.1) (memory_of s) (zip callee.params args);
            mover = None;
            last = 1;
          }) v is)
          (fits.tasks t callee known)

  work_fits : (move : Move) (v : Work) → work d s move ≡ Some v → ItemsFit room d v.items 0
  work_fits moves.Stutter v is =
      let same : record { items = []; memory = memory_of s; mover = None; last = 0 } ≡ v = cc in
      subst (λ (w : Work). ItemsFit room d w.items 0) same nothing_fits
  work_fits (moves.Process p) v is =
      subst (λ (w : Work). ItemsFit room d w.items 0)
      (then_is
      (nat_lt p (length d.processes) && nat_lt (slice_index s.places p) (end_number d p) && not (stands_at_magic d s p))
      (record { items = rest d p (slice_index s.places p); memory = memory_of s; mover = Some p; last = 2 + p }) v is)
      (fits.processes p (slice_index s.places p))
  work_fits moves.Idle v is =
      subst (λ (w : Work). ItemsFit room d w.items 0)
      (then_is (is_driver_turn d s) (record { items = []; memory = memory_of s; mover = None; last = 1 }) v is)
      nothing_fits
  work_fits (moves.Leave p) v is =
      subst (λ (w : Work). ItemsFit room d w.items 0)
      (then_is (nat_lt p (length d.processes) && stands_at_magic d s p)
      (record { items = rest d p (slice_index s.places p); memory = memory_of s; mover = Some p; last = 1 }) v is)
      (fits.processes p (slice_index s.places p))
  work_fits (moves.Call t args) v is = call_fits t args v is

-- ---- the two laws
-- where bits lead, some choices lead
pub steps_of_bits : (d : DesignTree) (s : StateData) (move : Move) (bits : ℕ → Bool) →
    outcome_at d s move bits ≢ NoOutcome → (choices : List ℕ) × Step d s move choices (outcome_at d s move bits)
steps_of_bits d s move bits = of (work d s move)
  where
    of : (w : Option Work) →
        option_map_or (λ w. outcome_of d s w (items_ending d bits w.items 0 w.memory)) w NoOutcome ≢ NoOutcome →
        (choices : List ℕ) × MatchOption w
        (option_map_or (λ w. outcome_of d s w (items_ending d bits w.items 0 w.memory)) w NoOutcome ≡ NoOutcome)
        (λ v. Comes d s v choices
        (option_map_or (λ w. outcome_of d s w (items_ending d bits w.items 0 w.memory)) w NoOutcome))
    of None there = absurd (there refl)
    of (Some w) there =
        let found : (cs : List ℕ) × Run d w.items w.memory cs (items_ending d bits w.items 0 w.memory) =
        bits_to_list d bits w.items 0 w.memory (λ is. there (ap (outcome_of d s w) is)) in
        (found.0, record { end = items_ending d bits w.items 0 w.memory; run = found.1; outcome = refl })

-- where choices lead, some bits lead
pub bits_of_steps : (d : DesignTree) → HasRoom d → (s : StateData) (move : Move) (choices : List ℕ) (o : Outcome) →
    o ≢ NoOutcome → Step d s move choices o →
    (bits : List ℕ) × AreBits bits × (outcome_at d s move (bits_in bits) ≡ o)
bits_of_steps d fits s move choices o there step =
    let found : (bits : ℕ → Bool) × ((p : ℕ) → room ≤ p → bits p ≡ false) × (outcome_at d s move bits ≡ o) =
    of (work d s move) (work_fits d fits s move) step in (
      listed room found.0,
      listed_are_bits found.0,
      ap (outcome_at d s move) (listed_is room found.0 found.1) ∙ found.2,
    )
  where
    of : (w : Option Work) → ((v : Work) → w ≡ Some v → ItemsFit room d v.items 0) →
        MatchOption w (o ≡ NoOutcome) (λ v. Comes d s v choices o) →
        (bits : ℕ → Bool) × ((p : ℕ) → room ≤ p → bits p ≡ false)
        × (option_map_or (λ v. outcome_of d s v (items_ending d bits v.items 0 v.memory)) w NoOutcome ≡ o)
    of None enough comes = absurd (there comes)
    of (Some v) enough comes =
        let found : (bits : ℕ → Bool) × ((p : ℕ) → room ≤ p → bits p ≡ false)
        × (items_ending d bits v.items 0 v.memory ≡ comes.end) =
        list_to_bits d room 0 v.items (enough v refl) v.memory choices comes.end comes.run
        (λ is. there (comes.outcome ∙ ap (outcome_of d s v) is)) in
        (found.0, found.1, ap (outcome_of d s v) found.2 ∙ sym comes.outcome)
