-- The numbers that certificates speak of, by the guarded updates of a design and by the design.
use Rattle.std.proofs.Common.{◌≡◌, ℕ, ◌+◌, ◌-◌, ◌^◌, ◌<◌, ◌≤◌, List, ◌++◌, map, length, take, replicate, refl, ap, ◌∙◌}
use Rattle.std.proofs.Common.{arith, not, append_assoc, length-append}
use Rattle.std.specs.Prelude.{sum}
use Rattle.std.specs.List.{range_with_len}
use Rattle.std.proofs.lemmas.List.{length-map, length-replicate}
use Rattle.std.proofs.lemmas.List.Filters.{length-filter_both}
use Rattle.std.proofs.lemmas.List.FromFn.{length-range_with_len}
use Rattle.std.proofs.lemmas.Slice.Zip.{AllZip-long}
use Rattle.std.proofs.Math.Seq.{take-append_seam}
use Rattle.tm_cert.specs.declared.shape.Kind.{Kind}
use Rattle.tm_flat.specs.Flat.{FlatTerms}
use Rattle.tm_flat.specs.Inputs.{room, input_widths}
use Rattle.tm_flat.specs.IsFlat.{IsFairTerm, IsFlat, IsGoalTerm}
use Rattle.tm_flat.proofs.Widths.{few_state_bits}
use Rattle.tm_judge.specs.FlatShape.{capped, design_shape, flat_shape, flat_bits}
use Rattle.tm_sem.specs.Fairness.{conditions, is_owed, of_process, of_text, owed}
use Rattle.tm_sem.specs.StateBits.{state_widths}
use Rattle.tm_syntax.proofs.Limits as limits
use Rattle.tm_syntax.specs.Design.{DesignTree}
use Rattle.tm_syntax.specs.Faults.{IsSound}
use Rattle.tm_term.specs.Table.{Table}

-- what stands before the bits of choices and of arguments
front : (xs : List ℕ) (n : ℕ) →
    take (length (xs ++ replicate n 1 ++ replicate n 1) - (n + n)) (xs ++ replicate n 1 ++ replicate n 1) ≡ xs
front xs n =
    let bits : List ℕ = replicate n 1 in
    let count : length (xs ++ bits ++ bits) - (n + n) ≡ length xs =
    omega (arith, length-append (xs ++ bits) bits, length-append xs bits, length-replicate {A = ℕ} n 1) in
    ap (λ k. take k (xs ++ bits ++ bits)) count ∙ ap (take (length xs)) (append_assoc xs bits bits)
    ∙ take-append_seam xs (bits ++ bits)

-- the inputs of a state have the widths of the state's numbers
bits_are : (d : DesignTree) (widths : List ℕ) → widths ≡ input_widths d →
    sum (take (length widths - (room + room)) widths) ≡ sum (state_widths d)
bits_are d widths is =
    ap (λ (ws : List ℕ). sum (take (length ws - (room + room)) ws)) is ∙ ap sum (front (state_widths d) room)

-- the inputs of a state, as code cuts them off
pub states_cut : (widths cut : List ℕ) (count : ℕ) → count ≡ length widths - 128 → cut ≡ take count widths →
    capped (sum cut) ≡ capped (sum (take (length widths - (room + room)) widths))
unfolding room
states_cut widths cut count is same =
    ap (λ (ws : List ℕ). capped (sum ws)) (same ∙ ap (λ k. take k widths) is)

module _ (d : DesignTree) (sound : IsSound d) where
  pub few_conditions : length (conditions d) ≤ 63
  few_conditions =
      let all = length-append (map of_process (owed d)) (map of_text d.fairs) in
      let processes = length-map (owed d) of_process in
      let declared = length-map d.fairs of_text in
      let within = length-filter_both (is_owed d) (λ p. not (is_owed d p)) (λ p. refl)
      (range_with_len 0 (length d.processes)) in
      let count = length-range_with_len 0 (length d.processes) in
      let few_processes = limits.few_processes d sound in
      let few_fairs = limits.few_fairs d sound in
      omega (arith, all, processes, declared, within, count, few_processes, few_fairs)

-- a number of 32 bits is as it was
kept : (n m : ℕ) → n ≡ m → m < 2 ^ 32 → capped n ≡ m
kept n m same small = omega arith

-- guarded updates and the sound design that they are of ask the same of certificates
pub shapes_agree : (t : Table) (d : DesignTree) (f : FlatTerms) (wanted : Kind) → IsFlat t d f → IsSound d →
    flat_shape f wanted ≡ design_shape d wanted
shapes_agree t d f wanted flat sound =
    let bits : capped (flat_bits f) ≡ sum (state_widths d) =
    kept (flat_bits f) (sum (state_widths d)) (bits_are d f.widths flat.widths)
    (let few = few_state_bits d sound in omega (arith, few)) in
    let goals : capped (length f.goals) ≡ length d.goals =
    kept (length f.goals) (length d.goals)
    (AllZip-long (IsGoalTerm t d) (range_with_len 0 (length d.goals)) f.goals flat.goals
    ∙ length-range_with_len 0 (length d.goals))
    (let few = limits.few_goals d sound in omega (arith, few)) in
    let fairs : capped (length f.fairs) ≡ length (conditions d) =
    kept (length f.fairs) (length (conditions d))
    (AllZip-long (IsFairTerm t d) (range_with_len 0 (length (conditions d))) f.fairs flat.fairs
    ∙ length-range_with_len 0 (length (conditions d)))
    (let few = few_conditions d sound in omega (arith, few)) in
    λ i. record { bits = bits i; goals = goals i; fairs = fairs i; wanted = wanted }
