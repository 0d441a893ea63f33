-- The numbers of a valid state and bits are inputs of the terms.
use Rattle.std.proofs.Common.{◌≡◌, ℕ, zero, suc, ◌+◌, ◌^◌, ◌<◌, ◌≤◌, ◌++◌, List, [], ◌∷◌, map, length, replicate, refl, sym, ap, subst, slice_index, arith}
use Rattle.std.specs.List.{AllZip, range_with_len}
use Rattle.tm_term.specs.Table.{Table}
use Rattle.tm_term.specs.Value.{AreInputs}
use Rattle.tm_syntax.specs.declared.design.Ty.{Ty}
use Rattle.tm_syntax.specs.declared.design.Ty.TheVariants as types
use Rattle.tm_syntax.specs.declared.design.Var.{Var}
use Rattle.tm_syntax.specs.Design.{DesignTree}
use Rattle.tm_syntax.specs.Design.Locations.{end_number}
use Rattle.tm_syntax.specs.Design.Sizes.{bits_of_number, type_size, type_bits}
use Rattle.tm_sem.specs.State.{StateData}
use Rattle.tm_sem.specs.StateBits.{state_widths, state_numbers}
use Rattle.tm_sem.specs.Step.{IsState}
use Rattle.tm_flat.specs.Inputs.{room, AreBits, AreSmall, input_widths, input_values}
use Rattle.tm_flat.proofs.Widths.{number_has_bits, type_has_bits}

-- a number is of a width
abbrev Fits : ℕ → ℕ → Type 0
Fits width n = n < 2 ^ width

zip_append : (ws ns vs ms : List ℕ) → AllZip Fits ws ns → AllZip Fits vs ms → AllZip Fits (ws ++ vs) (ns ++ ms)
zip_append [] [] vs ms one other = other
zip_append [] (n ∷ ns) vs ms one other = absurd one
zip_append (w ∷ ws) [] vs ms one other = absurd one
zip_append (w ∷ ws) (n ∷ ns) vs ms one other = (one.0, zip_append ws ns vs ms one.1 other)

zip_mapped : {X : Type 0} → (R : X → ℕ → Type 0) (width : X → ℕ) (xs : List X) (ns : List ℕ) →
    ((x : X) (n : ℕ) → R x n → Fits (width x) n) → AllZip R xs ns → AllZip Fits (map width xs) ns
zip_mapped R width [] [] f all = tt
zip_mapped R width [] (n ∷ ns) f all = absurd all
zip_mapped R width (x ∷ xs) [] f all = absurd all
zip_mapped R width (x ∷ xs) (n ∷ ns) f all = (f x n all.0, zip_mapped R width xs ns f all.1)

bits_fit : (count : ℕ) (bits : List ℕ) → length bits ≡ count → ((k : ℕ) → slice_index bits k < 2) →
    AllZip Fits (replicate count 1) bits
bits_fit zero [] is small = tt
bits_fit zero (b ∷ bits) is small = absurd (omega arith)
bits_fit (suc n) [] is small = absurd (omega arith)
bits_fit (suc n) (b ∷ bits) is small =
    let first : b < 2 = small 0 in
    (omega arith, bits_fit n bits (omega arith) (λ k. small (suc k)))

zip_count : (ws ns : List ℕ) → AllZip Fits ws ns → length ns ≡ length ws
zip_count [] [] all = refl
zip_count [] (n ∷ ns) all = absurd all
zip_count (w ∷ ws) [] all = absurd all
zip_count (w ∷ ws) (n ∷ ns) all = ap suc (zip_count ws ns all.1)

zip_at : (ws ns : List ℕ) → AllZip Fits ws ns → (i : ℕ) → i < length ns → slice_index ns i < 2 ^ slice_index ws i
zip_at [] [] all i below = absurd (omega arith)
zip_at [] (n ∷ ns) all i below = absurd all
zip_at (w ∷ ws) [] all i below = absurd all
zip_at (w ∷ ws) (n ∷ ns) all zero below = all.0
zip_at (w ∷ ws) (n ∷ ns) all (suc i) below = zip_at ws ns all.1 i (omega arith)

module _ (d : DesignTree) (small : AreSmall d) where
  type_fits : (ty : Ty) (n : ℕ) → n < type_size d.spec ty → Fits (type_bits d.spec ty) n
  type_fits types.Bool n below = omega arith
  type_fits (types.Uint w) n below = below
  type_fits (types.Enum name) n below =
      let enough : type_size d.spec (types.Enum name) ≤ 2 ^ type_bits d.spec (types.Enum name) =
      type_has_bits d.spec (types.Enum name) (small.enums name) in
      omega arith

  place_fits : (p k : ℕ) → k ≤ end_number d p → Fits (bits_of_number (end_number d p)) k
  place_fits p k within =
      let below : end_number d p < 2 ^ bits_of_number (end_number d p) =
      number_has_bits (end_number d p) (small.locations p) in
      omega arith

  mover_fits : (last : ℕ) → last < 2 + length d.processes → Fits (bits_of_number (1 + length d.processes)) last
  mover_fits last within =
      let below : 1 + length d.processes < 2 ^ bits_of_number (1 + length d.processes) =
      number_has_bits (1 + length d.processes) small.processes in
      omega arith

  state_fits : (s : StateData) → IsState d s → AllZip Fits (state_widths d) (state_numbers s)
  state_fits s valid =
      zip_append
      (map (λ (v : Var). type_bits d.spec v.ty) d.vars
      ++ map (λ p. bits_of_number (end_number d p)) (range_with_len 0 (length d.processes)))
      (s.values ++ s.places) (bits_of_number (1 + length d.processes) ∷ []) (s.last ∷ [])
      (zip_append (map (λ (v : Var). type_bits d.spec v.ty) d.vars) s.values
      (map (λ p. bits_of_number (end_number d p)) (range_with_len 0 (length d.processes))) s.places
      (zip_mapped (λ (v : Var) n. n < type_size d.spec v.ty) (λ (v : Var). type_bits d.spec v.ty) d.vars s.values
      (λ v n below. type_fits v.ty n below) valid.values)
      (zip_mapped (λ p k. k ≤ end_number d p) (λ p. bits_of_number (end_number d p))
      (range_with_len 0 (length d.processes)) s.places place_fits valid.places))
      (mover_fits s.last valid.last, tt)

  pub are_inputs : (t : Table) (s : StateData) (choices arguments : List ℕ) → t.inputs ≡ input_widths d →
      IsState d s → AreBits choices → AreBits arguments → AreInputs t (input_values s choices arguments)
  are_inputs t s choices arguments widths valid these those =
      let all : AllZip Fits (input_widths d) (input_values s choices arguments) =
      zip_append (state_widths d ++ replicate room 1) (state_numbers s ++ choices) (replicate room 1) arguments
      (zip_append (state_widths d) (state_numbers s) (replicate room 1) choices (state_fits s valid)
      (bits_fit room choices these.count these.each))
      (bits_fit room arguments those.count those.each) in
      let fits : AllZip Fits t.inputs (input_values s choices arguments) =
      subst (λ (ws : List ℕ). AllZip Fits ws (input_values s choices arguments)) (sym widths) all in
      record {
        count = zip_count t.inputs (input_values s choices arguments) fits;
        in_range = zip_at t.inputs (input_values s choices arguments) fits;
      }
