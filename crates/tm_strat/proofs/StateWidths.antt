-- The widths of the numbers of a state, among those of all inputs.
use Rattle.std.proofs.Common.{◌≡◌, ℕ, ◌+◌, ◌<◌, ◌≤◌, List, ◌++◌, length, get_or, min, replicate, take, ap, ◌∙◌}
use Rattle.std.proofs.Common.{subst, arith}
use Rattle.std.proofs.lemmas.List.{get_or_append_left, length-append, take-append-le, take_all}
use Rattle.std.specs.Prelude.{All}
use Rattle.tm_check.specs.Reads.{IsSized}
use Rattle.tm_flat.specs.Inputs.{input_widths, room}
use Rattle.tm_game.specs.Game.{GameData, IsOf}
use Rattle.tm_game.proofs.Shapes.{length-state_widths}
use Rattle.tm_sem.specs.StateBits.{state_widths}
use Rattle.tm_strat.specs.Fitting.{FitsCounts}
use Rattle.tm_strat.specs.declared.numbers.Counts.{Counts}
use Rattle.tm_syntax.specs.Design.{DesignTree}

module _ (d : DesignTree) where
  -- one for each bit of choices, and of arguments
  abbrev bits : List ℕ
  bits = replicate room 1

  long : length (input_widths d) ≡ length (state_widths d) + length bits + length bits
  long =
      let all = length-append (state_widths d ++ bits) bits in
      let first = length-append (state_widths d) bits in
      omega (arith, all, first)

  first_width : (k w : ℕ) → k < length (state_widths d) → get_or (input_widths d) k w ≡ get_or (state_widths d) k w
  first_width k w below =
      get_or_append_left (state_widths d ++ bits) bits w k (omega (arith, below, length-append (state_widths d) bits))
      ∙ get_or_append_left (state_widths d) bits w k below

  first_widths : take (length (state_widths d)) (input_widths d) ≡ state_widths d
  first_widths =
      take-append-le (length (state_widths d)) (state_widths d ++ bits) bits
      (omega (arith, length-append (state_widths d) bits))
      ∙ take-append-le (length (state_widths d)) (state_widths d) bits (omega arith)
      ∙ take_all (length (state_widths d)) (state_widths d) (omega arith)

  module _ (g : GameData) (of : IsOf d g) where
    -- numbers of a state have at most 64 bits
    pub wide_states : IsSized g → All (λ w. w ≤ 64) (state_widths d)
    wide_states sized k w below =
        let all = long in
        let same = ap (λ (l : List ℕ). length l) of.flat.inputs in
        subst (λ (n : ℕ). n ≤ 64) (ap (λ (l : List ℕ). get_or l k w) of.flat.inputs ∙ first_width k w below)
        (sized.wide k w (omega (arith, below, all, same)))

    -- there are fewer than 2^32 of them
    pub few_states : IsSized g → length (state_widths d) < 4294967296
    few_states sized =
        let all = long in
        let same = ap (λ (l : List ℕ). length l) of.flat.inputs in
        let few = sized.inputs in
        omega (arith, all, same, few)

    module _ (c : Counts) (fits : FitsCounts d c) (all : List ℕ) (are : all ≡ g.flat.widths) (n : ℕ)
        (is : n ≡ min (c.vars + c.processes) 18446744073709551615) where
      states : length (state_widths d) ≡ c.vars + (c.processes + 1)
      states =
          let vars = fits.vars in
          let processes = fits.processes in
          let numbers = length-state_widths d in
          omega (arith, vars, processes, numbers)

      count : length all ≡ c.vars + (c.processes + 1) + length bits + length bits
      count =
          let same = ap (λ (l : List ℕ). length l) (are ∙ of.flat.widths) in
          let whole = long in
          let first = states in
          omega (arith, same, whole, first)

      -- the first ones are those of the state
      pub widths_taken : n < length all → length all ≤ 18446744073709551615 → (m : ℕ) → m ≡ n + 1 →
          (widths : List ℕ) → widths ≡ take m all → widths ≡ state_widths d
      widths_taken below small m more widths taken =
          let first = states in
          let place : m ≡ length (state_widths d) = omega (arith, below, small, more, is, first, count) in
          taken ∙ (λ i. take (place i) ((are ∙ of.flat.widths) i)) ∙ first_widths

      pub widths_past : length all ≤ n → (widths : List ℕ) → widths ≡ state_widths d
      widths_past past widths = let whole = count in absurd (omega (arith, past, whole, is))
