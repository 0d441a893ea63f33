-- The game of a design in an order of its state bits.
use Rattle.std.proofs.Common.{◌≡◌, ℕ, ◌+◌, ◌≤◌, List, length, sym, ap, ◌∙◌, subst, arith}
use Rattle.std.specs.Prelude.{All, sum}
use Rattle.std.specs.List.{range_with_len}
use Rattle.std.proofs.lemmas.List.FromFn.{length-range_with_len}
use Rattle.std.proofs.lemmas.List.Sorted.{length_permutation}
use Rattle.std.proofs.lemmas.Slice.Zip.{AllZip-long}
use Rattle.tm_judge.specs.Ordered.{IsOrderedGame}
use Rattle.tm_flat.specs.Flat.{FlatTerms}
use Rattle.tm_flat.specs.IsFlat.{IsFairTerm, IsGoalTerm}
use Rattle.tm_game.specs.Game.{GameData, IsOf}
use Rattle.tm_game.specs.Start.{CanStart, state_bits_in}
use Rattle.tm_game.proofs.Ordered.{widths_are}
use Rattle.tm_game_bits.specs.Order.{IsOrder}
use Rattle.tm_game_pool.specs.Pooled.{HasPool}
use Rattle.tm_sem.specs.Fairness.{conditions}
use Rattle.tm_sem.specs.StateBits.{state_widths}
use Rattle.tm_syntax.specs.Design.{DesignTree}
use Rattle.tm_term.specs.Table.{Table}
use Rattle.tm_term.specs.Value.{Extends}

-- guarded updates of a design have as many bits of a state as the design
pub counted : (d : DesignTree) (t : Table) (f : FlatTerms) → CanStart d t f → state_bits_in f ≡ sum (state_widths d)
counted d t f can = ap sum (widths_are t d f can.flat)

module _ (d : DesignTree) (t : Table) (f : FlatTerms) (can : CanStart d t f) (order : List ℕ)
    (is : IsOrder (sum (state_widths d)) order) where
  -- an order of the bits of a state is one of those of the inputs in front of the choices
  pub order_starts : IsOrder (state_bits_in f) order
  order_starts = subst (λ (n : ℕ). IsOrder n order) (sym (counted d t f can)) is

  long : length order ≡ sum (state_widths d)
  long =
      length_permutation (range_with_len 0 (sum (state_widths d))) order is
      ∙ length-range_with_len 0 (sum (state_widths d))

  module _ (g : GameData) (flat : g.flat ≡ f) (terms : Extends t g.terms) (follows : g.order ≡ order) where
    inputs_are : g.terms.inputs ≡ f.widths
    inputs_are = terms.inputs ∙ can.flat.inputs ∙ sym can.flat.widths

    -- a game that was made in this order
    pub ordered : IsOf d g → HasPool d g → length g.order + 128 ≤ g.diagrams.table.levels →
        length g.goals ≡ length g.flat.goals → length g.fairs ≡ length g.flat.fairs → IsOrderedGame d order g
    ordered of pool levels goals fairs = record {
      of = of;
      pool = pool;
      follows = follows;
      places = subst (λ (h : FlatTerms). IsOrder (state_bits_in h) g.order) (sym flat)
          (subst (IsOrder (state_bits_in f)) (sym follows) order_starts);
      bits = ap length follows ∙ long;
      levels = levels;
      few_levels = omega (arith, can.levels, counted d t f can, long, ap length follows);
      inputs = omega (arith, can.inputs, ap length terms.inputs);
      wide = subst (All (λ w. w ≤ 64)) (sym inputs_are) can.wide;
      goals =
          goals ∙ ap (λ (h : FlatTerms). length h.goals) flat
          ∙ AllZip-long (IsGoalTerm t d) (range_with_len 0 (length d.goals)) f.goals can.flat.goals
          ∙ length-range_with_len 0 (length d.goals);
      fairs =
          fairs ∙ ap (λ (h : FlatTerms). length h.fairs) flat
          ∙ AllZip-long (IsFairTerm t d) (range_with_len 0 (length (conditions d))) f.fairs can.flat.fairs
          ∙ length-range_with_len 0 (length (conditions d));
    }
