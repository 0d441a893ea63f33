-- The driver can stay in a greater set wherever it can stay in a smaller one.
use Rattle.std.proofs.Common.{◌≡◌, true, not, sym, ◌∙◌}
use Rattle.tm_dd.specs.Table.{assignment}
use Rattle.tm_game_bits.specs.Functions.{Assignment, outside}
use Rattle.tm_game_bits.proofs.Rising.{stays_rise}
use Rattle.tm_game.specs.Game.{GameData}
use Rattle.tm_solve.specs.Operator.{Rises}
use Rattle.tm_solve.specs.Sets.{IsWithin, StateSet}
use Rattle.tm_solve_exact.specs.Exact.{bit_set, coding, exact_game, exact_operator, first_values, functions, states_of, valid_set}
use Rattle.tm_solve_exact.specs.Deciding.{stays_here, stays_there}
use Rattle.tm_solve_exact.specs.Listed.{and_both, and_parts, listed, not_not}

module _ (g : GameData) (a b : StateSet) (within : IsWithin (states_of (coding g) (valid_set g)) a b) where
  wider : (w : Assignment) → not (not (bit_set (coding g) (valid_set g) a w)) ≡ true →
      not (not (bit_set (coding g) (valid_set g) b w)) ≡ true
  wider w there =
      let bits = assignment (first_values (coding g).count w) in
      let parts = and_parts (valid_set g bits) (a ((coding g).state_of bits))
      (sym (not_not (bit_set (coding g) (valid_set g) a w)) ∙ there) in
      not_not (bit_set (coding g) (valid_set g) b w)
      ∙ and_both (valid_set g bits) (b ((coding g).state_of bits)) parts.0
      (within.within ((coding g).state_of bits) (listed (coding g) (valid_set g) w parts.0) parts.1)

pub exact_rises : (g : GameData) → Rises (exact_game g).states (exact_operator g)
exact_rises g a b within = record {
  within = λ s among stays.
      stays_here (functions g) (outside (bit_set (coding g) (valid_set g) b)) ((coding g).assignment_of s)
      (stays_rise (outside (outside (bit_set (coding g) (valid_set g) a)))
      (outside (outside (bit_set (coding g) (valid_set g) b))) (wider g a b within) (functions g)
      ((coding g).assignment_of s)
      (stays_there (functions g) (outside (bit_set (coding g) (valid_set g) a)) ((coding g).assignment_of s) stays));
}
