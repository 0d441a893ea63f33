-- The game that was decided, and what is asked of it where it is written.
use Rattle.std.proofs.Common.{◌≡◌, ℕ, ◌<◌, ◌≤◌, List, length, sym, ap, ◌∙◌, subst, arith}
use Rattle.std.specs.Prelude.{All, Option, sum}
use Rattle.tm_check.specs.Reads.{IsSized}
use Rattle.tm_flat.specs.Inputs.{input_widths}
use Rattle.tm_game.specs.Game.{GameData}
use Rattle.tm_game_bits.proofs.Orders.{length_order}
use Rattle.tm_game_pool.specs.Pooled.{HasPool}
use Rattle.tm_judge.specs.Ordered.{IsOrderedGame}
use Rattle.tm_refine.specs.Decided.{IsDecided, KeepsTo, KnowsDecision}
use Rattle.tm_refine.specs.Pooled.{CanDecide, pool_ids}
use Rattle.tm_refine.specs.declared.trace.Decision.{Decision}
use Rattle.tm_refine.specs.declared.trace.Decision.TheVariants as decisions
use Rattle.tm_sem.proofs.Certified.{has_goal}
use Rattle.tm_sem.specs.StateBits.{state_widths}
use Rattle.tm_solve.specs.Iterates.{KnowsAll}
use Rattle.tm_solve.specs.declared.iterates.Iterates.{Iterates}
use Rattle.tm_solve_exact.proofs.Growing.{order_told}
use Rattle.tm_solve_exact.specs.Exact.{IsExactOf, exact_ids}
use Rattle.tm_solve_exact.specs.Solving.{CanSolve}
use Rattle.tm_syntax.specs.Design.{DesignTree, IsDesign}
use Rattle.tm_verdict.specs.Regular.{IsRegular}
use Rattle.tm_synth.specs.Traced.{IsGameDecided}

-- ---- the game that is made
-- it can be solved
pub can_solve : (d : DesignTree) (g : GameData) → IsExactOf d g → IsRegular d → IsDesign d → CanSolve d g
can_solve d g is regular design = record {
  exact = is;
  steady = regular.steady;
  some_goal = subst (λ (n : ℕ). 0 < n) (sym is.ordered.goals) (has_goal d design);
}

-- it stays sized
module _ (d : DesignTree) where
  inputs_are : (g : GameData) → IsExactOf d g → g.terms.inputs ≡ input_widths d
  inputs_are g is = is.terms.extends.inputs ∙ is.terms.flat.inputs

  places_are : (g : GameData) → IsExactOf d g → length g.order ≡ sum (state_widths d)
  places_are g is = length_order (sum (state_widths d)) g.order (order_told d g is)

  pub still_sized : (order : List ℕ) (made g : GameData) → IsOrderedGame d order made → IsExactOf d made →
      IsExactOf d g → IsSized g
  still_sized order made g ordered was is =
      let same = inputs_are g is ∙ sym (inputs_are made was) in
      record {
        order = is.ordered.order;
        inputs = omega (arith, ordered.inputs, ap length same);
        wide = subst (All (λ w. w ≤ 64)) (sym same) ordered.wide;
        levels = omega (arith, ordered.few_levels, places_are g is, places_are made was);
      }

-- and decided over the pool of its design
pub can_decide : (d : DesignTree) (order : List ℕ) (made g : GameData) → g ≡ made → IsOrderedGame d order made →
    IsExactOf d g → IsRegular d → IsDesign d → CanDecide d g
can_decide d order made g same ordered is regular design = record {
  solve = can_solve d g is regular design;
  initial = regular.initial;
  pool = subst (HasPool d) (sym same) ordered.pool;
}

-- ---- what was decided over the pool, as the exact game tells it
exact_all : (g : GameData) (it : Iterates) → KnowsAll (pool_ids g) it → KnowsAll (exact_ids g) it
exact_all g it known = record { region = known.region; ranks = known.ranks; levels = known.levels }

exact_known : (g : GameData) (r : Decision) → KnowsDecision (pool_ids g) r → KnowsDecision (exact_ids g) r
exact_known g (decisions.Driver it t) known = exact_all g it known
exact_known g (decisions.Environment it t) known = exact_all g it known
exact_known g (decisions.Spent t) known = tt

exact_decided : (d : DesignTree) (budget : Option ℕ) (g : GameData) (r : Decision) →
    IsDecided d budget (pool_ids g) r → IsDecided d budget (exact_ids g) r
exact_decided d budget g (decisions.Driver it t) is = is
exact_decided d budget g (decisions.Environment it t) is = is
exact_decided d budget g (decisions.Spent t) is = is

pub game_decided : (d : DesignTree) (budget : Option ℕ) (order : List ℕ) (made solved g h : GameData) (r : Decision) →
    solved ≡ made → IsOrderedGame d order made → IsExactOf d solved → CanDecide d g →
    IsDecided d budget (pool_ids g) r → KeepsTo budget r → KnowsDecision (pool_ids g) r → h ≡ g →
    IsGameDecided d budget h r
game_decided d budget order made solved g h r same ordered was can is within known there =
    subst (λ (x : GameData). IsGameDecided d budget x r) (sym there)
    (record {
      decided = exact_decided d budget g r is;
      within = within;
      known = exact_known g r known;
      exact = can.solve.exact;
      sized = still_sized d order solved g (subst (IsOrderedGame d order) (sym same) ordered) was can.solve.exact;
    })
