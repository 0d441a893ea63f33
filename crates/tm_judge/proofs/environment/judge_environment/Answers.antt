use Rattle.std.proofs.Common.{subst, rules}
use Rattle.std.specs.Prelude.{sum}
use Rattle.tm_game_bits.specs.Order.{IsOrder}
use Rattle.tm_sem.specs.StateBits.{state_widths}
use Rattle.tm_syntax.specs.Design.View.{design_tree}
use Rattle.tm_judge.proofs.environment.judge_environment.Goals as goal

pub orders_of-requires-clause-sound : goal.orders_of-requires-clause-sound
orders_of-requires-clause-sound c = c.requires.sound

pub orders_of-requires-clause-of_text : goal.orders_of-requires-clause-of_text
orders_of-requires-clause-of_text c = c.requires.of_text

pub judge_moved-requires-clause-order : goal.judge_moved-requires-clause-order
judge_moved-requires-clause-order c =
    subst (IsOrder (sum (state_widths (design_tree c.args.design.now)))) (search rules) c.in_ok-orders.ensures.control
