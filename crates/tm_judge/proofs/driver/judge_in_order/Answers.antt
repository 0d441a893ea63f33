use Rattle.std.proofs.Common.{◌≡◌, sym, subst, rules}
use Rattle.std.specs.Prelude.{sum}
use Rattle.tm_cir.specs.Answer.{Answers}
use Rattle.tm_cir.specs.View.{trees_of}
use Rattle.tm_game_bits.specs.Order.{IsOrder}
use Rattle.tm_sem.specs.StateBits.{state_widths}
use Rattle.tm_verdict.specs.Sets.{driver_sets}
use Rattle.tm_syntax.specs.Design.View.{design_tree}
use Rattle.tm_flat_room.proofs.Room.{are_small}
use Rattle.tm_judge.proofs.Judging.{can_check_driver, same_game}
use Rattle.tm_judge.proofs.OneVerdict.{only_driver_verdict}
use Rattle.tm_judge.proofs.driver.judge_in_order.Goals as goal

pub ordered_game-requires-clause-sound : goal.ordered_game-requires-clause-sound
ordered_game-requires-clause-sound c = c.requires.sound

pub ordered_game-requires-clause-of_text : goal.ordered_game-requires-clause-of_text
ordered_game-requires-clause-of_text c = c.requires.of_text

pub ordered_game-requires-clause-order : goal.ordered_game-requires-clause-order
ordered_game-requires-clause-order c =
    let same : c.deref.result.now ≡ c.args.cert.now.order = search rules in
    subst (IsOrder (sum (state_widths (design_tree c.args.design.now)))) (sym same)
    c.requires.cert.order

pub check_driver-verdict-requires : goal.check_driver-verdict-requires
check_driver-verdict-requires c =
    let same : c.deref.result.now ≡ c.args.cert.now.order = search rules in
    record {
      can = can_check_driver (design_tree c.args.design.now) (trees_of c.args.blocks.now) c.args.cert.now
          c.in-Ok.game c.requires
          (c.sound_designs_of_texts_are_regular.ensures c.args.design.now c.requires.sound c.requires.of_text)
          (c.sound_designs_of_texts_have_initial_states.ensures (design_tree c.args.design.now) c.requires.sound
          c.requires.of_text)
          (same_game (design_tree c.args.design.now) c.deref.result.now c.args.cert.now.order c.in-Ok.game same
          c.in-Ok.ensures);
    }

pub returns-clause-only : goal.returns-clause-only
returns-clause-only c =
    only_driver_verdict (design_tree c.args.design.now)
    (are_small c.args.design.now c.requires.sound c.requires.of_text)
    (c.sound_designs_of_texts_are_regular.ensures c.args.design.now c.requires.sound c.requires.of_text).initial
    (Answers (trees_of c.args.blocks.now)) (driver_sets (design_tree c.args.design.now) c.args.cert.now)
    c.check_driver-verdict.result c.check_driver-verdict.ensures.verdict
