use Rattle.std.proofs.Common.{◌≡◌, sym, subst, ◌∙◌, rules}
use Rattle.std.specs.Prelude.{sum}
use Rattle.tm_game_bits.specs.Order.{IsOrder}
use Rattle.tm_sem.specs.StateBits.{state_widths}
use Rattle.tm_syntax.specs.Design.View.{design_tree}
use Rattle.tm_judge.proofs.Judging.{can_check_environment, fits_game, only_verdict_of, verdict_of}
use Rattle.tm_judge.proofs.environment.judge_in_order.Goals as goal

pub ordered_game-requires-clause-sound : goal.ordered_game-requires-clause-sound
ordered_game-requires-clause-sound c = c.requires.sound

pub ordered_game-requires-clause-of_text : goal.ordered_game-requires-clause-of_text
ordered_game-requires-clause-of_text c = c.requires.of_text

pub ordered_game-requires-clause-order : goal.ordered_game-requires-clause-order
ordered_game-requires-clause-order c =
    let same : c.deref.result.now ≡ c.args.cert.now.order = search rules in
    subst (IsOrder (sum (state_widths (design_tree c.args.design.now)))) (sym same)
    c.requires.cert.order

pub check_environment-verdict-requires-clause-of : goal.check_environment-verdict-requires-clause-of
check_environment-verdict-requires-clause-of c = (design_tree c.args.design.now, c.in-Ok.ensures.of)

pub check_environment-verdict-requires-clause-cert : goal.check_environment-verdict-requires-clause-cert
check_environment-verdict-requires-clause-cert c =
    fits_game (design_tree c.args.design.now) c.deref.result.now c.args.cert.now c.in-Ok.game c.requires
    c.in-Ok.ensures

pub check_environment-verdict-requires-clause-order : goal.check_environment-verdict-requires-clause-order
check_environment-verdict-requires-clause-order c =
    let same : c.deref.result.now ≡ c.args.cert.now.order = search rules in
    sym (c.in-Ok.ensures.follows ∙ same)

pub returns-clause-verdict : goal.returns-clause-verdict
returns-clause-verdict c =
    let check = can_check_environment (c.sound_designs_of_texts_are_regular.ensures c.args.design.now)
    (c.sound_designs_of_texts_have_initial_states.ensures (design_tree c.args.design.now)) c.requires
    c.in-Ok.ensures in
    verdict_of (design_tree c.args.design.now) c.args.cert.now c.in-Ok.game c.check_environment-verdict.result check
    c.check_environment-verdict.ensures.verdict

pub returns-clause-only : goal.returns-clause-only
returns-clause-only c =
    let check = can_check_environment (c.sound_designs_of_texts_are_regular.ensures c.args.design.now)
    (c.sound_designs_of_texts_have_initial_states.ensures (design_tree c.args.design.now)) c.requires
    c.in-Ok.ensures in
    only_verdict_of c.args.design.now c.args.cert.now c.in-Ok.game c.check_environment-verdict.result c.requires check
    c.check_environment-verdict.ensures.verdict

pub returns-clause-lost : goal.returns-clause-lost
returns-clause-lost c =
    let check = can_check_environment (c.sound_designs_of_texts_are_regular.ensures c.args.design.now)
    (c.sound_designs_of_texts_have_initial_states.ensures (design_tree c.args.design.now)) c.requires
    c.in-Ok.ensures in
    c.check_environment-verdict.ensures.lost (design_tree c.args.design.now) check

pub returns-clause-within : goal.returns-clause-within
returns-clause-within c =
    let check = can_check_environment (c.sound_designs_of_texts_are_regular.ensures c.args.design.now)
    (c.sound_designs_of_texts_have_initial_states.ensures (design_tree c.args.design.now)) c.requires
    c.in-Ok.ensures in
    c.check_environment-verdict.ensures.within (design_tree c.args.design.now) check
