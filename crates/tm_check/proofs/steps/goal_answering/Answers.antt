use Rattle.std.proofs.Common.{◌≡◌, true, Some, refl, sym, ap, ◌∙◌, arith}
use Rattle.std.proofs.lemmas.Option.{slice_get-get_or}
use Rattle.tm_check.specs.declared.replies.Replies.{Replies}
use Rattle.tm_check.proofs.Growth.{and_before}
use Rattle.tm_check.proofs.KeepingReplies.{replies_kept}
use Rattle.tm_check.proofs.Found.{found_set, found_tried}
use Rattle.tm_check.proofs.Keeping.{told_kept}
use Rattle.tm_check.proofs.States.{set_is}
use Rattle.tm_check.proofs.StepParts.{answering_found}
use Rattle.tm_check.proofs.steps.goal_answering.Goals as goal
use Rattle.tm_verdict.specs.Driver.{is_answered}
use Rattle.tm_game.proofs.Growing.{grows_then, of_kept, set_kept}

pub and-requires-clause-f : goal.and-requires-clause-f
and-requires-clause-f c = c.requires.told.3.diagrams.region.known

pub and-requires-clause-g : goal.and-requires-clause-g
and-requires-clause-g c = (c.turn-turn.ensures.states c.requires.told.0 c.requires.told.3.of).known

pub good_answers-requires-clause-set : goal.good_answers-requires-clause-set
good_answers-requires-clause-set c =
    set_kept c.args.game.now c.and.new.self c.and.ensures.grows c.args.told.now.region
    (set_is c.requires.told.0 c.args.game.now c.requires.told.3.of c.requires.told.3.sized (λ s.
    c.requires.told.2.region s ≡ true) c.args.told.now.region
    c.requires.told.3.diagrams.region)

pub good_answers-requires-clause-replies : goal.good_answers-requires-clause-replies
good_answers-requires-clause-replies c =
    let has = c.requires.answers in
    let there = slice_get-get_or c.args.answers.now c.args.goal c.index-answers-goal.result
    (omega (arith, c.requires.goal, has.3.diagrams.count, has.3.goals, has.4.count))
    ∙ ap (λ (r : Replies). Some r) (sym c.index-answers-goal.is) in (
      has.0,
      c.args.goal,
      has.1,
      of_kept c.args.game.now c.and.new.self c.and.ensures.grows has.0 has.3.of,
      has.3.blocks,
      replies_kept has.0 c.args.game.now c.and.new.self c.and.ensures.grows c.args.goal has.1
          c.index-answers-goal.result (has.4.each c.args.goal c.index-answers-goal.result there),
    )

pub returns-in_err-good-clause-grows : goal.returns-in_err-good-clause-grows
returns-in_err-good-clause-grows c =
    grows_then c.args.game.now c.and.new.self c.good_answers.new.game c.and.ensures.grows c.good_answers.ensures.grows

pub without-requires-clause-other : goal.without-requires-clause-other
without-requires-clause-other c =
    let has = c.requires.answers in
    let there = slice_get-get_or c.args.answers.now c.args.goal c.index-answers-goal.result
    (omega (arith, c.requires.goal, has.3.diagrams.count, has.3.goals, has.4.count))
    ∙ ap (λ (r : Replies). Some r) (sym c.index-answers-goal.is) in
    (c.in_ok-good.ensures.states has.0 c.args.goal has.1
    (of_kept c.args.game.now c.and.new.self c.and.ensures.grows has.0 has.3.of) has.3.blocks
    (replies_kept has.0 c.args.game.now c.and.new.self c.and.ensures.grows c.args.goal has.1
    c.index-answers-goal.result (has.4.each c.args.goal c.index-answers-goal.result there))).known

pub returns-in_err-failing-clause-grows : goal.returns-in_err-failing-clause-grows
returns-in_err-failing-clause-grows c =
    grows_then c.args.game.now c.good_answers.new.game c.without.new.game
    (grows_then c.args.game.now c.and.new.self c.good_answers.new.game c.and.ensures.grows
    c.good_answers.ensures.grows) c.without.ensures.grows

pub overflow_cast-goal : goal.overflow_cast-goal
overflow_cast-goal c =
    let is = c.requires.told.3 in omega (arith, c.requires.goal, is.diagrams.count, is.goals, is.few)

pub try_part-requires : goal.try_part-requires
try_part-requires c =
    let has = c.requires.answers in
    let there = slice_get-get_or c.args.answers.now c.args.goal c.index-answers-goal.result
    (omega (arith, c.requires.goal, has.3.diagrams.count, has.3.goals, has.4.count))
    ∙ ap (λ (r : Replies). Some r) (sym c.index-answers-goal.is) in
    let grown = grows_then c.args.game.now c.good_answers.new.game c.without.new.game
    (grows_then c.args.game.now c.and.new.self c.good_answers.new.game c.and.ensures.grows
    c.good_answers.ensures.grows) c.without.ensures.grows in
    found_set has.0 has.1 has.2 c.args.told.now c.without.new.game
    (told_kept has.0 c.args.game.now c.without.new.game grown has.1 has.2 c.args.told.now has.3)
    (is_answered c.args.goal) c.in_ok-failing.failing
    (answering_found has.0 has.1 has.2 c.args.told.now c.args.game.now c.and.new.self c.good_answers.new.game
    c.without.new.game has.3 c.and.ensures.grows c.good_answers.ensures.grows c.without.ensures.grows c.args.goal
    c.turn-turn.result c.in_ok-here.here c.in_ok-good.good c.in_ok-failing.failing
    (c.turn-turn.ensures.states has.0 has.3.of)
    (and_before c.args.game.now.diagrams.table c.and.new.self.diagrams.table c.and.ensures.grows.diagrams
    c.args.told.now.region c.turn-turn.result c.in_ok-here.here has.3.diagrams.region.known
    (c.turn-turn.ensures.states has.0 has.3.of).known c.in_ok-here.ensures.answer)
    (c.in_ok-good.ensures.states has.0 c.args.goal has.1
    (of_kept c.args.game.now c.and.new.self c.and.ensures.grows has.0 has.3.of) has.3.blocks
    (replies_kept has.0 c.args.game.now c.and.new.self c.and.ensures.grows c.args.goal has.1
    c.index-answers-goal.result (has.4.each c.args.goal c.index-answers-goal.result there)))
    c.in_ok-failing.ensures.rest)

pub returns-in_err-verdict-clause-grows : goal.returns-in_err-verdict-clause-grows
returns-in_err-verdict-clause-grows c =
    grows_then c.args.game.now c.without.new.game c.try_part.new.game
    (grows_then c.args.game.now c.good_answers.new.game c.without.new.game
    (grows_then c.args.game.now c.and.new.self c.good_answers.new.game c.and.ensures.grows
    c.good_answers.ensures.grows) c.without.ensures.grows) c.try_part.ensures.grows

pub returns-clause-grows : goal.returns-clause-grows
returns-clause-grows c =
    grows_then c.args.game.now c.without.new.game c.try_part.new.game
    (grows_then c.args.game.now c.good_answers.new.game c.without.new.game
    (grows_then c.args.game.now c.and.new.self c.good_answers.new.game c.and.ensures.grows
    c.good_answers.ensures.grows) c.without.ensures.grows) c.try_part.ensures.grows

pub returns-clause-tried : goal.returns-clause-tried
returns-clause-tried c = λ d bs cs is are.
    let there = slice_get-get_or c.args.answers.now c.args.goal c.index-answers-goal.result
    (omega (arith, c.requires.goal, is.diagrams.count, is.goals, are.count))
    ∙ ap (λ (r : Replies). Some r) (sym c.index-answers-goal.is) in
    let grown = grows_then c.args.game.now c.good_answers.new.game c.without.new.game
    (grows_then c.args.game.now c.and.new.self c.good_answers.new.game c.and.ensures.grows
    c.good_answers.ensures.grows) c.without.ensures.grows in
    let later = told_kept d c.args.game.now c.without.new.game grown bs cs c.args.told.now is in
    found_tried d bs cs c.args.told.now c.without.new.game later (is_answered c.args.goal) c.in_ok-failing.failing
    (answering_found d bs cs c.args.told.now c.args.game.now c.and.new.self c.good_answers.new.game
    c.without.new.game is c.and.ensures.grows c.good_answers.ensures.grows c.without.ensures.grows c.args.goal
    c.turn-turn.result c.in_ok-here.here c.in_ok-good.good c.in_ok-failing.failing
    (c.turn-turn.ensures.states d is.of)
    (and_before c.args.game.now.diagrams.table c.and.new.self.diagrams.table c.and.ensures.grows.diagrams
    c.args.told.now.region c.turn-turn.result c.in_ok-here.here is.diagrams.region.known
    (c.turn-turn.ensures.states d is.of).known c.in_ok-here.ensures.answer)
    (c.in_ok-good.ensures.states d c.args.goal bs
    (of_kept c.args.game.now c.and.new.self c.and.ensures.grows d is.of) is.blocks
    (replies_kept d c.args.game.now c.and.new.self c.and.ensures.grows c.args.goal bs c.index-answers-goal.result
    (are.each c.args.goal c.index-answers-goal.result there))) c.in_ok-failing.ensures.rest) 4 c.args.goal
    c.in_ok-verdict.verdict tt tt refl refl (c.in_ok-verdict.ensures.first d later.of)
