use Rattle.std.proofs.Common.{◌≡◌, true, Some, sym, ap, ◌∙◌, arith}
use Rattle.std.proofs.lemmas.Option.{slice_get-get_or}
use Rattle.tm_check.specs.declared.replies.Replies.{Replies}
use Rattle.tm_check.proofs.Growth.{or_before, sized_kept}
use Rattle.tm_check.proofs.KeepingReplies.{replies_kept}
use Rattle.tm_check.proofs.OneRankLess.{ending_here, lacks_rank, less_here, others_here}
use Rattle.tm_check.proofs.Parts.{ranked_here}
use Rattle.tm_check.proofs.States.{set_is}
use Rattle.tm_check.proofs.leaving.one_rank_less.Goals as goal
use Rattle.tm_game.proofs.Growing.{grows_then, known_kept, of_kept}

pub without-requires-clause-set : goal.without-requires-clause-set
without-requires-clause-set c =
    let has = c.requires.answers in
    (c.valid-valid.ensures.states has.0
    (of_kept c.args.game.now c.of_rank.new.game c.of_rank.ensures.grows has.0 has.3.of)).known

pub without-requires-clause-other : goal.without-requires-clause-other
without-requires-clause-other c =
    let has = c.requires.answers in
    (c.in_ok-own.ensures.states has.0 has.1 has.2 has.3).known

pub returns-in_err-others-clause-grows : goal.returns-in_err-others-clause-grows
returns-in_err-others-clause-grows c =
    grows_then c.args.game.now c.of_rank.new.game c.without.new.game c.of_rank.ensures.grows c.without.ensures.grows

pub may_leave-requires-clause-set : goal.may_leave-requires-clause-set
may_leave-requires-clause-set c =
    let has = c.requires.answers in
    let grown = grows_then c.args.game.now c.of_rank.new.game c.without.new.game c.of_rank.ensures.grows
    c.without.ensures.grows in
    let ranked = ranked_here has.0 has.1 has.2 c.args.game.now c.args.told.now has.3 c.args.goal c.requires.goal in
    set_is has.0 c.without.new.game (of_kept c.args.game.now c.without.new.game grown has.0 has.3.of)
    (sized_kept c.args.game.now c.without.new.game grown has.3.sized) (λ st. lacks_rank ranked.0 c.args.index st ≡ true)
    c.in_ok-others.others
    (others_here has.0 has.1 has.2 c.args.game.now c.args.told.now has.3 c.args.goal c.args.index ranked.0 ranked.1
    c.of_rank.new.game c.without.new.game c.without.ensures.grows c.valid-valid.result c.in_ok-own.own
    c.in_ok-others.others
    (c.valid-valid.ensures.states has.0
    (of_kept c.args.game.now c.of_rank.new.game c.of_rank.ensures.grows has.0 has.3.of))
    (c.in_ok-own.ensures.states has.0 has.1 has.2 has.3) c.in_ok-others.ensures.rest)

pub may_leave-requires-clause-replies : goal.may_leave-requires-clause-replies
may_leave-requires-clause-replies c =
    let has = c.requires.answers in
    let grown = grows_then c.args.game.now c.of_rank.new.game c.without.new.game c.of_rank.ensures.grows
    c.without.ensures.grows in
    let replies = c.index-answers-goal.result in
    let there = slice_get-get_or c.args.answers.now c.args.goal replies
    (omega (arith, c.requires.goal, has.3.diagrams.count, has.3.goals, has.4.count))
    ∙ ap (λ (r : Replies). Some r) (sym c.index-answers-goal.is) in (
      has.0,
      c.args.goal,
      has.1,
      of_kept c.args.game.now c.without.new.game grown has.0 has.3.of,
      has.3.blocks,
      replies_kept has.0 c.args.game.now c.without.new.game grown c.args.goal has.1 replies
          (has.4.each c.args.goal replies there),
    )

pub returns-in_err-ending-clause-grows : goal.returns-in_err-ending-clause-grows
returns-in_err-ending-clause-grows c =
    grows_then c.args.game.now c.without.new.game c.may_leave.new.game
    (grows_then c.args.game.now c.of_rank.new.game c.without.new.game c.of_rank.ensures.grows c.without.ensures.grows)
    c.may_leave.ensures.grows

pub or-requires-clause-g : goal.or-requires-clause-g
or-requires-clause-g c =
    let has = c.requires.answers in
    let here = ranked_here has.0 has.1 has.2 c.args.game.now c.args.told.now has.3 c.args.goal c.requires.goal in
    let grown = grows_then c.args.game.now c.of_rank.new.game c.without.new.game c.of_rank.ensures.grows
    c.without.ensures.grows in
    let replies = c.index-answers-goal.result in
    let there = slice_get-get_or c.args.answers.now c.args.goal replies
    (omega (arith, c.requires.goal, has.3.diagrams.count, has.3.goals, has.4.count))
    ∙ ap (λ (r : Replies). Some r) (sym c.index-answers-goal.is) in
    let others = others_here has.0 has.1 has.2 c.args.game.now c.args.told.now has.3 c.args.goal c.args.index here.0
    here.1 c.of_rank.new.game c.without.new.game c.without.ensures.grows c.valid-valid.result c.in_ok-own.own
    c.in_ok-others.others
    (c.valid-valid.ensures.states has.0
    (of_kept c.args.game.now c.of_rank.new.game c.of_rank.ensures.grows has.0 has.3.of))
    (c.in_ok-own.ensures.states has.0 has.1 has.2 has.3) c.in_ok-others.ensures.rest in
    let ending = ending_here has.0 has.1 has.2 c.args.game.now c.args.told.now has.3 c.args.goal c.args.index here.0
    here.1 c.args.answers.now has.4 c.without.new.game c.may_leave.new.game grown replies there c.in_ok-others.others
    c.in_ok-ending.ending others c.in_ok-ending.ensures.leaving in
    ending.known

pub returns-in_err-all-clause-grows : goal.returns-in_err-all-clause-grows
returns-in_err-all-clause-grows c =
    grows_then c.args.game.now c.may_leave.new.game c.or.new.self
    (grows_then c.args.game.now c.without.new.game c.may_leave.new.game
    (grows_then c.args.game.now c.of_rank.new.game c.without.new.game c.of_rank.ensures.grows c.without.ensures.grows)
    c.may_leave.ensures.grows) c.or.ensures.grows

pub returns-clause-grows : goal.returns-clause-grows
returns-clause-grows c =
    grows_then c.args.game.now c.may_leave.new.game c.or.new.self
    (grows_then c.args.game.now c.without.new.game c.may_leave.new.game
    (grows_then c.args.game.now c.of_rank.new.game c.without.new.game c.of_rank.ensures.grows c.without.ensures.grows)
    c.may_leave.ensures.grows) c.or.ensures.grows

pub returns-clause-leaving : goal.returns-clause-leaving
returns-clause-leaving c = λ d bs cs ranked is are at left.
    let grown = grows_then c.args.game.now c.of_rank.new.game c.without.new.game c.of_rank.ensures.grows
    c.without.ensures.grows in
    let replies = c.index-answers-goal.result in
    let there = slice_get-get_or c.args.answers.now c.args.goal replies
    (omega (arith, c.requires.goal, is.diagrams.count, is.goals, are.count))
    ∙ ap (λ (r : Replies). Some r) (sym c.index-answers-goal.is) in
    let others = others_here d bs cs c.args.game.now c.args.told.now is c.args.goal c.args.index ranked at
    c.of_rank.new.game c.without.new.game c.without.ensures.grows c.valid-valid.result c.in_ok-own.own
    c.in_ok-others.others
    (c.valid-valid.ensures.states d
    (of_kept c.args.game.now c.of_rank.new.game c.of_rank.ensures.grows d is.of))
    (c.in_ok-own.ensures.states d bs cs is) c.in_ok-others.ensures.rest in
    let ending = ending_here d bs cs c.args.game.now c.args.told.now is c.args.goal c.args.index ranked at
    c.args.answers.now are c.without.new.game c.may_leave.new.game grown replies there c.in_ok-others.others
    c.in_ok-ending.ending others c.in_ok-ending.ensures.leaving in
    let kl = c.may_leave.ensures.grows in
    less_here d bs cs c.args.game.now c.args.told.now is c.args.goal c.args.index ranked at c.requires.index
    c.without.new.game c.may_leave.new.game c.or.new.self grown kl c.or.ensures.grows c.args.leaving
    c.in_ok-ending.ending c.in_ok-all.all left ending
    (or_before c.may_leave.new.game.diagrams.table c.or.new.self.diagrams.table c.or.ensures.grows.diagrams
    c.args.leaving c.in_ok-ending.ending c.in_ok-all.all
    (known_kept c.args.game.now c.may_leave.new.game
    (grows_then c.args.game.now c.without.new.game c.may_leave.new.game grown kl) c.args.leaving c.requires.leaving)
    ending.known c.in_ok-all.ensures.answer)
