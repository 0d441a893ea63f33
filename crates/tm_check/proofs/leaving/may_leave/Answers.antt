use Rattle.tm_check.proofs.Growth.{or_before}
use Rattle.tm_check.proofs.KeepingReplies.{replies_kept}
use Rattle.tm_check.proofs.LeavingRanks.{may_leave_is}
use Rattle.tm_check.proofs.leaving.may_leave.Goals as goal
use Rattle.tm_game.proofs.Growing.{grows_then, known_kept, of_kept, set_kept}

pub without-requires-clause-set : goal.without-requires-clause-set
without-requires-clause-set c =
    known_kept c.args.game.now c.calm.new.self c.calm.ensures.grows c.valid-valid.result
    (c.valid-valid.ensures.states c.requires.replies.0 c.requires.replies.3).known

pub without-requires-clause-other : goal.without-requires-clause-other
without-requires-clause-other c = (c.in_ok-calm.ensures.answer c.requires.replies.0 c.requires.replies.3).known

pub good_answers-requires-clause-set : goal.good_answers-requires-clause-set
good_answers-requires-clause-set c =
    set_kept c.args.game.now c.without.new.game
    (grows_then c.args.game.now c.calm.new.self c.without.new.game c.calm.ensures.grows c.without.ensures.grows)
    c.args.set c.requires.set

pub good_answers-requires-clause-replies : goal.good_answers-requires-clause-replies
good_answers-requires-clause-replies c =
    let grown = grows_then c.args.game.now c.calm.new.self c.without.new.game c.calm.ensures.grows
    c.without.ensures.grows in
    let has = c.requires.replies in (
      has.0,
      has.1,
      has.2,
      of_kept c.args.game.now c.without.new.game grown has.0 has.3,
      has.4,
      replies_kept has.0 c.args.game.now c.without.new.game grown has.1 has.2 c.args.replies.now has.5,
    )

pub returns-clause-leaving : goal.returns-clause-leaving
returns-clause-leaving c = λ d bs goal test plays set_is.
    let grown = grows_then c.args.game.now c.calm.new.self c.without.new.game c.calm.ensures.grows
    c.without.ensures.grows in
    may_leave_is d bs goal c.args.game.now c.calm.new.self c.without.new.game c.good_answers.new.game
    c.without-2.new.game c.or.new.self c.args.replies.now plays c.calm.ensures.grows c.without.ensures.grows
    c.good_answers.ensures.grows c.without-2.ensures.grows c.or.ensures.grows test c.args.set c.valid-valid.result
    c.turn-turn.result c.in_ok-calm.calm c.in_ok-stirring.stirring c.in_ok-good.good c.in_ok-bad.bad
    c.in_ok-leaving.leaving set_is (c.valid-valid.ensures.states d plays.of) (c.turn-turn.ensures.states d plays.of)
    (c.in_ok-calm.ensures.answer d plays.of) c.in_ok-stirring.ensures.rest
    (c.in_ok-good.ensures.states d goal bs (of_kept c.args.game.now c.without.new.game grown d plays.of) plays.blocks
    (replies_kept d c.args.game.now c.without.new.game grown goal bs c.args.replies.now plays.replies))
    c.in_ok-bad.ensures.rest
    (or_before c.without-2.new.game.diagrams.table c.or.new.self.diagrams.table c.or.ensures.grows.diagrams
    c.in_ok-stirring.stirring c.in_ok-bad.bad c.in_ok-leaving.leaving
    (known_kept c.without.new.game c.without-2.new.game
    (grows_then c.without.new.game c.good_answers.new.game c.without-2.new.game c.good_answers.ensures.grows
    c.without-2.ensures.grows) c.in_ok-stirring.stirring c.in_ok-stirring.ensures.rest.known)
    c.in_ok-bad.ensures.rest.known c.in_ok-leaving.ensures.answer)

pub returns-in_err-stirring-clause-grows : goal.returns-in_err-stirring-clause-grows
returns-in_err-stirring-clause-grows c =
    grows_then c.args.game.now c.calm.new.self c.without.new.game c.calm.ensures.grows c.without.ensures.grows

pub returns-in_err-good-clause-grows : goal.returns-in_err-good-clause-grows
returns-in_err-good-clause-grows c =
    grows_then c.args.game.now c.without.new.game c.good_answers.new.game
    (grows_then c.args.game.now c.calm.new.self c.without.new.game c.calm.ensures.grows c.without.ensures.grows)
    c.good_answers.ensures.grows

pub returns-in_err-bad-clause-grows : goal.returns-in_err-bad-clause-grows
returns-in_err-bad-clause-grows c =
    grows_then c.args.game.now c.good_answers.new.game c.without-2.new.game
    (grows_then c.args.game.now c.without.new.game c.good_answers.new.game
    (grows_then c.args.game.now c.calm.new.self c.without.new.game c.calm.ensures.grows c.without.ensures.grows)
    c.good_answers.ensures.grows) c.without-2.ensures.grows

pub returns-in_err-leaving-clause-grows : goal.returns-in_err-leaving-clause-grows
returns-in_err-leaving-clause-grows c =
    grows_then c.args.game.now c.without-2.new.game c.or.new.self
    (grows_then c.args.game.now c.good_answers.new.game c.without-2.new.game
    (grows_then c.args.game.now c.without.new.game c.good_answers.new.game
    (grows_then c.args.game.now c.calm.new.self c.without.new.game c.calm.ensures.grows c.without.ensures.grows)
    c.good_answers.ensures.grows) c.without-2.ensures.grows) c.or.ensures.grows

pub returns-clause-grows : goal.returns-clause-grows
returns-clause-grows c =
    grows_then c.args.game.now c.without-2.new.game c.or.new.self
    (grows_then c.args.game.now c.good_answers.new.game c.without-2.new.game
    (grows_then c.args.game.now c.without.new.game c.good_answers.new.game
    (grows_then c.args.game.now c.calm.new.self c.without.new.game c.calm.ensures.grows c.without.ensures.grows)
    c.good_answers.ensures.grows) c.without-2.ensures.grows) c.or.ensures.grows

pub without-requires-2-clause-other : goal.without-requires-2-clause-other
without-requires-2-clause-other c =
    let grown = grows_then c.args.game.now c.calm.new.self c.without.new.game c.calm.ensures.grows
    c.without.ensures.grows in
    let has = c.requires.replies in
    (c.in_ok-good.ensures.states has.0 has.1 has.2 (of_kept c.args.game.now c.without.new.game grown has.0 has.3) has.4
    (replies_kept has.0 c.args.game.now c.without.new.game grown has.1 has.2 c.args.replies.now has.5)).known
