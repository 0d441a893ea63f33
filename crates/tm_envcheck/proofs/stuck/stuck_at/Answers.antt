use Rattle.std.proofs.lemmas.Result.{IfOk-weaker}
use Rattle.tm_envcheck.proofs.Growing.{ready_kept}
use Rattle.tm_envcheck.proofs.Falling.{stuck_at_decided, stuck_at_value}
use Rattle.tm_game.proofs.Growing.{grows_then, of_kept, set_kept}
use Rattle.tm_envcheck.proofs.stuck.stuck_at.Goals as goal

pub without-requires-clause-b : goal.without-requires-clause-b
without-requires-clause-b c = set_kept c.args.game.now c.both.new.game c.both.ensures.grows c.args.held c.requires.held

pub returns-in_err-here-clause-grows : goal.returns-in_err-here-clause-grows
returns-in_err-here-clause-grows c = grows_then _ _ _ c.both.ensures.grows c.without.ensures.grows

pub either-requires-clause-a : goal.either-requires-clause-a
either-requires-clause-a c =
    set_kept c.both.new.game c.without.new.game c.without.ensures.grows c.args.before
    (set_kept c.args.game.now c.both.new.game c.both.ensures.grows c.args.before c.requires.before)

pub either-requires-clause-b : goal.either-requires-clause-b
either-requires-clause-b c =
    set_kept c.both.new.game c.without.new.game c.without.ensures.grows c.args.below
    (set_kept c.args.game.now c.both.new.game c.both.ensures.grows c.args.below c.requires.below)

pub returns-in_err-lower-clause-grows : goal.returns-in_err-lower-clause-grows
returns-in_err-lower-clause-grows c =
    grows_then _ _ _ c.both.ensures.grows (grows_then _ _ _ c.without.ensures.grows c.either.ensures.grows)

pub unforced-requires-clause-ready : goal.unforced-requires-clause-ready
unforced-requires-clause-ready c =
    ready_kept c.without.new.game c.either.new.game c.either.ensures.grows
    (ready_kept c.both.new.game c.without.new.game c.without.ensures.grows
    (ready_kept c.args.game.now c.both.new.game c.both.ensures.grows c.requires.ready))

pub unforced-requires-clause-states : goal.unforced-requires-clause-states
unforced-requires-clause-states c =
    set_kept c.without.new.game c.either.new.game c.either.ensures.grows c.in_ok-here.here c.in_ok-here.ensures.set

pub returns-clause-grows : goal.returns-clause-grows
returns-clause-grows c =
    grows_then _ _ _ c.both.ensures.grows
    (grows_then _ _ _ c.without.ensures.grows (grows_then _ _ _ c.either.ensures.grows c.unforced.ensures.grows))

pub returns-clause-value : goal.returns-clause-value
returns-clause-value c =
    IfOk-weaker c.unforced.result _ _
    (λ id value d of s valid.
    stuck_at_value d c.args.game.now c.both.new.game c.without.new.game c.either.new.game c.both.ensures.grows
    c.without.ensures.grows c.either.ensures.grows c.args.unmet c.args.held c.args.before c.args.below c.args.set
    c.in_ok-placed.placed c.in_ok-here.here c.in_ok-lower.lower c.requires.unmet c.requires.set c.requires.held
    c.requires.before c.requires.below
    (set_kept c.args.game.now c.both.new.game c.both.ensures.grows c.args.before c.requires.before)
    (set_kept c.args.game.now c.both.new.game c.both.ensures.grows c.args.below c.requires.below)
    c.in_ok-here.ensures.set c.in_ok-placed.ensures.value c.in_ok-here.ensures.value c.in_ok-lower.ensures.value
    c.unforced.new.game id s
    (value d
    (of_kept c.without.new.game c.either.new.game c.either.ensures.grows d
    (of_kept c.both.new.game c.without.new.game c.without.ensures.grows d
    (of_kept c.args.game.now c.both.new.game c.both.ensures.grows d of))) s valid))
    c.unforced.ensures.value

pub returns-clause-decided : goal.returns-clause-decided
returns-clause-decided c =
    IfOk-weaker c.unforced.result _ _
    (λ id value d of s valid.
    stuck_at_decided d c.args.game.now c.both.new.game c.without.new.game c.either.new.game c.both.ensures.grows
    c.without.ensures.grows c.either.ensures.grows c.args.unmet c.args.held c.args.before c.args.below c.args.set
    c.in_ok-placed.placed c.in_ok-here.here c.in_ok-lower.lower c.requires.unmet c.requires.set c.requires.held
    c.requires.before c.requires.below
    (set_kept c.args.game.now c.both.new.game c.both.ensures.grows c.args.before c.requires.before)
    (set_kept c.args.game.now c.both.new.game c.both.ensures.grows c.args.below c.requires.below)
    c.in_ok-here.ensures.set c.in_ok-placed.ensures.value c.in_ok-here.ensures.value c.in_ok-lower.ensures.value s
    (value d
    (of_kept c.without.new.game c.either.new.game c.either.ensures.grows d
    (of_kept c.both.new.game c.without.new.game c.without.ensures.grows d
    (of_kept c.args.game.now c.both.new.game c.both.ensures.grows d of))) s valid))
    c.unforced.ensures.decided
