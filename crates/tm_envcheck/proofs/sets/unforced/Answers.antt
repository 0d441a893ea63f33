use Rattle.std.proofs.lemmas.Result.{IfOk-weaker}
use Rattle.tm_envcheck.proofs.Operations.{forced_set, forced_settled, unforced_value}
use Rattle.tm_game.proofs.Growing.{grows_then, set_kept}
use Rattle.tm_envcheck.proofs.sets.unforced.Goals as goal

pub without-requires-clause-a : goal.without-requires-clause-a
without-requires-clause-a c =
    set_kept c.args.game.now c.epre.new.self c.epre.ensures.grows c.args.states c.requires.states

pub without-requires-clause-b : goal.without-requires-clause-b
without-requires-clause-b c =
    forced_set c.requires.ready.design.0 c.args.game.now c.epre.new.self c.epre.ensures.grows c.requires.ready
    c.requires.ready.design.1 c.args.target c.in_ok-forced.forced
    (c.in_ok-forced.ensures.answer c.requires.ready.design.0 c.requires.ready.design.1)

pub returns-clause-grows : goal.returns-clause-grows
returns-clause-grows c = grows_then _ _ _ c.epre.ensures.grows c.without.ensures.grows

pub returns-clause-value : goal.returns-clause-value
returns-clause-value c =
    IfOk-weaker c.without.result _ _
    (λ id value d of s valid.
    unforced_value d c.args.game.now c.epre.new.self c.epre.ensures.grows c.requires.ready of c.args.target
    c.in_ok-forced.forced (c.in_ok-forced.ensures.answer d of) c.without.new.game c.without.ensures.grows
    c.args.states id c.requires.states value s valid)
    c.without.ensures.value

pub returns-clause-decided : goal.returns-clause-decided
returns-clause-decided c =
    IfOk-weaker c.without.result _ _
    (λ id value d of s valid.
    forced_settled d c.args.game.now c.epre.new.self c.epre.ensures.grows c.requires.ready of c.args.target
    c.in_ok-forced.forced (c.in_ok-forced.ensures.answer d of) s valid)
    c.without.ensures.value
