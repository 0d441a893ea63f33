use Rattle.std.specs.Prelude.{◌&&◌}
use Rattle.std.proofs.lemmas.Result.{IfOk-weaker}
use Rattle.tm_game.proofs.Growing.{grows_then, known_kept, set_kept}
use Rattle.tm_game.proofs.MadeSets.{pair_made}
use Rattle.test_game.proofs.states.sets.both.Goals as goal

pub and-requires-clause-f : goal.and-requires-clause-f
and-requires-clause-f c =
    known_kept _ _ c.literal_set-2.ensures.grows c.in_ok-first.first c.in_ok-first.ensures.set.known

pub returns-in_err-second-clause-grows : goal.returns-in_err-second-clause-grows
returns-in_err-second-clause-grows c = grows_then _ _ _ c.literal_set.ensures.grows c.literal_set-2.ensures.grows

pub returns-clause-grows : goal.returns-clause-grows
returns-clause-grows c =
    grows_then _ _ _ c.literal_set.ensures.grows (grows_then _ _ _ c.literal_set-2.ensures.grows c.and.ensures.grows)

pub returns-clause-set : goal.returns-clause-set
returns-clause-set c =
    IfOk-weaker c.and.result _ _
    (λ id is.
    pair_made c.literal_set-2.new.game c.and.new.self c.and.ensures.grows (λ a b. a && b) c.in_ok-first.first
    c.in_ok-second.second id
    (set_kept _ _ c.literal_set-2.ensures.grows c.in_ok-first.first c.in_ok-first.ensures.set)
    c.in_ok-second.ensures.set is) c.and.ensures.answer
