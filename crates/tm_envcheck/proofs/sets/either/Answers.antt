use Rattle.std.specs.Prelude.{◌||◌}
use Rattle.std.proofs.lemmas.Result.{IfOk-weaker}
use Rattle.tm_envcheck.proofs.Operations.{either_value}
use Rattle.tm_game.proofs.MadeSets.{pair_made}
use Rattle.tm_envcheck.proofs.sets.either.Goals as goal

pub returns-clause-set : goal.returns-clause-set
returns-clause-set c =
    IfOk-weaker c.or.result _ _
    (λ id is.
    pair_made c.args.game.now c.or.new.self c.or.ensures.grows (λ x y. x || y) c.args.a c.args.b id c.requires.a
    c.requires.b is)
    c.or.ensures.answer

pub returns-clause-value : goal.returns-clause-value
returns-clause-value c =
    IfOk-weaker c.or.result _ _
    (λ id is.
    either_value c.args.game.now c.or.new.self c.or.ensures.grows c.args.a c.args.b c.requires.a c.requires.b id is)
    c.or.ensures.answer
