use Rattle.std.specs.Prelude.{◌&&◌}
use Rattle.std.proofs.lemmas.Result.{IfOk-weaker}
use Rattle.tm_envcheck.proofs.Operations.{both_value}
use Rattle.tm_game.proofs.MadeSets.{pair_made}
use Rattle.tm_envcheck.proofs.sets.both.Goals as goal

pub returns-clause-set : goal.returns-clause-set
returns-clause-set c =
    IfOk-weaker c.and.result _ _
    (λ id is.
    pair_made c.args.game.now c.and.new.self c.and.ensures.grows (λ x y. x && y) c.args.a c.args.b id c.requires.a
    c.requires.b is)
    c.and.ensures.answer

pub returns-clause-value : goal.returns-clause-value
returns-clause-value c =
    IfOk-weaker c.and.result _ _
    (λ id is.
    both_value c.args.game.now c.and.new.self c.and.ensures.grows c.args.a c.args.b c.requires.a c.requires.b id is)
    c.and.ensures.answer
