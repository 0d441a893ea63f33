use Rattle.std.specs.Prelude.{◌&&◌, ◌||◌}
use Rattle.std.proofs.lemmas.Result.{IfOk-weaker}
use Rattle.tm_ddops.specs.Connective.{xor}
use Rattle.tm_game.proofs.MadeSets.{pair_made}
use Rattle.test_game.proofs.states.sets.joined.Goals as goal

pub returns-in-And-clause-set : goal.returns-in-And-clause-set
returns-in-And-clause-set c =
    IfOk-weaker c.and.result _ _
    (λ id is.
    pair_made c.args.game.now c.and.new.self c.and.ensures.grows (λ a b. a && b) c.args.before c.args.part id
    c.requires.before c.requires.part is) c.and.ensures.answer

pub returns-in-Or-clause-set : goal.returns-in-Or-clause-set
returns-in-Or-clause-set c =
    IfOk-weaker c.or.result _ _
    (λ id is.
    pair_made c.args.game.now c.or.new.self c.or.ensures.grows (λ a b. a || b) c.args.before c.args.part id
    c.requires.before c.requires.part is) c.or.ensures.answer

pub returns-in-Xor-clause-set : goal.returns-in-Xor-clause-set
returns-in-Xor-clause-set c =
    IfOk-weaker c.xor.result _ _
    (λ id is.
    pair_made c.args.game.now c.xor.new.self c.xor.ensures.grows xor c.args.before c.args.part id c.requires.before
    c.requires.part is) c.xor.ensures.answer
