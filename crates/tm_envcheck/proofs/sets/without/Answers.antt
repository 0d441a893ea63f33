use Rattle.std.proofs.lemmas.Result.{IfOk-weaker}
use Rattle.tm_envcheck.proofs.Operations.{without_set, without_value}
use Rattle.tm_envcheck.proofs.sets.without.Goals as goal

pub and-requires-clause-g : goal.and-requires-clause-g
and-requires-clause-g c = c.complement.ensures.known c.args.game.now.diagrams.table c.requires.b.known

pub returns-clause-set : goal.returns-clause-set
returns-clause-set c =
    IfOk-weaker c.and.result _ _
    (λ id is.
    without_set c.args.game.now c.and.new.self c.and.ensures.grows c.args.a c.args.b c.requires.a c.requires.b id
    c.complement.result c.complement.ensures.meaning is)
    c.and.ensures.answer

pub returns-clause-value : goal.returns-clause-value
returns-clause-value c =
    IfOk-weaker c.and.result _ _
    (λ id is.
    without_value c.args.game.now c.and.new.self c.and.ensures.grows c.args.a c.args.b c.requires.a c.requires.b id
    c.complement.result c.complement.ensures.meaning is)
    c.and.ensures.answer
