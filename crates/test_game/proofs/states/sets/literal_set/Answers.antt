use Rattle.std.proofs.Common.{inl, ◌<◌, length, arith, rules}
use Rattle.std.proofs.lemmas.Result.{IfOk-weaker}
use Rattle.tm_dd.specs.declared.node.TheConstants.{FALSE, TRUE}
use Rattle.tm_game.proofs.MadeSets.{false_set, true_set}
use Rattle.test_game.proofs.LevelSets.{level_made}
use Rattle.test_game.proofs.states.sets.literal_set.Goals as goal

pub returns-then-literal-order-clause-set : goal.returns-then-literal-order-clause-set
returns-then-literal-order-clause-set c = false_set c.args.game.now

pub make-requires-clause-lo_deeper : goal.make-requires-clause-lo_deeper
make-requires-clause-lo_deeper c = inl (omega arith)

pub make-requires-clause-hi_deeper : goal.make-requires-clause-hi_deeper
make-requires-clause-hi_deeper c = inl (omega arith)

pub make-requires-else-literal-clause-lo_deeper : goal.make-requires-else-literal-clause-lo_deeper
make-requires-else-literal-clause-lo_deeper c = inl (omega arith)

pub make-requires-else-literal-clause-hi_deeper : goal.make-requires-else-literal-clause-hi_deeper
make-requires-else-literal-clause-hi_deeper c = inl (omega arith)

pub returns-then-literal-clause-set : goal.returns-then-literal-clause-set
returns-then-literal-clause-set c =
    let below : c.args.literal.level < length c.args.game.now.order = search rules in
    IfOk-weaker c.make.result _ _
    (λ id is.
    level_made c.args.game.now c.make.new.self c.make.ensures.grows c.args.literal.level TRUE FALSE id below
    (true_set c.args.game.now) (false_set c.args.game.now) is) c.make.ensures.answer

pub returns-else-literal-clause-set : goal.returns-else-literal-clause-set
returns-else-literal-clause-set c =
    let below : c.args.literal.level < length c.args.game.now.order = search rules in
    IfOk-weaker c.make-else-literal.result _ _
    (λ id is.
    level_made c.args.game.now c.make-else-literal.new.self c.make-else-literal.ensures.grows c.args.literal.level
    FALSE TRUE id below (false_set c.args.game.now) (true_set c.args.game.now) is) c.make-else-literal.ensures.answer
