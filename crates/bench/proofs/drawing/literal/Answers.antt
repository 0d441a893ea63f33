use Rattle.std.proofs.Common.{inl, arith, sym, ◌∙◌}
use Rattle.tm_dd.proofs.CallerLaws.{means-FALSE, means-TRUE}
use Rattle.tm_dd.specs.declared.node.TheConstants.{FALSE, TRUE}
use Rattle.bench.proofs.Drawn.{level_set}
use Rattle.bench.proofs.drawing.literal.Goals as goal

pub make-requires-clause-lo_deeper : goal.make-requires-clause-lo_deeper
make-requires-clause-lo_deeper c = inl (omega arith)

pub make-requires-clause-hi_deeper : goal.make-requires-clause-hi_deeper
make-requires-clause-hi_deeper c = inl (omega arith)

pub make-requires-else-value-clause-lo_deeper : goal.make-requires-else-value-clause-lo_deeper
make-requires-else-value-clause-lo_deeper c = inl (omega arith)

pub make-requires-else-value-clause-hi_deeper : goal.make-requires-else-value-clause-hi_deeper
make-requires-else-value-clause-hi_deeper c = inl (omega arith)

pub returns-then-value-clause-set : goal.returns-then-value-clause-set
returns-then-value-clause-set c =
    let t = c.make.new.self.diagrams.table in
    level_set c.args.game.now c.make.new.self c.make.ensures.grows c.args.level c.requires FALSE TRUE
    (λ v w. means-FALSE t v ∙ sym (means-FALSE t w)) (λ v w. means-TRUE t v ∙ sym (means-TRUE t w)) c.make.result
    c.make.ensures.answer

pub returns-else-value-clause-set : goal.returns-else-value-clause-set
returns-else-value-clause-set c =
    let t = c.make-else-value.new.self.diagrams.table in
    level_set c.args.game.now c.make-else-value.new.self c.make-else-value.ensures.grows c.args.level c.requires TRUE
    FALSE (λ v w. means-TRUE t v ∙ sym (means-TRUE t w)) (λ v w. means-FALSE t v ∙ sym (means-FALSE t w))
    c.make-else-value.result c.make-else-value.ensures.answer
