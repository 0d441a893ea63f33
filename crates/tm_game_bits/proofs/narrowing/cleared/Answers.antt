use Rattle.std.proofs.Common.{inl, arith}
use Rattle.tm_dd.specs.declared.node.TheConstants.{FALSE}
use Rattle.tm_dd.specs.Table.{Knows}
use Rattle.tm_ddops.proofs.Facts.{ids_apart, same_ids}
use Rattle.tm_game_bits.proofs.LeastValues.{cleared_empty, cleared_low, is_low}
use Rattle.tm_game_bits.proofs.narrowing.cleared.Goals as goal

pub make-requires-clause-lo_deeper : goal.make-requires-clause-lo_deeper
make-requires-clause-lo_deeper c = inl (omega arith)

pub make-requires-clause-hi_deeper : goal.make-requires-clause-hi_deeper
make-requires-clause-hi_deeper c = inl (omega arith)

pub returns-then-eq-clause-answer : goal.returns-then-eq-clause-answer
returns-then-eq-clause-answer c =
    let u = c.and.new.self.table in
    let known : Knows c.and.new.self.table c.args.f =
    omega (arith, c.requires.known, c.make.ensures.grows.extends.rises, c.and.ensures.grows.extends.rises) in
    let low = is_low c.make.new.self.table c.and.new.self.table c.args.f c.in_ok-clear.clear c.in_ok-low.low
    c.args.level
    c.in_ok-clear.ensures.answer c.and.ensures.grows.extends c.in_ok-low.ensures.answer in
    cleared_empty u c.args.f c.in_ok-low.low c.args.level known low (same_ids c.in_ok-low.low FALSE c.if-eq.ensures)

pub returns-else-eq-clause-answer : goal.returns-else-eq-clause-answer
returns-else-eq-clause-answer c =
    let low = is_low c.make.new.self.table c.and.new.self.table c.args.f c.in_ok-clear.clear c.in_ok-low.low
    c.args.level
    c.in_ok-clear.ensures.answer c.and.ensures.grows.extends c.in_ok-low.ensures.answer in
    cleared_low c.and.new.self.table c.args.f c.in_ok-low.low c.args.level low
    (ids_apart c.in_ok-low.low FALSE c.if-eq.ensures)
