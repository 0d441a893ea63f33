use Rattle.std.proofs.Common.{subst}
use Rattle.tm_syntax.specs.Tree.{assume}
use Rattle.tm_syntax.specs.Tree.View.{expr_tree}
use Rattle.tm_plain_bodies.specs.Runs.{behind, item_of}
use Rattle.tm_plain_exprs.specs.Valued.{Holds}
use Rattle.tm_plain_bodies.proofs.Behind.{halts_behind, same_behind}
use Rattle.tm_plain_bodies.proofs.Doing.{handed_halt}
use Rattle.tm_plain_bodies.proofs.Performing.{assume_passes, assume_blocks, assume_halts}
use Rattle.tm_plain_bodies.proofs.conditions.assume.Goals as goal

pub returns-in_err-holds : goal.returns-in_err-holds
returns-in_err-holds c = λ at calls.
    let s = c.args.reader.now in
    let from = behind calls c.args.course.now in
    let to = behind calls c.condition.new.course in
    let e = expr_tree c.args.e.now in
    handed_halt s.tables (item_of s from.trail (assume at e)) from to c.from_residual.result _
    c.from_residual.ensures.1 (assume_halts s from e at to _ (halts_behind calls c.args.course.now s e _
    c.in_err-holds.ensures.halts))

pub returns-then-holds : goal.returns-then-holds
returns-then-holds c = λ at calls.
    let s = c.args.reader.now in
    let from = behind calls c.args.course.now in
    let e = expr_tree c.args.e.now in
    assume_passes s from e at (behind calls c.condition.new.course)
    (same_behind calls c.args.course.now c.condition.new.course c.condition.ensures.same)
    (subst (Holds s from.store e) c.if-holds.true c.in_ok-holds.ensures.holds)

pub returns-else-holds : goal.returns-else-holds
returns-else-holds c = λ at calls.
    let s = c.args.reader.now in
    let from = behind calls c.args.course.now in
    let e = expr_tree c.args.e.now in
    assume_blocks s from e at (behind calls c.condition.new.course)
    (subst (Holds s from.store e) c.if-holds.false c.in_ok-holds.ensures.holds)
