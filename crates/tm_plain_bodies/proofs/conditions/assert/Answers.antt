use Rattle.std.proofs.Common.{ap, ◌∙◌, subst}
use Rattle.tm_syntax.specs.Tree.{assert}
use Rattle.tm_syntax.specs.Tree.View.{expr_tree}
use Rattle.tm_plain_bodies.specs.declared.halt.Halt.TheVariants.{Failed}
use Rattle.tm_plain_bodies.specs.Runs.{at_end, behind, item_of}
use Rattle.tm_plain_exprs.specs.Valued.{Holds}
use Rattle.tm_plain_bodies.proofs.Behind.{halts_behind, same_behind}
use Rattle.tm_plain_bodies.proofs.Doing.{handed_halt}
use Rattle.tm_plain_bodies.proofs.Performing.{assert_passes, assert_errs, assert_halts}
use Rattle.tm_plain_bodies.proofs.conditions.assert.Goals as goal

pub returns-in_err-holds : goal.returns-in_err-holds
returns-in_err-holds c = λ at calls.
    let s = c.args.reader.now in
    let from = behind calls c.args.course.now in
    let to = behind calls c.condition.new.course in
    let e = expr_tree c.args.e.now in
    handed_halt s.tables (item_of s from.trail (assert at e)) from to c.from_residual.result _
    c.from_residual.ensures.1 (assert_halts s from e at to _ (halts_behind calls c.args.course.now s e _
    c.in_err-holds.ensures.halts))

pub returns-then-holds : goal.returns-then-holds
returns-then-holds c = λ at calls.
    let s = c.args.reader.now in
    let from = behind calls c.args.course.now in
    let e = expr_tree c.args.e.now in
    assert_passes s from e at (behind calls c.condition.new.course)
    (same_behind calls c.args.course.now c.condition.new.course c.condition.ensures.same)
    (subst (Holds s from.store e) c.if-holds.true c.in_ok-holds.ensures.holds)

pub returns-else-holds : goal.returns-else-holds
returns-else-holds c = λ at calls.
    let s = c.args.reader.now in
    let from = behind calls c.args.course.now in
    let e = expr_tree c.args.e.now in
    assert_errs s from e at (behind calls c.condition.new.course) c.at_end.result
    (c.at_end.ensures ∙ ap (λ cs. at_end cs Failed) c.condition.ensures.same.choices)
    (subst (Holds s from.store e) c.if-holds.false c.in_ok-holds.ensures.holds)
