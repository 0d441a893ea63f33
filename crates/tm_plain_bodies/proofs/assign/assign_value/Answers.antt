use Rattle.std.proofs.Common.{refl, subst}
use Rattle.std.specs.Option.{option_map}
use Rattle.tm_syntax.specs.Tree.{assign, plain}
use Rattle.tm_syntax.specs.Tree.View.{expr_tree}
use Rattle.tm_plain_bodies.specs.Runs.{IsAssigned, behind, item_of}
use Rattle.tm_plain_bodies.proofs.Assigning.{halts_at_target, value_halts, value_passes}
use Rattle.tm_plain_bodies.proofs.Behind.{halts_behind, same_behind, target_behind}
use Rattle.tm_plain_bodies.proofs.Doing.{handed_halt, same_then}
use Rattle.tm_plain_bodies.proofs.assign.assign_value.Goals as goal

pub returns-in_err-cell : goal.returns-in_err-cell
returns-in_err-cell c = λ calls.
    let s = c.args.reader.now in
    let from = behind calls c.args.course.now in
    let to = behind calls c.target.new.course in
    let index = option_map expr_tree c.args.index.now in
    let v = plain (expr_tree c.args.e.now) in
    handed_halt s.tables (item_of s from.trail (assign c.args.path.now index v)) from to
    c.from_residual.result _ c.from_residual.ensures.1
    (halts_at_target s from to c.args.path.now index v _
    (target_behind calls c.args.course.now s c.args.path.now index _ c.in_err-cell.ensures.halts))

pub returns-in_err-value : goal.returns-in_err-value
returns-in_err-value c = λ calls.
    let s = c.args.reader.now in
    let from = behind calls c.args.course.now in
    let mid = behind calls c.target.new.course in
    let to = behind calls c.target_value.new.course in
    let index = option_map expr_tree c.args.index.now in
    let e = expr_tree c.args.e.now in
    handed_halt s.tables (item_of s from.trail (assign c.args.path.now index (plain e))) from to
    c.from_residual-in_err-value.result _ c.from_residual-in_err-value.ensures.1
    (value_halts s from mid to (same_behind calls c.args.course.now c.target.new.course c.target.ensures.same)
    c.args.path.now index c.requires.target c.in_ok-cell.cell
    c.in_ok-cell.ensures.cell e _ (halts_behind calls c.target.new.course s e _ c.in_err-value.ensures.halts))

pub returns : goal.returns
returns c = λ calls.
    let s = c.args.reader.now in
    let from = c.args.course.now in
    let mid = c.target.new.course in
    let valued = c.target_value.new.course in
    let index = option_map expr_tree c.args.index.now in
    value_passes s (behind calls from) (behind calls valued) _
    (same_then (behind calls from) (behind calls mid) (behind calls valued)
    (same_behind calls from mid c.target.ensures.same)
    (same_behind calls mid valued c.target_value.ensures.same)) c.args.path.now index
    c.requires.target c.in_ok-cell.cell c.in_ok-cell.ensures.cell c.in_ok-value.value refl
    c.in_ok-put.ensures (expr_tree c.args.e.now) refl
    (subst (λ k. IsAssigned s k c.args.path.now (expr_tree c.args.e.now) c.in_ok-value.value)
    c.target.ensures.same.store c.in_ok-value.ensures.value)
