use Rattle.std.proofs.Common.{refl, sym, ◌∙◌}
use Rattle.std.specs.Option.{option_map}
use Rattle.tm_syntax.specs.Tree.{assign, star}
use Rattle.tm_syntax.specs.Tree.View.{expr_tree}
use Rattle.tm_plain_bodies.specs.Runs.{behind, item_of}
use Rattle.tm_plain_bodies.proofs.Assigning.{halts_at_target, star_passes, star_refuses, star_wants}
use Rattle.tm_plain_bodies.proofs.Behind.{same_behind, target_behind}
use Rattle.tm_plain_bodies.proofs.Doing.{handed_halt}
use Rattle.tm_plain_bodies.proofs.assign.assign_choice.Goals as goal

pub returns-in_err-cell : goal.returns-in_err-cell
returns-in_err-cell c = λ at calls.
    let s = c.args.reader.now in
    let from = behind calls c.args.course.now in
    let to = behind calls c.target.new.course in
    let index = option_map expr_tree c.args.index.now in
    handed_halt s.tables (item_of s from.trail (assign c.args.path.now index (star at))) from to
    c.from_residual.result _ c.from_residual.ensures.1
    (halts_at_target s from to c.args.path.now index (star at) _
    (target_behind calls c.args.course.now s c.args.path.now index _ c.in_err-cell.ensures.halts))

pub returns-in_default : goal.returns-in_default
returns-in_default c = λ at calls.
    star_wants c.args.reader.now (behind calls c.args.course.now) (behind calls c.target.new.course)
    (behind calls c.target.new.course)
    (same_behind calls c.args.course.now c.target.new.course c.target.ensures.same)
    c.args.path.now (option_map expr_tree c.args.index.now) c.requires c.in_ok-cell.cell c.in_ok-cell.ensures.cell
    at c.in_default.ensures.none

pub returns-else-takes : goal.returns-else-takes
returns-else-takes c = λ at calls.
    star_refuses c.args.reader.now (behind calls c.args.course.now) (behind calls c.target.new.course)
    (behind calls c.target.new.course)
    (same_behind calls c.args.course.now c.target.new.course c.target.ensures.same)
    c.args.path.now (option_map expr_tree c.args.index.now) c.requires c.in_ok-cell.cell c.in_ok-cell.ensures.cell
    at c.in-Some.choice c.next.new.self c.in-Some.ensures.next
    (λ d has sized. sym c.if-takes.false ∙ c.takes.ensures d has sized)

pub returns-in_ok-put : goal.returns-in_ok-put
returns-in_ok-put c = λ at calls.
    star_passes c.args.reader.now (behind calls c.args.course.now) (behind calls c.target.new.course) _
    (same_behind calls c.args.course.now c.target.new.course c.target.ensures.same)
    c.args.path.now (option_map expr_tree c.args.index.now) c.requires c.in_ok-cell.cell c.in_ok-cell.ensures.cell
    c.in-Some.choice refl c.in_ok-put.ensures at c.in-Some.ensures.next
    (λ d has sized. sym c.if-takes.true ∙ c.takes.ensures d has sized)
