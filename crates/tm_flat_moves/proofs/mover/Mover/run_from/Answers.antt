use Rattle.std.proofs.Common.{◌≡◌, ◌+◌, length, ap, subst, arith}
use Rattle.tm_syntax.specs.Design.Locations.{rest}
use Rattle.tm_syntax.specs.Design.View.{design_tree}
use Rattle.tm_flat_moves.specs.Ended.{EndsBehind}
use Rattle.tm_flat_moves.specs.Items.{ItemsLead}
use Rattle.tm_flat_moves.specs.Movable.{tables_by}
use Rattle.tm_flat_exprs.specs.Tables.{cells_of}
use Rattle.tm_flat_moves.proofs.Running.{NoneEnded, none_ended, process_has_run, work_walks}
use Rattle.tm_flat_moves.proofs.mover.Mover.run_from.Goals as goal

pub walk_from-requires-clause-rest : goal.walk_from-requires-clause-rest
walk_from-requires-clause-rest c =
    let m = c.args.self.now in
    let w = tables_by m in
    let d = design_tree m.design.now in
    let rows : length c.rows-rows.result.now ≡ length w.locations.rows = ap length c.rows-rows.ensures in
    let none = subst (λ k. NoneEnded (k + 2) c.begin.new.course.ends) rows
    (none_ended (length c.rows-rows.result.now + 2) c.in_ok-course.field-0 c.begin.new.course.ends
    c.in_ok-course.ensures
    c.in_ok-flow.ensures.ends) in
    work_walks w d m.process c.args.place c.args.course.now.terms c.make.new.terms c.requires.movable
    c.begin.new.course none
    c.in_ok-always.always c.in_ok-always.ensures c.in_ok-flow.flow c.in_ok-flow.ensures.begins c.requires.work

pub stop_behind-requires-clause-within : goal.stop_behind-requires-clause-within
stop_behind-requires-clause-within c =
    let m = c.args.self.now in
    let w = tables_by m in
    let d = design_tree m.design.now in
    let rows : length c.rows-rows.result.now ≡ length w.locations.rows = ap length c.rows-rows.ensures in
    let none = subst (λ k. NoneEnded (k + 2) c.begin.new.course.ends) rows
    (none_ended (length c.rows-rows.result.now + 2) c.in_ok-course.field-0 c.begin.new.course.ends
    c.in_ok-course.ensures
    c.in_ok-flow.ensures.ends) in
    let led : ItemsLead w d m.process (rest d m.process c.args.place) c.begin.new.course c.walk_from.new.course
    c.in_ok-flow.flow c.in_ok-left.left = c.in_ok-left.ensures in
    omega (arith, rows, none.many, led.goes.count)

pub stop_behind-requires-clause-flows : goal.stop_behind-requires-clause-flows
stop_behind-requires-clause-flows c =
    let m = c.args.self.now in
    let w = tables_by m in
    let d = design_tree m.design.now in
    let led : ItemsLead w d m.process (rest d m.process c.args.place) c.begin.new.course c.walk_from.new.course
    c.in_ok-flow.flow c.in_ok-left.left = c.in_ok-left.ensures in
    (cells_of m.design.now, led.goes.ends, led.goes.flow)

pub returns : goal.returns
returns c =
    let m = c.args.self.now in
    let w = tables_by m in
    let d = design_tree m.design.now in
    let rows : length c.rows-rows.result.now ≡ length w.locations.rows = ap length c.rows-rows.ensures in
    let none = subst (λ k. NoneEnded (k + 2) c.begin.new.course.ends) rows
    (none_ended (length c.rows-rows.result.now + 2) c.in_ok-course.field-0 c.begin.new.course.ends
    c.in_ok-course.ensures
    c.in_ok-flow.ensures.ends) in
    let led : ItemsLead w d m.process (rest d m.process c.args.place) c.begin.new.course c.walk_from.new.course
    c.in_ok-flow.flow c.in_ok-left.left = c.in_ok-left.ensures in
    let fin = c.stop_behind.new.course in
    let mid = c.walk_from.new.course in
    process_has_run w d m.process c.args.place c.args.course.now.terms c.make.new.terms c.requires.movable
    c.begin.new.course none
    c.in_ok-always.always c.in_ok-always.ensures c.in_ok-flow.flow c.in_ok-flow.ensures.begins mid fin
    c.in_ok-left.left led
    (subst (λ k. EndsBehind mid.terms fin.terms (k + 1) c.in_ok-left.left mid.ends fin.ends) rows
    c.in_ok-stop_behind.ensures)
