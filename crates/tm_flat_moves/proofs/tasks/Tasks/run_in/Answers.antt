use Rattle.std.proofs.Common.{◌≡◌, ◌+◌, length, sym, ap, ◌∙◌, subst, arith}
use Rattle.tm_syntax.specs.declared.tree.TaskDef.{TaskDef}
use Rattle.tm_syntax.specs.Tree.View.{body_tree}
use Rattle.tm_syntax.specs.Design.View.{design_tree}
use Rattle.tm_locations.specs.Locations.{table_of}
use Rattle.tm_flat_bodies.specs.Walks.{BodyLeads, BodyWalks, WalkTables}
use Rattle.tm_flat_moves.specs.Ended.{EndsBehind}
use Rattle.tm_flat_moves.specs.Movable.{tables_by}
use Rattle.tm_flat_exprs.specs.Tables.{cells_of}
use Rattle.tm_flat_moves.proofs.Entering.{body_led, body_walks, call_ran}
use Rattle.tm_flat_moves.proofs.tasks.Tasks.run_in.Goals as goal

pub walk_body-requires : goal.walk_body-requires
walk_body-requires c =
    let m = c.args.mover.now in
    let w = tables_by m in
    let task : TaskDef = c.args.called.now.task.now in
    let stand = c.requires.stand in
    subst (λ (y : WalkTables). BodyWalks y c.args.stand.now (body_tree task.body) c.enter.new.course
    c.in_ok-given.given) (sym c.requires.walker)
    (body_walks w (design_tree m.design.now) m.process c.args.called.now.at task c.args.course.now.terms
    c.requires.callable c.enter.new.course c.in_ok-given.given c.in_ok-given.ensures c.args.stand.now stand.reader
    (stand.depth ∙ m.deep) stand.reached)

pub stop_behind-requires-clause-sound : goal.stop_behind-requires-clause-sound
stop_behind-requires-clause-sound c =
    let m = c.args.mover.now in
    let w = tables_by m in
    let d = design_tree m.design.now in
    let task : TaskDef = c.args.called.now.task.now in
    let stand = c.requires.stand in
    let led = body_led w d m.process c.args.called.now.at task c.args.course.now.terms c.requires.callable
    c.enter.new.course c.in_ok-given.given c.in_ok-given.ensures c.args.stand.now stand.reader (stand.depth ∙ m.deep)
    stand.reached c.walk_body.new.course c.in_ok-left.left
    (subst (λ (y : WalkTables). BodyLeads y c.args.stand.now (body_tree task.body) c.enter.new.course
    c.walk_body.new.course c.in_ok-given.given c.in_ok-left.left) c.requires.walker c.in_ok-left.ensures) in
    led.goes.sound

pub stop_behind-requires-clause-within : goal.stop_behind-requires-clause-within
stop_behind-requires-clause-within c =
    let m = c.args.mover.now in
    let w = tables_by m in
    let d = design_tree m.design.now in
    let task : TaskDef = c.args.called.now.task.now in
    let stand = c.requires.stand in
    let led = body_led w d m.process c.args.called.now.at task c.args.course.now.terms c.requires.callable
    c.enter.new.course c.in_ok-given.given c.in_ok-given.ensures c.args.stand.now stand.reader (stand.depth ∙ m.deep)
    stand.reached c.walk_body.new.course c.in_ok-left.left
    (subst (λ (y : WalkTables). BodyLeads y c.args.stand.now (body_tree task.body) c.enter.new.course
    c.walk_body.new.course c.in_ok-given.given c.in_ok-left.left) c.requires.walker c.in_ok-left.ensures) in
    let rows : length c.rows-count.result.now ≡ length w.locations.rows =
    ap length c.rows-count.ensures ∙ (λ i. length ((table_of (sym c.requires.locations i)).rows)) in
    omega (arith, rows, c.in_ok-given.ensures.many, led.goes.count)

pub stop_behind-requires-clause-flows : goal.stop_behind-requires-clause-flows
stop_behind-requires-clause-flows c =
    let m = c.args.mover.now in
    let w = tables_by m in
    let d = design_tree m.design.now in
    let task : TaskDef = c.args.called.now.task.now in
    let stand = c.requires.stand in
    let led = body_led w d m.process c.args.called.now.at task c.args.course.now.terms c.requires.callable
    c.enter.new.course c.in_ok-given.given c.in_ok-given.ensures c.args.stand.now stand.reader (stand.depth ∙ m.deep)
    stand.reached c.walk_body.new.course c.in_ok-left.left
    (subst (λ (y : WalkTables). BodyLeads y c.args.stand.now (body_tree task.body) c.enter.new.course
    c.walk_body.new.course c.in_ok-given.given c.in_ok-left.left) c.requires.walker c.in_ok-left.ensures) in
    (cells_of m.design.now, led.goes.ends, led.goes.flow)

pub returns : goal.returns
returns c =
    let m = c.args.mover.now in
    let w = tables_by m in
    let d = design_tree m.design.now in
    let task : TaskDef = c.args.called.now.task.now in
    let stand = c.requires.stand in
    let mid = c.walk_body.new.course in
    let fin = c.stop_behind.new.course in
    let led = body_led w d m.process c.args.called.now.at task c.args.course.now.terms c.requires.callable
    c.enter.new.course c.in_ok-given.given c.in_ok-given.ensures c.args.stand.now stand.reader (stand.depth ∙ m.deep)
    stand.reached mid c.in_ok-left.left
    (subst (λ (y : WalkTables). BodyLeads y c.args.stand.now (body_tree task.body) c.enter.new.course mid
    c.in_ok-given.given c.in_ok-left.left) c.requires.walker c.in_ok-left.ensures) in
    let rows : length c.rows-count.result.now ≡ length w.locations.rows =
    ap length c.rows-count.ensures ∙ (λ i. length ((table_of (sym c.requires.locations i)).rows)) in
    call_ran w d m.process c.args.called.now.at task c.args.course.now.terms c.requires.callable c.enter.new.course
    c.in_ok-given.given c.in_ok-given.ensures mid fin c.in_ok-left.left led
    (subst (λ k. EndsBehind mid.terms fin.terms (k + 1) c.in_ok-left.left mid.ends fin.ends) rows
    c.in_ok-stop_behind.ensures)
