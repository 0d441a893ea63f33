use Rattle.std.proofs.Common.{◌+◌, List, Err, length, sym, ap, ◌∙◌, subst}
use Rattle.std.proofs.lemmas.Result.{IfOk-weaker}
use Rattle.tm_syntax.specs.Design.View.{design_tree}
use Rattle.tm_locations.specs.Locations.{AreLocations, table_of, work_stmts}
use Rattle.tm_locations.specs.declared.table.LocationRow.{LocationRow}
use Rattle.tm_typing.proofs.Sound.{checked}
use Rattle.tm_plain_bodies.specs.Runs.{DoesRow}
use Rattle.tm_plain_bodies.specs.Tables.{body_of}
use Rattle.tm_plain.specs.Machine.{IsRunnable}
use Rattle.tm_plain.proofs.Ending.{none_left_over, one_left_over}
use Rattle.tm_plain.proofs.Fitness.{typed_cells}
use Rattle.tm_plain.proofs.Locating.{table_below}
use Rattle.tm_plain.proofs.Places.{end_is}
use Rattle.tm_plain.proofs.Working.{fewer_steps, next, work_begins, work_ends, work_goes_on, work_halts, work_leaves_choices, work_stands}
use Rattle.tm_plain.proofs.machine.Machine.perform_rest.Goals as goal

pub nodes-init : goal.nodes-init
nodes-init c =
    let d = c.args.self.now in
    let p = c.args.process in
    let t = c.index-locations.result.now in
    let runnable : IsRunnable d = subst IsRunnable c.self.view_is c.self.invariant.1 in
    let are : AreLocations (table_of t) (design_tree d) p =
    table_below d c.self.inside.design.now c.self.inside.locations.items c.self.view_is c.self.invariant.2 p t
    c.requires.process c.index-locations.ensures in
    work_begins d p c.args.place (table_of t) (checked (design_tree d) runnable.sound runnable.read)
    c.rest_number-left.result c.args.course.now (c.rest_number-left.ensures (design_tree d) p are) c.requires.trail

pub perform_work-requires : goal.perform_work-requires
perform_work-requires c =
    work_stands c.args.self.now c.args.process c.args.place (table_of c.index-locations.result.now)
    c.args.course.now.store c.args.course.now.choices c.nodes.left c.nodes.course c.nodes.invariant c.in-Some.node
    (sym c.rest.ensures ∙ c.in-Some.is)

pub returns-in-Err : goal.returns-in-Err
returns-in-Err c =
    let d = c.args.self.now in
    let p = c.args.process in
    let t = c.index-locations.result.now in
    let node = c.in-Some.node in
    let from = c.args.course.now in
    let later = c.perform_work.new.course in
    let runnable : IsRunnable d = subst IsRunnable c.self.view_is c.self.invariant.1 in
    let are : AreLocations (table_of t) (design_tree d) p =
    table_below d c.self.inside.design.now c.self.inside.locations.items c.self.view_is c.self.invariant.2 p t
    c.requires.process c.index-locations.ensures in
    let is = sym c.rest.ensures ∙ c.in-Some.is in
    let step = next d p c.args.place (table_of t) from.store from.choices c.nodes.left c.nodes.course c.nodes.invariant
    node is in
    let does : DoesRow {A = Unit {0}} (body_of d node.scope) (work_stmts node.work) c.nodes.course later
    (Err c.in-Err.halt) =
    subst (DoesRow (body_of d node.scope) (work_stmts node.work) c.nodes.course later) c.in-Err.is
    c.perform_work.ensures in
    IfOk-weaker c.end_of.result _ _
    (λ e at. work_halts d p c.args.place (table_of t) from.store from.choices c.nodes.left c.nodes.course
    c.nodes.invariant node is runnable.sound (typed_cells d runnable) later c.in-Err.halt does e at)
    (c.end_of.ensures (design_tree d) p step.trail are step.is_trail)

pub nodes-smaller : goal.nodes-smaller
nodes-smaller c =
    fewer_steps c.args.self.now c.args.process c.args.place (table_of c.index-locations.result.now)
    c.args.course.now.store c.args.course.now.choices c.nodes.left c.nodes.course c.nodes.invariant c.in-Some.node
    (sym c.rest.ensures ∙ c.in-Some.is)

pub nodes-preserved : goal.nodes-preserved
nodes-preserved c =
    let d = c.args.self.now in
    let node = c.in-Some.node in
    let later = c.perform_work.new.course in
    let runnable : IsRunnable d = subst IsRunnable c.self.view_is c.self.invariant.1 in
    work_goes_on d c.args.process c.args.place (table_of c.index-locations.result.now) c.args.course.now.store
    c.args.course.now.choices c.nodes.left c.nodes.course c.nodes.invariant node (sym c.rest.ensures ∙ c.in-Some.is)
    runnable.sound (typed_cells d runnable) later c.in_default-perform_work.field-0
    (subst (DoesRow (body_of d node.scope) (work_stmts node.work) c.nodes.course later) c.in_default-perform_work.is
    c.perform_work.ensures)

pub returns-then-is_empty : goal.returns-then-is_empty
returns-then-is_empty c =
    let d = c.args.self.now in
    let p = c.args.process in
    let t = c.index-locations.result.now in
    let are : AreLocations (table_of t) (design_tree d) p =
    table_below d c.self.inside.design.now c.self.inside.locations.items c.self.view_is c.self.invariant.2 p t
    c.requires.process c.index-locations.ensures in
    work_ends d p c.args.place (table_of t) c.args.course.now.store c.args.course.now.choices c.nodes.left
    c.nodes.course c.nodes.invariant (sym c.rest.ensures ∙ c.in_default.is)
    (none_left_over c.is_empty.result c.nodes.course.choices c.is_empty.ensures c.if-is_empty.true)
    (length c.rows.result.now + 1)
    (ap (λ (rows : List LocationRow). length rows + 1) c.rows.ensures ∙ end_is (table_of t) (design_tree d) p are)

pub returns-else-is_empty : goal.returns-else-is_empty
returns-else-is_empty c =
    work_leaves_choices c.args.self.now c.args.process c.args.place (table_of c.index-locations.result.now)
    c.args.course.now.store c.args.course.now.choices c.nodes.left c.nodes.course c.nodes.invariant
    (sym c.rest.ensures ∙ c.in_default.is)
    (one_left_over c.is_empty.result c.nodes.course.choices c.is_empty.ensures c.if-is_empty.false)
