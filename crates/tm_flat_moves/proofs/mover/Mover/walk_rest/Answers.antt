use Rattle.std.proofs.Common.{◌≡◌, Option, None, Some, sym, ap, ◌∙◌, subst}
use Rattle.tm_scope.specs.Cells.{HasCells}
use Rattle.tm_syntax.specs.Design.Locations.{rest}
use Rattle.tm_syntax.specs.Design.View.{design_tree}
use Rattle.tm_locations.specs.Locations.{numbered_node, table_of}
use Rattle.tm_locations.specs.declared.table.RestNode.{RestNode}
use Rattle.tm_plain.proofs.Chains.{next_work}
use Rattle.tm_flat_moves.specs.Movable.{tables_by}
use Rattle.tm_flat_moves.proofs.Working.{Does, node_walks, rest_begins, rest_ends, rest_fewer, rest_goes_on, rest_stops}
use Rattle.tm_flat_moves.proofs.mover.Mover.walk_rest.Goals as goal

pub nodes-init : goal.nodes-init
nodes-init c =
    let m = c.args.self.now in
    let d = design_tree m.design.now in
    rest_begins (tables_by m) d m.process (rest d m.process c.args.place) c.rest_number-left.result c.args.course.now
    c.args.flow (c.rest_number-left.ensures d m.process c.requires.rest.are) c.requires.rest

pub walk_work-requires-clause-work : goal.walk_work-requires-clause-work
walk_work-requires-clause-work c =
    let m = c.args.self.now in
    let d = design_tree m.design.now in
    node_walks (tables_by m) d m.process (rest d m.process c.args.place) c.args.course.now c.args.flow c.nodes.left
    c.nodes.course c.nodes.here c.nodes.invariant c.in-Some.node (sym c.rest.ensures ∙ c.in-Some.is)

pub nodes-smaller : goal.nodes-smaller
nodes-smaller c =
    let m = c.args.self.now in
    let d = design_tree m.design.now in
    rest_fewer (tables_by m) d m.process (rest d m.process c.args.place) c.args.course.now c.args.flow c.nodes.left
    c.nodes.course c.nodes.here c.nodes.invariant c.in-Some.node (sym c.rest.ensures ∙ c.in-Some.is)

pub nodes-preserved : goal.nodes-preserved
nodes-preserved c =
    let m = c.args.self.now in
    let d = design_tree m.design.now in
    let whole = rest d m.process c.args.place in
    let is = sym c.rest.ensures ∙ c.in-Some.is in
    rest_goes_on (tables_by m) d m.process whole c.args.course.now c.args.flow c.nodes.left c.nodes.course c.nodes.here
    c.nodes.invariant c.in-Some.node is c.walk_work.new.course c.in-Some-2.next
    (subst (Does (tables_by m) d m.process whole c.args.course.now c.args.flow c.nodes.left c.nodes.course c.nodes.here
    c.nodes.invariant c.in-Some.node is c.walk_work.new.course) c.in-Some-2.is c.in_ok-next.ensures)

pub returns-in-None : goal.returns-in-None
returns-in-None c =
    let m = c.args.self.now in
    let d = design_tree m.design.now in
    let whole = rest d m.process c.args.place in
    let is = sym c.rest.ensures ∙ c.in-Some.is in
    rest_stops (tables_by m) d m.process whole c.args.course.now c.args.flow c.nodes.left c.nodes.course c.nodes.here
    c.nodes.invariant c.in-Some.node is c.walk_work.new.course
    (subst (Does (tables_by m) d m.process whole c.args.course.now c.args.flow c.nodes.left c.nodes.course c.nodes.here
    c.nodes.invariant c.in-Some.node is c.walk_work.new.course) c.in-None.is c.in_ok-next.ensures)

pub returns : goal.returns
returns c =
    let m = c.args.self.now in
    let d = design_tree m.design.now in
    rest_ends (tables_by m) d m.process (rest d m.process c.args.place) c.args.course.now c.args.flow c.nodes.left
    c.nodes.course c.nodes.here c.nodes.invariant (sym c.rest.ensures ∙ c.in_default.is)
