use Rattle.std.proofs.Common.{Some, refl, sym, ap, ◌∙◌, subst}
use Rattle.tm_syntax.specs.Scopes.Pauses.{call_depth}
use Rattle.tm_syntax.specs.Design.View.{design_tree}
use Rattle.tm_syntax.specs.Tree.{row_of}
use Rattle.tm_locations.specs.Locations.{work_stmts}
use Rattle.tm_flat_bodies.specs.Walks.{RowLeads, RowWalks, WalkTables}
use Rattle.tm_flat_moves.specs.Movable.{tables_by}
use Rattle.tm_flat_moves.proofs.Working.{nothing_done, row_walks, stmts_lead}
use Rattle.tm_flat_moves.proofs.mover.Mover.walk_work.Goals as goal

pub returns-in-None : goal.returns-in-None
returns-in-None c = λ e q has are trail reached.
    nothing_done (tables_by c.args.self.now) (design_tree c.args.self.now.design.now) c.args.self.now.process
    c.args.node.now c.args.course.now c.args.flow c.requires.work (c.in-None.ensures.none) e q trail

pub walk_node-requires : goal.walk_node-requires
walk_node-requires c =
    let m = c.args.self.now in
    let node = c.args.node.now in
    let f = c.in-Some.stand in
    let at = c.in-Some.ensures.found in
    subst (λ (w : WalkTables). RowWalks w f (row_of (work_stmts node.work)) c.args.course.now c.args.flow)
    (sym c.requires.walker)
    (row_walks (tables_by m) (design_tree m.design.now) m.process f node.scope node.trail at.reader
    (at.depth ∙ m.deep) at.reached node c.args.course.now c.args.flow c.requires.work refl refl)

pub returns-in_ok-left-in-Some : goal.returns-in_ok-left-in-Some
returns-in_ok-left-in-Some c = λ e q has are trail reached.
    let m = c.args.self.now in
    let node = c.args.node.now in
    let f = c.in-Some.stand in
    let at = c.in-Some.ensures.found in
    stmts_lead (tables_by m) e q f node.scope node.trail at.reader
    (at.depth ∙ m.deep ∙ ap call_depth (sym has.text)) at.reached has are (work_stmts node.work) c.args.course.now
    c.walk_node.new.course c.args.flow c.in_ok-left-in-Some.left
    (subst (λ (w : WalkTables). RowLeads w f (row_of (work_stmts node.work)) c.args.course.now
    c.walk_node.new.course c.args.flow c.in_ok-left-in-Some.left) c.requires.walker c.in_ok-left-in-Some.ensures)
    trail reached
