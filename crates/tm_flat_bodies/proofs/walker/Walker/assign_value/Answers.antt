use Rattle.std.proofs.Common.{Option, None, Some, sym, ap, subst}
use Rattle.std.specs.Option.{option_map}
use Rattle.tm_syntax.specs.Tree.{ExprTree, assign, plain}
use Rattle.tm_syntax.specs.Tree.View.{expr_tree}
use Rattle.tm_flat_bodies.specs.Asked.{TargetIsTyped}
use Rattle.tm_flat_bodies.specs.Tables.{known_by}
use Rattle.tm_flat_bodies.specs.Walks.{StmtLeads}
use Rattle.tm_flat_bodies.proofs.Standing.{apart_here, ends_here, flow_here, settled_here, through_leads}
use Rattle.tm_flat_bodies.proofs.walker.Walker.assign_value.Goals as goal

pub assigned-requires-clause-typed : goal.assigned-requires-clause-typed
assigned-requires-clause-typed c =
    let ty = c.requires.typed.0 in
    let is = ap (option_map expr_tree) c.in-None.is in
    let target = subst (TargetIsTyped c.args.stand.now.reader ty c.args.path.now) is c.requires.typed.1 in
    (ty, target.0, c.requires.typed.2)

pub assigned-requires-clause-settled : goal.assigned-requires-clause-settled
assigned-requires-clause-settled c =
    settled_here (known_by c.args.self.now) c.args.stand.now c.requires.stand c.requires.stand.walkable

pub assigned-requires-clause-sound : goal.assigned-requires-clause-sound
assigned-requires-clause-sound c = c.requires.standing.sound

pub assigned-requires-clause-flow : goal.assigned-requires-clause-flow
assigned-requires-clause-flow c =
    flow_here (known_by c.args.self.now) c.args.stand.now c.requires.stand c.args.course.now.terms c.args.flow
    c.requires.standing.stands

pub assigned-requires-clause-ends : goal.assigned-requires-clause-ends
assigned-requires-clause-ends c =
    ends_here (known_by c.args.self.now) c.args.stand.now c.requires.stand c.args.course.now.terms
    c.args.course.now.ends
    c.requires.standing.ended

pub assigned-requires-clause-apart : goal.assigned-requires-clause-apart
assigned-requires-clause-apart c =
    apart_here (known_by c.args.self.now) c.args.stand.now c.requires.stand c.requires.stand.walkable

pub returns-in_ok-goes-in-None : goal.returns-in_ok-goes-in-None
returns-in_ok-goes-in-None c =
    let w = known_by c.args.self.now in
    let f = c.args.stand.now in
    let is = ap (option_map expr_tree) c.in-None.is in
    subst (λ (i : Option ExprTree). StmtLeads w f (assign c.args.path.now i (plain (expr_tree c.args.e.now)))
    c.args.course.now
    (record c.args.course.now { terms = c.assigned.new.terms; ends = c.assigned.new.ends }) c.args.flow
    (Some c.in_ok-goes-in-None.goes)) (sym is)
    (through_leads w f c.requires.stand (assign c.args.path.now None (plain (expr_tree c.args.e.now)))
    c.args.course.now
    (record c.args.course.now { terms = c.assigned.new.terms; ends = c.assigned.new.ends }) c.args.flow
    (Some c.in_ok-goes-in-None.goes)
    (c.in_ok-goes-in-None.ensures c.args.self.now.first))

pub assigned_element-requires-clause-typed : goal.assigned_element-requires-clause-typed
assigned_element-requires-clause-typed c =
    let ty = c.requires.typed.0 in
    let is = ap (option_map expr_tree) c.in-Some.is in
    let target = subst (TargetIsTyped c.args.stand.now.reader ty c.args.path.now) is c.requires.typed.1 in
    (ty, target.0, c.requires.typed.2)

pub assigned_element-requires-clause-settled : goal.assigned_element-requires-clause-settled
assigned_element-requires-clause-settled c =
    settled_here (known_by c.args.self.now) c.args.stand.now c.requires.stand c.requires.stand.walkable

pub assigned_element-requires-clause-sound : goal.assigned_element-requires-clause-sound
assigned_element-requires-clause-sound c = c.requires.standing.sound

pub assigned_element-requires-clause-flow : goal.assigned_element-requires-clause-flow
assigned_element-requires-clause-flow c =
    flow_here (known_by c.args.self.now) c.args.stand.now c.requires.stand c.args.course.now.terms c.args.flow
    c.requires.standing.stands

pub assigned_element-requires-clause-ends : goal.assigned_element-requires-clause-ends
assigned_element-requires-clause-ends c =
    ends_here (known_by c.args.self.now) c.args.stand.now c.requires.stand c.args.course.now.terms
    c.args.course.now.ends
    c.requires.standing.ended

pub assigned_element-requires-clause-apart : goal.assigned_element-requires-clause-apart
assigned_element-requires-clause-apart c =
    apart_here (known_by c.args.self.now) c.args.stand.now c.requires.stand c.requires.stand.walkable

pub returns-in_ok-goes-in-Some : goal.returns-in_ok-goes-in-Some
returns-in_ok-goes-in-Some c =
    let w = known_by c.args.self.now in
    let f = c.args.stand.now in
    let is = ap (option_map expr_tree) c.in-Some.is in
    subst (λ (i : Option ExprTree). StmtLeads w f (assign c.args.path.now i (plain (expr_tree c.args.e.now)))
    c.args.course.now
    (record c.args.course.now { terms = c.assigned_element.new.terms; ends = c.assigned_element.new.ends })
    c.args.flow (Some c.in_ok-goes-in-Some.goes)) (sym is)
    (through_leads w f c.requires.stand
    (assign c.args.path.now (Some (expr_tree c.in-Some.index)) (plain (expr_tree c.args.e.now)))
    c.args.course.now
    (record c.args.course.now { terms = c.assigned_element.new.terms; ends = c.assigned_element.new.ends })
    c.args.flow (Some c.in_ok-goes-in-Some.goes)
    (c.in_ok-goes-in-Some.ensures c.args.self.now.first))
