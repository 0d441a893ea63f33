use Rattle.std.proofs.Common.{Option, None, Some, sym, ap, subst}
use Rattle.std.specs.Option.{option_map}
use Rattle.tm_syntax.specs.Tree.{ExprTree, assign, star}
use Rattle.tm_syntax.specs.Tree.View.{expr_tree}
use Rattle.tm_flat_stmts.proofs.IntoElements.{element_target}
use Rattle.tm_flat_bodies.specs.Asked.{TargetIsTyped}
use Rattle.tm_flat_bodies.specs.Tables.{known_by}
use Rattle.tm_flat_bodies.specs.Walks.{StmtLeads}
use Rattle.tm_flat_bodies.proofs.Standing.{apart_here, ends_here, flow_here, settled_here, star_bits, through_leads}
use Rattle.tm_flat_bodies.proofs.walker.Walker.assign_choice.Goals as goal

pub chosen-requires-clause-typed : goal.chosen-requires-clause-typed
chosen-requires-clause-typed c =
    let walks = c.requires.1 in
    let ty = walks.typed.0 in
    let is = ap (option_map expr_tree) c.in-None.is in
    let target = subst (TargetIsTyped c.args.stand.now.reader ty c.args.path.now) is walks.typed.1 in (
      ty,
      target.0,
      star_bits (known_by c.args.self.now) c.args.stand.now walks.stand c.requires.1.stand.walkable ty c.args.path.now
          (option_map expr_tree c.args.index.now) c.requires.0 c.args.course.now c.args.flow walks target.0,
    )

pub chosen-requires-clause-there : goal.chosen-requires-clause-there
chosen-requires-clause-there c =
    let walks = c.requires.1 in
    let is = ap (option_map expr_tree) c.in-None.is in
    (subst (TargetIsTyped c.args.stand.now.reader walks.typed.0 c.args.path.now) is walks.typed.1).1

pub chosen-requires-clause-settled : goal.chosen-requires-clause-settled
chosen-requires-clause-settled c =
    settled_here (known_by c.args.self.now) c.args.stand.now c.requires.1.stand c.requires.1.stand.walkable

pub chosen-requires-clause-sound : goal.chosen-requires-clause-sound
chosen-requires-clause-sound c = c.requires.1.standing.sound

pub chosen-requires-clause-flow : goal.chosen-requires-clause-flow
chosen-requires-clause-flow c =
    flow_here (known_by c.args.self.now) c.args.stand.now c.requires.1.stand c.args.course.now.terms c.args.flow
    c.requires.1.standing.stands

pub chosen-requires-clause-apart : goal.chosen-requires-clause-apart
chosen-requires-clause-apart c =
    apart_here (known_by c.args.self.now) c.args.stand.now c.requires.1.stand c.requires.1.stand.walkable

pub returns-in_ok-goes-in-None : goal.returns-in_ok-goes-in-None
returns-in_ok-goes-in-None c = λ at.
    let w = known_by c.args.self.now in
    let f = c.args.stand.now in
    let stand = c.requires.1.stand in
    let is = ap (option_map expr_tree) c.in-None.is in
    subst (λ (i : Option ExprTree). StmtLeads w f (assign c.args.path.now i (star at))
    c.args.course.now
    (record c.args.course.now { terms = c.chosen.new.terms }) c.args.flow (Some c.in_ok-goes-in-None.goes)) (sym is)
    (through_leads w f stand (assign c.args.path.now None (star at)) c.args.course.now
    (record c.args.course.now { terms = c.chosen.new.terms }) c.args.flow
    (Some c.in_ok-goes-in-None.goes)
    (c.in_ok-goes-in-None.ensures at c.args.course.now.ends
    (ends_here w f stand c.args.course.now.terms c.args.course.now.ends c.requires.1.standing.ended)))

pub chosen_element-requires-clause-typed : goal.chosen_element-requires-clause-typed
chosen_element-requires-clause-typed c =
    let walks = c.requires.1 in
    let ty = walks.typed.0 in
    let is = ap (option_map expr_tree) c.in-Some.is in
    let target = subst (TargetIsTyped c.args.stand.now.reader ty c.args.path.now) is walks.typed.1 in (
      ty,
      target.0,
      star_bits (known_by c.args.self.now) c.args.stand.now walks.stand c.requires.1.stand.walkable ty c.args.path.now
          (option_map expr_tree c.args.index.now) c.requires.0 c.args.course.now c.args.flow walks
          (element_target c.args.stand.now.reader ty c.args.path.now (expr_tree c.in-Some.index) target.0),
    )

pub chosen_element-requires-clause-there : goal.chosen_element-requires-clause-there
chosen_element-requires-clause-there c =
    let walks = c.requires.1 in
    let is = ap (option_map expr_tree) c.in-Some.is in
    (subst (TargetIsTyped c.args.stand.now.reader walks.typed.0 c.args.path.now) is walks.typed.1).1

pub chosen_element-requires-clause-settled : goal.chosen_element-requires-clause-settled
chosen_element-requires-clause-settled c =
    settled_here (known_by c.args.self.now) c.args.stand.now c.requires.1.stand c.requires.1.stand.walkable

pub chosen_element-requires-clause-sound : goal.chosen_element-requires-clause-sound
chosen_element-requires-clause-sound c = c.requires.1.standing.sound

pub chosen_element-requires-clause-flow : goal.chosen_element-requires-clause-flow
chosen_element-requires-clause-flow c =
    flow_here (known_by c.args.self.now) c.args.stand.now c.requires.1.stand c.args.course.now.terms c.args.flow
    c.requires.1.standing.stands

pub chosen_element-requires-clause-ends : goal.chosen_element-requires-clause-ends
chosen_element-requires-clause-ends c =
    ends_here (known_by c.args.self.now) c.args.stand.now c.requires.1.stand c.args.course.now.terms
    c.args.course.now.ends
    c.requires.1.standing.ended

pub chosen_element-requires-clause-apart : goal.chosen_element-requires-clause-apart
chosen_element-requires-clause-apart c =
    apart_here (known_by c.args.self.now) c.args.stand.now c.requires.1.stand c.requires.1.stand.walkable

pub returns-in_ok-goes-in-Some : goal.returns-in_ok-goes-in-Some
returns-in_ok-goes-in-Some c = λ at.
    let w = known_by c.args.self.now in
    let f = c.args.stand.now in
    let stand = c.requires.1.stand in
    let is = ap (option_map expr_tree) c.in-Some.is in
    subst (λ (i : Option ExprTree). StmtLeads w f (assign c.args.path.now i (star at))
    c.args.course.now
    (record c.args.course.now { terms = c.chosen_element.new.terms; ends = c.chosen_element.new.ends }) c.args.flow
    (Some c.in_ok-goes-in-Some.goes)) (sym is)
    (through_leads w f stand (assign c.args.path.now (Some (expr_tree c.in-Some.index)) (star at)) c.args.course.now
    (record c.args.course.now { terms = c.chosen_element.new.terms; ends = c.chosen_element.new.ends }) c.args.flow
    (Some c.in_ok-goes-in-Some.goes) (c.in_ok-goes-in-Some.ensures at))
