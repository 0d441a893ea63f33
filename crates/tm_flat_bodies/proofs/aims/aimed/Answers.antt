use Rattle.std.proofs.Common.{Option, sym, ap, subst}
use Rattle.std.specs.Option.{option_map}
use Rattle.tm_syntax.specs.Tree.{ExprTree}
use Rattle.tm_syntax.specs.Tree.View.{expr_tree}
use Rattle.tm_flat_stmts.specs.declared.places.TargetPlace.TheVariants.{Whole}
use Rattle.tm_flat_bodies.specs.Asked.{TargetIsTyped}
use Rattle.tm_flat_bodies.specs.Inner.Aimed.{Aims}
use Rattle.tm_flat_bodies.proofs.Aiming.{aims_whole}
use Rattle.tm_flat_bodies.proofs.aims.aimed.Goals as goal

pub returns-in-None : goal.returns-in-None
returns-in-None c =
    subst (λ (i : Option ExprTree). Aims c.args.reader.now c.args.path.now i c.args.course.now c.args.course.now
    c.args.flow (record { flow = c.args.flow; place = Whole })) (sym (ap (option_map expr_tree) c.in-None.is))
    (aims_whole c.args.reader.now c.args.path.now c.args.course.now c.args.flow c.requires.sound c.requires.flow
    c.requires.ends)

pub aimed_element-requires-clause-typed : goal.aimed_element-requires-clause-typed
aimed_element-requires-clause-typed c =
    let ty = c.requires.typed.0 in
    let is = ap (option_map expr_tree) c.in-Some.is in
    (ty, (subst (TargetIsTyped c.args.reader.now ty c.args.path.now) is c.requires.typed.1).0)

pub returns-in_ok-aim-in-Some : goal.returns-in_ok-aim-in-Some
returns-in_ok-aim-in-Some c =
    subst (λ (i : Option ExprTree). Aims c.args.reader.now c.args.path.now i c.args.course.now
    c.aimed_element.new.course c.args.flow c.in_ok-aim-in-Some.aim) (sym (ap (option_map expr_tree) c.in-Some.is))
    c.in_ok-aim-in-Some.ensures
