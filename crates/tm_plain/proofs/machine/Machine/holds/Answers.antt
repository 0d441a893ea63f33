use Rattle.std.proofs.Common.{◌≡◌, Some, get_or, sym, ap, ◌∙◌, subst}
use Rattle.std.specs.Prelude.{slice_get}
use Rattle.std.specs.List.{AllByRecursion}
use Rattle.std.proofs.lemmas.Option.{slice_get-get_or}
use Rattle.std.proofs.lemmas.Result.{IfOk-weaker}
use Rattle.tm_syntax.specs.declared.design.Design.{Design}
use Rattle.tm_syntax.specs.Tree.View.{expr_tree, spec_tree}
use Rattle.tm_syntax.specs.Scopes.Parts.{exprs}
use Rattle.tm_syntax.specs.Design.View.{design_tree}
use Rattle.tm_sem.specs.Play.{goal_expr}
use Rattle.tm_typing.specs.Promises.{HasAskedType}
use Rattle.tm_plain.proofs.Conditions.{goal_typed, runnable_typed}
use Rattle.tm_plain.proofs.GoalTexts.{seen}
use Rattle.tm_plain.proofs.Machines.{goal_with, goal_without}
use Rattle.tm_plain.proofs.machine.Machine.holds.Goals as goal

pub holds_outside-requires : goal.holds_outside-requires
holds_outside-requires c =
    goal_typed c.args.self.now
    (subst (λ (d : Design). AllByRecursion HasAskedType (exprs (spec_tree d.spec))) c.self.view_is
    (runnable_typed c.self.inside.design.now c.self.invariant.1))
    c.index-item.result.now (expr_tree c.in-Some.e.now) (sym c.goal_expr.ensures ∙ ap seen c.in-Some.is)

pub returns-in-Some : goal.returns-in-Some
returns-in-Some c =
    let d = c.args.self.now in
    let item = c.index-item.result.now in
    let here : slice_get d.goals.items c.args.goal ≡ Some item
    = slice_get-get_or d.goals.items c.args.goal item c.requires
    ∙ ap Some (sym (subst (λ (d : Design). item ≡ get_or d.goals.items c.args.goal item) c.self.view_is
    c.index-item.ensures)) in
    let text : Some (expr_tree c.in-Some.e.now) ≡ goal_expr (design_tree d) item
    = sym (ap seen c.in-Some.is) ∙ c.goal_expr.ensures in
    IfOk-weaker c.holds_outside.result _ _
    (λ t h. goal_with d c.args.state.now c.args.goal item here (expr_tree c.in-Some.e.now) t text h)
    c.holds_outside.ensures

pub returns-in-None : goal.returns-in-None
returns-in-None c =
    let d = c.args.self.now in
    let item = c.index-item.result.now in
    let here : slice_get d.goals.items c.args.goal ≡ Some item
    = slice_get-get_or d.goals.items c.args.goal item c.requires
    ∙ ap Some (sym (subst (λ (d : Design). item ≡ get_or d.goals.items c.args.goal item) c.self.view_is
    c.index-item.ensures)) in
    goal_without d c.args.state.now c.args.goal item here (sym (ap seen c.in-None.is) ∙ c.goal_expr.ensures)
