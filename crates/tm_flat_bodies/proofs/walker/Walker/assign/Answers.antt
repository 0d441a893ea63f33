use Rattle.std.proofs.Common.{◌≡◌, sym, ap, ◌∙◌, subst}
use Rattle.std.specs.Prelude.{IfOk}
use Rattle.std.specs.Option.{option_map}
use Rattle.tm_syntax.specs.Tree as trees
use Rattle.tm_syntax.specs.Tree.View.{expr_tree, expr_trees, value_tree}
use Rattle.tm_flat_bodies.specs.Inner.Places.{stack}
use Rattle.tm_flat_bodies.specs.Inner.Waiting.{StepsTo, StmtGoal}
use Rattle.tm_flat_bodies.specs.Inner.Weights.{stmt_most}
use Rattle.tm_flat_bodies.specs.Tables.{known_by}
use Rattle.tm_flat_bodies.specs.Walks.{StmtWalks}
use Rattle.tm_flat_bodies.proofs.Stepping.{led_at_once}
use Rattle.tm_flat_bodies.proofs.walker.Walker.assign.Goals as goal

pub assign_choice-requires : goal.assign_choice-requires
assign_choice-requires c = (
  c.in-Star.field-0,
  subst (λ v. StmtWalks (known_by c.args.self.now) c.args.stand.now (trees.assign c.args.path.now
      (option_map expr_tree c.args.index.now) (value_tree v)) c.args.course.now c.args.flow) c.in-Star.is c.requires,
)

pub returns-in-Star : goal.returns-in-Star
returns-in-Star c = λ start at.
    let w = known_by c.args.self.now in
    let f = c.args.stand.now in
    subst (λ v. IfOk c.assign_choice.result (StepsTo w start (StmtGoal w f (trees.assign c.args.path.now
    (option_map expr_tree c.args.index.now) (value_tree v)) c.args.course.now c.args.flow)
    (λ d. stmt_most d f (trees.assign c.args.path.now (option_map expr_tree c.args.index.now) (value_tree v)))
    (stack c.args.waiting.now) (stack c.args.waiting.now) c.assign_choice.new.course)) (sym c.in-Star.is)
    (led_at_once w start f (trees.assign c.args.path.now (option_map expr_tree c.args.index.now)
    (trees.star c.in-Star.field-0)) c.args.course.now _ c.args.flow (stack c.args.waiting.now) c.assign_choice.result
    (c.assign_choice.ensures c.in-Star.field-0))

pub assign_value-requires : goal.assign_value-requires
assign_value-requires c =
    subst (λ v. StmtWalks (known_by c.args.self.now) c.args.stand.now (trees.assign c.args.path.now
    (option_map expr_tree c.args.index.now) (value_tree v)) c.args.course.now c.args.flow) c.in-Plain.is c.requires

pub returns-in-Plain : goal.returns-in-Plain
returns-in-Plain c = λ start at.
    let w = known_by c.args.self.now in
    let f = c.args.stand.now in
    subst (λ v. IfOk c.assign_value.result (StepsTo w start (StmtGoal w f (trees.assign c.args.path.now
    (option_map expr_tree c.args.index.now) (value_tree v)) c.args.course.now c.args.flow)
    (λ d. stmt_most d f (trees.assign c.args.path.now (option_map expr_tree c.args.index.now) (value_tree v)))
    (stack c.args.waiting.now) (stack c.args.waiting.now) c.assign_value.new.course)) (sym c.in-Plain.is)
    (led_at_once w start f (trees.assign c.args.path.now (option_map expr_tree c.args.index.now)
    (trees.plain (expr_tree c.in-Plain.e))) c.args.course.now _ c.args.flow (stack c.args.waiting.now)
    c.assign_value.result c.assign_value.ensures)

pub assign_call-requires : goal.assign_call-requires
assign_call-requires c =
    let is : value_tree c.args.value.now ≡ trees.result c.as_slice-name.result.now (expr_trees c.as_slice.result.now) =
    ap value_tree c.in-Call.is
    ∙ (λ i. trees.result (sym c.as_slice-name.ensures.value i) (expr_trees (sym c.as_slice.ensures.value i))) in
    subst (λ v. StmtWalks (known_by c.args.self.now) c.args.stand.now (trees.assign c.args.path.now
    (option_map expr_tree c.args.index.now) v) c.args.course.now c.args.flow) is c.requires

pub returns-in-Call : goal.returns-in-Call
returns-in-Call c = λ start at.
    let w = known_by c.args.self.now in
    let f = c.args.stand.now in
    let is : value_tree c.args.value.now ≡ trees.result c.as_slice-name.result.now (expr_trees c.as_slice.result.now) =
    ap value_tree c.in-Call.is
    ∙ (λ i. trees.result (sym c.as_slice-name.ensures.value i) (expr_trees (sym c.as_slice.ensures.value i))) in
    subst (λ v. IfOk c.assign_call.result (StepsTo w start (StmtGoal w f (trees.assign c.args.path.now
    (option_map expr_tree c.args.index.now) v) c.args.course.now c.args.flow)
    (λ d. stmt_most d f (trees.assign c.args.path.now (option_map expr_tree c.args.index.now) v))
    (stack c.args.waiting.now) (stack c.assign_call.new.waiting) c.assign_call.new.course)) (sym is)
    (c.assign_call.ensures start at)
