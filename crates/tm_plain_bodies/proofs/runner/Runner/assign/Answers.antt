use Rattle.std.proofs.Common.{◌≡◌, sym, ap, ◌∙◌, subst}
use Rattle.std.specs.Option.{option_map}
use Rattle.tm_syntax.specs.Tree as trees
use Rattle.tm_syntax.specs.Tree.View.{expr_tree, expr_trees, value_tree}
use Rattle.tm_syntax.specs.Scopes.Crossing.{value_crosses}
use Rattle.tm_plain_bodies.specs.Frames.{StmtFits}
use Rattle.tm_plain_bodies.specs.Inner.Owed.{level_of, owed}
use Rattle.tm_plain_bodies.specs.Runs.{StmtAt, crossing}
use Rattle.tm_plain_bodies.proofs.Arms.{as_does, as_steps}
use Rattle.tm_plain_bodies.proofs.Performing.{target_at, value_at}
use Rattle.tm_plain_bodies.proofs.Stepping.{does_at_once}
use Rattle.tm_plain_bodies.proofs.runner.Runner.assign.Goals as goal

pub assign_choice-requires : goal.assign_choice-requires
assign_choice-requires c =
    target_at c.args.frame.now.reader c.args.path.now (option_map expr_tree c.args.index.now)
    (value_tree c.args.value.now) c.requires.promised

pub returns-in-Star : goal.returns-in-Star
returns-in-Star c =
    let index = option_map expr_tree c.args.index.now in
    let v = value_tree c.args.value.now in
    let from = c.args.course.now in
    let to = c.assign_choice.new.course in
    does_at_once c.args.self.now c.args.frame.now c.requires.tables (trees.assign c.args.path.now index v)
    (owed c.args.todo.now.items) from to c.assign_choice.result
    (as_does c.args.frame.now.reader from to (trees.assign c.args.path.now index v)
    (trees.assign c.args.path.now index (trees.star c.in-Star.field-0))
    (ap (trees.assign c.args.path.now index) (ap value_tree c.in-Star.is)) c.assign_choice.result
    (c.assign_choice.ensures c.in-Star.field-0))
    (λ k stands. ap (λ v. value_crosses (crossing k) (value_tree v)) c.in-Star.is)

pub assign_value-requires : goal.assign_value-requires
assign_value-requires c =
    let s = c.args.frame.now.reader in
    let index = option_map expr_tree c.args.index.now in
    let is = ap value_tree c.in-Plain.is in record {
      target = target_at s c.args.path.now index (value_tree c.args.value.now) c.requires.promised;
      value = value_at s c.args.path.now index (expr_tree c.in-Plain.e)
          (subst (λ v. StmtAt s (trees.assign c.args.path.now index v)) is c.requires.promised);
    }

pub returns-in-Plain : goal.returns-in-Plain
returns-in-Plain c =
    let index = option_map expr_tree c.args.index.now in
    let v = value_tree c.args.value.now in
    let from = c.args.course.now in
    let to = c.assign_value.new.course in
    does_at_once c.args.self.now c.args.frame.now c.requires.tables (trees.assign c.args.path.now index v)
    (owed c.args.todo.now.items) from to c.assign_value.result
    (as_does c.args.frame.now.reader from to (trees.assign c.args.path.now index v)
    (trees.assign c.args.path.now index (trees.plain (expr_tree c.in-Plain.e)))
    (ap (trees.assign c.args.path.now index) (ap value_tree c.in-Plain.is)) c.assign_value.result
    c.assign_value.ensures)
    (λ k stands. ap (λ v. value_crosses (crossing k) (value_tree v)) c.in-Plain.is)

pub assign_call-requires : goal.assign_call-requires
assign_call-requires c =
    let is : value_tree c.args.value.now ≡ trees.result c.as_slice.result.now
    (expr_trees c.as_slice-in-Call.result.now) =
    ap value_tree c.in-Call.is
    ∙ (λ i. trees.result (sym c.as_slice.ensures.value i) (expr_trees (sym c.as_slice-in-Call.ensures.value i))) in
    subst (λ v. StmtFits c.args.self.now c.args.frame.now
    (trees.assign c.args.path.now (option_map expr_tree c.args.index.now) v)) is c.requires

pub returns-in-Call : goal.returns-in-Call
returns-in-Call c =
    let is : value_tree c.args.value.now ≡ trees.result c.as_slice.result.now
    (expr_trees c.as_slice-in-Call.result.now) =
    ap value_tree c.in-Call.is
    ∙ (λ i. trees.result (sym c.as_slice.ensures.value i) (expr_trees (sym c.as_slice-in-Call.ensures.value i))) in
    as_steps c.args.self.now (level_of c.args.frame.now) (owed c.args.todo.now.items) _ c.args.course.now
    c.assign_call.new.course _ _
    (ap (trees.assign c.args.path.now (option_map expr_tree c.args.index.now)) is) c.assign_call.result
    c.assign_call.ensures
