use Rattle.std.proofs.Common.{◌≡◌, ◌<◌, ◌++◌, ℕ, length, get_or, subst, map, refl, sym, arith}
use Rattle.std.specs.List.{flat_map}
use Rattle.tm_syntax.specs.Tree.View.{spec_tree, task_tree, template_tree}
use Rattle.tm_syntax.specs.Design.{task_vars}
use Rattle.tm_inst.specs.Sizes.{HasNarrowSlots}
use Rattle.tm_inst.proofs.Listing.{listed_all, listed_more}
use Rattle.tm_inst.proofs.Templates.{task_stands}
use Rattle.tm_inst.proofs.vars.push_tasks.Goals as goal

pub loop-index-preserved : goal.loop-index-preserved
loop-index-preserved c =
    let spec = spec_tree c.args.scopes.now in
    let f = task_vars spec (template_tree c.args.template.now) c.args.number c.args.base.now in
    let tasks = c.as_slice-tasks.result.now in
    let i : ℕ = c.loop-index.index in
    let x = c.index-tasks-index.result in
    let within : i < length tasks = omega arith in
    listed_more (λ _ ks. flat_map f (map task_tree ks)) (λ _ k. f (task_tree k)) (λ n k ks. refl) tasks i x
    c.loop-index.vars.items c.push_kept_task.new.vars.items
    (c.args.vars.now.items ++ flat_map f (map task_tree c.args.template.now.tasks.items)) within c.index-tasks-index.is
    (c.in_ok-push_kept_task.ensures (template_tree c.args.template.now)
    (task_stands c.args.scopes.now c.args.at i c.args.template.now x c.requires.numbered
    (subst (λ ks. i < length ks) c.as_slice-tasks.ensures.value within)
    (subst (λ ks. x ≡ get_or ks i x) c.as_slice-tasks.ensures.value c.index-tasks-index.is))) c.loop-index.invariant

pub push_kept_task-requires-clause-narrow : goal.push_kept_task-requires-clause-narrow
push_kept_task-requires-clause-narrow c =
    let tasks = c.as_slice-tasks.result.now in
    let i : ℕ = c.loop-index.index in
    let x = c.index-tasks-index.result in
    let within : i < length tasks = omega arith in
    subst HasNarrowSlots (sym (subst (λ ks. x ≡ get_or ks i x) c.as_slice-tasks.ensures.value c.index-tasks-index.is))
    (c.requires.narrow i x (subst (λ ks. i < length ks) c.as_slice-tasks.ensures.value within))

pub returns : goal.returns
returns c =
    let f = task_vars (spec_tree c.args.scopes.now) (template_tree c.args.template.now) c.args.number c.args.base.now in
    listed_all (λ _ ks. flat_map f (map task_tree ks)) (λ _ k. f (task_tree k)) (λ n k ks. refl)
    c.as_slice-tasks.result.now c.loop-index.index c.loop-index.vars.items
    (c.args.vars.now.items ++ flat_map f (map task_tree c.args.template.now.tasks.items)) refl (omega arith)
    c.loop-index.invariant
