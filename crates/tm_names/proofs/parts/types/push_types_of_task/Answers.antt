use Rattle.std.proofs.Common.{◌++◌, map, ap, ◌∙◌}
use Rattle.std.specs.Option.{option_to_list}
use Rattle.tm_syntax.specs.declared.tree.LocalDef.{LocalDef}
use Rattle.tm_syntax.specs.declared.tree.Param.{Param}
use Rattle.tm_syntax.specs.Scopes.Parts.{written_result}
use Rattle.tm_names.specs.Parts.{listed_types}
use Rattle.tm_names.proofs.ListSteps.{three_more}
use Rattle.tm_names.proofs.parts.types.push_types_of_task.Goals as goal

pub returns : goal.returns
returns c =
    let task = c.args.task.now in
    three_more (listed_types c.args.types.now.items) (option_to_list (written_result task.kind))
    (map (λ (p : Param). p.ty) task.params.items) (map (λ (l : LocalDef). l.ty) task.body.locals.items)
    (listed_types c.push_result.new.types.items) (listed_types c.push_types.new.types.items)
    (listed_types c.push_types-2.new.types.items) c.in_ok-push_result.ensures
    (c.in_ok-push_types.ensures
    ∙ ap (λ ps. listed_types c.push_result.new.types.items ++ map (λ (p : Param). p.ty) ps) c.as_slice.ensures.value)
    (c.in_ok-push_types-2.ensures
    ∙ ap (λ ls. listed_types c.push_types.new.types.items ++ map (λ (l : LocalDef). l.ty) ls)
    c.as_slice-2.ensures.value)
