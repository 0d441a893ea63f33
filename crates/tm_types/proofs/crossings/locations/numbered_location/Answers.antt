use Rattle.std.proofs.Common.{◌≡◌, subst}
use Rattle.std.specs.Prelude.{IfOk}
use Rattle.std.specs.List.{flat_map}
use Rattle.tm_syntax.specs.Tree.View.{template_tree}
use Rattle.tm_scope.specs.Marks.{CallTable, is_marked}
use Rattle.tm_types.specs.Firsts.{first_of}
use Rattle.tm_types.specs.Inner.Crossings.{task_locations_by}
use Rattle.tm_types.proofs.crossings.locations.numbered_location.Goals as goal

pub returns : goal.returns
returns c =
    subst (λ (table : CallTable). IfOk c.template_location.result (λ first. first
    ≡ first_of (flat_map (task_locations_by (is_marked table)) (template_tree c.args.template.now).tasks)))
    c.new-calls.ensures c.template_location.ensures
