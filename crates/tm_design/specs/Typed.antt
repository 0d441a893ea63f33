-- The types of the expressions of a body of an instance.
use Rattle.std.specs.Prelude.{◌≡◌, Option, Some, slice_get}
use Rattle.std.specs.Option.{option_map, option_and_then}
use Rattle.tm_syntax.specs.declared.design.Instance.{Instance}
use Rattle.tm_syntax.specs.declared.design.Ty.{Ty}
use Rattle.tm_syntax.specs.Tree.{ExprTree}
use Rattle.tm_syntax.specs.Tree.View.{spec_tree, template_tree}
use Rattle.tm_syntax.specs.Scopes.Context.{Context}
use Rattle.tm_scope.specs.Cells.{ScopedCells}
use Rattle.tm_scope.specs.Context.{body_name}
use Rattle.tm_typing.specs.HasType.{HasType}

-- where the text of a body of an instance stands
abbrev pub context_at : ScopedCells → Option Context
context_at s =
    option_and_then (λ (i : Instance). option_map (λ t. record {
      spec = spec_tree s.tables.spec;
      template = template_tree t;
      body = body_name s.at.body;
    }) (slice_get s.tables.spec.templates.items i.template)) (slice_get s.tables.instances s.at.instance)

-- an expression of a body of an instance has this type
pub record HasTypeAt (s : ScopedCells) (ty : Ty) (e : ExprTree) : Type 0 where
  pub context : Context
  pub stands : context_at s ≡ Some context
  pub typed : HasType context ty e
