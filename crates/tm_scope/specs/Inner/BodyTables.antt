-- What a body's tables say.
use Rattle.std.specs.Prelude.{◌≡◌, ℕ, Option, Some, slice_get}
use Rattle.std.specs.Borrow.{Bor}
use Rattle.std.specs.Option.{option_copied}
use Rattle.tm_syntax.specs.declared.tree.Spec.{Spec}
use Rattle.tm_syntax.specs.declared.tree.Template.{Template}
use Rattle.tm_scope.specs.Inner.Tables.{BodySlots}
use Rattle.tm_scope.specs.Members.{body_slots}
use Rattle.tm_scope.specs.declared.context.BodyName.{BodyName}

-- a body of the template of this number, with its parameters and locals
pub record IsWithin (spec : Spec) (number : ℕ) (t : Template) (body : BodyName)
    (names : Option (Bor BodySlots)) : Type 0
  where
    pub is_there : slice_get spec.templates.items number ≡ Some t
    pub slots : option_copied names ≡ body_slots t body
