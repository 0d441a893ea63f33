-- Atoms that are truths where they stand.
use Rattle.std.specs.Prelude.{◌≡◌, Some}
use Rattle.tm_syntax.specs.declared.design.Ty.TheVariants as types
use Rattle.tm_syntax.specs.Scopes.Context.{Context}
use Rattle.tm_syntax.specs.Design.{DesignTree}
use Rattle.tm_syntax.specs.Design.Atoms.{Atom}
use Rattle.tm_syntax.specs.Design.Scope.{context}
use Rattle.tm_typing.specs.HasType.{HasType}

-- an atom has the type of bools where it stands
pub record IsTruth (d : DesignTree) (a : Atom) : Type 0 where
  pub place : Context
  pub here : context d a.scope ≡ Some place
  pub typed : HasType place types.Bool a.expr
