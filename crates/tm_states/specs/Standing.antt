-- Statements that stand in the bodies of a design.
use Rattle.std.specs.Prelude.{◌≡◌, Some, List}
use Rattle.std.specs.List.{AllByRecursion}
use Rattle.tm_syntax.specs.Tree.{StmtTree}
use Rattle.tm_syntax.specs.Scopes.Context.{Context}
use Rattle.tm_syntax.specs.Design.{DesignTree}
use Rattle.tm_syntax.specs.Design.Scope.{Scope, context}
use Rattle.tm_syntax.specs.Design.Work.{WorkItem, deliver, perform}
use Rattle.tm_states.specs.Promised.{StmtIsPromised}

-- the text promises of a statement of a scope, and of all that stand within it, what it has to
pub record StandsIn (d : DesignTree) (scope : Scope) (s : StmtTree) : Type 0 where
  pub place : Context
  pub here : context d scope ≡ Some place
  pub promised : StmtIsPromised place s

-- an item is such a statement
abbrev pub ItemStands : DesignTree → WorkItem → Type 0
ItemStands d (perform scope trail s) = StandsIn d scope s
ItemStands d (deliver target scope e) = ⊥

-- so are all items
abbrev pub ItemsStand : DesignTree → List WorkItem → Type 0
ItemsStand d items = AllByRecursion (ItemStands d) items

-- and all statements of a scope
abbrev pub StmtsStand : DesignTree → Scope → List StmtTree → Type 0
StmtsStand d scope ss = AllByRecursion (StandsIn d scope) ss
