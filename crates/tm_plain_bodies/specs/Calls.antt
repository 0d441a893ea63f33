-- How deep calls nest.
use Rattle.std.specs.Prelude.{◌≡◌, ℕ, zero, suc, None, Some, List}
use Rattle.std.specs.List.{AllByRecursion}
use Rattle.tm_syntax.specs.declared.tree.Ident.{Ident}
use Rattle.tm_syntax.specs.Scopes.Calls.{body_calls}
use Rattle.tm_syntax.specs.Design.{DesignTree}
use Rattle.tm_syntax.specs.Design.Cells.{Called, called as called_from}
use Rattle.tm_syntax.specs.Design.Scope.{Scope}

-- what these paths call from a body, and what is called there in turn, nests at most so deep
abbrev pub NestsWithin : ℕ → DesignTree → Scope → List (List Ident) → Type 0
NestsWithin zero d scope calls = AllByRecursion (λ names. called_from d scope names ≡ None) calls
NestsWithin (suc depth) d scope calls =
    AllByRecursion (λ names. (c : Called) → called_from d scope names ≡ Some c →
    NestsWithin depth d c.scope (body_calls c.body)) calls
