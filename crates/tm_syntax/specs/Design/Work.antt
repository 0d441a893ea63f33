-- Work items: what is to be done of the bodies of a design, by the text alone.
use Rattle.std.specs.Prelude.{Option, List, [], ◌∷◌, map}
use Rattle.tm_base.specs.declared.place.Place.{Place}
use Rattle.tm_syntax.specs.declared.tree.Ident.{Ident}
use Rattle.tm_syntax.specs.Tree.{ExprTree, StmtTree, StmtRow, stmts_of, BodyTree}
use Rattle.tm_syntax.specs.Scopes.Parts.{body_stmts}
use Rattle.tm_syntax.specs.Design.Scope.{Scope}
use Rattle.tm_syntax.specs.Design.Cells.{Cell}

-- what is to be done: a statement of a body, reached by a trail of calls, the newest first;
-- or, after a called body, to put what it returns, valued in its scope, into a cell
pub data WorkItem : Type 0 where
  perform : Scope → List Place → StmtTree → WorkItem
  deliver : Option Cell → Scope → ExprTree → WorkItem

-- the statements of a row
abbrev pub performs : Scope → List Place → StmtRow → List WorkItem
performs scope trail row = map (perform scope trail) (stmts_of row)

-- the items of a body
abbrev pub body_items : Scope → List Place → BodyTree → List WorkItem
body_items scope trail body = map (perform scope trail) (body_stmts body)

-- the place of a call
abbrev pub call_place : List Ident → List Place
call_place [] = []
call_place (name ∷ names) = name.place ∷ []
