-- Which statements are sure to cross a location, whatever the values and choices are.
use Rattle.std.specs.Prelude.{ℕ, zero, suc, Bool, true, false, List, ◌||◌, ◌&&◌}
use Rattle.std.specs.Option.{option_map_or}
use Rattle.std.specs.List.{list_any}
use Rattle.tm_syntax.specs.declared.tree.Ident.{Ident}
use Rattle.tm_syntax.specs.Tree.{ValueTree, star, result, plain, StmtTree, assign, invoke, branch, repeat, forever, choose, assert, assume, pause, wait, magic, StmtRow, nothing, then, BlockRow, nowhere, or_else, BodyTree, TemplateTree, SpecTree}
use Rattle.tm_syntax.specs.Scopes.Pauses.{task_reached, call_depth}

-- whether a value is a call of a body that is sure to cross, given which calls are
abbrev pub value_crosses : (List Ident → Bool) → ValueTree → Bool
value_crosses called (star _) = false
value_crosses called (result path _) = called path
value_crosses called (plain _) = false

-- whether a statement is sure to cross: both branches of an `if`, every alternative of a `choice`, a statement of a row
abbrev mutual
  pub stmt_crosses : (List Ident → Bool) → StmtTree → Bool
  stmt_crosses called (assign _ _ value) = value_crosses called value
  stmt_crosses called (invoke path _) = called path
  stmt_crosses called (branch _ first second) = row_crosses called first && row_crosses called second
  stmt_crosses called (repeat _ _ _) = false
  stmt_crosses called (forever _ body) = row_crosses called body
  stmt_crosses called (choose _ blocks) = blocks_cross called blocks
  stmt_crosses called (assert _ _) = false
  stmt_crosses called (assume _ _) = false
  stmt_crosses called (pause _) = true
  stmt_crosses called (wait _ _) = true
  stmt_crosses called (magic _) = true

  pub row_crosses : (List Ident → Bool) → StmtRow → Bool
  row_crosses called nothing = false
  row_crosses called (then first others) = stmt_crosses called first || row_crosses called others

  pub blocks_cross : (List Ident → Bool) → BlockRow → Bool
  blocks_cross called nowhere = false
  blocks_cross called (or_else last nowhere) = row_crosses called last
  blocks_cross called (or_else first (or_else next others)) =
      row_crosses called first && blocks_cross called (or_else next others)

-- whether a body is sure to cross, where calls nest at most so deep
abbrev pub body_crosses : ℕ → SpecTree → TemplateTree → BodyTree → Bool
body_crosses zero spec t body = false
body_crosses (suc depth) spec t body =
    list_any (λ l. value_crosses
    (λ path. option_map_or (λ k. body_crosses depth spec k.0 k.1.body) (task_reached spec t path) false)
    l.value) body.locals
    || list_any (stmt_crosses
    (λ path. option_map_or (λ k. body_crosses depth spec k.0 k.1.body) (task_reached spec t path) false)) body.stmts

-- whether a call is of a body that is sure to cross
abbrev pub call_crosses : SpecTree → TemplateTree → List Ident → Bool
call_crosses spec t path =
    option_map_or (λ k. body_crosses (call_depth spec) spec k.0 k.1.body) (task_reached spec t path) false
