-- How many steps a walk takes, at most, where calls nest at most so deep.
use Rattle.std.specs.Prelude.{ℕ, zero, suc, ◌+◌, ◌*◌, List, [], ◌∷◌, drop}
use Rattle.std.specs.Option.{option_map_or}
use Rattle.tm_syntax.specs.declared.tree.Ident.{Ident}
use Rattle.tm_syntax.specs.Tree.{ValueTree, star, result, plain, StmtTree, assign, invoke, branch, repeat, forever, choose, assert, assume, pause, wait, magic, StmtRow, nothing, then, BlockRow, nowhere, or_else, alternatives_of, row_of, BodyTree}
use Rattle.tm_syntax.specs.Tree.View.{stmt_trees}
use Rattle.tm_syntax.specs.Scopes.Parts.{body_stmts}
use Rattle.tm_syntax.specs.Design.{DesignTree}
use Rattle.tm_syntax.specs.Design.Cells.{Called, called}
use Rattle.tm_syntax.specs.Design.Scope.{Scope}
use Rattle.tm_scope.specs.Cells.{scope_of}
use Rattle.tm_flat_bodies.specs.declared.stand.Stand.{Stand}
use Rattle.tm_flat_bodies.specs.declared.waiting.Row.{Row}
use Rattle.tm_flat_bodies.specs.declared.waiting.Row.TheVariants as rows
use Rattle.tm_flat_bodies.specs.declared.waiting.Todo.{Todo}
use Rattle.tm_flat_bodies.specs.declared.waiting.Todo.TheVariants as todo
use Rattle.tm_flat_bodies.specs.Inner.Alternatives.{block_rows}
use Rattle.tm_flat_bodies.specs.Inner.Places.{row_tree, stand_at}
use Rattle.tm_flat_bodies.specs.Walks.{WalkTables}

-- the weight of a value, given those of calls
abbrev pub value_weight : (List Ident → ℕ) → ValueTree → ℕ
value_weight within (star _) = 0
value_weight within (result names _) = within names
value_weight within (plain _) = 0

abbrev mutual
  -- the weight of a statement, given those of calls
  pub stmt_weight : (List Ident → ℕ) → StmtTree → ℕ
  stmt_weight within (assign _ _ value) = 1 + value_weight within value
  stmt_weight within (invoke names _) = 1 + within names
  stmt_weight within (branch _ first second) = 1 + (row_weight within first + row_weight within second)
  stmt_weight within (repeat _ _ body) = 1 + row_weight within body
  stmt_weight within (forever _ body) = 1 + row_weight within body
  stmt_weight within (choose _ blocks) = 1 + block_weight within blocks
  stmt_weight within (assert _ _) = 0
  stmt_weight within (assume _ _) = 0
  stmt_weight within (pause _) = 0
  stmt_weight within (wait _ _) = 0
  stmt_weight within (magic _) = 0

  -- that of statements in a row
  pub row_weight : (List Ident → ℕ) → StmtRow → ℕ
  row_weight within nothing = 0
  row_weight within (then first others) = 1 + (stmt_weight within first + row_weight within others)

  -- that of alternatives
  pub block_weight : (List Ident → ℕ) → BlockRow → ℕ
  block_weight within nowhere = 0
  block_weight within (or_else first others) = 1 + (row_weight within first + block_weight within others)

-- the weight of a body: its locals and its statements
abbrev pub body_weight : (List Ident → ℕ) → BodyTree → ℕ
body_weight within body = 1 + row_weight within (row_of (body_stmts body))

-- the weight of what a path calls
abbrev pub call_weight : ℕ → DesignTree → Scope → List Ident → ℕ
call_weight zero d scope names = 0
call_weight (suc depth) d scope names =
    option_map_or (λ (c : Called). 1 + body_weight (call_weight depth d c.scope) c.body) (called d scope names) 0

-- the weights of what a body calls
abbrev pub weighs : DesignTree → Stand → List Ident → ℕ
weighs d f = call_weight f.depth d (scope_of f.reader.at)

-- the steps that a statement takes are fewer
abbrev pub stmt_most : DesignTree → Stand → StmtTree → ℕ
stmt_most d f s = 5 + 5 * stmt_weight (weighs d f) s

-- the steps that come before the first statement of a row
abbrev pub first_steps : Row → ℕ
first_steps (rows.Body _) = 5
first_steps (rows.Locals _) = 1
first_steps (rows.Stmts _) = 1

-- the steps of a row
abbrev pub row_most : DesignTree → Stand → Row → ℕ
row_most d f row = first_steps row + 5 * row_weight (weighs d f) (row_tree row)

-- the steps of what waits
abbrev pub todo_weight : DesignTree → WalkTables → Stand → Todo → ℕ
todo_weight d w start (todo.Row spot row) = row_most d (stand_at w start spot) row
todo_weight d w start (todo.Second spot second _) =
    3 + 5 * row_weight (weighs d (stand_at w start spot)) (row_of (stmt_trees second.now))
todo_weight d w start (todo.Join _) = 1
todo_weight d w start (todo.Loop _) = 1
todo_weight d w start (todo.Alternatives spot _ index blocks) =
    1 + 5 * block_weight (weighs d (stand_at w start spot)) (alternatives_of (drop index (block_rows blocks.now)))
todo_weight d w start (todo.Answer _ _ _ _ _) = 1

-- the steps of all that waits
abbrev pub weights : DesignTree → WalkTables → Stand → List Todo → ℕ
weights d w start [] = 0
weights d w start (t ∷ ts) = todo_weight d w start t + weights d w start ts
