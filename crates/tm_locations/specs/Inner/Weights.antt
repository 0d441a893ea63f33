-- How many steps a walk of locations takes, at most.
use Rattle.std.specs.Prelude.{ℕ, zero, suc, ◌+◌, List, [], ◌∷◌, map}
use Rattle.std.specs.Option.{option_map_or}
use Rattle.tm_syntax.specs.declared.tree.Ident.{Ident}
use Rattle.tm_syntax.specs.Tree.{StmtTree, assign, invoke, branch, repeat, forever, choose, assert, assume, pause, wait, magic, StmtRow, nothing, then, BlockRow, nowhere, or_else, row_of, alternatives_of}
use Rattle.tm_syntax.specs.Tree.View.{stmt_trees}
use Rattle.tm_syntax.specs.Design.{DesignTree}
use Rattle.tm_syntax.specs.Design.Cells.{called}
use Rattle.tm_syntax.specs.Design.Scope.{Scope}
use Rattle.tm_scope.specs.Cells.{scope_of}
use Rattle.tm_locations.specs.declared.walk.Frame.{Frame}
use Rattle.tm_locations.specs.declared.walk.Row.{Row}
use Rattle.tm_locations.specs.declared.walk.Row.TheVariants.{Stmts, Blocks}
use Rattle.tm_locations.specs.declared.walk.Todo.{Todo}

-- the steps of a statement, given those of calls
abbrev mutual
  pub stmt_weight : (List Ident → ℕ) → StmtTree → ℕ
  stmt_weight within (assign _ _ _) = 0
  stmt_weight within (invoke names _) = within names
  stmt_weight within (branch _ first second) = row_weight within first + row_weight within second
  stmt_weight within (repeat _ _ body) = row_weight within body
  stmt_weight within (forever _ body) = row_weight within body
  stmt_weight within (choose _ blocks) = block_weight within blocks
  stmt_weight within (assert _ _) = 0
  stmt_weight within (assume _ _) = 0
  stmt_weight within (pause _) = 0
  stmt_weight within (wait _ _) = 0
  stmt_weight within (magic _) = 0

  pub row_weight : (List Ident → ℕ) → StmtRow → ℕ
  row_weight within nothing = 1
  row_weight within (then first others) = 1 + (stmt_weight within first + row_weight within others)

  pub block_weight : (List Ident → ℕ) → BlockRow → ℕ
  block_weight within nowhere = 1
  block_weight within (or_else first others) = 1 + (row_weight within first + block_weight within others)

-- the steps of a call, where calls nest at most so deep
abbrev pub call_weight : ℕ → DesignTree → Scope → List Ident → ℕ
call_weight zero d scope names = 0
call_weight (suc depth) d scope names =
    option_map_or (λ callee. row_weight (call_weight depth d callee.scope) (row_of callee.body.stmts))
    (called d scope names) 0

-- the steps of statements or blocks
abbrev pub part_weight : DesignTree → Frame → Row → ℕ
part_weight d frame (Stmts ss) =
    row_weight (call_weight frame.depth d (scope_of frame.scope)) (row_of (stmt_trees ss.now))
part_weight d frame (Blocks bs) =
    block_weight (call_weight frame.depth d (scope_of frame.scope))
    (alternatives_of (map (λ b. row_of (stmt_trees b.items)) bs.now))

-- the steps of all that is to be walked
abbrev pub weight : DesignTree → List Todo → ℕ
weight d [] = 0
weight d (t ∷ ts) = part_weight d t.frame t.row + weight d ts
