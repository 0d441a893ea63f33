-- How many steps a run takes until it comes to a location, at most.
use Rattle.std.specs.Prelude.{ℕ, zero, suc, ◌+◌, List, [], ◌∷◌}
use Rattle.std.specs.Option.{option_map_or}
use Rattle.tm_syntax.specs.declared.design.Design.{Design}
use Rattle.tm_syntax.specs.declared.tree.Ident.{Ident}
use Rattle.tm_syntax.specs.Tree.{ValueTree, star, result, plain, StmtTree, assign, invoke, branch, repeat, forever, choose, assert, assume, pause, wait, magic, StmtRow, nothing, then, BlockRow, nowhere, or_else, row_of, BodyTree}
use Rattle.tm_syntax.specs.Scopes.Parts.{body_stmts}
use Rattle.tm_syntax.specs.Design.{DesignTree}
use Rattle.tm_syntax.specs.Design.Cells.{Called, called}
use Rattle.tm_syntax.specs.Design.Scope.{Scope}
use Rattle.tm_syntax.specs.Design.View.{design_tree}
use Rattle.tm_scope.specs.Cells.{scope_of}
use Rattle.tm_plain_bodies.specs.declared.frame.Frame.{Frame}
use Rattle.tm_plain_bodies.specs.Inner.Owed.{Owed, one, row, again, leave, answer, frame_of}

-- the steps of a value, given those of calls
abbrev pub value_weight : (List Ident → ℕ) → ValueTree → ℕ
value_weight within (star _) = 0
value_weight within (result names _) = within names
value_weight within (plain _) = 0

-- the steps of a statement
abbrev mutual
  pub stmt_weight : (List Ident → ℕ) → StmtTree → ℕ
  stmt_weight within (assign _ _ value) = 1 + value_weight within value
  stmt_weight within (invoke names _) = 1 + within names
  stmt_weight within (branch _ first second) = 2 + (row_weight within first + row_weight within second)
  stmt_weight within (repeat _ _ body) = 2 + row_weight within body
  stmt_weight within (forever _ body) = 2 + row_weight within body
  stmt_weight within (choose _ blocks) = 2 + block_weight within blocks
  stmt_weight within (assert _ _) = 1
  stmt_weight within (assume _ _) = 1
  stmt_weight within (pause _) = 1
  stmt_weight within (wait _ _) = 1
  stmt_weight within (magic _) = 1

  -- the steps of a row
  pub row_weight : (List Ident → ℕ) → StmtRow → ℕ
  row_weight within nothing = 0
  row_weight within (then first others) = stmt_weight within first + row_weight within others

  -- the steps of blocks, all of them
  pub block_weight : (List Ident → ℕ) → BlockRow → ℕ
  block_weight within nowhere = 0
  block_weight within (or_else first others) = row_weight within first + block_weight within others

-- the steps of a body that is called: its locals and its statements, the end of the call and what it returns
abbrev pub body_weight : (List Ident → ℕ) → BodyTree → ℕ
body_weight within body = 4 + row_weight within (row_of (body_stmts body))

-- the steps of what a path calls, where calls nest at most so deep
abbrev pub call_weight : ℕ → DesignTree → Scope → List Ident → ℕ
call_weight zero d scope names = 0
call_weight (suc depth) d scope names =
    option_map_or (λ (c : Called). body_weight (call_weight depth d c.scope) c.body) (called d scope names) 0

-- the steps of what a frame of a design calls
abbrev pub weighs : Design → Frame → List Ident → ℕ
weighs d f = call_weight f.depth (design_tree d) (scope_of f.reader.at)

-- the steps of what is owed
abbrev pub part_weight : Design → Owed → ℕ
part_weight d (one level s) = stmt_weight (weighs d (frame_of d level)) s
part_weight d (row level ss) = 1 + row_weight (weighs d (frame_of d level)) (row_of ss)
part_weight d (again level s) = 0
part_weight d (leave path) = 1
part_weight d (answer level outer task cell) = 1

-- the steps of all that is left
abbrev pub weight : Design → List Owed → ℕ
weight d [] = 0
weight d (t ∷ ts) = part_weight d t + weight d ts
