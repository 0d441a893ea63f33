-- How many steps a walk takes, at most: a body counts once for each instance, until it is entered.
use Rattle.std.specs.Prelude.{ℕ, zero, suc, ◌+◌, List, [], ◌∷◌, length, map, cond}
use Rattle.std.specs.Option.{option_map_or}
use Rattle.tm_syntax.specs.Tree.{StmtTree, assign, invoke, branch, repeat, forever, choose, assert, assume, pause, wait, magic, StmtRow, nothing, then, BlockRow, nowhere, or_else, BodyTree, row_of, alternatives_of}
use Rattle.tm_syntax.specs.Tree.View.{stmt_trees}
use Rattle.tm_syntax.specs.Design.{DesignTree}
use Rattle.tm_syntax.specs.Design.Scope.{site}
use Rattle.tm_scope.specs.Instances.{task_called_at}
use Rattle.tm_scope.specs.declared.members.SiteTask.{SiteTask}
use Rattle.tm_atoms.specs.declared.walk.Row.{Row}
use Rattle.tm_atoms.specs.declared.walk.Row.TheVariants.{Locals, Stmts, Blocks}
use Rattle.tm_atoms.specs.declared.walk.Todo.{Todo}
use Rattle.tm_atoms.specs.Inner.Walks.{WalkTables, has_entered}

-- the steps of what is within a statement
abbrev mutual
  pub stmt_weight : StmtTree → ℕ
  stmt_weight (assign _ _ _) = 0
  stmt_weight (invoke _ _) = 0
  stmt_weight (branch _ first second) = row_weight first + row_weight second
  stmt_weight (repeat _ _ body) = row_weight body
  stmt_weight (forever _ body) = row_weight body
  stmt_weight (choose _ blocks) = block_weight blocks
  stmt_weight (assert _ _) = 0
  stmt_weight (assume _ _) = 0
  stmt_weight (pause _) = 0
  stmt_weight (wait _ _) = 0
  stmt_weight (magic _) = 0

  pub row_weight : StmtRow → ℕ
  row_weight nothing = 1
  row_weight (then first others) = 1 + (stmt_weight first + row_weight others)

  pub block_weight : BlockRow → ℕ
  block_weight nowhere = 1
  block_weight (or_else first others) = 1 + (row_weight first + block_weight others)

-- the steps of a part of a body
abbrev pub part_weight : Row → ℕ
part_weight (Locals ls) = 1 + length ls.now
part_weight (Stmts ss) = row_weight (row_of (stmt_trees ss.now))
part_weight (Blocks bs) = block_weight (alternatives_of (map (λ b. row_of (stmt_trees b.items)) bs.now))

-- the steps of all that is to be walked
abbrev pub todo_weight : List Todo → ℕ
todo_weight [] = 0
todo_weight (t ∷ ts) = part_weight t.row + todo_weight ts

-- the steps of a body
abbrev pub body_weight : BodyTree → ℕ
body_weight b = (1 + length b.locals) + row_weight (row_of b.stmts)

-- the sum of what a function gives for the numbers below one
abbrev pub sum_below : (ℕ → ℕ) → ℕ → ℕ
sum_below f zero = 0
sum_below f (suc n) = f n + sum_below f n

-- the steps of the body of a task, until it has been entered
abbrev pub task_weight : DesignTree → List SiteTask → SiteTask → ℕ
task_weight d tasks task =
    cond (has_entered tasks task) 0 (option_map_or (λ k. body_weight k.body) (task_called_at d task) 0)

-- how many tasks an instance has
abbrev pub task_count : DesignTree → ℕ → ℕ
task_count d i = option_map_or (λ s. length s.template.tasks) (site d i) 0

-- the steps of the bodies of all tasks that have not been entered
abbrev pub unentered_weight : DesignTree → List SiteTask → ℕ
unentered_weight d tasks =
    sum_below (λ i. sum_below (λ k. task_weight d tasks (record { instance = i; index = k })) (task_count d i))
    (length d.instances)

-- the steps of a walk
abbrev pub weight : DesignTree → WalkTables → ℕ
weight d w = todo_weight w.todo + unentered_weight d w.entered
