-- Which tasks may pause: those that hold a location, or call one that does. Their parameters and locals are kept in
-- the state.
use Rattle.std.specs.Prelude.{ℕ, zero, suc, Bool, true, false, Option, List, ◌||◌, ◌&&◌, find, length, sum_by}
use Rattle.std.specs.Option.{option_map, option_and_then, option_map_or}
use Rattle.std.specs.List.{list_any}
use Rattle.tm_syntax.specs.declared.tree.Ident.{Ident}
use Rattle.tm_syntax.specs.declared.tree.TaskKind.{TaskKind}
use Rattle.tm_syntax.specs.declared.tree.TaskKind.TheVariants.{Controllable, Uncontrollable}
use Rattle.tm_syntax.specs.Tree.{ValueTree, star, result, plain, StmtTree, assign, invoke, branch, repeat, forever, choose, assert, assume, pause, wait, magic, StmtRow, nothing, then, BlockRow, nowhere, or_else, BodyTree, TaskTree, TemplateTree, SpecTree}
use Rattle.tm_syntax.specs.Scopes.Names.{is_spelled, last_name, template_along}

-- whether a value is a call of a task that may pause, given which calls may
abbrev pub value_pauses : (List Ident → Bool) → ValueTree → Bool
value_pauses called (star _) = false
value_pauses called (result path _) = called path
value_pauses called (plain _) = false

-- whether a statement holds a location or a call that may pause
abbrev mutual
  pub stmt_pauses : (List Ident → Bool) → StmtTree → Bool
  stmt_pauses called (assign _ _ value) = value_pauses called value
  stmt_pauses called (invoke path _) = called path
  stmt_pauses called (branch _ first second) = row_pauses called first || row_pauses called second
  stmt_pauses called (repeat _ _ body) = row_pauses called body
  stmt_pauses called (forever _ body) = row_pauses called body
  stmt_pauses called (choose _ blocks) = block_pauses called blocks
  stmt_pauses called (assert _ _) = false
  stmt_pauses called (assume _ _) = false
  stmt_pauses called (pause _) = true
  stmt_pauses called (wait _ _) = true
  stmt_pauses called (magic _) = true

  pub row_pauses : (List Ident → Bool) → StmtRow → Bool
  row_pauses called nothing = false
  row_pauses called (then first others) = stmt_pauses called first || row_pauses called others

  pub block_pauses : (List Ident → Bool) → BlockRow → Bool
  block_pauses called nowhere = false
  block_pauses called (or_else first others) = row_pauses called first || block_pauses called others

-- the task or procedure that a path leads to from a template, with the template that declares it
abbrev pub task_reached : SpecTree → TemplateTree → List Ident → Option (TemplateTree × TaskTree)
task_reached spec t path =
    option_and_then (λ u. option_map (λ k. (u, k)) (find (λ k. is_spelled (last_name path) k.name) u.tasks))
    (template_along spec t path)

-- whether a body holds a location or a call that may pause, where calls nest at most so deep
abbrev pub body_pauses : ℕ → SpecTree → TemplateTree → BodyTree → Bool
body_pauses zero spec t body = false
body_pauses (suc depth) spec t body =
    list_any (λ l. value_pauses
    (λ path. option_map_or (λ k. body_pauses depth spec k.0 k.1.body) (task_reached spec t path) false)
    l.value) body.locals
    || list_any (stmt_pauses
    (λ path. option_map_or (λ k. body_pauses depth spec k.0 k.1.body) (task_reached spec t path) false)) body.stmts

-- how deep calls nest at most: no body reaches itself by calls
abbrev pub call_depth : SpecTree → ℕ
call_depth spec = sum_by (λ t. length t.tasks) spec.templates

-- whether a task may pause
abbrev pub may_pause : SpecTree → TemplateTree → TaskTree → Bool
may_pause spec t task = body_pauses (call_depth spec) spec t task.body

-- whether the driver may call a task
abbrev pub is_controllable : TaskKind → Bool
is_controllable Controllable = true
is_controllable _ = false

-- whether a task is the environment's own
abbrev pub is_uncontrollable : TaskKind → Bool
is_uncontrollable Uncontrollable = true
is_uncontrollable _ = false

-- whether the parameters and locals of a task are kept in the state: it is uncontrollable and may pause
abbrev pub is_kept : SpecTree → TemplateTree → TaskTree → Bool
is_kept spec t task = is_uncontrollable task.kind && may_pause spec t task
