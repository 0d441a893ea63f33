-- Tasks of a set, as faults.
use Rattle.std.specs.Prelude.{ℕ, List, [], ◌∷◌, if◌then◌else◌}
use Rattle.tm_syntax.specs.Tree.{TaskTree}
use Rattle.tm_syntax.specs.Faults.Marks.{Mark, named}
use Rattle.tm_syntax.specs.Faults.Cycles.{TaskMark}
use Rattle.tm_syntax.specs.declared.member.Member.{Member}
use Rattle.tm_scope.specs.Marks.{is_in}

-- a task of a template, by its numbers
abbrev pub task_mark : ℕ → ℕ × TaskTree → TaskMark
task_mark template k = record { number = record { template = template; index = k.0 }; mark = named k.1.name }

-- the fault that a task is, if it is one of these
abbrev pub looping_mark : List Member → TaskMark → List Mark
looping_mark tasks k = if is_in tasks k.number then (k.mark ∷ []) else []
