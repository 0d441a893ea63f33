-- A turn of the process of a small design, as a walk sees it.
use Rattle.std.specs.Prelude.{[], ◌∷◌, codes}
use Rattle.tm_syntax.specs.Design.Scope.{Scope, main_scope}
use Rattle.tm_syntax.specs.Scopes.Context.{process_body, task_body}
use Rattle.tm_sem.specs.Value.{Memory, plain_memory}

-- the body of the process
abbrev pub sample_scope : Scope
sample_scope = main_scope (process_body 0)

-- the memory at its start
abbrev pub sample_memory : Memory
sample_memory = plain_memory (0 ∷ 0 ∷ 0 ∷ [])

-- its memory after a turn: `c` is 2, `n` is 1, and the parameter of the procedure has got 0
abbrev pub sample_turned : Memory
sample_turned = record {
  values = 2 ∷ 1 ∷ 0 ∷ [];
  passing = record { scope = main_scope (task_body 0); name = codes "x"; value = 0 } ∷ [];
}
