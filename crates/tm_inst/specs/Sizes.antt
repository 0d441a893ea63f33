-- How large what a template declares may be, so that numbers of 32 bits and widths of 8 bits can tell it.
use Rattle.std.specs.Prelude.{◌≤◌, ◌^◌, ℕ, All, length}
use Rattle.tm_syntax.specs.declared.tree.TypeName.{TypeName}
use Rattle.tm_syntax.specs.declared.tree.TypeName.TheVariants.{Uint}
use Rattle.tm_syntax.specs.declared.tree.Body.{Body}
use Rattle.tm_syntax.specs.declared.tree.TaskDef.{TaskDef}
use Rattle.tm_syntax.specs.declared.tree.Template.{Template}
use Rattle.tm_syntax.specs.Scopes.Names.{written_width}

-- all numbers of 32 bits are below it
abbrev pub number_limit : ℕ
number_limit = 2 ^ 32

-- no type has more bits
abbrev pub width_limit : ℕ
width_limit = 64

-- the number of bits that a type writes, 0 where it writes none
abbrev pub bits_written : TypeName → ℕ
bits_written (Uint _ bits) = written_width bits
bits_written _ = 0

-- a type within the limit on widths
abbrev pub IsNarrow : TypeName → Type 0
IsNarrow ty = bits_written ty ≤ width_limit

-- each local of a body has a narrow type
abbrev pub HasNarrowLocals : Body → Type 0
HasNarrowLocals b = All (λ l. IsNarrow l.ty) b.locals.items

-- each parameter and each local of a task has a narrow type
pub record HasNarrowSlots (k : TaskDef) : Type 0 where
  pub params : All (λ p. IsNarrow p.ty) k.params.items
  pub locals : HasNarrowLocals k.body

-- each variable, parameter and local of a template has a narrow type
pub record HasNarrowTypes (t : Template) : Type 0 where
  pub vars : All (λ v. IsNarrow v.ty) t.vars.items
  pub processes : All (λ p. HasNarrowLocals p.body) t.processes.items
  pub tasks : All HasNarrowSlots t.tasks.items

-- numbers of 32 bits tell the members of each list of a template apart
pub record HasShortLists (t : Template) : Type 0 where
  pub processes : length t.processes.items ≤ number_limit
  pub tasks : length t.tasks.items ≤ number_limit
  pub goals : length t.goals.items ≤ number_limit
  pub fairs : length t.fairs.items ≤ number_limit
