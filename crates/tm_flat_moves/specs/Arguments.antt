-- The arguments of a call of the driver, as bits hold them.
use Rattle.std.specs.Prelude.{◌≡◌, ◌+◌, ◌&&◌, ℕ, Bool, true, false, Some, List, [], ◌∷◌, nat_lt}
use Rattle.std.specs.List.{list_any}
use Rattle.std.specs.Option.{option_map_or}
use Rattle.tm_syntax.specs.Design.{DesignTree}
use Rattle.tm_syntax.specs.Design.Cells.{Called, Cell}
use Rattle.tm_syntax.specs.Design.Sizes.{type_bits, type_size}
use Rattle.tm_scope.specs.Cells.{CellTables}
use Rattle.tm_scope.specs.declared.cells.site_body.SiteBody.{SiteBody}
use Rattle.tm_term.specs.declared.term.TermId.{TermId}
use Rattle.tm_term.specs.Table.{Table, IsSound}
use Rattle.tm_term.specs.Value.{AreInputs, Extends}
use Rattle.tm_sem.specs.Run.{asked_by}
use Rattle.tm_sem.specs.Value.{Memory, put}
use Rattle.tm_design.specs.Parameters.{called_by}
use Rattle.tm_flat.specs.BitRun.{number_at}
use Rattle.tm_flat.specs.Inputs.{first_choice, room}
use Rattle.tm_flat.specs.Writes.{is_variable}
use Rattle.tm_flat_exprs.specs.Kept.{Keeps}
use Rattle.tm_flat_stmts.specs.Flows.{FlowTerms, HasTerm, IsFlow, is_on}
use Rattle.tm_flat_stmts.specs.Choices.{choice_bit}

-- the parameters of a body of an instance, if a call may run it
abbrev pub params_of : DesignTree → SiteBody → List Cell
params_of d at = option_map_or (λ (c : Called). c.params) (called_by d at.instance at.body) []

-- the bits in which the argument of a parameter is written
abbrev pub param_bits : DesignTree → Cell → ℕ
param_bits d c = type_bits d.spec (asked_by d (Some c))

-- whether the arguments that bits hold from a position on are in range of their types
abbrev pub are_in_range : DesignTree → List Cell → (ℕ → Bool) → ℕ → Bool
are_in_range d [] bits k = true
are_in_range d (c ∷ cs) bits k =
    nat_lt (number_at bits k (param_bits d c)) (type_size d.spec (asked_by d (Some c)))
    && are_in_range d cs bits (k + param_bits d c)

-- the bits of arguments, among values of the inputs
abbrev pub argument_bits : DesignTree → List ℕ → ℕ → Bool
argument_bits d v = choice_bit (first_choice d + room) v

-- the memory after the arguments that bits hold from a position on were put into the parameters
abbrev pub put_read : DesignTree → List Cell → (ℕ → Bool) → ℕ → Memory → Memory
put_read d [] bits k m = m
put_read d (c ∷ cs) bits k m =
    put_read d cs bits (k + param_bits d c) (put m c (number_at bits k (param_bits d c)))

-- a flow was made of another one: its runs have read arguments from a position of the bits on, which are in range, and
-- put them into parameters
pub record ReadsArguments (x : CellTables) (t n : Table) (d : DesignTree) (params : List Cell) (k : ℕ)
    (f g : FlowTerms) : Type 0 where
  pub grown : Extends t n
  pub sound : IsSound n
  pub flow : IsFlow x n g
  pub position : g.position ≡ f.position
  pub on : (u : Table) → Extends n u → (v : List ℕ) → AreInputs u v →
      is_on u v (Some g) ≡ (is_on u v (Some f) && are_in_range d params (argument_bits d v) k)
  pub keeps : (u : Table) → Extends n u → (v : List ℕ) → AreInputs u v → (m : Memory) → Keeps x u v f.memory m →
      Keeps x u v g.memory (put_read d params (argument_bits d v) k m)
  pub leaves : (i : ℕ) (id : TermId) → list_any (is_variable i) params ≡ false → HasTerm i id f → HasTerm i id g
