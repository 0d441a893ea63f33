-- What a statement makes of a flow and of ends.
use Rattle.std.specs.Prelude.{◌≡◌, ℕ, ◌+◌, ◌==◌, Bool, Option, Some, List, [], ◌∷◌, slice_index, if◌then◌else◌}
use Rattle.std.specs.List.{list_any}
use Rattle.tm_base.specs.declared.place.Place.{Place}
use Rattle.tm_syntax.specs.declared.design.Ty.{Ty}
use Rattle.tm_syntax.specs.Tree.{ExprTree, StmtTree}
use Rattle.tm_syntax.specs.Design.{DesignTree}
use Rattle.tm_syntax.specs.Design.Cells.{Called}
use Rattle.tm_syntax.specs.Design.Scope.{Scope}
use Rattle.tm_scope.specs.Cells.{HasCells, ScopedCells, scope_of}
use Rattle.tm_term.specs.declared.term.TermId.{TermId}
use Rattle.tm_term.specs.Table.{Table}
use Rattle.tm_term.specs.Value.{AreInputs, value_of, Extends}
use Rattle.tm_sem.specs.Run.{Ending, failed, finished}
use Rattle.tm_sem.specs.Value.{Memory, overruns, value}
use Rattle.tm_flat.specs.BitRun.{Reader, stmt_ending, unless_overrun}
use Rattle.tm_flat.specs.Positions.{stmt_after}
use Rattle.tm_flat.specs.Steps.{IsTerm}
use Rattle.tm_flat.specs.Writes.{stmt_writes}
use Rattle.tm_design.specs.Settled.{AreSettled}
use Rattle.tm_flat_exprs.specs.Kept.{KeptTerms, Keeps}
use Rattle.tm_flat_exprs.specs.Valued.{bits_in}
use Rattle.tm_flat_stmts.specs.declared.operands.Operand.{Operand}
use Rattle.tm_flat_stmts.specs.Flows.{Continues, EndTerms, FlowTerms, LeadsOn}

-- in each design of some tables the cells are settled
abbrev pub AreSettledCells : ScopedCells → Type 0
AreSettledCells s = (d : DesignTree) → HasCells s.tables d → AreSettled d

-- what runs know that read their choices from values of the inputs: the design, the number of the first input that is a
-- bit of choices, and of a called body the position behind it, how it ends, and whether it may assign a state variable
pub record Readers : Type 0 where
  pub design : DesignTree
  pub first : ℕ
  pub after : Called → ℕ → Option ℕ
  pub ending : List ℕ → Called → List Place → ℕ → Memory → Ending
  pub writes : ℕ → Called → ℕ → Bool

-- what the run knows that reads these values
abbrev pub reads : Readers → List ℕ → Reader
reads r v = record {
  design = r.design;
  bits = λ k. slice_index v (r.first + k) == 1;
  after = r.after;
  ending = r.ending v;
}

-- how a statement ends where a run stands
abbrev pub stmt_piece : Readers → Scope → List Place → StmtTree → ℕ → List ℕ → Memory → Ending
stmt_piece r scope trail s k v m =
    unless_overrun r.design scope m s (stmt_ending (reads r v) scope trail s k m)

-- a statement of a body leads from a flow to another one, and to ends, in each design of the tables, and leaves each
-- state variable alone that it does not write
abbrev pub LeadsThrough : ScopedCells → ℕ → StmtTree → Table → Table → FlowTerms → EndTerms → Option FlowTerms →
    EndTerms → Type 0
LeadsThrough s first stmt t n f before g after =
    (r : Readers) → HasCells s.tables r.design → r.first ≡ first → (trail : List Place)
    (number : Place → List Place → Option ℕ) →
    LeadsOn s.tables number (stmt_piece r (scope_of s.at) trail stmt f.position)
    (stmt_after r.after r.design (scope_of s.at) stmt f.position)
    (λ i. stmt_writes r.after (r.writes i) r.design (scope_of s.at) i stmt f.position) t n (Some f) before g after

-- expressions were valued where a run stands: it fails where one of them overruns, and else goes on
pub record Asks (s : ScopedCells) (es : List ExprTree) (t n : Table) (f : FlowTerms) (before : EndTerms)
    (g : FlowTerms) (after : EndTerms) : Type 0 where
  pub memory : g.memory ≡ f.memory
  pub stops : after.stops ≡ before.stops
  pub goes : (d : DesignTree) → HasCells s.tables d → (number : Place → List Place → Option ℕ) →
      Continues s.tables number
      (λ v m. if list_any (overruns d (scope_of s.at) m) es then failed else finished m)
      (Some f.position) t n (Some f) before (Some g) after

-- where the terms of a memory are kept, a term has the value of an expression, whose place asks for a type
pub record HasValue (s : ScopedCells) (k : KeptTerms) (asked : Ty) (e : ExprTree) (n : Table) (id : TermId) :
    Type 0 where
  pub term : IsTerm n (bits_in s asked) id
  pub means : (u : Table) → Extends n u → (v : List ℕ) → AreInputs u v → (d : DesignTree) → HasCells s.tables d →
      (m : Memory) → Keeps s.tables u v k m → value_of u v id ≡ value d (scope_of s.at) m asked e

-- one expression was valued, and its term made
pub record AsksOne (s : ScopedCells) (asked : Ty) (e : ExprTree) (t n : Table) (f : FlowTerms)
    (before after : EndTerms) (found : Operand) : Type 0 where
  pub asks : Asks s (e ∷ []) t n f before found.flow after
  pub value : HasValue s f.memory asked e n found.value
