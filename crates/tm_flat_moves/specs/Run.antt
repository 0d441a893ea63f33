-- The runs of a step, and how they have ended.
use Rattle.std.specs.Prelude.{◌≡◌, ◌+◌, ◌<◌, ℕ, Bool, false, List, length, take}
use Rattle.tm_syntax.specs.Design.{DesignTree}
use Rattle.tm_syntax.specs.Design.Locations.{rest}
use Rattle.tm_term.specs.declared.term.TermId.{TermId}
use Rattle.tm_term.specs.Table.{Table, IsSound}
use Rattle.tm_term.specs.Value.{AreInputs, Extends}
use Rattle.tm_sem.specs.Run.{Ending}
use Rattle.tm_sem.specs.Value.{Memory, plain_memory}
use Rattle.tm_flat.specs.BitRun.{items_ending}
use Rattle.tm_flat.specs.Inputs.{first_choice}
use Rattle.tm_flat.specs.Steps.{IsInput}
use Rattle.tm_flat_stmts.specs.Flows.{AreEnds, StopsHave, has_failed}
use Rattle.tm_flat_stmts.specs.Choices.{choice_bit}
use Rattle.tm_flat_bodies.specs.declared.course.Course.{Course}
use Rattle.tm_flat_bodies.specs.Walks.{WalkTables}
use Rattle.tm_flat_moves.specs.Arrived.{TellsArrival, arrival}

-- the memory at the start of a step, from values of the inputs
abbrev pub memory_in : DesignTree → List ℕ → Memory
memory_in d v = plain_memory (take (length d.vars) v)

-- how the work of a process ends from a location, with choices and a state from values of the inputs
abbrev pub runs_from : DesignTree → ℕ → ℕ → List ℕ → Ending
runs_from d p place v = items_ending d (choice_bit (first_choice d) v) (rest d p place) 0 (memory_in d v)

-- runs have ended as this function of the values of the inputs says; a variable that is not written has its input where
-- they have stopped
pub record HasRun (w : WalkTables) (d : DesignTree) (p : ℕ) (ending : List ℕ → Ending) (writes : ℕ → Bool)
    (t : Table) (now : Course) : Type 0 where
  pub grown : Extends t now.terms
  pub sound : IsSound now.terms
  pub ends : AreEnds w.tables now.terms now.ends
  pub count : length now.ends.stops ≡ length w.locations.rows + 2
  pub tells : (u : Table) → Extends now.terms u → (v : List ℕ) → AreInputs u v →
      TellsArrival w.tables u v (arrival d p (ending v)) (has_failed (ending v)) now.ends
  pub leaves : (i : ℕ) → i < length d.vars → writes i ≡ false →
      (id : TermId) × IsInput now.terms i id × StopsHave i id now.ends
