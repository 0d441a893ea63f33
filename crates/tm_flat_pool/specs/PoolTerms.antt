-- The predicates of a design as terms.
use Rattle.std.specs.Prelude.{◌≡◌, ℕ, List}
use Rattle.tm_base.specs.Arithmetic.{bit}
use Rattle.tm_syntax.specs.Design.{DesignTree}
use Rattle.tm_term.specs.declared.term.TermId.{TermId}
use Rattle.tm_term.specs.Table.{Table}
use Rattle.tm_term.specs.Value.{value_of}
use Rattle.tm_sem.specs.State.{StateData}
use Rattle.tm_sem.specs.Step.{IsState}
use Rattle.tm_flat.specs.Inputs.{AreBits, input_values}
use Rattle.tm_flat.specs.Steps.{IsTerm}
use Rattle.tm_flat_pool.specs.Predicates.{Predicate, predicate_holds}

-- a term that is 1 exactly where a predicate holds
pub record IsPredicateTerm (t : Table) (d : DesignTree) (p : Predicate) (id : TermId) : Type 0 where
  pub term : IsTerm t 1 id
  pub holds : (s : StateData) (choices arguments : List ℕ) → IsState d s → AreBits choices → AreBits arguments →
      value_of t (input_values s choices arguments) id ≡ bit (predicate_holds d s p)
