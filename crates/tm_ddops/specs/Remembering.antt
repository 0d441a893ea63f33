-- What a call on diagrams remembers of its result, and what it answers where that was remembered.
-- old and new are the diagrams before and after a call, and answer is what it answers.
use Rattle.std.specs.Prelude.{◌≡◌, Result, Ok, IfOk}
use Rattle.std.specs.declared.alloc.AllocError.{AllocError}
use Rattle.tm_dd.specs.declared.node.NodeId.{NodeId}
use Rattle.tm_dd.specs.Table.{kept}
use Rattle.tm_ddops.specs.Connective.{AreTwoNodes}
use Rattle.tm_ddops.specs.Manager.{Diagrams, Grows, Remembers}
use Rattle.tm_ddops.specs.Reached.{RisesByPairs}
use Rattle.tm_ddops.specs.declared.operation.Operation.{Operation}

-- what a call answers
abbrev pub Answer : Type 0
Answer = Result NodeId AllocError

-- a result that was remembered is answered again, and no node is made then; others stay remembered while there is room
pub record AnswersAgain (operation : Operation) (old new : Diagrams) (answer : Answer) : Type 0 where
  pub again : (id : NodeId) → Remembers old operation id → answer ≡ Ok id
  pub again_same : (id : NodeId) → Remembers old operation id → new.table ≡ old.table
  pub grows : Grows old new

-- the result is remembered, and is answered again
pub record RemembersResult (operation : Operation) (old new : Diagrams) (answer : Answer) : Type 0 where
  pub remembered : IfOk answer (Remembers new operation)
  pub answers : AnswersAgain operation old new answer

-- an operation on f and g remembers its result where they are two inner nodes, answers it again, and makes at most one
-- node for each pair of their inner nodes
pub record RemembersPair (operation : Operation) (f g : NodeId) (old new : Diagrams) (answer : Answer) : Type 0 where
  pub remembered : AreTwoNodes f g → IfOk answer (Remembers new operation)
  pub answers : AnswersAgain operation old new answer
  pub nodes : RisesByPairs old.table f g (kept old.table) (kept new.table)
