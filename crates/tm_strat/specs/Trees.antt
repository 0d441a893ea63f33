-- What tests of a state and moves are in C, as plain data. In this file c are the numbers of variables and processes.
use Rattle.std.specs.Prelude.{ℕ, ◌==◌, ◌^◌, ◌-◌, ◌||◌, ◌&&◌, Bool, false, List, length, map, nat_lt, nat_le}
use Rattle.std.specs.Prelude.{slice_index_or, if◌then◌else◌}
use Rattle.std.specs.Option.{option_map_or}
use Rattle.tm_base.specs.declared.shift_operator.ShiftOperator.TheVariants.{Right}
use Rattle.tm_cir.specs.declared.block.NumOperator.{NumOperator}
use Rattle.tm_cir.specs.declared.block.NumOperator.TheVariants as operators
use Rattle.tm_cir.specs.Fit.{parameter_count}
use Rattle.tm_cir.specs.Tree.{BlockTree, NumTree, TruthTree, binary, call, compare, constant, idle, last, leave}
use Rattle.tm_cir.specs.Tree.{location, num, shift, var}
use Rattle.tm_game.specs.declared.moves.MoveShape.{MoveShape}
use Rattle.tm_game.specs.declared.moves.MoveShape.TheVariants as shapes
use Rattle.tm_strat.specs.declared.candidates.Candidate.{Candidate}
use Rattle.tm_strat.specs.declared.expressions.Expression.{Expression}
use Rattle.tm_strat.specs.declared.expressions.Expression.TheVariants as expressions
use Rattle.tm_strat.specs.declared.numbers.Counts.{Counts}
use Rattle.tm_strat.specs.declared.numbers.Number.{Number}
use Rattle.tm_strat.specs.declared.numbers.Number.TheVariants as numbers
use Rattle.tm_strat.specs.declared.predicates.Predicate.{Predicate}
use Rattle.tm_strat.specs.declared.predicates.Predicate.TheVariants as predicates
use Rattle.tm_syntax.specs.Design.{DesignTree}
use Rattle.tm_syntax.specs.Faults.Limits.{limit_of}
use Rattle.tm_syntax.specs.declared.fault.Quantity.TheVariants as quantity

-- ---- expressions
-- a number of a state; one that the state does not have is 0
abbrev pub number_tree : Counts → Number → NumTree
number_tree c (numbers.Variable k) = if nat_lt k c.vars then var k else constant 0
number_tree c (numbers.Location p) = if nat_lt p c.processes then location p else constant 0
number_tree c numbers.Last = last

-- the number of this place among the numbers of a state
abbrev pub number_in : Counts → ℕ → Number
number_in c k =
    if nat_lt k c.vars then numbers.Variable k
    else (if nat_lt (k - c.vars) c.processes then numbers.Location (k - c.vars) else numbers.Last)

-- the bits of an expression that a mask has
abbrev pub masked_tree : NumTree → ℕ → NumTree
masked_tree n mask = binary operators.And n (constant mask)

-- an expression shifted down by fewer than 64 bits
abbrev pub lowered_tree : NumTree → ℕ → NumTree
lowered_tree n by = if (by == 0) || nat_le 64 by then n else shift Right n by

-- an operator between two expressions, in the bits that a mask has
abbrev pub within_tree : NumOperator → NumTree → NumTree → ℕ → NumTree
within_tree op a b mask = if mask == 2 ^ 64 - 1 then binary op a b else masked_tree (binary op a b) mask

-- an expression over the numbers of a state
abbrev pub expression_tree : Counts → Expression → NumTree
expression_tree c (expressions.Constant n) = constant n
expression_tree c (expressions.Number n) = number_tree c n
expression_tree c (expressions.Part n by mask) = masked_tree (lowered_tree (number_tree c n) by) mask
expression_tree c (expressions.Plus n k mask) = within_tree operators.Add (number_tree c n) (constant k) mask
expression_tree c (expressions.Sum a b mask) = within_tree operators.Add (number_tree c a) (number_tree c b) mask
expression_tree c (expressions.Difference a b mask) =
    within_tree operators.Subtract (number_tree c a) (number_tree c b) mask

-- ---- tests
-- a test of a state
abbrev pub predicate_tree : Counts → Predicate → TruthTree
predicate_tree c (predicates.Holds n) = num (number_tree c n)
predicate_tree c (predicates.Compare op a b) = compare op (expression_tree c a) (expression_tree c b)
predicate_tree c (predicates.Bit n weight) = num (expression_tree c (expressions.Part n weight 1))

-- ---- moves
-- whether a task has so many parameters, and so many arguments can be given
abbrev pub takes : DesignTree → ℕ → ℕ → Bool
takes d task count =
    option_map_or (λ n. n == count) (parameter_count d task) false && nat_le count (limit_of quantity.Arguments)

-- the shape of a number, which is to idle where there is none
abbrev pub shape_in : List MoveShape → ℕ → MoveShape
shape_in known k = slice_index_or known k shapes.Idle

-- the block of a move of a shape with arguments, or to idle where the design has no such move
abbrev pub move_tree : DesignTree → Counts → MoveShape → List Expression → BlockTree
move_tree d c shapes.Idle args = idle
move_tree d c (shapes.Leave p) args = if nat_lt p (length d.processes) then leave p else idle
move_tree d c (shapes.Call n) args =
    if takes d n (length args) then call n (map (expression_tree c) args) else idle

-- the block of a candidate, whose shape is one of a list
abbrev pub candidate_tree : DesignTree → Counts → List MoveShape → Candidate → BlockTree
candidate_tree d c known candidate = move_tree d c (shape_in known candidate.shape) candidate.arguments.items
