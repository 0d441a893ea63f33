-- Tests of states and moves do not ask which goal is pending.
use Rattle.std.proofs.Common.{◌≡◌, ℕ, ◌^◌, ◌-◌, ◌==◌, ◌||◌, Bool, true, false, List, [], ◌∷◌, length, map, refl, ap}
use Rattle.std.specs.Prelude.{if◌then◌else◌, nat_le, nat_lt}
use Rattle.tm_base.specs.Arithmetic as bits
use Rattle.tm_base.specs.Shift.{shift as shifted}
use Rattle.tm_base.specs.declared.shift_operator.ShiftOperator.TheVariants.{Right}
use Rattle.tm_check.specs.Replies.{move_of}
use Rattle.tm_cir.specs.Meaning.{binary_value, comparison_value, holds, num_value}
use Rattle.tm_cir.specs.Tree.{BlockTree, NumTree, binary, call, constant, idle, leave, location, shift, var}
use Rattle.tm_cir.specs.declared.block.NumOperator.{NumOperator}
use Rattle.tm_cir.specs.declared.block.NumOperator.TheVariants as operators
use Rattle.tm_game.specs.declared.moves.MoveShape.{MoveShape}
use Rattle.tm_game.specs.declared.moves.MoveShape.TheVariants as shapes
use Rattle.tm_sem.specs.State.{StateData}
use Rattle.tm_sem.specs.declared.state.Move.TheVariants as moves
use Rattle.tm_strat.specs.Trees.{expression_tree, lowered_tree, masked_tree, move_tree, number_tree, predicate_tree}
use Rattle.tm_strat.specs.Trees.{takes, within_tree}
use Rattle.tm_strat.specs.declared.expressions.Expression.{Expression}
use Rattle.tm_strat.specs.declared.expressions.Expression.TheVariants as expressions
use Rattle.tm_strat.specs.declared.numbers.Counts.{Counts}
use Rattle.tm_strat.specs.declared.numbers.Number.{Number}
use Rattle.tm_strat.specs.declared.numbers.Number.TheVariants as numbers
use Rattle.tm_strat.specs.declared.predicates.Predicate.{Predicate}
use Rattle.tm_strat.specs.declared.predicates.Predicate.TheVariants as predicates
use Rattle.tm_syntax.specs.Design.{DesignTree}

module _ (s : StateData) (i j : ℕ) where
  -- an expression has one value whichever goal of two is pending
  abbrev IsSame : NumTree → Type 0
  IsSame n = num_value s i n ≡ num_value s j n

  either : (t : Bool) (a b : NumTree) → IsSame a → IsSame b → IsSame (if t then a else b)
  either true a b one other = one
  either false a b one other = other

  number_same : (c : Counts) (n : Number) → IsSame (number_tree c n)
  number_same c (numbers.Variable k) = either (nat_lt k c.vars) (var k) (constant 0) refl refl
  number_same c (numbers.Location p) = either (nat_lt p c.processes) (location p) (constant 0) refl refl
  number_same c numbers.Last = refl

  binary_same : (op : NumOperator) (a b : NumTree) → IsSame a → IsSame b → IsSame (binary op a b)
  binary_same op a b one other = λ k. binary_value op (one k) (other k)

  masked_same : (n : NumTree) (mask : ℕ) → IsSame n → IsSame (masked_tree n mask)
  masked_same n mask same = binary_same operators.And n (constant mask) same refl

  lowered_same : (n : NumTree) (by : ℕ) → IsSame n → IsSame (lowered_tree n by)
  lowered_same n by same =
      either ((by == 0) || nat_le 64 by) n (shift Right n by) same (λ k. shifted Right 64 (same k) by)

  within_same : (op : NumOperator) (a b : NumTree) (mask : ℕ) → IsSame a → IsSame b → IsSame (within_tree op a b mask)
  within_same op a b mask one other =
      either (mask == 2 ^ 64 - 1) (binary op a b) (masked_tree (binary op a b) mask) (binary_same op a b one other)
      (masked_same (binary op a b) mask (binary_same op a b one other))

  expression_same : (c : Counts) (e : Expression) → IsSame (expression_tree c e)
  expression_same c (expressions.Constant n) = refl
  expression_same c (expressions.Number n) = number_same c n
  expression_same c (expressions.Part n by mask) =
      masked_same (lowered_tree (number_tree c n) by) mask (lowered_same (number_tree c n) by (number_same c n))
  expression_same c (expressions.Plus n k mask) =
      within_same operators.Add (number_tree c n) (constant k) mask (number_same c n) refl
  expression_same c (expressions.Sum a b mask) =
      within_same operators.Add (number_tree c a) (number_tree c b) mask (number_same c a) (number_same c b)
  expression_same c (expressions.Difference a b mask) =
      within_same operators.Subtract (number_tree c a) (number_tree c b) mask (number_same c a) (number_same c b)

  pub test_same : (c : Counts) (p : Predicate) → holds s i (predicate_tree c p) ≡ holds s j (predicate_tree c p)
  test_same c (predicates.Holds n) = λ k. bits.is_nonzero (number_same c n k)
  test_same c (predicates.Compare op a b) =
      λ k. bits.is_nonzero (comparison_value op (expression_same c a k) (expression_same c b k))
  test_same c (predicates.Bit n weight) =
      λ k. bits.is_nonzero (expression_same c (expressions.Part n weight 1) k)

  arguments_same : (c : Counts) (es : List Expression) →
      map (num_value s i) (map (expression_tree c) es) ≡ map (num_value s j) (map (expression_tree c) es)
  arguments_same c [] = refl
  arguments_same c (e ∷ es) = λ k. expression_same c e k ∷ arguments_same c es k

  either_move : (t : Bool) (a b : BlockTree) → move_of i a s ≡ move_of j a s → move_of i b s ≡ move_of j b s →
      move_of i (if t then a else b) s ≡ move_of j (if t then a else b) s
  either_move true a b one other = one
  either_move false a b one other = other

  pub move_same : (d : DesignTree) (c : Counts) (shape : MoveShape) (args : List Expression) →
      move_of i (move_tree d c shape args) s ≡ move_of j (move_tree d c shape args) s
  move_same d c shapes.Idle args = refl
  move_same d c (shapes.Leave p) args = either_move (nat_lt p (length d.processes)) (leave p) idle refl refl
  move_same d c (shapes.Call n) args =
      either_move (takes d n (length args)) (call n (map (expression_tree c) args)) idle
      (ap (moves.Call n) (arguments_same c args)) refl
