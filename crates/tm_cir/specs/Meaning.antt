-- The value of an expression, as ISO/IEC 9899:2011 has it for `uint64_t`: arithmetic is modulo 2 ^ 64 (6.2.5),
-- and comparisons and logical operators give 1 or 0 (6.5.3.3, 6.5.8, 6.5.9, 6.5.13, 6.5.14).
use Rattle.std.specs.Prelude.{ℕ, Bool, ◌==◌, ◌&&◌, ◌||◌, bit_and, bit_or, bit_xor, slice_index}
use Rattle.tm_base.specs.Arithmetic as bits
use Rattle.tm_base.specs.Shift.{shift as shifted}
use Rattle.tm_sem.specs.State.{StateData}
use Rattle.tm_cir.specs.declared.block.NumOperator.{NumOperator}
use Rattle.tm_cir.specs.declared.block.NumOperator.TheVariants as numbers
use Rattle.tm_cir.specs.declared.block.Comparison.{Comparison}
use Rattle.tm_cir.specs.declared.block.Comparison.TheVariants.{Equal, NotEqual, Less, LessEqual, Greater, GreaterEqual}
use Rattle.tm_cir.specs.declared.block.Junction.{Junction}
use Rattle.tm_cir.specs.declared.block.Junction.TheVariants as truths
use Rattle.tm_cir.specs.Tree.{NumTree, constant, var, location, goal, last, complement, binary, shift, conditional, TruthTree, num, negation, compare, join}

-- what an operator between two numbers gives
abbrev pub binary_value : NumOperator → ℕ → ℕ → ℕ
binary_value numbers.Add a b = bits.sum 64 a b
binary_value numbers.Subtract a b = bits.difference 64 a b
binary_value numbers.And a b = bit_and a b
binary_value numbers.Or a b = bit_or a b
binary_value numbers.Xor a b = bit_xor a b

-- 1 where two numbers compare so, and else 0
abbrev pub comparison_value : Comparison → ℕ → ℕ → ℕ
comparison_value Equal a b = bits.equal a b
comparison_value NotEqual a b = bits.not_equal a b
comparison_value Less a b = bits.less a b
comparison_value LessEqual a b = bits.less_equal a b
comparison_value Greater a b = bits.less b a
comparison_value GreaterEqual a b = bits.less_equal b a

-- 1 where two numbers, as truth values, are so, and else 0
abbrev pub junction_value : Junction → ℕ → ℕ → ℕ
junction_value truths.And a b = bits.bit (bits.is_nonzero a && bits.is_nonzero b)
junction_value truths.Or a b = bits.bit (bits.is_nonzero a || bits.is_nonzero b)

-- the value of an expression at a state and the number of the pending goal
abbrev mutual
  pub num_value : StateData → ℕ → NumTree → ℕ
  num_value s g (constant n) = n
  num_value s g (var k) = slice_index s.values k
  num_value s g (location p) = slice_index s.places p
  num_value s g goal = g
  num_value s g last = s.last
  num_value s g (complement a) = bits.complement 64 (num_value s g a)
  num_value s g (binary op a b) = binary_value op (num_value s g a) (num_value s g b)
  num_value s g (shift op a by) = shifted op 64 (num_value s g a) by
  num_value s g (conditional t a b) =
      bits.choice (truth_value s g t) (num_value s g a) (num_value s g b)

  pub truth_value : StateData → ℕ → TruthTree → ℕ
  truth_value s g (num n) = num_value s g n
  truth_value s g (negation t) = bits.bit (truth_value s g t == 0)
  truth_value s g (compare op a b) = comparison_value op (num_value s g a) (num_value s g b)
  truth_value s g (join op t u) = junction_value op (truth_value s g t) (truth_value s g u)

-- a test goes on at its first block where its number is not 0
abbrev pub holds : StateData → ℕ → TruthTree → Bool
holds s g t = bits.is_nonzero (truth_value s g t)
