-- The blocks of a driver as contracts see them: plain data, with a list in the place of each vector.
-- Operators are the code's own types, which are plain data already.
use Rattle.std.specs.Prelude.{ℕ, List}
use Rattle.tm_cir.specs.declared.block.NumOperator.{NumOperator}
use Rattle.tm_base.specs.declared.shift_operator.ShiftOperator.{ShiftOperator}
use Rattle.tm_cir.specs.declared.block.Comparison.{Comparison}
use Rattle.tm_cir.specs.declared.block.Junction.{Junction}

-- a number
mutual
  pub data NumTree : Type 0 where
    constant : ℕ → NumTree
    var : ℕ → NumTree
    location : ℕ → NumTree
    goal : NumTree
    last : NumTree
    complement : NumTree → NumTree
    binary : NumOperator → NumTree → NumTree → NumTree
    shift : ShiftOperator → NumTree → ℕ → NumTree
    conditional : TruthTree → NumTree → NumTree → NumTree

  -- what stands where C tests for zero
  pub data TruthTree : Type 0 where
    num : NumTree → TruthTree
    negation : TruthTree → TruthTree
    compare : Comparison → NumTree → NumTree → TruthTree
    join : Junction → TruthTree → TruthTree → TruthTree

-- a block; tests name the blocks to go on at, calls and leaves a task and a process of the design
pub data BlockTree : Type 0 where
  test : TruthTree → ℕ → ℕ → BlockTree
  call : ℕ → List NumTree → BlockTree
  leave : ℕ → BlockTree
  idle : BlockTree
