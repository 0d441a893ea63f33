-- What the code's blocks are as plain data.
use Rattle.std.specs.Prelude.{List, map}
use Rattle.tm_cir.specs.declared.block.Num64.{Num64}
use Rattle.tm_cir.specs.declared.block.Num64.TheVariants.{Const, Var, Location, Goal, Last, Not', Binary', Shift', Cond'}
use Rattle.tm_cir.specs.declared.block.Truth.{Truth}
use Rattle.tm_cir.specs.declared.block.Truth.TheVariants as tests
use Rattle.tm_cir.specs.declared.block.Block.{Block}
use Rattle.tm_cir.specs.declared.blocks.Blocks.{Blocks}
use Rattle.tm_cir.specs.declared.block.Block.TheVariants.{Test, Call, Leave, Idle}
use Rattle.tm_cir.specs.Tree.{NumTree, constant, var, location, goal, last, complement, binary, shift, conditional, TruthTree, num, negation, compare, join, BlockTree, test, call, leave, idle}

-- a number, and a truth value
abbrev mutual
  pub num_tree : Num64 → NumTree
  num_tree (Const n) = constant n
  num_tree (Var k) = var k
  num_tree (Location p) = location p
  num_tree Goal = goal
  num_tree Last = last
  num_tree (Not' _ a) = complement (num_tree a)
  num_tree (Binary' op _ a _ b) = binary op (num_tree a) (num_tree b)
  num_tree (Shift' op _ a by) = shift op (num_tree a) by
  num_tree (Cond' _ t _ a _ b) = conditional (truth_tree t) (num_tree a) (num_tree b)

  pub truth_tree : Truth → TruthTree
  truth_tree (tests.Num n) = num (num_tree n)
  truth_tree (tests.Not' _ t) = negation (truth_tree t)
  truth_tree (tests.Compare op a b) = compare op (num_tree a) (num_tree b)
  truth_tree (tests.Join' op _ t _ u) = join op (truth_tree t) (truth_tree u)

-- a block
abbrev pub block_tree : Block → BlockTree
block_tree (Test t first second) = test (truth_tree t) first second
block_tree (Call task args) = call task (map num_tree args.items)
block_tree (Leave p) = leave p
block_tree Idle = idle

-- several blocks
abbrev pub block_trees : List Block → List BlockTree
block_trees bs = map block_tree bs

-- the blocks of a driver, which fit a design
abbrev pub trees_of : Blocks → List BlockTree
trees_of b = block_trees b.list.items
