-- A structured driver as contracts see it: plain data, with a list in the place of each vector.
use Rattle.std.specs.Prelude.{ℕ, List}
use Rattle.tm_cir.specs.Tree.{NumTree, TruthTree}

-- what a function does: a test with what is done where it holds and where it does not, a call of a controllable task, a
-- leave of the magic block at which a process stands, what another function does, or nothing
pub data ActionTree : Type 0 where
  choose : TruthTree → ActionTree → ActionTree → ActionTree
  call : ℕ → List NumTree → ActionTree
  leave : ℕ → ActionTree
  go : ℕ → ActionTree
  idle : ActionTree

-- a driver: what its functions do, in order, and what `driver_turn` does
pub record ProgramTree : Type 0 where
  pub functions : List ActionTree
  pub main : ActionTree
