-- The numbers so far are below the bound.
use Rattle.std.proofs.Common.{ℕ, ◌<◌, All, take}
use Rattle.test_game.proofs.cells.parts.are_below.Given as goal

abbrev pub invariant-loop-number : goal.invariant-loop-number
invariant-loop-number l = All (λ (k : ℕ). k < l.bound) (take l.number-index l.numbers)
