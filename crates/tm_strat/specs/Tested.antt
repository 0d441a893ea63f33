-- Tests of states, in C and as sets. In this file g is a game of a design d, c are its numbers of variables and
-- processes, and ids are those of tests.
use Rattle.std.specs.Prelude.{◌≡◌, ℕ, ◌+◌, ◌<◌, ◌≤◌, true, List, Contains, Some, length, slice_get, sum}
use Rattle.tm_check.specs.Reads.{IsSized}
use Rattle.tm_cir.specs.Meaning.{holds}
use Rattle.tm_dd.specs.declared.node.NodeId.{NodeId}
use Rattle.tm_ddops.specs.Manager.{IsFunction}
use Rattle.tm_game.specs.Game.{GameData, IsStates}
use Rattle.tm_game_bits.specs.AssignedStates.{state_of}
use Rattle.tm_sem.specs.StateBits.{state_widths}
use Rattle.tm_solve_exact.specs.Exact.{IsExactOf}
use Rattle.tm_strat.specs.Choice.{id_in}
use Rattle.tm_strat.specs.Fitting.{FitsCounts}
use Rattle.tm_strat.specs.Trees.{number_in, predicate_tree}
use Rattle.tm_strat.specs.declared.numbers.Counts.{Counts}
use Rattle.tm_strat.specs.declared.numbers.Number.{Number}
use Rattle.tm_strat.specs.declared.predicates.Predicate.{Predicate}
use Rattle.tm_strat.specs.declared.predicates.Predicate.TheVariants.{Bit}
use Rattle.tm_syntax.specs.Design.{DesignTree}

-- an id is true at values of levels exactly where a test holds at the state that they tell
abbrev pub IsTestOf : DesignTree → GameData → Counts → Predicate → NodeId → Type 0
IsTestOf d g c p id = IsFunction g.diagrams.table id (λ v. holds (state_of d g.order v) 0 (predicate_tree c p))

-- ids are so, one for each test
pub record AreTestsOf (d : DesignTree) (g : GameData) (c : Counts) (tests : List Predicate) (ids : List NodeId)
    (count : ℕ) : Type 0 where
  pub count_is : length ids ≡ count
  pub each : (k : ℕ) (p : Predicate) → k < count → slice_get tests k ≡ Some p → IsTestOf d g c p (id_in ids k)

-- an id is the set of the valid states at which a test holds
abbrev pub IsTestSet : DesignTree → GameData → Counts → Predicate → NodeId → Type 0
IsTestSet d g c p id = IsStates d g.order g.diagrams.table (λ s. holds s 0 (predicate_tree c p) ≡ true) id

-- ids are so, one for each test
pub record AreTestSets (d : DesignTree) (g : GameData) (c : Counts) (tests : List Predicate) (ids : List NodeId) :
    Type 0 where
  pub count_is : length ids ≡ length tests
  pub each : (k : ℕ) (p : Predicate) → slice_get tests k ≡ Some p → IsTestSet d g c p (id_in ids k)

-- what was among tests still is, and each bit of a number of a width is; there are as many more as the width
pub record HasBitsOf (n : Number) (width : ℕ) (olds news : List Predicate) : Type 0 where
  pub stay : (p : Predicate) → Contains olds p → Contains news p
  pub bits : (weight : ℕ) → weight < width → Contains news (Bit n weight)
  pub count_is : length news ≡ length olds + width

-- each bit of numbers of these widths is among tests
pub record AreAllBits (c : Counts) (widths : List ℕ) (tests : List Predicate) : Type 0 where
  pub each : (i w weight : ℕ) → slice_get widths i ≡ Some w → weight < w → Contains tests (Bit (number_in c i) weight)

-- each bit of a state of the design is
abbrev pub HasAllBits : DesignTree → Counts → List Predicate → Type 0
HasAllBits d c tests = AreAllBits c (state_widths d) tests

-- where there were at most 65,536 tests, there still are
abbrev pub StayFew : List Predicate → List Predicate → Type 0
StayFew olds news = length olds ≤ 65536 → length news ≤ 65536

-- there are at most 65,536 tests more than a state of the design has bits
pub record AreFewTests (d : DesignTree) (tests : List Predicate) : Type 0 where
  pub few : length tests ≤ 65536 + sum (state_widths d)

-- they are the sets of tests of the exact game of a design, behind which more tests may be put
pub record AreTestsSoFar (d : DesignTree) (g : GameData) (c : Counts) (tests : List Predicate) (ids : List NodeId) :
    Type 0 where
  pub exact : IsExactOf d g
  pub sized : IsSized g
  pub counts : FitsCounts d c
  pub sets : AreTestSets d g c tests ids
