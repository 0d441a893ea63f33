-- What is known once some parts of conditions were tried in order.
use Rattle.std.specs.Prelude.{◌≡◌, ℕ, ◌<◌, List, length}
use Rattle.tm_dd.specs.declared.node.NodeId.{NodeId}
use Rattle.tm_game.specs.Game.{GameData}
use Rattle.tm_game.specs.Least.{HoldsNowhere, test_of}
use Rattle.tm_sem.specs.declared.state.Move.{Move}
use Rattle.tm_sem.specs.Certificates.{DriverSets}
use Rattle.tm_sem.specs.State.{StateData}
use Rattle.tm_sem.specs.StateBits.{IsLeast}
use Rattle.tm_syntax.specs.Design.{DesignTree}
use Rattle.tm_verdict.specs.declared.verdict.Verdict.{Verdict}
use Rattle.tm_verdict.specs.declared.verdict.Verdict.TheVariants.{Accepted, Refused}
use Rattle.tm_verdict.specs.Driver.{DriverPart, Passes, driver_meaning, is_answered, is_calm, is_ranked}
use Rattle.tm_verdict.specs.Tried as parts

-- parts of a driver's certificate were tried in order, with this verdict
abbrev pub AreTried : DesignTree → (StateData → ℕ → Move → Type 0) → DriverSets → List DriverPart → Verdict → Type 0
AreTried d answers c tried v = parts.AreTried (driver_meaning d answers c) tried v

-- a set holds at no valid state, or a part is refused at its least one
abbrev pub IsFirstFailure : DesignTree → GameData → NodeId → ℕ → ℕ → Verdict → Type 0
IsFirstFailure d g failing condition goal Accepted = HoldsNowhere d (test_of d g failing)
IsFirstFailure d g failing condition goal (Refused number j s) =
    (number ≡ condition) × (j ≡ goal) × IsLeast d (test_of d g failing) s

-- the parts pass on which those of C4 to C6 rest: of C2 and C3
pub record SetsPassed (d : DesignTree) (answers : StateData → ℕ → Move → Type 0) (c : DriverSets) : Type 0 where
  pub ranked : (goal : ℕ) → goal < length c.goals → Passes d answers c (is_ranked goal)
  pub calm : Passes d answers c is_calm

-- and of C4
pub record HavePassed (d : DesignTree) (answers : StateData → ℕ → Move → Type 0) (c : DriverSets) : Type 0 where
  pub sets : SetsPassed d answers c
  pub answered : (goal : ℕ) → goal < length c.goals → Passes d answers c (is_answered goal)
