-- What is known of a driver and its certificate where conditions are tried.
use Rattle.std.specs.Prelude.{◌≡◌, ◌-◌, ◌^◌, ◌<◌, List, length, slice_get}
use Rattle.std.specs.Option.{option_map_or}
use Rattle.tm_check.specs.Reads.{IsSized}
use Rattle.tm_check.specs.declared.loaded.DriverDiagrams.{DriverDiagrams}
use Rattle.tm_check.specs.declared.loaded.RankedDiagrams.{RankedDiagrams}
use Rattle.tm_check.specs.Loaded.{AreDiagrams}
use Rattle.tm_cir.specs.Fit.{FitBlocks}
use Rattle.tm_cir.specs.Tree.{BlockTree}
use Rattle.tm_dd.specs.declared.node.NodeId.{NodeId}
use Rattle.tm_dd.specs.declared.node.TheConstants.{FALSE}
use Rattle.tm_verdict.specs.Regular.{IsRegular}
use Rattle.tm_game.specs.Game.{GameData, IsOf}
use Rattle.tm_sem.specs.Certificates.{DriverSets, WaitForConditions}
use Rattle.tm_sem.specs.State.{StateData}
use Rattle.tm_sem.specs.Step.{IsInitial}
use Rattle.tm_syntax.specs.Design.{DesignTree}

-- the states of all ranks: those of the last one and lower ones
abbrev pub last_within : List RankedDiagrams → NodeId
last_within ranks = option_map_or (λ (r : RankedDiagrams). r.within) (slice_get ranks (length ranks - 1)) FALSE

-- the blocks fit the design of the game, which is as the laws of failures ask and has an initial state, and the
-- diagrams are those of the certificate, whose sets have the design's shape, with goals that are numbered in 32 bits
pub record IsTold (d : DesignTree) (bs : List BlockTree) (c : DriverSets) (g : GameData) (told : DriverDiagrams) :
    Type 0 where
  pub of : IsOf d g
  pub sized : IsSized g
  pub regular : IsRegular d
  pub begins : (s : StateData) × IsInitial d s
  pub blocks : FitBlocks d bs
  pub goals : length c.goals ≡ length d.goals
  pub few : length d.goals < 2 ^ 32
  pub fairs : WaitForConditions d c
  pub diagrams : AreDiagrams d g.order g.diagrams.table c told

-- so it is for some driver
abbrev pub HasTold : GameData → DriverDiagrams → Type 0
HasTold g told = (d : DesignTree) × (bs : List BlockTree) × (c : DriverSets) × IsTold d bs c g told
