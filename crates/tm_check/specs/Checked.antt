-- What is asked of a driver, its certificate and a game where they are checked.
use Rattle.std.specs.Prelude.{◌<◌, ◌^◌, List, length}
use Rattle.tm_check.specs.Reads.{IsSized}
use Rattle.tm_cert.specs.Cert.{DriverData}
use Rattle.tm_check.specs.Loaded.{CanLoad}
use Rattle.tm_cir.specs.Fit.{FitBlocks}
use Rattle.tm_cir.specs.Tree.{BlockTree}
use Rattle.tm_verdict.specs.Regular.{IsRegular}
use Rattle.tm_game.specs.Game.{GameData}
use Rattle.tm_sem.specs.State.{StateData}
use Rattle.tm_sem.specs.Step.{IsInitial}
use Rattle.tm_syntax.specs.Design.{DesignTree}

-- blocks, certificate and game are of one design, the certificate follows the order of the game, and the design is as
-- those of texts are, with goals that are numbered in 32 bits
pub record CanCheck (d : DesignTree) (bs : List BlockTree) (c : DriverData) (g : GameData) : Type 0 where
  pub load : CanLoad d g c
  pub sized : IsSized g
  pub blocks : FitBlocks d bs
  pub regular : IsRegular d
  pub few : length d.goals < 2 ^ 32
  pub begins : (s : StateData) × IsInitial d s
