-- The command `run`: how it ends, and what it puts on the way.
use Rattle.std.specs.Prelude.{ℕ, Option, List, []}
use Rattle.tm_syntax.specs.Design.{DesignTree}
use Rattle.tm_cir.specs.Tree.{BlockTree}
use Rattle.tm_report.specs.declared.ending.Ending.{Ending}
use Rattle.tm_report.specs.declared.ending.Ending.TheVariants.{Play}
use Rattle.tm_play.specs.declared.ending.PlayEnd.{PlayEnd}
use Rattle.tm_play.specs.Script.{ScriptData}
use Rattle.tm_commands.specs.Inputs.{TellsSpecification, TellsBlocks, TellsScript, NoSpecification, NoBlocks, NoScript}
use Rattle.tm_commands.specs.Inputs.{RefusesSpecification, RefusesBlocks, RefusesScript}
use Rattle.tm_play.specs.Played.{Ends, IsPart}

-- the files of `run` tell a design, blocks, and choices
pub record Loads
    (contents : List ℕ → Option (List ℕ)) (spec driver choices : List ℕ)
    (d : DesignTree) (bs : List BlockTree) (c : ScriptData) : Type 0 where
  pub design : TellsSpecification contents spec d
  pub blocks : TellsBlocks contents driver d bs
  pub script : TellsScript contents choices d c

-- the first of the files of `run` that is refused, and why
pub data Refused (contents : List ℕ → Option (List ℕ)) (spec driver choices : List ℕ) : Ending → Type 0 where
  no_design : {ending : Ending} → NoSpecification contents spec ending → Refused contents spec driver choices ending
  no_blocks : {d : DesignTree} {ending : Ending} →
      TellsSpecification contents spec d → NoBlocks contents driver d ending →
      Refused contents spec driver choices ending
  no_script : {d : DesignTree} {bs : List BlockTree} {ending : Ending} →
      TellsSpecification contents spec d → TellsBlocks contents driver d bs → NoScript contents choices d ending →
      Refused contents spec driver choices ending

-- how `run` ends, with the lines of the states of its play
pub data RunEnds
    (contents : List ℕ → Option (List ℕ)) (spec driver choices : List ℕ) : List ℕ → Ending → Type 0 where
  refused : {ending : Ending} →
      Refused contents spec driver choices ending → RunEnds contents spec driver choices [] ending
  ended : {d : DesignTree} {bs : List BlockTree} {c : ScriptData} {text : List ℕ} {end : PlayEnd} →
      Loads contents spec driver choices d bs c → Ends d bs c text end →
      RunEnds contents spec driver choices text (Play end)

-- the lines of the states of the play that `run` has put so far
pub data IsRunPart (contents : List ℕ → Option (List ℕ)) (spec driver choices : List ℕ) : List ℕ → Type 0 where
  no_line : IsRunPart contents spec driver choices []
  some_lines : {d : DesignTree} {bs : List BlockTree} {c : ScriptData} {text : List ℕ} →
      Loads contents spec driver choices d bs c → IsPart d bs c text → IsRunPart contents spec driver choices text

-- the ends that `run` may have, whatever its files hold: that one of them is refused, or that of a play
pub data RunMayEnd (driver choices : List ℕ) : Ending → Type 0 where
  may_refuse_design : {ending : Ending} → RefusesSpecification ending → RunMayEnd driver choices ending
  may_refuse_blocks : {ending : Ending} → RefusesBlocks driver ending → RunMayEnd driver choices ending
  may_refuse_script : {ending : Ending} → RefusesScript choices ending → RunMayEnd driver choices ending
  may_play : {end : PlayEnd} → RunMayEnd driver choices (Play end)
