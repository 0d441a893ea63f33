-- What is asked where certificates are judged.
use Rattle.std.specs.Prelude.{List, length, sum}
use Rattle.tm_cert.specs.Cert.{DriverData, EnvData}
use Rattle.tm_cir.specs.Fit.{FitBlocks}
use Rattle.tm_cir.specs.Tree.{BlockTree}
use Rattle.tm_sem.specs.Fairness.{conditions}
use Rattle.tm_sem.specs.StateBits.{state_widths}
use Rattle.tm_verdict.specs.Fitting.{FitsDriver, FitsEnvironment}
use Rattle.tm_syntax.specs.Design.{DesignTree}
use Rattle.tm_syntax.specs.Faults.{IsOfText, IsSound}

-- the design is that of a text and keeps its facts, and the blocks and the driver's certificate fit it
pub record CanJudgeDriver (d : DesignTree) (bs : List BlockTree) (c : DriverData) : Type 0 where
  pub sound : IsSound d
  pub of_text : IsOfText d.spec
  pub blocks : FitBlocks d bs
  pub cert : FitsDriver (sum (state_widths d)) (length d.goals) (length (conditions d)) c

-- so for an environment's certificate
pub record CanJudgeEnvironment (d : DesignTree) (c : EnvData) : Type 0 where
  pub sound : IsSound d
  pub of_text : IsOfText d.spec
  pub cert : FitsEnvironment (sum (state_widths d)) (length d.goals) (length (conditions d)) c
