-- What is known of a certificate that the checker accepted, where its text is made. Here d is the design, c the
-- certificate, and `weight` the weight order of the bits of the design's states.
use Rattle.std.specs.Prelude.{◌≡◌, ℕ, List, length, map, sum}
use Rattle.tm_cert.specs.Cert.{DriverData, EnvData}
use Rattle.tm_cir.specs.Answer.{Answers}
use Rattle.tm_cir.specs.Tree.{BlockTree}
use Rattle.tm_envcheck.specs.Verdict.{IsLostWithin}
use Rattle.tm_game_bits.specs.Order.{IsOrder}
use Rattle.tm_judge.specs.Judged.{CanJudgeDriver, CanJudgeEnvironment}
use Rattle.tm_sem.specs.Certificates.{MeetsDriver, MeetsEnvironment}
use Rattle.tm_sem.specs.Loss.{Lost}
use Rattle.tm_sem.specs.StateBits.{state_widths, weight_order}
use Rattle.tm_sem.specs.Strategy.{Good}
use Rattle.tm_syntax.specs.Design.{DesignTree}
use Rattle.tm_verdict.specs.Sets.{driver_sets, levels_of}

-- the weight order of a design's states
pub record IsWeightOrder (d : DesignTree) (weight : List ℕ) : Type 0 where
  pub is : weight ≡ weight_order (state_widths d)
  pub order : IsOrder (sum (state_widths d)) weight

-- the blocks are a good driver, and have the certificate
pub record IsDriverShown (d : DesignTree) (bs : List BlockTree) (c : DriverData) : Type 0 where
  pub can : CanJudgeDriver d bs c
  pub meets : MeetsDriver d (Answers bs) (driver_sets d c)
  pub good : Good d (Answers bs) (map length c.goals)

-- the design is lost, as the certificate says
pub record IsEnvironmentShown (d : DesignTree) (c : EnvData) : Type 0 where
  pub can : CanJudgeEnvironment d c
  pub meets : MeetsEnvironment d (levels_of d c)
  pub lost : Lost d
  pub within : IsLostWithin d (levels_of d c)
