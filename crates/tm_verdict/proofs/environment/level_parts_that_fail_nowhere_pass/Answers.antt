use Rattle.tm_verdict.proofs.LevelPasses.{passes}
use Rattle.tm_verdict.proofs.environment.level_parts_that_fail_nowhere_pass.Goals as goal

pub returns : goal.returns
returns c = λ d levels regular. passes d regular levels
