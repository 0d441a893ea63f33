use Rattle.tm_verdict.proofs.LevelParts.{meets_of_parts, parts_pass}
use Rattle.tm_verdict.proofs.verdict_laws.environments_pass_part_by_part.Goals as goal

pub returns : goal.returns
returns c = λ d levels shape. (parts_pass d levels, meets_of_parts d levels shape)
