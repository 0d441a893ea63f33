-- What is known once some parts were tried in order.
use Rattle.std.specs.Prelude.{List}
use Rattle.tm_sem.specs.Certificates.{Level}
use Rattle.tm_syntax.specs.Design.{DesignTree}
use Rattle.tm_verdict.specs.declared.verdict.Verdict.{Verdict}
use Rattle.tm_verdict.specs.Environment.{LevelPart, level_meaning}
use Rattle.tm_verdict.specs.Tried as parts

-- parts of an environment's certificate were tried in order, with this verdict
abbrev pub AreTried : DesignTree → List Level → List LevelPart → Verdict → Type 0
AreTried d levels tried v = parts.AreTried (level_meaning d levels) tried v
