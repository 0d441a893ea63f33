-- The verdict, once all parts were tried.
use Rattle.std.proofs.Common.{◌≡◌, ℕ, List, length, subst}
use Rattle.tm_cert.specs.Cert.{EnvData}
use Rattle.tm_envcheck.specs.Tried.{AreTried}
use Rattle.tm_envcheck.specs.Verdict.{IsEnvironmentVerdict}
use Rattle.tm_game.specs.Game.{GameData}
use Rattle.tm_sem.specs.Certificates.{Level, MeetsEnvironment}
use Rattle.tm_sem.specs.Fairness.{conditions}
use Rattle.tm_sem.specs.Loss.{Lost}
use Rattle.tm_sem.proofs.Losing.{certified_is_lost}
use Rattle.tm_verdict.specs.Fitting.{FitsEnvironment}
use Rattle.tm_verdict.specs.Sets.{levels_of}
use Rattle.tm_verdict.proofs.Shapes.{levels_shape}
use Rattle.tm_syntax.specs.Design.{DesignTree}
use Rattle.tm_verdict.specs.declared.verdict.Verdict.{Verdict}
use Rattle.tm_verdict.specs.declared.verdict.Verdict.TheVariants.{Accepted, Refused}
use Rattle.tm_verdict.specs.Environment.{HasShape, level_parts}
use Rattle.tm_verdict.proofs.LevelParts.{meets_of_parts}

verdict_is : (d : DesignTree) (levels : List Level) → HasShape d levels → (v : Verdict) →
    AreTried d levels (level_parts levels) v → IsEnvironmentVerdict d levels v
verdict_is d levels shape Accepted tried = meets_of_parts d levels shape tried
verdict_is d levels shape (Refused condition goal s) tried = tried

-- the verdict on a certificate that fits the game of the design
pub told_verdict : (d : DesignTree) (g : GameData) (c : EnvData) → length g.goals ≡ length d.goals →
    length g.fairs ≡ length (conditions d) →
    FitsEnvironment (length g.order) (length g.goals) (length g.fairs) c → (v : Verdict) →
    AreTried d (levels_of d c) (level_parts (levels_of d c)) v → IsEnvironmentVerdict d (levels_of d c) v
told_verdict d g c goals fairs fits =
    verdict_is d (levels_of d c)
    (levels_shape d (length g.order) c
    (subst (λ (n : ℕ). FitsEnvironment (length g.order) (length d.goals) n c) fairs
    (subst (λ (n : ℕ). FitsEnvironment (length g.order) n (length g.fairs) c) goals fits)))

pub certified_lost : (d : DesignTree) (levels : List Level) → MeetsEnvironment d levels → Lost d
certified_lost d levels meets n =
    let wins = certified_is_lost d levels meets n in
    (wins.0, _, wins.1, wins.2)
