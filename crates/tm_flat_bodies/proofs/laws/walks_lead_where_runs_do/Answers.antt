use Rattle.std.proofs.Common.{refl}
use Rattle.tm_flat_bodies.proofs.laws.walks_lead_where_runs_do.Goals as goal

pub returns-clause-whole : goal.returns-clause-whole
returns-clause-whole c = λ d first v. refl

pub returns-clause-called : goal.returns-clause-called
returns-clause-called c = λ d depth first v k trail n m. refl
