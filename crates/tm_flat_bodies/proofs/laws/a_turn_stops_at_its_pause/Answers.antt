use Rattle.std.proofs.Common.{refl}
use Rattle.tm_flat_bodies.proofs.laws.a_turn_stops_at_its_pause.Goals as goal

pub returns-clause-stops : goal.returns-clause-stops
returns-clause-stops c = refl

pub returns-clause-ends : goal.returns-clause-ends
returns-clause-ends c = refl
