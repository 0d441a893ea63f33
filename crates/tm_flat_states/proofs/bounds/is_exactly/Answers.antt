use Rattle.tm_flat_states.proofs.Bounding.{makes_exactly}
use Rattle.tm_flat_states.proofs.bounds.is_exactly.Goals as goal

pub returns : goal.returns
returns c =
    makes_exactly c.args.terms.now c.is_number.new.terms c.args.of c.in_ok-id.id c.args.one c.in_ok-id.ensures
