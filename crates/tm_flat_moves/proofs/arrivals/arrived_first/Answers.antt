use Rattle.tm_flat_moves.proofs.Choosing.{first_made}
use Rattle.tm_flat_moves.proofs.arrivals.arrived_first.Goals as goal

pub returns : goal.returns
returns c =
    first_made c.args.terms.now c.make.new.terms c.args.width c.args.number c.args.stop.now
    (record { flow = c.in_ok-flow.flow; place = c.in_ok-place.place }) c.in_ok-place.ensures c.in_ok-flow.ensures
