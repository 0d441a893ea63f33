-- What was done so far leads to what is left.
use Rattle.std.proofs.Common.{length}
use Rattle.tm_locations.specs.Locations.{table_of}
use Rattle.tm_plain.proofs.Chains.{steps}
use Rattle.tm_plain.proofs.Working.{Working}
use Rattle.tm_plain.proofs.machine.Machine.perform_rest.Given as goal

abbrev pub invariant-nodes : goal.invariant-nodes
invariant-nodes l =
    Working l.self l.process l.place (table_of l.locations) l.initial.course.store l.initial.course.choices l.left
    l.course

abbrev pub decreases-nodes : goal.decreases-nodes
decreases-nodes l =
    let rests = (table_of l.locations).rests in steps rests (length rests) l.left
