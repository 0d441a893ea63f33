use Rattle.tm_design.proofs.CountedProcesses.{counted_process}
use Rattle.tm_design.proofs.location_counts.processes_have_the_locations_of_their_text.Goals as goal

pub returns : goal.returns
returns c = counted_process
