use Rattle.tm_dd.specs.NodeId.{number_of}
use Rattle.tm_ddops.proofs.least.+fill.Given as goal

abbrev pub decreases-fill : goal.decreases-fill
decreases-fill l = number_of l.f
