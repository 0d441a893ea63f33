use Rattle.tm_dd.specs.NodeId.{number_of}
use Rattle.tm_ddops.proofs.copy.+copied.Given as goal

abbrev pub decreases-copied : goal.decreases-copied
decreases-copied l = number_of l.f
