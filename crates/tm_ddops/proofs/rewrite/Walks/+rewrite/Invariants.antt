use Rattle.tm_dd.specs.NodeId.{number_of}
use Rattle.tm_ddops.proofs.rewrite.Walks.+rewrite.Given as goal

abbrev pub decreases-rewrite : goal.decreases-rewrite
decreases-rewrite l = number_of l.f
