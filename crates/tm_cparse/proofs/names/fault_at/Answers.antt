use Rattle.std.proofs.Common.{rules}
use Rattle.tm_cparse.specs.Inner.Names.{unknown}
use Rattle.tm_cparse.proofs.names.fault_at.Goals as goal

pub returns-then-not-spot : goal.returns-then-not-spot
returns-then-not-spot c = unknown (search rules) (search rules)
