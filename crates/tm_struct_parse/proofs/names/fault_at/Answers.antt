use Rattle.std.proofs.Common.{rules}
use Rattle.tm_struct_parse.specs.Inner.Names.{unknown}
use Rattle.tm_struct_parse.proofs.names.fault_at.Goals as goal

pub returns-then-not-spot : goal.returns-then-not-spot
returns-then-not-spot c = unknown (search rules) (search rules)
