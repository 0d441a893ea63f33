use Rattle.tm_struct_parse.proofs.Placed.{written_have}
use Rattle.tm_struct_parse.proofs.names.first_fault.Goals as goal

pub fault_within-requires : goal.fault_within-requires
fault_within-requires c = written_have _ c.requires
