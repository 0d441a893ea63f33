use Rattle.std.proofs.Common.{ap, arith}
use Rattle.std.proofs.lemmas.Grind.{common_steps}
use Rattle.tm_base.proofs.mem_files.MemFilesFiles.write.Goals as goal

pub returns-clause-refused : goal.returns-clause-refused
returns-clause-refused c = grind (arith, common_steps, c.add.ensures.err, c.map_err.ensures.variant)

pub returns-clause-other_faults : goal.returns-clause-other_faults
returns-clause-other_faults c = λ name _. ap (λ faults. faults name) c.add.ensures.write_faults

pub returns-clause-no_fewer_faults : goal.returns-clause-no_fewer_faults
returns-clause-no_fewer_faults c = λ name.
    omega (arith, ap (λ faults. faults name) c.add.ensures.write_faults)
