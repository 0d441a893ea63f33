use Rattle.std.proofs.Common.{rules}
use Rattle.tm_struct_parse.proofs.OwnTokens.{no_name, empty_name}
use Rattle.tm_struct_parse.proofs.scan.function_digits.Goals as goal

pub returns-in_err-first : goal.returns-in_err-first
returns-in_err-first c = rw c.from_residual.ensures (empty_name c.args.run.now c.in_err-first.ensures)
