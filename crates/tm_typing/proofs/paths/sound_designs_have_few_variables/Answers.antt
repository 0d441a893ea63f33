use Rattle.tm_typing.proofs.FewVariables.{few_vars}
use Rattle.tm_typing.proofs.paths.sound_designs_have_few_variables.Goals as goal

pub returns : goal.returns
returns c = few_vars
