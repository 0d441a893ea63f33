use Rattle.tm_cparse.proofs.DesignNames.{has_names}
use Rattle.tm_cparse.proofs.laws.sound_designs_have_names.Goals as goal

pub returns : goal.returns
returns c = has_names
