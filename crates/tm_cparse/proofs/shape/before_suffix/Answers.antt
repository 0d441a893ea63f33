use Rattle.std.specs.Prelude.{codes}
use Rattle.std.proofs.lemmas.Bool.Decides.{Decides-eqb}
use Rattle.std.proofs.lemmas.Slice.Eq.{strip_suffix_is}
use Rattle.tm_cparse.proofs.shape.before_suffix.Goals as goal

pub returns : goal.returns
returns c = strip_suffix_is Decides-eqb c.args.run.now (codes "ULL") c.strip_suffix.result c.strip_suffix.ensures.cases
