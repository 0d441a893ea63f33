use Rattle.tm_syntax.specs.Faults.Marks.{place_unless}
use Rattle.tm_types.proofs.mismatches.operators.judged.Goals as goal

pub returns : goal.returns
returns c = λ faults is.
    c.earlier_place.ensures.joined (place_unless c.args.fits c.args.at) faults c.place_unless.ensures is
