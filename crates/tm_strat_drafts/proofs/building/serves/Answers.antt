use Rattle.std.proofs.Common.{refl}
use Rattle.tm_strat_drafts.proofs.Following.{extends_here}
use Rattle.tm_strat_drafts.proofs.Making.{found_made, known_there}
use Rattle.tm_strat_drafts.proofs.building.serves.Goals as goal

pub lies_in-requires-clause-b_known : goal.lies_in-requires-clause-b_known
lies_in-requires-clause-b_known g c =
    known_there c.args.at c.good_of-good.result c.requires.drafts c.requires.at c.good_of-good.ensures

pub returns-clause-made : goal.returns-clause-made
returns-clause-made g c = λ is.
    found_made c.args.at c.good_of-good.result c.args.care c.requires.drafts refl (extends_here _) c.requires.known
    c.requires.at c.good_of-good.ensures (c.in_ok-within.ensures.value is)
