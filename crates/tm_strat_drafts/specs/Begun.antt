-- How a set of states is begun with.
use Rattle.std.specs.Prelude.{◌≡◌, List}
use Rattle.tm_solve.specs.Ids.{Ids}
use Rattle.tm_solve.specs.Sets.{StateSet}
use Rattle.tm_strat_drafts.specs.Drafts.{Makes}
use Rattle.tm_strat_drafts.specs.Moves.{Game}
use Rattle.tm_strat_drafts.specs.Splits.{IsSplit}
use Rattle.tm_strat_drafts.specs.declared.building.Begun.{Begun}
use Rattle.tm_strat_drafts.specs.declared.building.Begun.TheVariants.{Made, Parts}
use Rattle.tm_strat_drafts.specs.declared.drafts.Draft.{Draft}

-- a draft was made for the set, or the set is split and the drafts stay
abbrev pub Begins : Game → Ids → List Draft → List Draft → StateSet → Begun → Type 0
Begins g ids old new set (Made at) = Makes g ids old new at set
Begins g ids old new set (Parts p) = (new ≡ old) × IsSplit g ids set p
