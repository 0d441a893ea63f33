use Rattle.tm_flat_design.proofs.Walking.{walkable}
use Rattle.tm_flat_design.proofs.walkable_laws.sound_designs_of_texts_are_walkable.Goals as goal

pub returns : goal.returns
returns c = walkable
