use Rattle.tm_blast.specs.Numbers.{level_lists}
use Rattle.tm_game_steps.specs.Inner.Reading.{AreReadingsBelow}
use Rattle.tm_game_steps.proofs.reading.readings.Given as goal

abbrev pub invariant-loop-id : goal.invariant-loop-id
invariant-loop-id l = AreReadingsBelow l.terms (level_lists l.levels) l.id l.reads.items
