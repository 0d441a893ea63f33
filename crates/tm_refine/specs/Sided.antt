-- The two sides of a step operator over cells.
use Rattle.std.specs.Prelude.{ℕ, Bool, true, false, List}
use Rattle.tm_sem.specs.State.{StateData}
use Rattle.tm_solve.specs.Sets.{StateSet}
use Rattle.tm_solve.specs.Game.{Game}
use Rattle.tm_solve.specs.Ids.{Ids}
use Rattle.tm_solve.specs.Sides.{with_part}
use Rattle.tm_refine.specs.Parts.{lower_part, upper_part, IsUnionOf}

-- the part of a set of a side: the upper, or the lower one
abbrev pub side_part : Bool → List StateData → List StateSet → StateSet → StateSet
side_part true n ps a = upper_part n ps a
side_part false n ps a = lower_part n ps a

-- the game of a side
abbrev pub side_game : Bool → List StateSet → Game → Game
side_game upper ps g = with_part g (λ z y x j i. side_part upper g.states ps (g.part z y x j i))

-- the ids of a side: those of unions of cells; all that the game knows are kept
abbrev pub side_ids : Bool → List ℕ → List StateSet → Game → Ids → Ids
side_ids upper tracked ps g ids = record {
  knows = λ id. ids.knows id × IsUnionOf g.states ps (ids.means id);
  kept = ids.knows;
  means = ids.means;
  of = ids.of;
  side = record { tracked = tracked; upper = upper; game = g };
}
