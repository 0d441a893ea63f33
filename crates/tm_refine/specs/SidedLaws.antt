-- The game of a side is lawful.
use Rattle.std.specs.Prelude.{Bool, true, false, List}
use Rattle.tm_solve.specs.Sets.{StateSet}
use Rattle.tm_solve.specs.Game.{Game, IsAbsorbing, IsMonotone}
use Rattle.tm_refine.specs.Sided.{side_game}
use Rattle.tm_refine.specs.PartLaws.{lower_monotone, upper_monotone, lower_absorbing, upper_absorbing}

pub side_monotone : (upper : Bool) (ps : List StateSet) (g : Game) → IsMonotone g → IsMonotone (side_game upper ps g)
side_monotone true ps g m = upper_monotone ps g m
side_monotone false ps g m = lower_monotone ps g m

pub side_absorbing : (upper : Bool) (ps : List StateSet) (g : Game) → IsAbsorbing g →
    IsAbsorbing (side_game upper ps g)
side_absorbing true ps g m = upper_absorbing ps g m
side_absorbing false ps g m = lower_absorbing ps g m
