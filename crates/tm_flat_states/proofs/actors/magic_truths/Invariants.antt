use Rattle.std.proofs.Common.{◌≡◌, ℕ, map}
use Rattle.std.specs.List.{range_with_len}
use Rattle.tm_syntax.specs.Design.{DesignTree}
use Rattle.tm_locations.specs.Locations.{AreLocations, table_of}
use Rattle.tm_flat_states.specs.Actors.{magic_truth}
use Rattle.tm_flat_states.proofs.actors.magic_truths.Given as goal

abbrev pub invariant-loop-place : goal.invariant-loop-place
invariant-loop-place l =
    (d : DesignTree) (p : ℕ) → AreLocations (table_of l.locations) d p →
    l.truths.items ≡ map (magic_truth d p l.always) (range_with_len 0 l.place)
