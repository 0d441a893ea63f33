use Rattle.std.proofs.Common.{◌≡◌, map}
use Rattle.std.specs.List.{range_with_len}
use Rattle.tm_syntax.specs.Design.Locations.{is_magic_at}
use Rattle.tm_syntax.specs.Design.View.{design_tree}
use Rattle.tm_flat.specs.IsFlat.{location_numbers}
use Rattle.tm_flat_states.proofs.marker.Marker.magic.Given as goal

abbrev pub invariant-loop-locations : goal.invariant-loop-locations
invariant-loop-locations l =
    map (λ places. places.items) l.all.items
    ≡ map (λ p. map (is_magic_at (design_tree l.self.design.now) p) (location_numbers (design_tree l.self.design.now)
    p))
    (range_with_len 0 l.locations-index)
