use Rattle.std.proofs.Common.{◌++◌, ◌∷◌, [], ◌∙◌}
use Rattle.tm_syntax.specs.Design.View.{design_tree}
use Rattle.tm_flat_states.specs.declared.bounds.Bound.TheVariants.{Exactly}
use Rattle.tm_flat_states.proofs.Laid.{initial_laid, sized_here}
use Rattle.tm_flat_states.proofs.marker.Marker.initial_bounds.Goals as goal

pub first_bounds-requires : goal.first_bounds-requires
first_bounds-requires c =
    sized_here (design_tree c.args.self.now.design.now) c.requires.markable.values c.as_slice.result.now
    c.as_slice.ensures.value

pub returns : goal.returns
returns c =
    let m = c.args.self.now in
    initial_laid m.design.now m.locations.now c.requires.located m.scopes.now m.same_text c.as_slice.result.now
    c.as_slice.ensures.value c.push.new.self.items c.in_ok-all.all.items c.in_ok-places.places.items
    c.as_slice-2.result.now c.in_ok-all.ensures c.in_ok-places.ensures c.as_slice-2.ensures.value
    (c.in_ok-push.ensures.items ∙ (λ i. c.in_ok-extend_from_slice.ensures.items i ++ Exactly 0 ∷ []))
