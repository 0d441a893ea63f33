use Rattle.std.proofs.Common.{◌+◌, ◌++◌, ◌∷◌, [], ◌∙◌, arith}
use Rattle.tm_syntax.specs.Design.View.{design_tree}
use Rattle.tm_flat_states.specs.declared.bounds.Bound.TheVariants.{AtMost}
use Rattle.tm_flat_states.proofs.Laid.{sized_here, valid_laid}
use Rattle.tm_flat_states.proofs.marker.Marker.valid_bounds.Goals as goal

pub value_bounds-requires : goal.value_bounds-requires
value_bounds-requires c =
    sized_here (design_tree c.args.self.now.design.now) c.requires.markable.values c.as_slice.result.now
    c.as_slice.ensures.value

pub returns : goal.returns
returns c =
    let m = c.args.self.now in
    valid_laid m.design.now m.locations.now c.requires.located m.scopes.now m.same_text c.as_slice.result.now
    c.as_slice.ensures.value c.push.new.self.items c.in_ok-all.all.items c.in_ok-places.places.items
    c.as_slice-2.result.now (1 + c.len.result) c.in_ok-all.ensures c.in_ok-places.ensures c.as_slice-2.ensures.value
    (omega (arith, c.len.ensures, m.design.now.processes.ok.0))
    (c.in_ok-push.ensures.items ∙ (λ i. c.in_ok-extend_from_slice.ensures.items i ++ AtMost (1 + c.len.result) ∷ []))
