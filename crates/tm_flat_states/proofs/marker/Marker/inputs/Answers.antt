use Rattle.std.proofs.Common.{◌++◌, ◌∷◌, [], ap, ◌∙◌, replicate, arith}
use Rattle.tm_syntax.specs.Design.View.{design_tree}
use Rattle.tm_syntax.specs.Design.Sizes.{bits_of_number}
use Rattle.tm_flat.specs.Inputs.{room}
use Rattle.tm_flat_states.proofs.Laid.{sized_here, widths_laid}
use Rattle.tm_flat_states.proofs.marker.Marker.inputs.Goals as goal

pub value_widths-requires : goal.value_widths-requires
value_widths-requires c =
    sized_here (design_tree c.args.self.now.design.now) c.requires.values c.as_slice.result.now c.as_slice.ensures.value

pub returns : goal.returns
returns c =
    let m = c.args.self.now in
    widths_laid m.design.now m.locations.now c.requires.located m.scopes.now m.same_text c.as_slice.result.now
    c.as_slice.ensures.value c.push_bits-2.new.widths.items c.in_ok-widths.widths.items c.in_ok-places.places.items
    c.as_slice-2.result.now c.bits_of_number.result c.in_ok-widths.ensures c.in_ok-places.ensures
    c.as_slice-2.ensures.value
    (c.bits_of_number.ensures.bits ∙ ap bits_of_number (omega (arith, c.len.ensures, m.design.now.processes.ok.0)))
    (c.in_ok-push_bits-2.ensures ∙ (λ i. c.in_ok-push_bits.ensures i ++ replicate room 1)
    ∙ (λ i. (c.in_ok-push.ensures.items i ++ replicate room 1) ++ replicate room 1)
    ∙ (λ i. ((c.in_ok-extend_from_slice.ensures.items i ++ c.bits_of_number.result ∷ []) ++ replicate room 1) ++
    replicate room 1))
