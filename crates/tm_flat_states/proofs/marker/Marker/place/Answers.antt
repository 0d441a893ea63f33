use Rattle.std.proofs.Common.{◌+◌, length, arith}
use Rattle.tm_syntax.specs.Design.Locations.{end_number}
use Rattle.tm_syntax.specs.Design.Sizes.{bits_of_number}
use Rattle.tm_syntax.specs.Design.View.{design_tree}
use Rattle.tm_flat_states.proofs.InputTerms.{input_made, place_inside, place_width}
use Rattle.tm_flat_states.proofs.marker.Marker.place.Goals as goal

pub make-requires : goal.make-requires
make-requires c =
    let d = c.args.self.now.design.now in
    let inside = place_inside (design_tree d) c.args.terms.now.inputs c.args.process c.requires.inputs
    c.requires.process in
    omega (arith, inside, c.len.ensures, d.vars.ok.0)

pub returns : goal.returns
returns c =
    let d = c.args.self.now.design.now in
    input_made (design_tree d) c.args.terms.now c.make.new.terms _ (length d.vars.items + c.args.process)
    (bits_of_number (end_number (design_tree d) c.args.process)) c.in_ok-id.id c.requires.inputs
    (omega (arith, c.len.ensures, d.vars.ok.0)) (place_width (design_tree d) c.args.process c.requires.process)
    c.in_ok-id.ensures
