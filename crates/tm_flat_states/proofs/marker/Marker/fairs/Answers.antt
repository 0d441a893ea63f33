use Rattle.tm_syntax.specs.Design.View.{design_tree}
use Rattle.tm_flat_states.proofs.OwedTerms.{all_fairs}
use Rattle.tm_flat_states.proofs.marker.Marker.fairs.Goals as goal

pub returns : goal.returns
returns c =
    all_fairs c.args.terms.now c.actors.new.terms c.declared.new.terms (design_tree c.args.self.now.design.now)
    c.in_ok-ids.ids c.in_ok-declared.declared c.extend_from_slice.new.self c.as_slice.result.now c.in_ok-ids.ensures
    c.in_ok-declared.ensures c.as_slice.ensures.value c.in_ok-extend_from_slice.ensures.items
