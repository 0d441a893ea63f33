use Rattle.std.proofs.Common.{map}
use Rattle.tm_syntax.specs.Design.View.{design_tree}
use Rattle.tm_flat.specs.Flat.{step_terms}
use Rattle.tm_flat_states.proofs.ActorTerms.{process_told}
use Rattle.tm_flat_states.proofs.marker.Marker.process.Goals as goal

pub returns : goal.returns
returns c =
    let d = design_tree c.args.self.now.design.now in
    process_told c.args.terms.now c.enabled.new.terms c.moved_or_idle.new.terms d c.args.process
    (map step_terms c.args.steps.now) c.in_ok-enabled.enabled c.in_ok-id.id c.in_ok-enabled.ensures c.in_ok-id.ensures
    c.requires.markable.small c.requires.inputs c.requires.process c.requires.steps
