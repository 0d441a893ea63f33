use Rattle.tm_syntax.specs.Design.View.{design_tree}
use Rattle.tm_flat_states.proofs.StatedTerms.{goals_such}
use Rattle.tm_flat_states.proofs.marker.Marker.goals.Goals as goal

pub returns : goal.returns
returns c =
    let d = design_tree c.args.self.now.design.now in
    goals_such c.args.terms.now c.input_memory.new.terms c.goal_terms.new.terms d c.requires.markable.small
    c.requires.inputs c.in_ok-memory.ensures.grown c.in_ok-ids.ids c.in_ok-ids.ensures
