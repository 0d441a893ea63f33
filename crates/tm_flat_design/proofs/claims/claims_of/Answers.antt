use Rattle.std.proofs.Common.{◌∙◌}
use Rattle.tm_syntax.specs.Design.View.{design_tree}
use Rattle.tm_flat_design.proofs.Parts.{claims_made}
use Rattle.tm_flat_design.proofs.claims.claims_of.Goals as goal

pub goals-requires-clause-inputs : goal.goals-requires-clause-inputs
goals-requires-clause-inputs c = c.in_ok-fairs.ensures.grown.inputs ∙ c.requires.terms.inputs

pub initial-requires-clause-inputs : goal.initial-requires-clause-inputs
initial-requires-clause-inputs c =
    c.in_ok-goals.ensures.grown.inputs ∙ c.in_ok-fairs.ensures.grown.inputs ∙ c.requires.terms.inputs

pub valid-requires-clause-inputs : goal.valid-requires-clause-inputs
valid-requires-clause-inputs c =
    c.in_ok-initial.ensures.grown.inputs ∙ c.in_ok-goals.ensures.grown.inputs ∙ c.in_ok-fairs.ensures.grown.inputs
    ∙ c.requires.terms.inputs

pub returns : goal.returns
returns c =
    claims_made (design_tree c.args.marker.now.design.now) c.args.terms.now c.fairs.new.terms c.goals.new.terms
    c.initial.new.terms c.valid.new.terms c.in_ok-goals.goals c.in_ok-fairs.fairs c.in_ok-initial.initial
    c.in_ok-valid.valid c.in_ok-fairs.ensures c.in_ok-goals.ensures c.in_ok-initial.ensures c.in_ok-valid.ensures
