use Rattle.std.proofs.Common.{ap, ◌∙◌}
use Rattle.tm_syntax.specs.declared.design.Design.{Design}
use Rattle.tm_syntax.specs.Design.View.{design_tree}
use Rattle.tm_flat.specs.Inputs.{input_widths}
use Rattle.tm_flat_design.proofs.Marking.{located_by, markable_by}
use Rattle.tm_flat_design.proofs.widths.inputs_in.Goals as goal

pub inputs-requires-clause-located : goal.inputs-requires-clause-located
inputs-requires-clause-located c =
    located_by c.marker-marker.result c.args.tables.now c.args.locations.now
    (c.marker-marker.ensures.design ∙ c.new-updater.ensures.design)
    (c.marker-marker.ensures.locations ∙ c.new-updater.ensures.locations) c.requires.located

pub inputs-requires-clause-values : goal.inputs-requires-clause-values
inputs-requires-clause-values c =
    (markable_by c.sound_designs_of_texts_are_markable.ensures c.marker-marker.result c.args.tables.now
    (c.marker-marker.ensures.design ∙ c.new-updater.ensures.design) c.requires.runnable).values

pub returns : goal.returns
returns c =
    c.in_ok-widths.ensures
    ∙ ap (λ (d : Design). input_widths (design_tree d)) (c.marker-marker.ensures.design ∙ c.new-updater.ensures.design)
