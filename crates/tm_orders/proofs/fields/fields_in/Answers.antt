use Rattle.std.proofs.Common.{◌+◌, ◌++◌, ◌∷◌, [], length, ap, ◌∙◌, arith}
use Rattle.tm_flat_states.proofs.Laid.{sized_here}
use Rattle.tm_orders.proofs.StateFields.{fields_are, fields_laid}
use Rattle.tm_orders.proofs.fields.fields_in.Goals as goal
use Rattle.tm_syntax.specs.declared.design.Design.{Design}
use Rattle.tm_syntax.specs.Design.View.{design_tree}

pub value_fields-requires : goal.value_fields-requires
value_fields-requires c =
    sized_here (design_tree c.args.tables.now)
    (c.sound_designs_of_texts_are_markable.ensures c.args.tables.now c.requires.runnable.sound
    c.requires.runnable.read).values
    c.as_slice.result.now (c.as_slice.ensures.value ∙ ap (λ (k : Design). k.vars.items) c.design-design.ensures)

pub returns : goal.returns
returns c =
    fields_are c.args.tables.now
    (c.sound_designs_of_texts_are_markable.ensures c.args.tables.now c.requires.runnable.sound
    c.requires.runnable.read)
    c.push.new.self.items
    (fields_laid c.args.tables.now c.args.locations.now c.requires.located c.scopes.result.now c.scopes.ensures
    c.as_slice.result.now (c.as_slice.ensures.value ∙ ap (λ (k : Design). k.vars.items) c.design-design.ensures)
    c.push.new.self.items c.in_ok-all.all.items c.in_ok-places.places.items c.as_slice-2.result.now (1 + c.len.result)
    c.in_ok-all.ensures c.in_ok-places.ensures c.as_slice-2.ensures.value
    (omega (
      arith,
      c.len.ensures,
      c.design-design.result.now.processes.ok.0,
      ap (λ (k : Design). length k.processes.items) c.design-design.ensures,
    ))
    (c.in_ok-push.ensures.items ∙ (λ i. c.in_ok-extend_from_slice.ensures.items i ++ c.field_to.ensures i ∷ [])))
