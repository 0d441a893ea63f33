use Rattle.tm_numbering.specs.Numbers.{IsOver}
use Rattle.tm_numbering.proofs.Items.{at_index}
use Rattle.tm_reorder.proofs.Parting.{placed}
use Rattle.tm_reorder.proofs.parts.place.Goals as goal

pub number-requires : goal.number-requires
number-requires c =
    let s = c.args.store.now in (
      s.levels,
      at_index (IsOver s s.levels) c.args.ids.now c.args.set c.id_at-id.result c.requires.ids c.id_at-id.ensures,
      c.requires.entries,
    )

pub returns : goal.returns
returns c =
    let s = c.args.store.now in
    let over = at_index (IsOver s s.levels) c.args.ids.now c.args.set c.id_at-id.result c.requires.ids
    c.id_at-id.ensures in
    placed c.number.result s c.args.ids.now c.args.kept.now.keys c.number.new.kept.keys c.args.nodes.now.items
    c.number.new.nodes.items c.args.set c.id_at-id.result c.id_at-id.ensures over c.requires.entries c.number.ensures
