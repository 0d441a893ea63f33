use Rattle.std.proofs.Common.{sym, ap, ◌∙◌}
use Rattle.std.specs.Option.{option_and_then}
use Rattle.tm_scope.specs.Cells.{ScopedCells, slots_in}
use Rattle.tm_scope.specs.Inner.Slots.{slot_number}
use Rattle.tm_scope.proofs.CellSites.{slots-place}
use Rattle.tm_scope.proofs.cells.scope.CellScope.slot_named.Goals as goal

pub returns : goal.returns
returns c =
    let s = c.self.inside in
    c.slot_named.ensures
    ∙ ap (option_and_then (λ body. slot_number body c.args.name.now))
    (sym (slots-place s.cells.now s.at s.node.now s.names s.name.now s.kept c.self.invariant))
    ∙ ap (λ (v : ScopedCells). option_and_then (λ body. slot_number body c.args.name.now) (slots_in v.tables v.at))
    c.self.view_is
