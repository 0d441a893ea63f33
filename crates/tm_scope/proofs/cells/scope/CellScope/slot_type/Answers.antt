use Rattle.std.proofs.Common.{sym, ap, ◌∙◌}
use Rattle.std.specs.Option.{option_and_then, option_map}
use Rattle.tm_syntax.specs.Scopes.Context.{Slot}
use Rattle.tm_scope.specs.Cells.{ScopedCells, slot_in}
use Rattle.tm_scope.specs.Members.{numbered_slot}
use Rattle.tm_scope.proofs.CellSites.{slots-place}
use Rattle.tm_scope.proofs.cells.scope.CellScope.slot_type.Goals as goal

pub returns : goal.returns
returns c =
    let s = c.self.inside in
    c.numbered_type.ensures
    ∙ ap (λ o. option_map (λ (k : Slot). k.ty) (option_and_then (λ body. numbered_slot body c.args.slot) o))
    (sym (slots-place s.cells.now s.at s.node.now s.names s.name.now s.kept c.self.invariant))
    ∙ ap (λ (v : ScopedCells). option_map (λ (k : Slot). k.ty) (slot_in v.tables v.at c.args.slot)) c.self.view_is
