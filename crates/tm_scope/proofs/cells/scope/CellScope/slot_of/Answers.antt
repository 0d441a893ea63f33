use Rattle.std.proofs.Common.{◌≡◌, sym, ap, ◌∙◌, subst, arith}
use Rattle.std.specs.Option.{option_and_then}
use Rattle.tm_syntax.specs.Scopes.Context.{slot_of}
use Rattle.tm_syntax.specs.Design.{DesignTree}
use Rattle.tm_syntax.specs.Design.Scope.{context}
use Rattle.tm_scope.specs.Cells.{HasCells, ScopedCells, scope_of, slot_in, slots_in}
use Rattle.tm_scope.specs.Inner.Slots.{slot_number}
use Rattle.tm_scope.proofs.CellSites.{slot-own}
use Rattle.tm_scope.proofs.OwnCells.{numbered-there}
use Rattle.tm_scope.proofs.PathSteps.{one_name}
use Rattle.tm_scope.proofs.cells.scope.CellScope.slot_of.Goals as goal

pub returns-clause-slot : goal.returns-clause-slot
returns-clause-slot c =
    let s = c.self.inside in
    subst (λ (v : ScopedCells). (d : DesignTree) → HasCells v.tables d →
    option_and_then (slot_in v.tables v.at) c.slot_named.result
    ≡ option_and_then (λ k. slot_of k c.args.path.now) (context d (scope_of v.at))) c.self.view_is
    (λ d has. slot-own s.cells.now s.at s.node.now s.names s.name.now s.kept c.self.invariant d has c.args.path.now
    c.name-item.result c.slot_named.result
    (one_name c.args.path.now c.name-item.result (omega arith) (omega arith) c.name-item.is)
    (c.slot_named.ensures
    ∙ ap (λ (v : ScopedCells). option_and_then (λ body. slot_number body c.as_bytes.result.now)
    (slots_in v.tables v.at)) (sym c.self.view_is)
    ∙ ap (λ n. option_and_then (λ body. slot_number body n) (slots_in s.cells.now s.at)) c.as_bytes.ensures))

pub returns-clause-is_there : goal.returns-clause-is_there
returns-clause-is_there c =
    numbered-there (slots_in c.args.self.now.tables c.args.self.now.at) c.as_bytes.result.now c.slot_named.result
    c.slot_named.ensures
