use Rattle.std.proofs.Common.{sym, ap, ◌∙◌}
use Rattle.std.specs.Option.{option_and_then, option_copied, option_map}
use Rattle.tm_syntax.specs.Design.{instance_node}
use Rattle.tm_syntax.specs.Design.Cells.{variable_at, variable_path}
use Rattle.tm_syntax.specs.Design.Scope.{site}
use Rattle.tm_syntax.specs.Scopes.Names.{last_name}
use Rattle.tm_scope.proofs.OwnCells.{member-node}
use Rattle.tm_scope.proofs.cells.scope.CellScope.member_cell.Goals as goal

pub returns-clause-cell : goal.returns-clause-cell
returns-clause-cell c = λ d has.
    let node = instance_node c.in-Some.node.now in
    c.member.ensures.cell d has node (sym c.as_bytes.ensures)
    ∙ ap (λ n. variable_at d (variable_path node n c.args.index)) c.last_name.ensures
    ∙ sym (member-node d c.args.path.now c.args.index (site d c.args.self.now.at.instance)
    ∙ ap (option_and_then (λ n. variable_at d (variable_path n (last_name c.args.path.now) c.args.index)))
    (sym (c.instance_along.ensures d has) ∙ ap (λ o. option_map instance_node (option_copied o)) c.in-Some.is))
