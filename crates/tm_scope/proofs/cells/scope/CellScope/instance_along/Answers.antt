use Rattle.std.proofs.Common.{◌≡◌, sym, ap, ◌∙◌, subst}
use Rattle.std.specs.Option.{option_and_then, option_copied, option_map}
use Rattle.tm_syntax.specs.Design.{DesignTree, instance_node}
use Rattle.tm_syntax.specs.Design.Scope.{Site, site, site_along}
use Rattle.tm_scope.specs.Cells.{HasCells, ScopedCells}
use Rattle.tm_scope.proofs.CellSites.{along-number}
use Rattle.tm_scope.proofs.cells.scope.CellScope.instance_along.Goals as goal

pub returns-in_err-number : goal.returns-in_err-number
returns-in_err-number c =
    let s = c.self.inside in
    subst (λ (v : ScopedCells). (d : DesignTree) → HasCells v.tables d →
    option_map instance_node (option_copied c.from_residual.result)
    ≡ option_map (λ (s : Site). s.node)
    (option_and_then (λ s. site_along d s c.args.path.now) (site d v.at.instance))) c.self.view_is
    (λ d has. ap (λ o. option_map instance_node (option_copied o)) c.from_residual.ensures
    ∙ sym (ap (option_map (λ (s : Site). s.node))
    (along-number s.cells.now d has s.at.instance c.args.path.now c.number_along.result c.sites.result.now
    c.sites.ensures c.number_along.ensures
    ∙ ap (option_and_then (site d)) c.in_err-number.was)))

pub returns : goal.returns
returns c =
    let s = c.self.inside in
    subst (λ (v : ScopedCells). (d : DesignTree) → HasCells v.tables d →
    option_map instance_node (option_copied c.node.result)
    ≡ option_map (λ (s : Site). s.node)
    (option_and_then (λ s. site_along d s c.args.path.now) (site d v.at.instance))) c.self.view_is
    (λ d has. c.node.ensures d has
    ∙ sym (ap (option_map (λ (s : Site). s.node))
    (along-number s.cells.now d has s.at.instance c.args.path.now c.number_along.result c.sites.result.now
    c.sites.ensures c.number_along.ensures
    ∙ ap (option_and_then (site d)) c.in_ok-number.was)))
