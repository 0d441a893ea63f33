use Rattle.std.proofs.Common.{◌≡◌, Some, slice_get, sym, ap, ◌∙◌}
use Rattle.std.specs.Option.{option_and_then, option_copied}
use Rattle.tm_syntax.specs.Design.{neighbor}
use Rattle.tm_syntax.specs.Design.Scope.{site}
use Rattle.tm_scope.specs.Instances.{InstanceTables, bare_design}
use Rattle.tm_scope.proofs.SiteSteps.{neighbor-in_template}
use Rattle.tm_scope.proofs.sites.Sites.neighbor.Goals as goal

pub returns : goal.returns
returns c =
    let x : InstanceTables = record { spec = c.self.inside.scopes.now; instances = c.self.inside.instances.now } in
    let at : slice_get x.instances c.args.from ≡ Some c.in_ok-node.node.now =
    ap (λ x. slice_get x.instances c.args.from) c.self.view_is ∙ sym c.instance.ensures
    ∙ ap option_copied c.in_ok-node.was in
    c.neighbor_at.ensures
    ∙ sym (neighbor-in_template x c.args.from c.in_ok-node.node.now at c.args.name.now)
    ∙ ap (λ x. option_and_then (λ s. neighbor s.node s.template c.args.name.now) (site (bare_design x) c.args.from))
    c.self.view_is
