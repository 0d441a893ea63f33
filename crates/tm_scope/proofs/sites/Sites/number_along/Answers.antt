use Rattle.std.proofs.Common.{◌≡◌, ◌+◌, ◌-◌, Some, drop, sym, ap, ◌∙◌, arith}
use Rattle.std.specs.Option.{option_and_then}
use Rattle.tm_syntax.specs.Design.{DesignTree, neighbor}
use Rattle.tm_syntax.specs.Design.Scope.{site, site_along}
use Rattle.tm_scope.specs.Instances.{bare_design}
use Rattle.tm_scope.proofs.SiteSteps.{site_along-step, site_along-end}
use Rattle.tm_scope.proofs.sites.Sites.number_along.Goals as goal

pub loop-next-preserved : goal.loop-next-preserved
loop-next-preserved c =
    let d : DesignTree = bare_design c.args.self.now in
    let spelled : c.as_bytes.result.now ≡ c.index-path-next.result.text =
    c.as_bytes.ensures ∙ sym (ap (λ n. n.text) c.index-path-next.is) in
    let led : option_and_then (λ s. neighbor s.node s.template c.as_bytes.result.now) (site d c.loop-next.at)
    ≡ Some c.in_ok-at.at =
    sym c.neighbor.ensures ∙ c.in_ok-at.was in
    let onward : c.loop-next.next ≡ c.loop-next.next + 1 - 1 = omega arith in
    c.loop-next.invariant
    ∙ site_along-step d c.loop-next.at c.args.path.now c.loop-next.next c.index-path-next.result (omega arith)
    (omega arith) c.index-path-next.is
    ∙ ap (option_and_then (λ n. option_and_then (λ s. site_along d s (drop c.loop-next.next c.args.path.now))
    (site d n)))
    (ap (λ name. option_and_then (λ s. neighbor s.node s.template name) (site d c.loop-next.at)) (sym spelled)
    ∙ led)
    ∙ ap (λ k. option_and_then (λ s. site_along d s (drop k c.args.path.now)) (site d c.in_ok-at.at)) onward

pub returns : goal.returns
returns c =
    sym (c.loop-next.invariant
    ∙ site_along-end (bare_design c.args.self.now) c.loop-next.at c.args.path.now c.loop-next.next (omega arith))
