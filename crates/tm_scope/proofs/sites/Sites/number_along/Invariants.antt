use Rattle.std.proofs.Common.{◌≡◌, ◌-◌, drop}
use Rattle.std.specs.Option.{option_and_then}
use Rattle.tm_syntax.specs.Design.Scope.{site, site_along}
use Rattle.tm_scope.specs.Instances.{bare_design}
use Rattle.tm_scope.proofs.sites.Sites.number_along.Given as goal

abbrev pub invariant-loop-next : goal.invariant-loop-next
invariant-loop-next l =
    option_and_then (λ s. site_along (bare_design l.self) s l.path) (site (bare_design l.self) l.from)
    ≡ option_and_then (λ s. site_along (bare_design l.self) s (drop (l.next - 1) l.path))
    (site (bare_design l.self) l.at)
