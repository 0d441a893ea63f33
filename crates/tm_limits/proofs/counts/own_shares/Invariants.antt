use Rattle.std.proofs.Common.{◌≡◌, map, take}
use Rattle.tm_syntax.specs.Tree.View.{spec_tree, template_tree}
use Rattle.tm_limits.specs.Amount.{capped}
use Rattle.tm_limits.specs.Shares.{own_share}
use Rattle.tm_limits.proofs.counts.own_shares.Given as goal

abbrev pub invariant-loop-number : goal.invariant-loop-number
invariant-loop-number l =
    l.own.items ≡ map (λ t. capped (own_share (spec_tree l.scopes) l.quantity t))
    (map template_tree (take l.number l.templates))
