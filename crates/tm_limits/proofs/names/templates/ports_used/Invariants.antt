use Rattle.std.proofs.Common.{◌≡◌, ◌∷◌, [], take}
use Rattle.std.specs.List.{flat_map}
use Rattle.std.specs.Option.{option_copied}
use Rattle.tm_limits.specs.LongNames.{first_long}
use Rattle.tm_syntax.specs.declared.tree.Port.{Port}
use Rattle.tm_limits.proofs.names.templates.ports_used.Given as goal

abbrev pub invariant-loop-port : goal.invariant-loop-port
invariant-loop-port l =
    option_copied l.first
    ≡ first_long (flat_map (λ (y : Port). y.template ∷ []) (take l.port-index l.ports))
