use Rattle.std.proofs.Common.{◌≡◌, ◌∷◌, [], take}
use Rattle.std.specs.List.{flat_map}
use Rattle.std.specs.Option.{option_copied}
use Rattle.tm_limits.specs.LongNames.{first_long}
use Rattle.tm_syntax.specs.declared.tree.Param.{Param}
use Rattle.tm_limits.proofs.names.templates.params_declared.Given as goal

abbrev pub invariant-loop-param : goal.invariant-loop-param
invariant-loop-param l =
    option_copied l.first
    ≡ first_long (flat_map (λ (y : Param). y.name ∷ []) (take l.param-index l.params))
