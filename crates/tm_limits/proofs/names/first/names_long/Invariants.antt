use Rattle.std.proofs.Common.{◌≡◌, take}
use Rattle.std.specs.Option.{option_copied}
use Rattle.tm_limits.specs.LongNames.{first_long}
use Rattle.tm_limits.proofs.names.first.names_long.Given as goal

abbrev pub invariant-loop-name : goal.invariant-loop-name
invariant-loop-name l = option_copied l.first ≡ first_long (take l.name-index l.names)
