use Rattle.std.proofs.Common.{◌≡◌, take}
use Rattle.tm_scope.proofs.scopes.constants.all_enum_names.Given as goal

abbrev pub invariant-loop-def : goal.invariant-loop-def
invariant-loop-def l = l.names.items ≡ take l.def-index l.enums
