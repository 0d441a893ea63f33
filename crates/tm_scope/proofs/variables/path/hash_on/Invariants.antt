use Rattle.std.proofs.Common.{◌≡◌, take}
use Rattle.tm_scope.specs.VariablePaths.{hash_on}
use Rattle.tm_scope.proofs.variables.path.hash_on.Given as goal

abbrev pub invariant-loop-byte : goal.invariant-loop-byte
invariant-loop-byte l = l.hashed ≡ hash_on l.initial.hashed (take l.byte-index l.text)
