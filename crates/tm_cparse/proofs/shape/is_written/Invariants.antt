use Rattle.std.proofs.Common.{◌≡◌, ◌↔◌, map, length}
use Rattle.tm_cir.specs.Text.Spelling.{name_byte}
use Rattle.tm_cparse.proofs.shape.is_written.Given as goal

abbrev pub invariant-loop-byte : goal.invariant-loop-byte
invariant-loop-byte l = (map name_byte l.left ≡ l.rest) ↔ (map name_byte l.path ≡ l.written)

abbrev pub decreases-loop-byte : goal.decreases-loop-byte
decreases-loop-byte l = length l.left
