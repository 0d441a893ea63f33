use Rattle.std.proofs.Common.{◌≡◌, ◌++◌, map, drop}
use Rattle.tm_cir.specs.Text.Spelling.{name_byte}
use Rattle.tm_cprint.proofs.piece.push_path.Given as goal

abbrev pub invariant-loop-byte : goal.invariant-loop-byte
invariant-loop-byte l =
    l.text.items ++ map name_byte (drop l.byte-index l.path) ≡ l.initial.text.items ++ map name_byte l.path
