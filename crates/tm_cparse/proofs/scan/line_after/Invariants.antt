use Rattle.std.proofs.Common.{◌≡◌, ◌+◌, take}
use Rattle.std.specs.Prelude.{count_by}
use Rattle.tm_syntax.specs.Tokens.{is_line_feed}
use Rattle.tm_cparse.proofs.scan.line_after.Given as goal

abbrev pub invariant-loop-byte : goal.invariant-loop-byte
invariant-loop-byte l = l.last ≡ l.line + count_by is_line_feed (take l.byte-index l.bytes)
