use Rattle.std.proofs.Common.{◌≡◌, ◌+◌, ◌≤◌, take}
use Rattle.tm_syntax.specs.Tokens.{place_after}
use Rattle.tm_parse.proofs.place_after.Given as goal

-- no byte moves the place by more than one line or one column
abbrev pub invariant-loop-byte : goal.invariant-loop-byte
invariant-loop-byte l = record {
  line : l.place.line ≤ 1 + l.byte-index;
  column : l.place.column ≤ 1 + l.byte-index;
  here : l.place ≡ place_after (take l.byte-index l.text);
}
