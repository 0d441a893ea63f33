use Rattle.std.proofs.Common.{◌≡◌, ◌+◌, ◌≤◌, ◌++◌, List, ℕ, take}
use Rattle.tm_syntax.specs.Tokens.{place_after}
use Rattle.tm_lex.proofs.place_after.Given as goal

-- no byte moves the place by more than one line or one column
abbrev pub invariant-loop-byte : goal.invariant-loop-byte
invariant-loop-byte l = record {
  line : l.place.line ≤ l.initial.place.line + l.byte-index;
  column : l.place.column ≤ l.initial.place.column + l.byte-index;
  here : (front : List ℕ) → l.initial.place ≡ place_after front →
      l.place ≡ place_after (front ++ take l.byte-index l.bytes);
}
