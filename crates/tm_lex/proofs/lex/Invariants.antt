use Rattle.std.proofs.Common.{◌-◌, length}
use Rattle.tm_lex.proofs.Pieces.{IsLexed}
use Rattle.tm_lex.proofs.lex.Given as goal

abbrev pub invariant-loop-start : goal.invariant-loop-start
invariant-loop-start l = IsLexed l.text l.start l.tokens.items l.place

abbrev pub decreases-loop-start : goal.decreases-loop-start
decreases-loop-start l = length l.text - l.start
