use Rattle.std.proofs.Common.{◌≢◌, ◌<◌, ℕ, get_or}
use Rattle.tm_syntax.specs.declared.token.Word.TheVariants.{Typedef}
use Rattle.tm_syntax.specs.Tokens.{word_text}
use Rattle.tm_lex.proofs.word.word_of.Given as goal

abbrev pub invariant-loop-word : goal.invariant-loop-word
invariant-loop-word l = (k : ℕ) → k < l.word-index → l.text ≢ word_text (get_or l.word-items k Typedef)
