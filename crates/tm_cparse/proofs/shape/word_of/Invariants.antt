use Rattle.std.proofs.Common.{◌≢◌, ◌<◌, ℕ, get_or}
use Rattle.tm_cir.specs.Text.Spelling.{word_text}
use Rattle.tm_cparse.specs.declared.token.Word.TheVariants.{Void}
use Rattle.tm_cparse.specs.View.{word_tree}
use Rattle.tm_cparse.proofs.shape.word_of.Given as goal

abbrev pub invariant-loop-word : goal.invariant-loop-word
invariant-loop-word l = (k : ℕ) → k < l.word-index → l.run ≢ word_text (word_tree (get_or l.word-items k Void))
