use Rattle.std.proofs.Common.{sym, ◌∙◌, ap, arith}
use Rattle.tm_cir.specs.Text.Spelling.{word_text}
use Rattle.tm_cparse.proofs.Runs.{word_place}
use Rattle.tm_cparse.proofs.shape.word_of.Goals as goal

-- each word stands in the table
pub returns : goal.returns
returns c = λ w e. let place = word_place w in
    c.loop-word.invariant place.0 (omega (arith, c.loop-word-test.false, place.1)) (e ∙ sym (ap word_text place.2))
