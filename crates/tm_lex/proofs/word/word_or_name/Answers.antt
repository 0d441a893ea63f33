use Rattle.std.proofs.Common.{sym, ◌∙◌, ap, take}
use Rattle.tm_lex.proofs.Words.{first_word, first_name}
use Rattle.tm_lex.proofs.word.word_or_name.Goals as goal

pub returns-in-Some : goal.returns-in-Some
returns-in-Some c =
    rw c.name_len-len.ensures
    (first_word c.args.bytes.now c.in-Some.word c.requires.letter
    (ap (λ n. take n c.args.bytes.now) (sym c.name_len-len.ensures) ∙ c.in-Some.ensures))

pub returns-in-None : goal.returns-in-None
returns-in-None c =
    rw c.name_len-len.ensures
    (first_name c.args.bytes.now c.requires.some c.requires.letter
    (λ w e. c.in-None.ensures w (ap (λ n. take n c.args.bytes.now) c.name_len-len.ensures ∙ e)))
