use Rattle.std.proofs.Common.{get_or, length, sym, ◌∙◌, ap, arith}
use Rattle.std.proofs.lemmas.Option.{get_or_from_slice_get}
use Rattle.tm_syntax.specs.declared.token.Word.TheVariants.{Typedef}
use Rattle.tm_syntax.specs.Tokens.{word_text}
use Rattle.tm_lex.specs.Words.{words_from}
use Rattle.tm_lex.proofs.Words.{spelled_place}
use Rattle.tm_lex.proofs.word.word_of.Goals as goal

-- a reserved word stands in the table of its first byte
pub returns : goal.returns
returns c = λ w spelled.
    let text = c.args.text.now in
    let place = spelled_place w text spelled in
    let first = get_or_from_slice_get text 0 c.in_ok-first.first.now 0 (sym c.in_ok-first.ensures.value) in
    let table = c.words_from-word-items.ensures ∙ ap words_from (sym first) in
    let long = ap length table in
    let there = ap (λ words. get_or words place.0 Typedef) table ∙ place.2 in
    c.loop-word.invariant place.0 (omega (arith, c.loop-word-test.false, place.1, long))
    (spelled ∙ sym (ap word_text there))
