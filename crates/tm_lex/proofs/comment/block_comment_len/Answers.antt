use Rattle.std.proofs.Common.{codes, sym, ◌∙◌, arith}
use Rattle.std.proofs.lemmas.List.{take_rest}
use Rattle.tm_lex.proofs.Comments.{first_block, no_close}
use Rattle.tm_lex.proofs.Prefixes.{begins_so}
use Rattle.tm_lex.proofs.comment.block_comment_len.Goals as goal

pub returns-then-starts_with : goal.returns-then-starts_with
returns-then-starts_with c =
    first_block c.args.bytes.now _ c.loop-star.star c.requires c.loop-star.auto.star c.loop-star.invariant
    (sym (take_rest c.args.bytes.now c.loop-star.star)
    ∙ begins_so _ (codes "*/") c.starts_with.result c.starts_with.ensures.value c.if-starts_with.true)

-- the bytes are two at least, so the loop came to their end
pub returns : goal.returns
returns c = no_close c.args.bytes.now c.requires
    (λ k below. c.loop-star.invariant k (omega (arith, c.loop-star-test.false)))
