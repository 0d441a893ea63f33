use Rattle.tm_lex.proofs.Comments.{NoCloseBetween}
use Rattle.tm_lex.proofs.comment.block_comment_len.Given as goal

abbrev pub invariant-loop-star : goal.invariant-loop-star
invariant-loop-star l = NoCloseBetween l.bytes l.star
