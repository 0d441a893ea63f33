use Rattle.std.proofs.Common.{codes}
use Rattle.tm_lex.proofs.Comments.{first_line}
use Rattle.tm_lex.proofs.Prefixes.{begins_so}
use Rattle.tm_lex.proofs.comment.comment_len.Goals as goal

pub returns-then-starts_with : goal.returns-then-starts_with
returns-then-starts_with c =
    rw c.line_len.ensures
    (first_line c.args.bytes.now _
    (begins_so c.args.bytes.now (codes "//") c.starts_with.result c.starts_with.ensures.value c.if-starts_with.true)
    c.requires.slash)
