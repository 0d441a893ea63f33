use Rattle.std.proofs.Common.{codes, arith}
use Rattle.tm_lex.proofs.Signs.{no_sign}
use Rattle.tm_lex.proofs.Prefixes.{begins_otherwise}
use Rattle.tm_lex.proofs.sign.sign.Goals as goal
use Rattle.tm_lex.proofs.sign.sign.Goals.{then-bytes-gt1+in_default, else-bytes-gt1}

pub returns : goal.returns
returns c = no_sign c.args.bytes.now c.requires.mark
    (begins_otherwise c.args.bytes.now (codes "...") c.starts_with.result c.starts_with.ensures.value
    c.if-starts_with.false)
    (λ some. elim c.if-bytes-gt1.branch [
      | then-bytes-gt1+in_default w ↦ w.in_default.ensures
      | else-bytes-gt1 w ↦ absurd
          (omega (arith, w.if-bytes-gt1.false))
    ])
    c.in_default-one_byte_sign.ensures
