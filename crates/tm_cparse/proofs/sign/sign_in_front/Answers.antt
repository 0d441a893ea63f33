use Rattle.std.proofs.Common.{arith}
use Rattle.tm_cparse.proofs.Signs.{no_sign}
use Rattle.tm_cparse.proofs.sign.sign_in_front.Goals as goal
use Rattle.tm_cparse.proofs.sign.sign_in_front.Goals.{then-text-gt1+in_default, else-text-gt1}

pub returns : goal.returns
returns c =
    no_sign c.args.text.now
    (λ some. elim c.if-text-gt1.branch [
      | then-text-gt1+in_default w ↦ w.in_default.ensures
      | else-text-gt1 w ↦ absurd
          (omega (arith, w.if-text-gt1.false))
    ])
    c.in_default-short_sign.ensures
