use Rattle.std.proofs.Common.{◌≡◌, None, [], ◌∷◌, get_or, arith, refl, sym, ◌∙◌}
use Rattle.tm_play.specs.Numbers.{digits_after}
use Rattle.tm_play.proofs.ReadNumbers.{digits_none_at, digits_end_at}
use Rattle.tm_play.proofs.input.number.read_digits.Goals as goal

pub returns-in_default : goal.returns-in_default
returns-in_default c =
    let field = c.args.field.now in
    let none : digits_after c.loop-digit.n (get_or field c.loop-digit.digit-index 0 ∷ []) ≡ None = cc in
    sym (digits_none_at field c.loop-digit.digit-index c.loop-digit.n (get_or field c.loop-digit.digit-index 0)
    (omega arith) refl none) ∙ c.loop-digit.invariant.0

pub returns : goal.returns
returns c =
    sym (digits_end_at c.args.field.now c.loop-digit.digit-index c.loop-digit.n (omega arith) c.loop-digit.invariant.1)
    ∙ c.loop-digit.invariant.0
