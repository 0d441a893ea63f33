use Rattle.std.proofs.Common.{sym, ◌∙◌}
use Rattle.tm_cparse.proofs.NameParts.{no_zero, some_other}
use Rattle.tm_cparse.proofs.shape.is_number.Goals as goal

pub returns-then-first-ne48 : goal.returns-then-first-ne48
returns-then-first-ne48 c =
    no_zero c.in-Some.first c.in-Some.others.now c.args.digits.now c.in-Some.ensures
    (sym c.are_digits.ensures ∙ c.if-are_digits.true) c.if-first-ne48.true

pub returns-else-are_digits : goal.returns-else-are_digits
returns-else-are_digits c =
    some_other c.args.digits.now c.are_digits.result c.are_digits.ensures c.if-are_digits.false
