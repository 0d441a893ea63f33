use Rattle.std.proofs.Common.{arith, rules, sym, ◌∙◌}
use Rattle.tm_cparse.proofs.Numbers.{digit_is, large_product, large_sum, one_digit, all_digits}
use Rattle.tm_cparse.proofs.shape.value.Goals as goal

pub returns-in_err-product : goal.returns-in_err-product
returns-in_err-product c =
    c.from_residual.ensures
    ∙ sym (large_product c.args.digits.now c.loop-digit.digit-index c.loop-digit.value
    (omega arith) c.loop-digit.invariant.is c.in_err-product.ensures)

pub overflow_sub-digit : goal.overflow_sub-digit
overflow_sub-digit c = (digit_is c.args.digits.now c.loop-digit.digit-index c.requires (omega arith)).0

pub returns-in_err-value : goal.returns-in_err-value
returns-in_err-value c =
    c.from_residual-in_err-value.ensures
    ∙ sym (large_sum c.args.digits.now c.loop-digit.digit-index c.loop-digit.value c.in_ok-product.product
    c.from.result c.requires (omega arith) c.loop-digit.invariant.is c.in_ok-product.ensures.1 (search rules)
    c.in_err-value.ensures)

pub loop-digit-preserved : goal.loop-digit-preserved
loop-digit-preserved c = record {
  is = one_digit c.args.digits.now c.loop-digit.digit-index c.loop-digit.value c.in_ok-product.product
      c.from.result c.in_ok-value.value c.requires (omega arith) c.loop-digit.invariant.is c.in_ok-product.ensures.1
      (search rules) c.in_ok-value.ensures.1;
  below = omega (arith, c.in_ok-value.ensures);
}

pub returns : goal.returns
returns c =
    all_digits c.args.digits.now c.loop-digit.digit-index c.loop-digit.value (omega arith)
    c.loop-digit.invariant.is c.loop-digit.invariant.below
