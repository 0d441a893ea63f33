use Rattle.std.proofs.Common.{refl, sym, ◌∙◌, true≢false}
use Rattle.tm_cparse.proofs.Runs.{no_number, no_value, constant_run}
use Rattle.tm_cparse.proofs.shape.constant.Goals as goal

pub returns-then-not-is_number : goal.returns-then-not-is_number
returns-then-not-is_number c =
    no_number c.args.run.now c.in_ok-digits.digits.now c.in_ok-digits.ensures
    (λ number. true≢false (sym (c.is_number.ensures.1 number) ∙ c.if-not-is_number.true))

pub returns-in_err-value : goal.returns-in_err-value
returns-in_err-value c =
    rw c.from_residual-in_err-value.ensures
    (no_value c.args.run.now c.in_ok-digits.digits.now c.in_ok-digits.ensures c.in_err-value.ensures)

pub returns : goal.returns
returns c = λ d.
    constant_run d c.args.run.now c.in_ok-digits.digits.now c.in_ok-value.value _ c.in_ok-digits.ensures
    (c.is_number.ensures.0 c.if-not-is_number.false) c.in_ok-value.ensures refl refl
