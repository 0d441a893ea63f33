use Rattle.std.proofs.Common.{sym, ◌∙◌, true≢false}
use Rattle.tm_cparse.proofs.NameParts.{no_mark, no_digits, no_path}
use Rattle.tm_cparse.proofs.shape.name_parts.Goals as goal
use Rattle.tm_cparse.proofs.shape.name_parts.Goals.{else-is_number-via-then-is_number+else-is_path, else-is_number-via-else-is_number}

pub returns-in_err-path : goal.returns-in_err-path
returns-in_err-path c =
    rw c.from_residual.ensures
    (no_mark c.args.rest.now c.split_at.result.1.now c.digits_len.result c.digits_len.ensures.value
    c.split_at.ensures.back c.in_err-path.ensures)

pub returns-else-is_number : goal.returns-else-is_number
returns-else-is_number c = elim c.else-is_number.branch [
  | else-is_number-via-then-is_number+else-is_path w ↦
      no_path c.args.rest.now c.split_at.result.1.now c.in_ok-path.path.now c.digits_len.result
      c.digits_len.ensures.value c.split_at.ensures.back c.in_ok-path.ensures
      (λ like. true≢false (sym (w.is_path.ensures.1 like) ∙ w.if-is_path.false))
  | else-is_number-via-else-is_number w ↦
      no_digits c.args.rest.now c.split_at.result.0.now c.digits_len.result c.digits_len.ensures.value
      c.split_at.ensures.front (λ number. true≢false (sym (c.is_number.ensures.1 number) ∙ w.if-is_number.false))
]
