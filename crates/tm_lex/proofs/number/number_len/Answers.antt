use Rattle.std.proofs.Common.{codes, drop, ap, ◌∙◌, arith}
use Rattle.std.specs.Char.{is_ascii_hexdigit}
use Rattle.std.specs.List.{prefix_len}
use Rattle.std.proofs.lemmas.List.{take_rest}
use Rattle.tm_lex.proofs.Numbers.{first_decimal, first_hexadecimal}
use Rattle.tm_lex.proofs.Prefixes.{begins_so, begins_otherwise}
use Rattle.tm_lex.proofs.number.number_len.Goals as goal
use Rattle.tm_lex.proofs.number.number_len.Goals.{then-starts_with+else-digits-gt0, else-starts_with}

pub returns-then-digits-gt0 : goal.returns-then-digits-gt0
returns-then-digits-gt0 c =
    let digits = c.hexadecimal_len-digits.ensures.value
    ∙ ap (prefix_len is_ascii_hexdigit) (take_rest c.args.bytes.now 2) in
    let some = c.if-digits-gt0.true in
    rw digits
    (first_hexadecimal c.args.bytes.now (drop 2 c.args.bytes.now)
    (begins_so c.args.bytes.now (codes "0x") c.starts_with.result c.starts_with.ensures.value c.if-starts_with.true)
    c.requires.digit (omega (arith, digits)))

-- where a `0x` begins the bytes, no hexadecimal digit follows it
pub returns : goal.returns
returns c =
    rw c.decimal_len.ensures
    (first_decimal c.args.bytes.now c.requires.some c.requires.digit (λ rest begin.
    elim c.if-starts_with.branch [
      | then-starts_with+else-digits-gt0 w ↦
          let digits = w.hexadecimal_len-digits.ensures.value
          ∙ ap (prefix_len is_ascii_hexdigit) (take_rest c.args.bytes.now 2 ∙ ap (drop 2) begin) in
          let none = w.if-digits-gt0.false in
          omega (arith, digits)
      | else-starts_with w ↦ absurd
          (begins_otherwise c.args.bytes.now (codes "0x") c.starts_with.result c.starts_with.ensures.value
          w.if-starts_with.false rest begin)
    ]))
