-- What may begin with a byte.
use Rattle.std.specs.Prelude.{ℕ, if◌then◌else◌, ◌==◌}
use Rattle.std.specs.Char.{is_ascii_digit}
use Rattle.tm_lex.specs.declared.class.Class.{Class}
use Rattle.tm_lex.specs.declared.class.Class.TheVariants.{Blank, Slash, Letter, Digit, Mark}
use Rattle.tm_syntax.specs.Tokens.{is_blank, begins_name}

-- a blank, a comment (47 is `/`), a name or a reserved word, a number, or a sign
abbrev pub class_of : ℕ → Class
class_of b =
    if is_blank b then Blank
    else (if b == 47 then Slash
    else (if begins_name b then Letter
    else (if is_ascii_digit b then Digit
    else Mark)))
