-- The limits of a specification and of the files that are read beside it.
use Rattle.std.specs.Prelude.{ℕ}

-- the bytes of a specification
abbrev pub specification_limit : ℕ
specification_limit = 1048576

-- the bytes of a certificate, of a C text and of a text of choices
abbrev pub file_limit : ℕ
file_limit = 16777216
