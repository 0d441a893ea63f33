-- What holds where an expression has no value.
use Rattle.std.proofs.Common.{Result, Ok, Err}
use Rattle.std.specs.Prelude.{OnErr}

-- what holds anyway holds of an error
pub on_err : {T X P : Type 0} (r : Result T X) → P → OnErr r P
on_err (Ok n) h = tt
on_err (Err e) h = h
