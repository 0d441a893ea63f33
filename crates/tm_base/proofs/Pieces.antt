-- A refused piece of which nothing was appended.
use Rattle.std.proofs.Common.{◌≡◌, ℕ, List, Result, Ok, Err, OnErr, sym, ◌∙◌, append-nil}
use Rattle.tm_base.specs.Sink.{AppendsPrefix}

-- no byte at all is a first part of each piece
pub AppendsPrefix-nothing : (piece old new : List ℕ) → new ≡ old → AppendsPrefix piece old new
AppendsPrefix-nothing piece old new same = (0, same ∙ sym (append-nil old))

pub AppendsPrefix-refused : {T E : Type 0} (answer : Result T E) (piece old new : List ℕ)
    → OnErr answer (new ≡ old) → OnErr answer (AppendsPrefix piece old new)
AppendsPrefix-refused (Ok _) piece old new same = tt
AppendsPrefix-refused (Err _) piece old new same = AppendsPrefix-nothing piece old new same
