-- What `starts_with` says of bytes.
use Rattle.std.proofs.Common.{◌≡◌, ◌≢◌, ℕ, Bool, true, false, eqb, List, ◌++◌, length, take, drop}
use Rattle.std.specs.Cmp.Lexicographic.{pointwise}
use Rattle.std.proofs.lemmas.Bool.{both_ways}
use Rattle.std.proofs.lemmas.Bool.Decides.{Decides-eqb}
use Rattle.std.proofs.lemmas.Slice.Eq.{starts_is}

pub begins_so : (s p : List ℕ) (r : Bool) → r ≡ pointwise eqb p (take (length p) s) → r ≡ true →
    s ≡ p ++ drop (length p) s
begins_so s p r h so = (starts_is Decides-eqb s p r h).0 so

pub begins_otherwise : (s p : List ℕ) (r : Bool) → r ≡ pointwise eqb p (take (length p) s) → r ≡ false →
    (rest : List ℕ) → s ≢ p ++ rest
begins_otherwise s p r h otherwise rest e = both_ways r otherwise ((starts_is Decides-eqb s p r h).1 rest e)
