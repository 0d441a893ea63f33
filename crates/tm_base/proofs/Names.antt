-- A name at the end of a list of names.
use Rattle.std.proofs.Common.{◌≡◌, ◌≢◌, ℕ, ◌+◌, List, [], ◌∷◌, ◌++◌, cond, arith}
use Rattle.std.proofs.lemmas.List.Sums.{sum_by-append}
use Rattle.std.proofs.lemmas.Slice.Eq.{bytes_eq-Decides}
use Rattle.std.specs.Str.{bytes_eq}
use Rattle.tm_base.specs.MemFiles.{times_in}

-- one more name counts once, for itself
pub times_in-push : (names : List (List ℕ)) (last name : List ℕ)
    → times_in (names ++ last ∷ []) name ≡ times_in names name + cond (bytes_eq name last) 1 0
times_in-push names last name =
    grind (arith, sum_by-append (λ x. cond (bytes_eq name x) 1 0) names (last ∷ []))

pub times_in-push_same : (names : List (List ℕ)) (name : List ℕ)
    → times_in (names ++ name ∷ []) name ≡ times_in names name + 1
times_in-push_same names name =
    grind (arith, times_in-push names name name, (bytes_eq-Decides name name).1)

pub times_in-push_other : (names : List (List ℕ)) (last name : List ℕ) → name ≢ last
    → times_in (names ++ last ∷ []) name ≡ times_in names name
times_in-push_other names last name differs =
    grind (arith, times_in-push names last name, (bytes_eq-Decides name last).0)
