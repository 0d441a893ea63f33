-- Writes, one after the other.
use Rattle.std.proofs.Common.{◌≡◌, ℕ, ◌+◌, ◌-◌, List, ◌++◌, length, take, drop, sym, ap, ◌∙◌, subst}
use Rattle.std.proofs.lemmas.List.{take_rest}
use Rattle.std.proofs.Math.Seq.{take-add}
use Rattle.std.specs.Prelude.{Option}
use Rattle.std.specs.Io.KnownBytes.{Appends}
use Rattle.std.proofs.KnownBytes.{Appends-trans}

-- the first bytes of a piece, and then some of what is left of it
pub Appends-next : (a b c : Option (List ℕ)) (all : List ℕ) (done n : ℕ)
    → Appends a b (take done all)
    → Appends b c (take n (take (length all - done) (drop done all)))
    → Appends a c (take (done + n) all)
Appends-next a b c all done n first next =
    let both = Appends-trans a b c _ _ first next in
    let joined : take done all ++ take n (take (length all - done) (drop done all)) ≡ take (done + n) all =
    ap (λ rest. take done all ++ take n rest) (take_rest all done) ∙ sym (take-add done n all) in
    subst (Appends a c) joined both
