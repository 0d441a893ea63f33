-- What ids mean in a store that was extended.
use Rattle.std.proofs.Common.{◌≡◌, ℕ, Bool, List, [], ◌∷◌, refl, arith}
use Rattle.std.specs.Prelude.{All}
use Rattle.std.proofs.lemmas.List.Elements.{All-weaker, All-head, All-tail}
use Rattle.tm_dd.specs.declared.node.NodeId.{NodeId}
use Rattle.tm_dd.specs.Table.{Table, Knows}
use Rattle.tm_dd.specs.Reduced.{Extends}
use Rattle.tm_blast.specs.Bits.{values_in}

pub Knows-extended : (s u : Table) → Extends s u → (id : NodeId) → Knows s id → Knows u id
Knows-extended s u extends id known = omega (arith, extends.rises, known)

pub All-Knows-extended : (s u : Table) → Extends s u → (ids : List NodeId) → All (Knows s) ids → All (Knows u) ids
All-Knows-extended s u extends ids known = All-weaker (Knows s) (Knows u) (Knows-extended s u extends) ids known

pub values_in-extended : (s u : Table) → Extends s u → (ids : List NodeId) → All (Knows s) ids → (v : ℕ → Bool) →
    values_in u ids v ≡ values_in s ids v
values_in-extended s u extends [] known v = refl
values_in-extended s u extends (x ∷ xs) known v =
    let head = extends.same_meaning x (All-head (Knows s) x xs known) v in
    let tail = values_in-extended s u extends xs (All-tail (Knows s) x xs known) v in
    cc
