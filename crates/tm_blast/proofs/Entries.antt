-- Marks, and entries of what was made, when one is added or set.
use Rattle.std.proofs.Common.{◌≡◌, ℕ, zero, suc, List, [], ◌∷◌, ◌++◌, get_or, Option, None, Vec, refl, ap, ◌∙◌}
use Rattle.std.specs.Option.{option_map}
use Rattle.std.specs.declared.alloc.Global.{Global}
use Rattle.std.proofs.lemmas.List.{map-append}
use Rattle.tm_dd.specs.declared.node.NodeId.{NodeId}
use Rattle.tm_term.specs.declared.term.TermId.{TermId}
use Rattle.tm_blast.specs.Memory.{made_of, made_at}

-- one more element that is the default changes no reading
pub get_or-append_default : {X : Type 0} (xs : List X) (d : X) (k : ℕ) → get_or (xs ++ d ∷ []) k d ≡ get_or xs k d
get_or-append_default [] d zero = refl
get_or-append_default [] d (suc k) = refl
get_or-append_default (x ∷ xs) d zero = refl
get_or-append_default (x ∷ xs) d (suc k) = get_or-append_default xs d k

pub made_at-filled : (entries : List (Option (Vec NodeId Global))) (id : TermId) →
    made_at (made_of (entries ++ None ∷ [])) id ≡ made_at (made_of entries) id
made_at-filled entries id =
    let f : Option (Vec NodeId Global) → Option (List NodeId) = option_map (λ bits. bits.items) in
    ap (λ made. made_at made id) (map-append f entries (None ∷ []))
    ∙ get_or-append_default (made_of entries) None id.0
