-- The bits that there are for choices and arguments.
use Rattle.std.proofs.Common.{◌≡◌, ℕ, zero, suc, ◌+◌, ◌≤◌, List, [], ◌∷◌, ◌++◌, replicate, refl, sym, ap, ◌∙◌, subst, arith, append_assoc}
use Rattle.std.specs.Prelude.{All}
use Rattle.std.proofs.lemmas.List.Elements.{All-push}
use Rattle.tm_base.specs.Arithmetic.{IsWidth}
use Rattle.tm_flat.specs.Inputs.{room}

pub within_room : (w : ℕ) → IsWidth w → w ≤ room
unfolding room
within_room w is = is.1

pub all_bits : (old items : List ℕ) (k : ℕ) → 64 ≤ k → k ≤ 64 → items ≡ old ++ replicate k 1 →
    items ≡ old ++ replicate room 1
unfolding room
all_bits old items k end within so_far = let all : k ≡ 64 = omega arith in so_far ∙ ap (λ n. old ++ replicate n 1) all

replicate_more : {X : Type 0} (k : ℕ) (x : X) → replicate k x ++ x ∷ [] ≡ replicate (k + 1) x
replicate_more zero x = refl
replicate_more (suc k) x =
    let at : suc (k + 1) ≡ suc k + 1 = omega arith in
    ap (λ l. x ∷ l) (replicate_more k x) ∙ ap (λ n. replicate n x) at

pub more_bits : (old items more : List ℕ) (k : ℕ) → items ≡ old ++ replicate k 1 → more ≡ items ++ 1 ∷ [] →
    more ≡ old ++ replicate (k + 1) 1
more_bits old items more k so_far pushed =
    pushed ∙ ap (λ l. l ++ 1 ∷ []) so_far ∙ append_assoc old (replicate k 1) (1 ∷ [])
    ∙ ap (λ l. old ++ l) (replicate_more k 1)

pub all_narrow : (ws more : List ℕ) (w : ℕ) → All (λ w. w ≤ room) ws → IsWidth w → more ≡ ws ++ w ∷ [] →
    All (λ w. w ≤ room) more
all_narrow ws more w all is pushed =
    subst (All (λ w. w ≤ room)) (sym pushed) (All-push (λ w. w ≤ room) ws w all (within_room w is))
