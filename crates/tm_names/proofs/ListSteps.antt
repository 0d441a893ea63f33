-- Lists that grow part by part.
use Rattle.std.proofs.Common.{◌≡◌, List, ◌++◌, map, append_assoc, sym, ap, ◌∙◌}
use mathlib.Core.List.{map-map}

-- two parts put one behind another
pub two_more : {X : Type 0} (old a b one two : List X) → one ≡ old ++ a → two ≡ one ++ b → two ≡ old ++ (a ++ b)
two_more old a b one two first second = second ∙ ap (λ xs. xs ++ b) first ∙ append_assoc old a b

-- three parts put one behind another
pub three_more : {X : Type 0} (old a b c one two three : List X) →
    one ≡ old ++ a → two ≡ one ++ b → three ≡ two ++ c → three ≡ old ++ (a ++ b ++ c)
three_more old a b c one two three first second third =
    third
    ∙ ap (λ xs. xs ++ c) (second ∙ ap (λ xs. xs ++ b) first)
    ∙ ap (λ xs. xs ++ c) (append_assoc old a b)
    ∙ append_assoc old (a ++ b) c

-- a slice put behind, which is a list
pub pushed : {X Y : Type 0} (f : X → Y) (slice items : List X) (old new : List Y) →
    new ≡ old ++ map f slice → slice ≡ items → new ≡ old ++ map f items
pushed f slice items old new grown same = grown ∙ ap (λ xs. old ++ map f xs) same

-- a slice put behind, which is a list as it is viewed
pub pushed_as : {X Y Z : Type 0} (f : Z → Y) (view : X → Z) (slice items : List X) (old new : List Y) →
    new ≡ old ++ map (λ x. f (view x)) slice → slice ≡ items → new ≡ old ++ map f (map view items)
pushed_as f view slice items old new grown same =
    grown
    ∙ ap (λ xs. old ++ map (λ x. f (view x)) xs) same
    ∙ ap (λ ys. old ++ ys) (sym (map-map f view items))
