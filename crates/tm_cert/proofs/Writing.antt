-- A list that is written part by part.
use Rattle.std.proofs.Common.{◌≡◌, ℕ, ◌+◌, ◌<◌, ◌≤◌, List, [], ◌∷◌, ◌++◌, Vec, Global, length, map, take, get_or, arith, refl, ap, ap₂, sym, ◌∙◌}
use Rattle.std.proofs.lemmas.List.{map-append, take_more}
use Rattle.std.proofs.lemmas.Grind.{common_steps}
use Rattle.serde_json.proofs.Views.{view-Array}
use Rattle.serde_json.specs.Data.{Data, array}
use Rattle.serde_json.specs.View.{items_of, view}
use Rattle.serde_json.specs.declared.value.Value.{Value, Array}
use Rattle.tm_cert.specs.Written.{list_data}

-- one more part
pub written_more : {A : Type 0} (f : A → Data) (xs : List A) (i : ℕ) (d : A) (items new : List Value) (v : Value)
    → map view items ≡ map f (take i xs) → i < length xs → view v ≡ f (get_or xs i d) → new ≡ items ++ v ∷ []
    → map view new ≡ map f (take (i + 1) xs)
written_more f xs i d items new v so_far within is added =
    ap (map view) added ∙ map-append view items (v ∷ [])
    ∙ ap₂ (λ a b. a ++ b ∷ []) so_far is
    ∙ sym (ap (map f) (take_more xs i d within) ∙ map-append f (take i xs) (get_or xs i d ∷ []))

take_all : {A : Type 0} (xs : List A) (i : ℕ) → length xs ≤ i → take i xs ≡ xs
take_all xs i end = grind (arith, common_steps)

-- all parts
pub written_all : {A : Type 0} (f : A → Data) (xs : List A) (i : ℕ) (items : Vec Value Global)
    → map view items.items ≡ map f (take i xs) → length xs ≤ i → view (Array items) ≡ list_data f xs
written_all f xs i items so_far end =
    view-Array items ∙ ap (λ ds. array (items_of ds)) (so_far ∙ ap (map f) (take_all xs i end))

map-items : {A : Type 0} (f : List A → Data) (xs : List (Vec A Global)) → map f (map (λ part. part.items) xs)
    ≡ map (λ part. f part.items) xs
map-items f [] = refl
map-items f (x ∷ xs) = ap (λ ds. f x.items ∷ ds) (map-items f xs)

-- all parts, each a list
pub written_lists : {A : Type 0} (f : List A → Data) (xs : List (Vec A Global)) (i : ℕ) (items : Vec Value Global)
    → map view items.items ≡ map (λ part. f part.items) (take i xs) → length xs ≤ i
    → view (Array items) ≡ list_data f (map (λ part. part.items) xs)
written_lists f xs i items so_far end =
    written_all (λ part. f part.items) xs i items so_far end ∙ ap (λ ds. array (items_of ds)) (sym (map-items f xs))
