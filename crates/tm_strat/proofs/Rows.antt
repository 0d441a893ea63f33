-- Rows of numbers that are copied.
use Rattle.std.proofs.Common.{◌≡◌, ℕ, ◌+◌, ◌<◌, List, [], ◌∷◌, ◌++◌, Vec, length, get_or, map, take, sym, ap, ◌∙◌}
use Rattle.std.proofs.lemmas.List.{map-append, take_more}
use Rattle.std.specs.declared.alloc.Global.{Global}

-- the numbers of a row
abbrev items_of : Vec ℕ Global → List ℕ
items_of r = r.items

-- one row more
pub rows_more : (rows all more : List (Vec ℕ Global)) (k : ℕ) (row copy : Vec ℕ Global) →
    map (λ r. r.items) all ≡ map (λ r. r.items) (take k rows) → k < length rows → row ≡ get_or rows k row →
    copy.items ≡ row.items → more ≡ all ++ copy ∷ [] →
    map (λ r. r.items) more ≡ map (λ r. r.items) (take (k + 1) rows)
rows_more rows all more k row copy before below is same items =
    ap (map items_of) items
    ∙ map-append items_of all (copy ∷ [])
    ∙ (λ i. before i ++ same i ∷ [])
    ∙ sym (map-append items_of (take k rows) (row ∷ []))
    ∙ ap (λ (r : Vec ℕ Global). map items_of (take k rows ++ r ∷ [])) is
    ∙ ap (map items_of) (sym (take_more rows k row below))
