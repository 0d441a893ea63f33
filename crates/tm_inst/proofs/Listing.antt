-- What a loop has listed, with what it has left, is the whole.
use Rattle.std.proofs.Common.{map, ◌≡◌, ℕ, ◌+◌, ◌<◌, ◌≤◌, List, [], ◌∷◌, ◌++◌, append_assoc, length, drop, get_or, sym, ap, ◌∙◌, arith}
use Rattle.std.specs.List.{range_with_len}
use Rattle.std.proofs.lemmas.List.FromFn.{map-range_with_len_more}
use Rattle.std.proofs.lemmas.List.{map-append, append-nil, at_drop_more, drop_all}

-- one more part is listed
joined_more : {A : Type 0} (old new part all rest whole : List A) → new ≡ old ++ part → all ≡ part ++ rest →
    old ++ all ≡ whole → new ++ rest ≡ whole
joined_more old new part all rest whole pushed split before =
    ap (λ v. v ++ rest) pushed ∙ append_assoc old part rest ∙ ap (λ v. old ++ v) (sym split) ∙ before

module _ {X A : Type 0} (h : ℕ → List X → List A) (part : ℕ → X → List A)
    (step : (k : ℕ) (x : X) (xs : List X) → h k (x ∷ xs) ≡ part k x ++ h (k + 1) xs) where
  -- one more element of a list is listed
  pub listed_more : (xs : List X) (i : ℕ) (x : X) (old new whole : List A) → i < length xs → x ≡ get_or xs i x →
      new ≡ old ++ part i x → old ++ h i (drop i xs) ≡ whole → new ++ h (i + 1) (drop (i + 1) xs) ≡ whole
  listed_more xs i x old new whole within is pushed before =
      joined_more old new (part i x) (h i (drop i xs)) (h (i + 1) (drop (i + 1) xs)) whole pushed
      (at_drop_more (h i) xs i x within
      ∙ ap (λ y. h i (y ∷ drop (i + 1) xs)) (sym is)
      ∙ step i x (drop (i + 1) xs)) before

  -- at its end the list is listed
  pub listed_all : (xs : List X) (i : ℕ) (old whole : List A) → h i [] ≡ [] → length xs ≤ i →
      old ++ h i (drop i xs) ≡ whole → old ≡ whole
  listed_all xs i old whole none end before =
      sym (append-nil old) ∙ ap (λ v. old ++ v) (sym (ap (h i) (drop_all i xs end) ∙ none)) ∙ before

-- one more element of a list made from a range is listed
pub ranged_more : {X A : Type 0} (f : X → A) (g : ℕ → X) (i : ℕ) (front old new : List A) (x : X) → x ≡ g i →
    new ≡ old ++ f x ∷ [] → old ≡ front ++ map f (map g (range_with_len 0 i)) →
    new ≡ front ++ map f (map g (range_with_len 0 (i + 1)))
ranged_more f g i front old new x made pushed before =
    pushed
    ∙ (λ j. before j ++ f (made j) ∷ [])
    ∙ append_assoc front (map f (map g (range_with_len 0 i))) (f (g i) ∷ [])
    ∙ ap (λ v. front ++ v) (sym (map-append f (map g (range_with_len 0 i)) (g i ∷ []))
    ∙ ap (map f) (sym (map-range_with_len_more g 0 i i (omega arith))))
