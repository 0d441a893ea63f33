-- The first fault of the pairs of two lists.
use Rattle.std.proofs.Common.{◌≡◌, ◌⊎◌, Option, None, Some, List, [], ◌∷◌, ◌++◌, append_assoc, refl, sym, ap, ◌∙◌, inl, inr}
use Rattle.std.specs.List.{flat_map, zip}
use Rattle.std.specs.Option.{option_to_list}
use Rattle.tm_base.specs.declared.place.Place.{Place}
use Rattle.tm_syntax.specs.Places.{earliest_of}
use Rattle.tm_syntax.proofs.Places.{earliest-append}
use Rattle.tm_types.specs.Firsts.{first_of}

-- the earlier of two places that may be there
abbrev pub either : Option Place → Option Place → Option Place
either a b = earliest_of (λ (at : Place). at) a b

-- a place that may be there is the first of itself
of_one : (o : Option Place) → first_of (option_to_list o) ≡ o
of_one None = refl
of_one (Some at) = refl

joined : (xs ys : List Place) → first_of (xs ++ ys) ≡ either (first_of xs) (first_of ys)
joined xs ys = earliest-append (λ (at : Place). at) xs ys

-- the earliest of three, the first two or the last two taken first
either-assoc : (a b c : Option Place) → either a (either b c) ≡ either (either a b) c
either-assoc a b c =
    let xs : List Place = option_to_list a in
    let ys : List Place = option_to_list b in
    let zs : List Place = option_to_list c in
    (λ i. either (sym (of_one a) i) (either (sym (of_one b) i) (sym (of_one c) i)))
    ∙ ap (either (first_of xs)) (sym (joined ys zs))
    ∙ sym (joined xs (ys ++ zs))
    ∙ ap first_of (sym (append_assoc xs ys zs))
    ∙ joined (xs ++ ys) zs
    ∙ ap (λ o. either o (first_of zs)) (joined xs ys)
    ∙ (λ i. either (either (of_one a i) (of_one b i)) (of_one c i))

either-none : (a : Option Place) → either a None ≡ a
either-none None = refl
either-none (Some at) = refl

module _ {A B : Type 0} (f : A × B → List Place) where
  -- what was found before a pair is the whole's, joined with what stands from there on
  pub zipped_more : (us xs : List A) (x : A) (vs ys : List B) (y : B) (old here new whole : Option Place) →
      us ≡ x ∷ xs → vs ≡ y ∷ ys → here ≡ first_of (f (x, y)) → new ≡ either old here →
      either old (first_of (flat_map f (zip us vs))) ≡ whole → either new (first_of (flat_map f (zip xs ys))) ≡ whole
  zipped_more us xs x vs ys y old here new whole first second found both before =
      let rest : Option Place = first_of (flat_map f (zip xs ys)) in
      ap (λ o. either o rest) both
      ∙ sym (either-assoc old here rest)
      ∙ ap (λ o. either old (either o rest)) found
      ∙ ap (either old) (sym (joined (f (x, y)) (flat_map f (zip xs ys))))
      ∙ (λ i. either old (first_of (flat_map f (zip (sym first i) (sym second i)))))
      ∙ before

  -- at the end of one of the lists it is the whole's
  pub zipped_all : (xs : List A) (ys : List B) (old whole : Option Place) → (xs ≡ []) ⊎ (ys ≡ []) →
      either old (first_of (flat_map f (zip xs ys))) ≡ whole → old ≡ whole
  zipped_all xs ys old whole ended before = sym (either-none old) ∙ ap (either old) (sym (none xs ys ended)) ∙ before
    where
      none : (us : List A) (vs : List B) → (us ≡ []) ⊎ (vs ≡ []) → first_of (flat_map f (zip us vs)) ≡ None
      none us vs (inl e) = ap (λ ws. first_of (flat_map f (zip ws vs))) e
      none [] vs (inr e) = refl
      none (u ∷ us) vs (inr e) = ap (λ ws. first_of (flat_map f (zip (u ∷ us) ws))) e
