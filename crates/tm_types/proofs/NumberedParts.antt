-- The first fault of parts that are told apart by their numbers.
use Rattle.std.proofs.Common.{◌≡◌, ℕ, ◌+◌, ◌<◌, ◌≤◌, Option, None, Some, List, ◌++◌, map, append_assoc, length, drop, get_or, refl, sym, ap, ◌∙◌}
use Rattle.std.specs.List.{flat_map, enumerate_from}
use Rattle.std.specs.Option.{option_to_list}
use Rattle.std.proofs.lemmas.List.{at_drop_more, drop_all}
use Rattle.tm_syntax.specs.Places.{earliest_of}
use Rattle.tm_syntax.specs.Faults.Marks.{Mark, first_mark}
use Rattle.tm_syntax.proofs.Places.{earliest-append}
use Rattle.tm_names.proofs.ScopeLists.{first_of_one}

-- the earlier of two faults
abbrev pub either : Option Mark → Option Mark → Option Mark
either a b = earliest_of (λ (m : Mark). m.place) a b

-- the earliest of three, the first two or the last two taken first
either-assoc : (a b c : Option Mark) → either a (either b c) ≡ either (either a b) c
either-assoc a b c =
    let xs : List Mark = option_to_list a in
    let ys : List Mark = option_to_list b in
    let zs : List Mark = option_to_list c in
    (λ i. either (sym (first_of_one a) i)
    (((λ j. either (sym (first_of_one b) j) (sym (first_of_one c) j))
    ∙ sym (earliest-append (λ (m : Mark). m.place) ys zs)) i))
    ∙ sym (earliest-append (λ (m : Mark). m.place) xs (ys ++ zs))
    ∙ ap first_mark (sym (append_assoc xs ys zs))
    ∙ earliest-append (λ (m : Mark). m.place) (xs ++ ys) zs
    ∙ (λ i. either
    ((earliest-append (λ (m : Mark). m.place) xs ys ∙ (λ j. either (first_of_one a j) (first_of_one b j))) i)
    (first_of_one c i))

either-none : (a : Option Mark) → either a None ≡ a
either-none None = refl
either-none (Some m) = refl

module _ {W X : Type 0} (view : W → X) (faults : ℕ × X → List Mark) (ws : List W) where
  -- the first fault of the parts from a number on
  abbrev pub first_from : ℕ → Option Mark
  first_from i = first_mark (flat_map faults (enumerate_from i (map view (drop i ws))))

  -- what was found before a number is the whole's, joined with what stands from there on
  pub numbered_more : (i : ℕ) (w : W) (old here new whole : Option Mark) → i < length ws → w ≡ get_or ws i w →
      here ≡ first_mark (faults (i, view w)) → new ≡ either old here → either old (first_from i) ≡ whole →
      either new (first_from (i + 1)) ≡ whole
  numbered_more i w old here new whole within is found joined before =
      ap (λ o. either o (first_from (i + 1))) joined
      ∙ sym (either-assoc old here (first_from (i + 1)))
      ∙ ap (either old) (ap (λ o. either o (first_from (i + 1))) found
      ∙ sym (earliest-append (λ (m : Mark). m.place) (faults (i, view w))
      (flat_map faults (enumerate_from (i + 1) (map view (drop (i + 1) ws)))))
      ∙ ap first_mark (sym split))
      ∙ before
    where
      split : flat_map faults (enumerate_from i (map view (drop i ws)))
          ≡ faults (i, view w) ++ flat_map faults (enumerate_from (i + 1) (map view (drop (i + 1) ws)))
      split =
          at_drop_more (λ us. flat_map faults (enumerate_from i (map view us))) ws i w within
          ∙ ap (λ u. faults (i, view u) ++ flat_map faults (enumerate_from (i + 1) (map view (drop (i + 1) ws))))
          (sym is)

  -- at the end it is the whole's
  pub numbered_all : (i : ℕ) (old whole : Option Mark) → length ws ≤ i → either old (first_from i) ≡ whole →
      old ≡ whole
  numbered_all i old whole past before =
      sym (either-none old)
      ∙ ap (λ us. either old (first_mark (flat_map faults (enumerate_from i (map view us)))))
      (sym (drop_all i ws past))
      ∙ before
