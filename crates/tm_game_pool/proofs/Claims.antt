-- The pool begins with the atoms of claims.
use Rattle.std.proofs.Common.{◌≡◌, ℕ, zero, suc, ◌+◌, ◌≤◌, Bool, not, Option, None, Some, List, [], ◌∷◌, ◌++◌, drop, length, map, slice_get, take, refl, sym, ap, ◌∙◌, append_assoc, arith}
use Rattle.std.specs.Option.{option_map_or}
use Rattle.std.specs.List.{filter, flat_map, range_with_len}
use Rattle.std.proofs.lemmas.List.{length-append, length-map, map-append, take_at}
use Rattle.std.proofs.lemmas.List.Elements.{filter-append}
use Rattle.tm_syntax.specs.Design.{DesignTree}
use Rattle.tm_syntax.specs.Design.Atoms.{Atom, claim_atoms, first_atoms, is_lasting, pool_atoms, pooled, process_atoms, resolved_atom, same_atom, task_atoms, without_repeats}
use Rattle.tm_flat_pool.specs.Predicates.{Predicate, of_atom, of_bit, pool, pool_places}
use Rattle.tm_game_pool.specs.Separating.{predicates_at}

-- ---- items by consecutive numbers
take_none : {X : Type 0} (n : ℕ) → take {A = X} n [] ≡ []
take_none zero = refl
take_none (suc n) = refl

dropped : {X : Type 0} (ps : List X) (a : ℕ) (p : X) → slice_get ps a ≡ Some p → drop a ps ≡ p ∷ drop (a + 1) ps
dropped [] a p is = absurd (cc)
dropped (x ∷ xs) zero p is = let same : x ≡ p = cc in ap (λ y. y ∷ xs) same
dropped (x ∷ xs) (suc a) p is =
    let count : suc (a + 1) ≡ suc a + 1 = omega arith in
    dropped xs a p is ∙ ap (λ k. p ∷ drop k (x ∷ xs)) count

nothing : {X : Type 0} (ps : List X) (a : ℕ) → slice_get ps a ≡ None → (drop a ps ≡ []) × (drop (a + 1) ps ≡ [])
nothing [] zero is = (refl, refl)
nothing [] (suc a) is =
    let count : suc (a + 1) ≡ suc a + 1 = omega arith in (refl, sym (ap (λ k. drop k []) count))
nothing (x ∷ xs) zero is = absurd (cc)
nothing (x ∷ xs) (suc a) is =
    let count : suc a + 1 ≡ suc (a + 1) = omega arith in
    let rest = nothing xs a is in (rest.0, ap (λ k. drop k (x ∷ xs)) count ∙ rest.1)

told : {X : Type 0} (ps : List X) (a n : ℕ) → predicates_at ps (range_with_len a n) ≡ take n (drop a ps)
told ps a zero = refl
told {X} ps a (suc n) = by (slice_get ps a) refl (told ps (a + 1) n)
  where
    by : (o : Option X) → slice_get ps a ≡ o → predicates_at ps (range_with_len (a + 1) n) ≡ take n (drop (a + 1) ps) →
        option_map_or (λ p. p ∷ predicates_at ps (range_with_len (a + 1) n)) o
        (predicates_at ps (range_with_len (a + 1) n)) ≡ take (suc n) (drop a ps)
    by (Some p) is rest = ap (λ qs. p ∷ qs) rest ∙ sym (ap (take (suc n)) (dropped ps a p is))
    by None is rest =
        let none = nothing ps a is in
        rest ∙ ap (take n) none.1 ∙ take_none n ∙ sym (ap (take (suc n)) none.0)

-- ---- the pool

-- more behind a list changes nothing of what is kept of it
kept_first : {X : Type 0} (same : X → X → Bool) (xs ys : List X) →
    (zs : List X) × (without_repeats same (xs ++ ys) ≡ without_repeats same xs ++ zs)
kept_first same [] ys = (without_repeats same ys, refl)
kept_first same (x ∷ xs) ys =
    let rest = kept_first same xs ys in (
      filter (λ y. not (same x y)) rest.0,
      ap (λ zs. x ∷ filter (λ y. not (same x y)) zs) rest.1
          ∙ ap (λ zs. x ∷ zs) (filter-append (λ y. not (same x y)) (without_repeats same xs) rest.0),
    )

module _ (d : DesignTree) where
  pooled_first : (xs ys : List Atom) → (zs : List Atom) × (pooled d (xs ++ ys) ≡ pooled d xs ++ zs)
  pooled_first xs ys =
      let rest = kept_first (λ a b. same_atom (resolved_atom d a) (resolved_atom d b))
      (filter (λ a. is_lasting (resolved_atom d a)) xs) (filter (λ a. is_lasting (resolved_atom d a)) ys) in (
        rest.0,
        ap (without_repeats (λ a b. same_atom (resolved_atom d a) (resolved_atom d b)))
            (filter-append (λ a. is_lasting (resolved_atom d a)) xs ys)
            ∙ rest.1,
      )

  atoms_first : (zs : List Atom) × (pool_atoms d ≡ pooled d (claim_atoms d) ++ zs)
  atoms_first =
      let rest = pooled_first (claim_atoms d) (flat_map (process_atoms d) d.processes
      ++ flat_map (task_atoms d) d.tasks) in (
        rest.0,
        ap (pooled d) (append_assoc (claim_atoms d) (flat_map (process_atoms d) d.processes)
            (flat_map (task_atoms d) d.tasks))
            ∙ rest.1,
      )

  -- what stands behind the atoms of claims
  abbrev behind : List Predicate
  behind = map of_atom atoms_first.0 ++ map of_bit (pool_places d)

  pool_parts : pool d ≡ map of_atom (pooled d (claim_atoms d)) ++ behind
  pool_parts =
      ap (λ xs. map of_atom xs ++ map of_bit (pool_places d)) atoms_first.1
      ∙ ap (λ xs. xs ++ map of_bit (pool_places d)) (map-append of_atom (pooled d (claim_atoms d)) atoms_first.0)
      ∙ append_assoc (map of_atom (pooled d (claim_atoms d))) (map of_atom atoms_first.0) (map of_bit (pool_places d))

  pub first_within : first_atoms d ≤ length (pool d)
  first_within =
      omega (
        arith,
        ap length pool_parts,
        length-append (map of_atom (pooled d (claim_atoms d))) behind,
        length-map (pooled d (claim_atoms d)) of_atom,
      )

  pub claims_first : predicates_at (pool d) (range_with_len 0 (first_atoms d))
      ≡ map of_atom (pooled d (claim_atoms d))
  claims_first =
      told (pool d) 0 (first_atoms d)
      ∙ ap (take (first_atoms d)) pool_parts
      ∙ take_at (map of_atom (pooled d (claim_atoms d))) behind (first_atoms d)
      (length-map (pooled d (claim_atoms d)) of_atom)
