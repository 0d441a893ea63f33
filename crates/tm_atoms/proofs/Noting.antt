-- Atoms that are noted one behind the other: what is left is the pool, and what has been noted adds nothing.
use Rattle.std.proofs.Common.{◌≡◌, Bool, true, false, cond, not, List, [], ◌∷◌, ◌++◌, append-nil, append_assoc, refl, sym, ap, ◌∙◌, subst, true≢false}
use Rattle.std.specs.Prelude.{◌&&◌, ◌||◌}
use Rattle.std.specs.List.{filter, list_any}
use Rattle.std.proofs.lemmas.List.Folds.{list_any-append}
use Rattle.tm_syntax.specs.Design.{DesignTree}
use Rattle.tm_syntax.specs.Design.Atoms.{Atom, is_lasting, pooled, resolved_atom, same_atom, without_repeats}
use Rattle.tm_atoms.specs.Pool.{AreNoted, IsNoted, is_among, with_atom, with_atoms}
use Rattle.tm_atoms.proofs.SameAtoms.{atom-is, atom-itself}

or-true : (b : Bool) → (b || true) ≡ true
or-true true = refl
or-true false = refl

and-false : (b : Bool) → (b && false) ≡ false
and-false true = refl
and-false false = refl

module _ {X : Type 0} where
  -- what passes both of two tests
  filter-twice : (p q : X → Bool) (xs : List X) → filter p (filter q xs) ≡ filter (λ x. q x && p x) xs
  filter-twice p q [] = refl
  filter-twice p q (x ∷ xs) = by (q x) (filter-twice p q xs)
    where
      by : (b : Bool) → filter p (filter q xs) ≡ filter (λ x. q x && p x) xs →
          filter p (cond b (x ∷ filter q xs) (filter q xs))
          ≡ cond (b && p x) (x ∷ filter (λ x. q x && p x) xs) (filter (λ x. q x && p x) xs)
      by true rest = ap (λ ys. cond (p x) (x ∷ ys) ys) rest
      by false rest = rest

  -- tests that agree everywhere
  filter-same : (p q : X → Bool) → ((x : X) → p x ≡ q x) → (xs : List X) → filter p xs ≡ filter q xs
  filter-same p q same [] = refl
  filter-same p q same (x ∷ xs) =
      ap (λ b. cond b (x ∷ filter p xs) (filter p xs)) (same x)
      ∙ ap (λ ys. cond (q x) (x ∷ ys) ys) (filter-same p q same xs)

-- tests of a place behind some, and of one of them
neither : (a b : Bool) → not (a || (b || false)) ≡ (not b && not a)
neither true true = refl
neither true false = refl
neither false true = refl
neither false false = refl

module _ (d : DesignTree) where
  abbrev same : Atom → Atom → Bool
  same a b = same_atom (resolved_atom d a) (resolved_atom d b)

  abbrev lasts : Atom → Bool
  lasts a = is_lasting (resolved_atom d a)

  -- the atoms that are left of some, where none of a pool is noted again
  abbrev left_of : List Atom → List Atom → List Atom
  left_of pool atoms = filter (λ y. not (is_among d pool y)) (without_repeats same (filter lasts atoms))

  -- an atom is among some where one that is the same is
  among-same : (pool : List Atom) (a b : Atom) → same a b ≡ true → is_among d pool a ≡ true →
      is_among d pool b ≡ true
  among-same pool a b is there =
      ap (λ r. list_any (λ p. same_atom (resolved_atom d p) r) pool)
      (sym (atom-is (resolved_atom d a) (resolved_atom d b) is)) ∙ there

  -- where an atom is among some, what is none of them is no repeat of it either
  no-repeat : (pool : List Atom) (a : Atom) → is_among d pool a ≡ true → (y : Atom) →
      (not (same a y) && not (is_among d pool y)) ≡ not (is_among d pool y)
  no-repeat pool a there y = by (same a y) refl
    where
      by : (b : Bool) → same a y ≡ b → (not b && not (is_among d pool y)) ≡ not (is_among d pool y)
      by true is = ap not (sym (among-same pool a y is there))
      by false is = refl

  pub noted-is : (pool atoms : List Atom) → with_atoms d pool atoms ≡ pool ++ left_of pool atoms
  noted-is pool [] = sym (append-nil pool)
  noted-is pool (a ∷ atoms) =
      by (lasts a) (is_among d pool a) refl (noted-is pool atoms) (noted-is (pool ++ a ∷ []) atoms)
    where
      rest : List Atom
      rest = without_repeats same (filter lasts atoms)

      outside : List Atom → Atom → Bool
      outside pool y = not (is_among d pool y)

      by : (l among : Bool) → is_among d pool a ≡ among → with_atoms d pool atoms ≡ pool ++ left_of pool atoms →
          with_atoms d (pool ++ a ∷ []) atoms ≡ (pool ++ a ∷ []) ++ left_of (pool ++ a ∷ []) atoms →
          with_atoms d (cond (l && not among) (pool ++ a ∷ []) pool) atoms
          ≡ pool ++ filter (λ y. not (is_among d pool y))
          (without_repeats same (cond l (a ∷ filter lasts atoms) (filter lasts atoms)))
      by false among e without with = without
      by true true e without with =
          without
          ∙ ap (λ ys. pool ++ ys) (sym (filter-twice (outside pool) (λ y. not (same a y)) rest
          ∙ filter-same (λ y. not (same a y) && outside pool y) (outside pool) (no-repeat pool a e) rest))
          ∙ ap (λ b. pool ++ cond (not b) (a ∷ filter (outside pool) (filter (λ y. not (same a y)) rest))
          (filter (outside pool) (filter (λ y. not (same a y)) rest))) (sym e)
      by true false e without with =
          with ∙ append_assoc pool (a ∷ []) (left_of (pool ++ a ∷ []) atoms)
          ∙ ap (λ ys. pool ++ (a ∷ ys))
          (filter-same (outside (pool ++ a ∷ [])) (λ y. not (same a y) && outside pool y)
          (λ y. ap not (list_any-append (λ p. same p y) pool (a ∷ [])) ∙ neither (is_among d pool y) (same a y)) rest
          ∙ sym (filter-twice (outside pool) (λ y. not (same a y)) rest))
          ∙ ap (λ b. pool ++ cond (not b) (a ∷ filter (outside pool) (filter (λ y. not (same a y)) rest))
          (filter (outside pool) (filter (λ y. not (same a y)) rest))) (sym e)

  every : (xs : List Atom) → filter (λ y. not (is_among d [] y)) xs ≡ xs
  every [] = refl
  every (x ∷ xs) = ap (λ ys. x ∷ ys) (every xs)

  pub pooled_is : (atoms : List Atom) → with_atoms d [] atoms ≡ pooled d atoms
  pooled_is atoms = noted-is [] atoms ∙ every (without_repeats same (filter lasts atoms))

  pub with_both : (pool xs ys : List Atom) → with_atoms d pool (xs ++ ys) ≡ with_atoms d (with_atoms d pool xs) ys
  with_both pool [] ys = refl
  with_both pool (x ∷ xs) ys = with_both (with_atom d pool x) xs ys

  -- what is noted stays noted
  stays : (pool more : List Atom) (a : Atom) → IsNoted d pool a → IsNoted d (pool ++ more) a
  stays pool more a noted =
      by (lasts a) (is_among d pool a) (is_among d (pool ++ more) a) (is_among d more a)
      (list_any-append (λ p. same p a) pool more) noted
    where
      by : (l now later other : Bool) → later ≡ (now || other) → (l && not now) ≡ false →
          (l && not later) ≡ false
      by false now later other e h = refl
      by true true later other e h = ap not e
      by true false later other e h = absurd (true≢false h)

  pub noted-later : (pool ys : List Atom) (a : Atom) → IsNoted d pool a → IsNoted d (with_atoms d pool ys) a
  noted-later pool ys a noted =
      subst (λ pool. IsNoted d pool a) (sym (noted-is pool ys)) (stays pool (left_of pool ys) a noted)

  pub all-later : (pool ys xs : List Atom) → AreNoted d pool xs → AreNoted d (with_atoms d pool ys) xs
  all-later pool ys [] noted = tt
  all-later pool ys (x ∷ xs) noted = (noted-later pool ys x noted.0, all-later pool ys xs noted.1)

  -- an atom is noted
  noted-one : (pool : List Atom) (a : Atom) → IsNoted d (with_atom d pool a) a
  noted-one pool a = by (lasts a) refl (is_among d pool a) refl
    where
      own : is_among d (pool ++ a ∷ []) a ≡ true
      own = list_any-append (λ p. same p a) pool (a ∷ [])
          ∙ ap (λ b. is_among d pool a || (b || false)) (atom-itself (resolved_atom d a))
          ∙ or-true (is_among d pool a)

      by : (l : Bool) → lasts a ≡ l → (among : Bool) → is_among d pool a ≡ among →
          (lasts a && not (is_among d (cond (l && not among) (pool ++ a ∷ []) pool) a)) ≡ false
      by false is among e = ap (λ l. l && not (is_among d pool a)) is
      by true is true e = ap (λ b. lasts a && not b) e ∙ and-false (lasts a)
      by true is false e = ap (λ b. lasts a && not b) own ∙ and-false (lasts a)

  pub noted-all : (pool xs : List Atom) → AreNoted d (with_atoms d pool xs) xs
  noted-all pool [] = tt
  noted-all pool (x ∷ xs) =
      (noted-later (with_atom d pool x) xs x (noted-one pool x), noted-all (with_atom d pool x) xs)

  -- what is noted adds nothing
  pub adds-nothing : (pool xs : List Atom) → AreNoted d pool xs → with_atoms d pool xs ≡ pool
  adds-nothing pool [] noted = refl
  adds-nothing pool (x ∷ xs) noted =
      ap (λ b. with_atoms d (cond b (pool ++ x ∷ []) pool) xs) noted.0 ∙ adds-nothing pool xs noted.1

  pub noted_before : (pool xs ys : List Atom) →
      with_atoms d (with_atoms d (with_atoms d pool xs) ys) xs ≡ with_atoms d (with_atoms d pool xs) ys
  noted_before pool xs ys =
      adds-nothing (with_atoms d (with_atoms d pool xs) ys) xs
      (all-later (with_atoms d pool xs) ys xs (noted-all pool xs))
