-- Atoms are joined to a set one by one.
use Rattle.std.proofs.Common.{◌≡◌, ◌⊎◌, inl, inr, ℕ, zero, suc, ◌<◌, Bool, true, List, [], ◌∷◌, ◌++◌, length, refl, ◌∙◌, subst, arith}
use Rattle.std.specs.Prelude.{Contains, IsPermutation, slice_index_or}
use Rattle.std.proofs.lemmas.List.Elements.{All-nil, All-push, Contains-append_left, Contains-append_right, Contains-push, Contains-push_cases}
use Rattle.std.proofs.lemmas.List.Sorted.{Contains-permutation, IsPermutation-sym}
use Rattle.tm_abs.proofs.Marking.{listed_more, no_level}
use Rattle.tm_abs.specs.declared.atoms.Atom.{Atom}
use Rattle.tm_abs.specs.Inner.Atoms.{ReadsWithin}
use Rattle.tm_abs.specs.Inner.Joining.{IsJoining}
use Rattle.tm_abs.specs.Inner.Marks.{AreMarked}
use Rattle.tm_ddops.specs.Quantified.{is_marked_level}

-- an item of a list with one more in front
pub cons_cases : (x : Atom) (xs : List Atom) (y : Atom) → Contains (x ∷ xs) y → (x ≡ y) ⊎ Contains xs y
cons_cases x xs y h = by_place h.0 h.1 h.2
  where
    by_place : (i : ℕ) → i < length (x ∷ xs) → slice_index_or (x ∷ xs) i y ≡ y → (x ≡ y) ⊎ Contains xs y
    by_place zero below is = inl is
    by_place (suc i) below is = inr (i, omega (arith, below), is)

module _ (free : List Bool) (reads : List ℕ) where
  -- before any is
  pub join_begun : (marks after : List Bool) (longer : List ℕ) → length marks ≡ length free →
      ((k : ℕ) → ¬ (is_marked_level marks k ≡ true)) → AreMarked free reads marks [] after longer →
      (waiting : List Atom) → IsJoining free reads waiting after longer [] waiting
  join_begun marks after longer long none are waiting = record {
    count = are.count ∙ long;
    only_free = λ k h. elim ((are.marks_are k).0 h) [
      | inl there ↦ absurd (none k there)
      | inr other ↦ other.1
    ];
    listed = listed_more free reads marks [] after longer
        (λ k. (λ h. absurd (no_level k h), λ h. absurd (none k h))) are;
    set = λ k read may. (are.marks_are k).1 (inr (read, may));
    joined = All-nil (λ (a : Atom). ReadsWithin free after a.reads.items);
    all = λ a. (
      λ h. inr h,
      λ h. elim h [ inl there ↦ absurd (omega (arith, there.1)) | inr there ↦ there ],
    );
  }

  module _ (first : List Atom) (marks : List Bool) (levels : List ℕ) (atoms left rest : List Atom) (atom : Atom)
      (joining : IsJoining free reads first marks levels atoms left) (after : List Bool) (longer : List ℕ)
      (are : AreMarked free atom.reads.items marks levels after longer)
      (moved : IsPermutation left (atom ∷ rest)) where
    more : (k : ℕ) → is_marked_level marks k ≡ true → is_marked_level after k ≡ true
    more k h = (are.marks_are k).1 (inl h)

    within_more : (a : Atom) → ReadsWithin free marks a.reads.items → ReadsWithin free after a.reads.items
    within_more a within k read may = more k (within k read may)

    all_then : (a : Atom) → Contains first a → Contains (atoms ++ atom ∷ []) a ⊎ Contains rest a
    all_then a h =
        elim ((joining.all a).0 h) [
          | inl there ↦ inl (Contains-append_left atoms (atom ∷ []) a there)
          | inr there ↦ elim (cons_cases atom rest a (Contains-permutation left (atom ∷ rest) a moved there)) [
            | inl e ↦ inl (subst (Contains (atoms ++ atom ∷ [])) e (Contains-push atoms atom))
            | inr last ↦ inr last
          ]
        ]

    then_all : (a : Atom) → Contains (atoms ++ atom ∷ []) a ⊎ Contains rest a → Contains first a
    then_all a (inl h) =
        elim (Contains-push_cases atoms atom a h) [
          | inl there ↦ (joining.all a).1 (inl there)
          | inr e ↦ (joining.all a).1 (inr (Contains-permutation (atom ∷ rest) left a
              (IsPermutation-sym left (atom ∷ rest) moved)
              (subst (Contains (atom ∷ rest)) e (0, omega arith, refl))))
        ]
    then_all a (inr h) =
        (joining.all a).1 (inr (Contains-permutation (atom ∷ rest) left a
        (IsPermutation-sym left (atom ∷ rest) moved) (Contains-append_right (atom ∷ []) rest a h)))

    pub joined_more : IsJoining free reads first after longer (atoms ++ atom ∷ []) rest
    joined_more = record {
      count = are.count ∙ joining.count;
      only_free = λ k h. elim ((are.marks_are k).0 h) [
        | inl there ↦ joining.only_free k there
        | inr other ↦ other.1
      ];
      listed = listed_more free atom.reads.items marks levels after longer joining.listed are;
      set = λ k read may. more k (joining.set k read may);
      joined = All-push (λ (a : Atom). ReadsWithin free after a.reads.items) atoms atom
          (λ k d below. within_more (slice_index_or atoms k d) (joining.joined k d below))
          (λ k read may. (are.marks_are k).1 (inr (read, may)));
      all = λ a. (all_then a, then_all a);
    }
