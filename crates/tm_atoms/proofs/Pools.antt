-- A pool, and what is added to it.
use Rattle.std.proofs.Common.{◌≡◌, ℕ, Bool, true, false, cond, not, Option, Some, List, [], ◌∷◌, ◌++◌, is_some, map, refl, sym, ap, ◌∙◌, subst, arith}
use Rattle.std.specs.Prelude.{nat_eq, ◌&&◌, ◌||◌}
use Rattle.std.specs.List.{AllByRecursion}
use Rattle.std.specs.Map.{lookup}
use Rattle.std.proofs.lemmas.Bool.Decides.{nat_tests}
use Rattle.std.proofs.lemmas.List.{map-append}
use Rattle.tm_syntax.specs.Design.{DesignTree}
use Rattle.tm_syntax.specs.Design.Atoms.{Atom, is_lasting, resolved_atom}
use Rattle.tm_atoms.specs.declared.atom.AtomAt.{AtomAt}
use Rattle.tm_atoms.specs.declared.resolved.Numbered.{Numbered}
use Rattle.tm_atoms.specs.Atoms.{atom_of}
use Rattle.tm_atoms.specs.Pool.{is_among, with_atoms}
use Rattle.tm_atoms.specs.Inner.Numbers.{IsNumber, IsNumbered, IsSound, NumberTables}
use Rattle.tm_atoms.specs.Inner.Pools.{Adds, AreNumbered, HasAdded, PoolTables, noted_atoms}
use Rattle.tm_atoms.proofs.Noting.{with_both}
use Rattle.tm_atoms.proofs.Numbered.{atoms-by_number}

-- two numbers are one in either order
turned : (j k : ℕ) → nat_eq j k ≡ nat_eq k j
turned j k = grind (arith, nat_tests)

module _ (d : DesignTree) where
  -- an atom is among those of a pool exactly where its number is
  among-by_number : (t : NumberTables) → IsSound t → (es : List (ℕ × AtomAt)) →
      AllByRecursion (λ e. IsNumber t e.0 (resolved_atom d (atom_of e.1))) es → (n : ℕ) (a : Atom) →
      IsNumber t n (resolved_atom d a) →
      is_among d (map (λ e. atom_of e.1) es) a ≡ is_some (lookup (nat_eq n) es)
  among-by_number t sound [] all n a is = refl
  among-by_number t sound (e ∷ es) all n a is =
      let here = atoms-by_number t sound all.0 is ∙ turned e.0 n in
      (λ i. here i || among-by_number t sound es all.1 n a is i) ∙ by (nat_eq n e.0) (lookup (nat_eq n) es)
    where
      by : (b : Bool) (found : Option AtomAt) → (b || is_some found) ≡ is_some (cond b (Some e.1) found)
      by true found = refl
      by false found = refl

  -- a part behind others
  all-behind : {X : Type 0} (P : X → Type 0) (xs : List X) (x : X) → AllByRecursion P xs → P x →
      AllByRecursion P (xs ++ x ∷ [])
  all-behind P [] x all last = (last, tt)
  all-behind P (y ∷ xs) x all last = (all.0, all-behind P xs x all.1 last)

  -- an atom is put behind the others
  pub added-new : (p : PoolTables) (es : List (ℕ × AtomAt)) (n : Numbered) (a : AtomAt) → IsSound p.numbers →
      IsNumbered p.numbers n (resolved_atom d (atom_of a)) → n.lasting ≡ true →
      is_some (lookup (nat_eq n.number) p.atoms) ≡ false → es ≡ p.atoms ++ (n.number, a) ∷ [] → AreNumbered d p →
      HasAdded d p (record { numbers = p.numbers; atoms = es }) (atom_of a ∷ [])
  added-new p es n a sound is lasts absent entries numbered =
      subst (λ es. HasAdded d p (record { numbers = p.numbers; atoms = es }) (atom_of a ∷ [])) (sym entries) (record {
        numbered = all-behind (λ (e : ℕ × AtomAt). IsNumber p.numbers e.0 (resolved_atom d (atom_of e.1))) p.atoms
            (n.number, a) numbered is.number;
        are = map-append (λ (e : ℕ × AtomAt). atom_of e.1) p.atoms ((n.number, a) ∷ [])
            ∙ sym (ap (λ b. cond b (noted_atoms p ++ atom_of a ∷ []) (noted_atoms p)) passed);
      })
    where
      among : is_among d (noted_atoms p) (atom_of a) ≡ false
      among = among-by_number p.numbers sound p.atoms numbered n.number (atom_of a) is.number ∙ absent

      passed : (is_lasting (resolved_atom d (atom_of a)) && not (is_among d (noted_atoms p) (atom_of a))) ≡ true
      passed = λ i. (sym is.lasting ∙ lasts) i && not (among i)

  -- an atom that is there, or lives for one step, adds nothing
  pub added-nothing : (p : PoolTables) (n : Numbered) (a : AtomAt) → IsSound p.numbers →
      IsNumbered p.numbers n (resolved_atom d (atom_of a)) →
      (n.lasting && not (is_some (lookup (nat_eq n.number) p.atoms))) ≡ false → AreNumbered d p →
      HasAdded d p p (atom_of a ∷ [])
  added-nothing p n a sound is outside numbered = record {
    numbered = numbered;
    are = sym (ap (λ b. cond b (noted_atoms p ++ atom_of a ∷ []) (noted_atoms p)) passed);
  }
    where
      passed : (is_lasting (resolved_atom d (atom_of a)) && not (is_among d (noted_atoms p) (atom_of a))) ≡ false
      passed =
          (λ i. sym is.lasting i
          && not (among-by_number p.numbers sound p.atoms numbered n.number (atom_of a) is.number i))
          ∙ outside

  pub adds-none : (p : PoolTables) → Adds d p p []
  adds-none p = λ numbered. record { numbered = numbered; are = refl }

  pub adds-then : (p q r : PoolTables) (xs ys : List Atom) → Adds d p q xs → Adds d q r ys → Adds d p r (xs ++ ys)
  adds-then p q r xs ys first second = λ numbered.
      let a = first numbered in
      let b = second a.numbered in
      record {
        numbered = b.numbered;
        are = b.are ∙ ap (λ pool. with_atoms d pool ys) a.are ∙ sym (with_both d (noted_atoms p) xs ys);
      }
