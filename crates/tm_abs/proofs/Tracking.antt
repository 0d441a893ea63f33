-- The tracked predicates are read one by one.
use Rattle.std.proofs.Common.{◌≡◌, inl, inr, ℕ, ◌<◌, Bool, true, false, List, [], ◌∷◌, ◌++◌, Option, Some, None, length, set, replicate, refl, sym, ap, ◌∙◌, subst, arith, true≢false}
use Rattle.std.specs.Prelude.{◌≢◌, All, Contains, slice_get, slice_index_or}
use Rattle.std.specs.Option.{option_map_or}
use Rattle.std.proofs.lemmas.Bool.{cases_eq}
use Rattle.std.proofs.lemmas.List.{get_or-replicate, get_or-set_other, get_or-set_same, length-replicate, length-set}
use Rattle.std.proofs.lemmas.List.Elements.{All-contains, All-nil, All-push, Contains-append_left, Contains-push, Contains-push_cases}
use Rattle.tm_abs.proofs.Predicates.{same_bits}
use Rattle.tm_abs.specs.declared.atoms.Atom.{Atom}
use Rattle.tm_abs.specs.Inner.Atoms.{AreApart, AreTracked, IsAtom, IsKept, IsNumbered, IsShown}
use Rattle.tm_abs.specs.Inner.Reading.{IsPoolFunction, IsPredicate, Tells, TellsOne, bit_at}
use Rattle.tm_abs.specs.Tracked.{tracked_of}
use Rattle.tm_blast.specs.Bits.{input_values}
use Rattle.tm_dd.specs.declared.node.NodeId.{NodeId}
use Rattle.tm_dd.specs.Reduced.{Extends}
use Rattle.tm_dd.specs.Table.{Table, Knows, means}
use Rattle.tm_flat_pool.specs.Predicates.{Predicate, pool}
use Rattle.tm_game.specs.Game.{GameData}
use Rattle.tm_game_bits.proofs.Extended.{Knows-Extends, means-Extends}
use Rattle.tm_game_bits.specs.Functions.{Assignment, Function}
use Rattle.tm_game_bits.specs.Inputs.{input_levels}
use Rattle.tm_game_pool.specs.Separating.{predicates_at}
use Rattle.tm_sem.specs.StateBits.{state_widths}
use Rattle.tm_syntax.specs.Design.{DesignTree}
use Rattle.tm_term.specs.declared.term.TermId.{TermId}
use Rattle.tm_term.specs.Value.{value_of}

-- ---- the tracked predicates
pub predicates_at-append : (ps : List Predicate) (xs ys : List ℕ) →
    predicates_at ps (xs ++ ys) ≡ predicates_at ps xs ++ predicates_at ps ys
predicates_at-append ps [] ys = refl
predicates_at-append ps (k ∷ xs) ys = by (slice_get ps k) (predicates_at-append ps xs ys)
  where
    by : (o : Option Predicate) →
        predicates_at ps (xs ++ ys) ≡ predicates_at ps xs ++ predicates_at ps ys →
        option_map_or (λ p. p ∷ predicates_at ps (xs ++ ys)) o (predicates_at ps (xs ++ ys))
        ≡ option_map_or (λ p. p ∷ predicates_at ps xs) o (predicates_at ps xs) ++ predicates_at ps ys
    by None e = e
    by (Some p) e = ap (λ (qs : List Predicate). p ∷ qs) e

pub tracked_one : (d : DesignTree) (k : ℕ) (p : Predicate) → slice_get (pool d) k ≡ Some p →
    tracked_of d (k ∷ []) ≡ p ∷ []
tracked_one d k p is = ap (λ (o : Option Predicate). option_map_or (λ q. q ∷ []) o []) is

-- ---- what stays when diagrams are added
module _ (s t : Table) (e : Extends s t) where
  pub atom_kept : (count : ℕ) (a : Atom) → IsAtom count s a → IsAtom count t a
  atom_kept count a is = record {
    behind = is.behind;
    there = let same = e.same_levels in let below = is.there in omega (arith, same, below);
    known = Knows-Extends s t e a.holds is.known;
    reads = subst (λ (f : Function). (v w : Assignment) → ((k : ℕ) → Contains a.reads.items k → v k ≡ w k) → f v ≡ f w)
        (sym (means-Extends s t e a.holds is.known)) is.reads;
    inputs = is.inputs;
  }

  pub atoms_kept : (count : ℕ) (atoms : List Atom) → All (IsAtom count s) atoms → All (IsAtom count t) atoms
  atoms_kept count atoms all k a below = atom_kept count (slice_index_or atoms k a) (all k a below)

  module _ (d : DesignTree) (g : GameData) (predicates : List Predicate) (free : List Bool) (atoms : List Atom)
      (tracked : AreTracked d g s predicates free atoms) where
    same : (k : ℕ) (a : Atom) → k < length atoms →
        means s (slice_index_or atoms k a).holds ≡ means t (slice_index_or atoms k a).holds
    same k a below = sym (means-Extends s t e (slice_index_or atoms k a).holds (tracked.known k a below))

    same_in : (a : Atom) → Contains atoms a → means s a.holds ≡ means t a.holds
    same_in a there =
        sym (means-Extends s t e a.holds (All-contains (λ (b : Atom). Knows s b.holds) atoms a tracked.known there))

    shown_kept : (f : Function) → IsShown s free atoms f → IsShown t free atoms f
    shown_kept f (inl bit) = inl bit
    shown_kept f (inr atom) = inr (atom.0, atom.1, atom.2 ∙ same_in atom.0 atom.1)

    pub tracked_kept : AreTracked d g t predicates free atoms
    tracked_kept = record {
      bits = tracked.bits;
      known = λ k a below. Knows-Extends s t e (slice_index_or atoms k a).holds (tracked.known k a below);
      told = λ k a below.
          subst (TellsOne d g.order predicates) (same k a below) (tracked.told k a below);
      numbered = λ k a below.
          let old = tracked.numbered k a below in (
            old.0,
            old.1 ∙ sym e.same_levels,
            subst (IsPoolFunction d g old.0) (same k a below) old.2,
          );
      each = λ p there.
          let old = tracked.each p there in
          (old.0, shown_kept old.0 old.1, old.2);
    }

-- ---- one predicate more
module _ (d : DesignTree) (g : GameData) (s : Table) where
  -- of none
  pub tracked_none : (n : ℕ) → AreTracked d g s [] (replicate n true) []
  tracked_none n = record {
    bits = λ k kept.
        let below = kept.0 in
        let inside : k < n = omega (arith, below, length-replicate n true) in
        absurd (true≢false (sym (get_or-replicate n k true false inside) ∙ kept.1));
    known = All-nil (λ (a : Atom). Knows s a.holds);
    told = All-nil (λ (a : Atom). TellsOne d g.order [] (means s a.holds));
    numbered = All-nil (IsNumbered d g s);
    each = λ p there. absurd (omega (arith, there.1));
  }

  module _ (predicates : List Predicate) (free : List Bool) (atoms : List Atom)
      (tracked : AreTracked d g s predicates free atoms) (k : ℕ) (p : Predicate) (is : slice_get (pool d) k ≡ Some p)
      (id : NodeId) (predicate : IsPredicate d g s k id) where
    one_more : (f : Function) → TellsOne d g.order predicates f → TellsOne d g.order (predicates ++ p ∷ []) f
    one_more f told = (told.0, Contains-append_left predicates (p ∷ []) told.0 told.1, told.2)

    -- which is a bit
    module _ (level : ℕ) (below : level < length free) (same : means s id ≡ bit_at level) where
      old_bit : (j : ℕ) → j ≢ level → IsKept (set free level false) j → IsKept free j
      old_bit j other kept =
          let inside = kept.0 in (
            omega (arith, inside, length-set free level false),
            sym (get_or-set_other free level j false false other) ∙ kept.1,
          )

      new_bit : IsKept (set free level false) level
      new_bit = (omega (arith, below, length-set free level false), get_or-set_same free level false false below)

      bit_still : (j : ℕ) → IsKept free j → IsKept (set free level false) j
      bit_still j kept =
          elim (cases_eq j level) [
            | inl e ↦ subst (IsKept (set free level false)) (sym e) new_bit
            | inr other ↦
                let inside = kept.0 in (
                  omega (arith, inside, length-set free level false),
                  get_or-set_other free level j false false other ∙ kept.1,
                )
          ]

      tells_bit : Tells d g.order (bit_at level) p
      tells_bit v valid = sym (λ i. same i v) ∙ predicate.tells p is v valid

      bits_now : (j : ℕ) → IsKept (set free level false) j → TellsOne d g.order (predicates ++ p ∷ []) (bit_at j)
      bits_now j kept =
          elim (cases_eq j level) [
            | inl e ↦
                subst (λ (n : ℕ). TellsOne d g.order (predicates ++ p ∷ []) (bit_at n)) (sym e)
                (p, Contains-push predicates p, tells_bit)
            | inr other ↦ one_more (bit_at j) (tracked.bits j (old_bit j other kept))
          ]

      shown_still : (f : Function) → IsShown s free atoms f → IsShown s (set free level false) atoms f
      shown_still f (inl bit) = inl (bit.0, bit_still bit.0 bit.1, bit.2)
      shown_still f (inr atom) = inr atom

      pub tracked_bit : AreTracked d g s (predicates ++ tracked_of d (k ∷ [])) (set free level false) atoms
      tracked_bit =
          subst (λ (qs : List Predicate). AreTracked d g s (predicates ++ qs) (set free level false) atoms)
          (sym (tracked_one d k p is)) (record {
            bits = bits_now;
            known = tracked.known;
            told = λ j a inside. one_more (means s (slice_index_or atoms j a).holds) (tracked.told j a inside);
            numbered = tracked.numbered;
            each = λ q there. elim (Contains-push_cases predicates p q there) [
              | inl before ↦
                  let old = tracked.each q before in
                  (old.0, shown_still old.0 old.1, old.2)
              | inr e ↦
                  (bit_at level, inl (level, new_bit, refl), subst (Tells d g.order (bit_at level)) e tells_bit)
            ];
          })

    -- which is none
    module _ (a : Atom) (holds : a.holds ≡ id) (numbered : IsNumbered d g s a) where
      tells_atom : Tells d g.order (means s a.holds) p
      tells_atom = subst (λ (x : NodeId). Tells d g.order (means s x) p) (sym holds) (predicate.tells p is)

      shown_more : (f : Function) → IsShown s free atoms f → IsShown s free (atoms ++ a ∷ []) f
      shown_more f (inl bit) = inl bit
      shown_more f (inr atom) = inr (atom.0, Contains-append_left atoms (a ∷ []) atom.0 atom.1, atom.2)

      pub tracked_atom : AreTracked d g s (predicates ++ tracked_of d (k ∷ [])) free (atoms ++ a ∷ [])
      tracked_atom =
          subst (λ (qs : List Predicate). AreTracked d g s (predicates ++ qs) free (atoms ++ a ∷ []))
          (sym (tracked_one d k p is)) (record {
            bits = λ j kept. one_more (bit_at j) (tracked.bits j kept);
            known = All-push (λ (b : Atom). Knows s b.holds) atoms a tracked.known
                (subst (Knows s) (sym holds) predicate.known);
            told = All-push (λ (b : Atom). TellsOne d g.order (predicates ++ p ∷ []) (means s b.holds)) atoms a
                (λ j b inside. one_more (means s (slice_index_or atoms j b).holds) (tracked.told j b inside))
                (p, Contains-push predicates p, tells_atom);
            numbered = All-push (IsNumbered d g s) atoms a tracked.numbered numbered;
            each = λ q there. elim (Contains-push_cases predicates p q there) [
              | inl before ↦
                  let old = tracked.each q before in
                  (old.0, shown_more old.0 old.1, old.2)
              | inr e ↦ (
                means s a.holds,
                inr (a, Contains-push atoms a, refl),
                subst (Tells d g.order (means s a.holds)) e tells_atom,
              )
            ];
          })

  -- atoms of one level are of one predicate
  pub atoms_apart : (predicates : List Predicate) (free : List Bool) (atoms : List Atom) →
      AreTracked d g s predicates free atoms → AreApart s atoms
  atoms_apart predicates free atoms tracked a b first second same =
      let one = All-contains (IsNumbered d g s) atoms a tracked.numbered first in
      let two = All-contains (IsNumbered d g s) atoms b tracked.numbered second in
      let number : one.0 ≡ two.0 = omega (arith, one.1, two.1, same) in
      λ i v. same_bits (means s a.holds v) (means s b.holds v)
      (sym (one.2.2 v) ∙ ap (λ (x : TermId). value_of g.terms
      (input_values (input_levels g.order (state_widths d)) v) x)
      (one_term (slice_get g.flat.pool two.0) one.2.0 two.2.0
      (ap (slice_get g.flat.pool) (sym number) ∙ one.2.1) two.2.1) ∙ two.2.2 v) i
    where
      one_term : (o : Option TermId) (x y : TermId) → o ≡ Some x → o ≡ Some y → x ≡ y
      one_term o x y e f = cc
