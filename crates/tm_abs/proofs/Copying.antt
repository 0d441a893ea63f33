-- Copies of atoms are tracked predicates where the atoms are.
use Rattle.std.proofs.Common.{◌≡◌, inl, inr, ℕ, ◌+◌, ◌<◌, Bool, List, All, map, length, sym, ap, ◌∙◌, subst, arith}
use Rattle.std.specs.Prelude.{Contains, slice_index_or}
use Rattle.std.proofs.lemmas.List.{get_or-map, length-map}
use Rattle.std.proofs.lemmas.List.Elements.{Contains-get_or}
use Rattle.tm_abs.specs.declared.atoms.Atom.{Atom}
use Rattle.tm_abs.specs.Inner.Atoms.{AreTracked, IsAtom, IsNumbered, IsShown, data_of}
use Rattle.tm_abs.specs.Inner.Reading.{IsPoolFunction, ReadsOnly, TellsOne}
use Rattle.tm_dd.specs.declared.node.NodeId.{NodeId}
use Rattle.tm_dd.specs.Table.{Table, Knows, means}
use Rattle.tm_flat_pool.specs.Predicates.{Predicate}
use Rattle.tm_game.specs.Game.{GameData}
use Rattle.tm_game_bits.specs.Functions.{Function}
use Rattle.tm_syntax.specs.Design.{DesignTree}

module _ (xs ys : List Atom) (same : map data_of ys ≡ map data_of xs) where
  long : length ys ≡ length xs
  long = sym (length-map ys data_of) ∙ ap length same ∙ length-map xs data_of

  at_place : (i : ℕ) (a : Atom) → i < length xs →
      data_of (slice_index_or ys i a) ≡ data_of (slice_index_or xs i a)
  at_place i a below =
      sym (get_or-map data_of ys i a (data_of a) (omega (arith, below, long)))
      ∙ ap (λ l. slice_index_or l i (data_of a)) same
      ∙ get_or-map data_of xs i a (data_of a) below

  -- each atom has a copy
  pub copy_there : (a : Atom) → Contains xs a → (b : Atom) × Contains ys b × (data_of b ≡ data_of a)
  copy_there a there = (
    slice_index_or ys there.0 a,
    Contains-get_or ys there.0 a (let below = there.1 in omega (arith, below, long)),
    at_place there.0 a there.1 ∙ ap data_of there.2,
  )

  -- what is said of data of atoms holds of their copies
  pub all_copied : (P : Atom → Type 0) → ((a b : Atom) → data_of b ≡ data_of a → P a → P b) → All P xs → All P ys
  all_copied P copied all i a below =
      let inside : i < length xs = omega (arith, below, long) in
      copied (slice_index_or xs i a) (slice_index_or ys i a) (at_place i a inside) (all i a inside)

same_holds : (a b : Atom) → data_of b ≡ data_of a → a.holds ≡ b.holds
same_holds a b same = sym (ap (λ (x : ℕ × NodeId × List ℕ). x.1) same)

same_level : (a b : Atom) → data_of b ≡ data_of a → a.level ≡ b.level
same_level a b same = sym (ap (λ (x : ℕ × NodeId × List ℕ). x.0) same)

same_reads : (a b : Atom) → data_of b ≡ data_of a → a.reads.items ≡ b.reads.items
same_reads a b same = sym (ap (λ (x : ℕ × NodeId × List ℕ). x.2) same)

pub atom_copied : (count : ℕ) (s : Table) (a b : Atom) → data_of b ≡ data_of a → IsAtom count s a → IsAtom count s b
atom_copied count s a b same is =
    let level = same_level a b same in record {
      behind = let behind = is.behind in omega (arith, behind, level);
      there = let there = is.there in omega (arith, there, level);
      known = subst (Knows s) (same_holds a b same) is.known;
      reads = subst (λ (x : NodeId). ReadsOnly s x b.reads.items) (same_holds a b same)
          (subst (ReadsOnly s a.holds) (same_reads a b same) is.reads);
      inputs = subst (λ (ks : List ℕ). (k : ℕ) → Contains ks k → k < count + 128) (same_reads a b same) is.inputs;
    }

-- copies of tracked predicates are such
pub tracked_copied : (d : DesignTree) (g : GameData) (s : Table) (predicates : List Predicate) (free : List Bool)
    (xs ys : List Atom) → map data_of ys ≡ map data_of xs → AreTracked d g s predicates free xs →
    AreTracked d g s predicates free ys
tracked_copied d g s predicates free xs ys same tracked = record {
  bits = tracked.bits;
  known = all_copied xs ys same (λ (a : Atom). Knows s a.holds)
      (λ a b alike. subst (Knows s) (same_holds a b alike)) tracked.known;
  told = all_copied xs ys same (λ (a : Atom). TellsOne d g.order predicates (means s a.holds))
      (λ a b alike. subst (λ (x : NodeId). TellsOne d g.order predicates (means s x)) (same_holds a b alike))
      tracked.told;
  numbered = all_copied xs ys same (IsNumbered d g s) numbered tracked.numbered;
  each = λ p there. let old = tracked.each p there in (old.0, shown old.0 old.1, old.2);
}
  where
    numbered : (a b : Atom) → data_of b ≡ data_of a → IsNumbered d g s a → IsNumbered d g s b
    numbered a b alike is = (
      is.0,
      subst (λ (level : ℕ). level + 1 + is.0 ≡ s.levels) (same_level a b alike) is.1,
      subst (λ (x : NodeId). IsPoolFunction d g is.0 (means s x)) (same_holds a b alike) is.2,
    )

    shown : (f : Function) → IsShown s free xs f → IsShown s free ys f
    shown f (inl bit) = inl bit
    shown f (inr atom) =
        let copy = copy_there xs ys same atom.0 atom.1 in
        inr (copy.0, copy.1, atom.2 ∙ ap (means s) (same_holds atom.0 copy.0 copy.2))
