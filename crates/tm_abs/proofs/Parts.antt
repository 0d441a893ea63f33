-- The upper part of a set is what the calls that make it leave.
use Rattle.std.proofs.Common.{◌≡◌, inl, ℕ, ◌<◌, Bool, true, List, length, sym, ◌∙◌, subst, arith}
use Rattle.std.proofs.Math.Logic.{∥∥₁_elim}
use Rattle.std.specs.Prelude.{◌&&◌, All, Contains, slice_index_or}
use Rattle.std.proofs.lemmas.List.Elements.{All-contains, Contains-get_or}
use Rattle.tm_abs.proofs.Marking.{marked_within}
use Rattle.tm_abs.proofs.Tracking.{atoms_kept, tracked_kept}
use Rattle.tm_abs.proofs.Uppers.{set_states, upper_states}
use Rattle.tm_abs.specs.declared.atoms.Atom.{Atom}
use Rattle.tm_abs.specs.Inner.Atoms.{AreTracked, IsAtom, ReadsNone, ReadsWithin}
use Rattle.tm_abs.specs.Inner.Joining.{IsJoining}
use Rattle.tm_abs.specs.Inner.Quantified.{IsReached}
use Rattle.tm_abs.specs.Inner.Reading.{AreRead, ReadsOnly}
use Rattle.tm_abs.specs.Tracked.{IsPooled, tracked_of}
use Rattle.tm_dd.specs.declared.node.NodeId.{NodeId}
use Rattle.tm_dd.specs.Reduced.{Extends}
use Rattle.tm_dd.specs.Table.{Table, Knows, means}
use Rattle.tm_dd.proofs.CallerLaws.{Extends-trans}
use Rattle.tm_ddops.specs.Manager.{IsFunction}
use Rattle.tm_ddops.specs.Quantified.{is_marked_level}
use Rattle.tm_flat_pool.specs.Cells.{IsInUpper}
use Rattle.tm_game.proofs.SetTests.{coding_told}
use Rattle.tm_game.specs.Game.{GameData, IsSet, IsStates}
use Rattle.tm_game.specs.Least.{test_of}
use Rattle.tm_game.specs.Start.{state_bits_in}
use Rattle.tm_game_bits.proofs.Extended.{Knows-Extends, means-Extends}
use Rattle.tm_game_bits.specs.AssignedStates.{assignment_of, state_of}
use Rattle.tm_game_bits.specs.Functions.{Assignment, Function}
use Rattle.tm_game_bits.specs.Order.{IsOrder}
use Rattle.tm_game_bits.specs.States.{ReadsState}
use Rattle.tm_sem.specs.Step.{IsState}
use Rattle.tm_syntax.specs.Design.{DesignTree}

-- what is reached stays so when diagrams are added
pub reached_kept : (s t : Table) → Extends s t → (gone : List Bool) (told : List Atom) (count : ℕ) (f : Function)
    (id : NodeId) → ((a : Atom) → Contains told a → Knows s a.holds) → IsReached s gone told count f id →
    IsReached t gone told count f id
reached_kept s t e gone told count f id known is = record {
  known = Knows-Extends s t e id is.known;
  some = λ v h.
      let found = is.some v (sym (e.same_meaning id is.known v) ∙ h) in (
        found.0,
        found.1,
        found.2,
        λ a there.
            e.same_meaning a.holds (known a there) found.0 ∙ found.3 a there
            ∙ sym (e.same_meaning a.holds (known a there) v),
      );
  enough = λ v w here agrees alike.
      e.same_meaning id is.known v
      ∙ is.enough v w here agrees (λ a there.
      sym (e.same_meaning a.holds (known a there) w) ∙ alike a there
      ∙ e.same_meaning a.holds (known a there) v);
}

module _ (d : DesignTree) (g : GameData) (pooled : IsPooled d g) (order : IsOrder (state_bits_in g.flat) g.order)
    (numbers : List ℕ) (set : NodeId) (is_set : IsSet g set)
    (set_valid : (v : Assignment) → means g.diagrams.table set v ≡ true → IsState d (state_of d g.order v)) (s : Table)
    (e : Extends g.diagrams.table s) (free marks : List Bool) (all joined left : List Atom) (reads levels : List ℕ)
    (count : length free ≡ length g.order) (atoms : All (IsAtom (length g.order) s) all)
    (tracked : ∥ AreTracked d g s (tracked_of d numbers) free all ∥₁) (are_read : AreRead s set reads)
    (joining : IsJoining free reads all marks levels joined left)
    (none : All (λ (a : Atom). ReadsNone marks a.reads.items) left) where
  low : (k : ℕ) → is_marked_level marks k ≡ true → k < length g.order
  low k is = let within = marked_within marks k is in let long = joining.count in omega (arith, within, long, count)

  -- the marks are those of the levels of a state
  pub marks_long : length marks ≡ length g.order
  marks_long = joining.count ∙ count

  -- the joined atoms are atoms
  joined_all : (a : Atom) → Contains joined a → Contains all a
  joined_all a there = (joining.all a).1 (inl there)

  pub joined_atoms : All (IsAtom (length g.order) s) joined
  joined_atoms k a below =
      All-contains (IsAtom (length g.order) s) all (slice_index_or joined k a) atoms
      (joined_all (slice_index_or joined k a) (Contains-get_or joined k a below))

  module _ (t : Table) (f : Extends s t) where
    whole : Extends g.diagrams.table t
    whole = Extends-trans g.diagrams.table s t e f

    same : means t set ≡ means g.diagrams.table set
    same = means-Extends g.diagrams.table t whole set is_set.known

    between : means t set ≡ means s set
    between = means-Extends s t f set (Knows-Extends g.diagrams.table s e set is_set.known)

    atom_at : (a : Atom) → Contains all a → IsAtom (length g.order) t a
    atom_at a there =
        All-contains (IsAtom (length g.order) t) all a (atoms_kept s t f (length g.order) all atoms) there

    within_at : (a : Atom) → Contains joined a → ReadsWithin free marks a.reads.items
    within_at a there =
        All-contains (λ (b : Atom). ReadsWithin free marks b.reads.items) joined a joining.joined there

    tracked_at : ∥ AreTracked d g t (tracked_of d numbers) free all ∥₁
    tracked_at =
        ∥∥₁_elim tracked (squash₁) (λ is. ∣ tracked_kept s t f d g (tracked_of d numbers) free all is ∣₁)

    none_at : (a : Atom) → Contains left a → ReadsNone marks a.reads.items
    none_at a there = All-contains (λ (b : Atom). ReadsNone marks b.reads.items) left a none there

    reads_at : ReadsOnly t set reads
    reads_at =
        subst (λ (h : Function). (v w : Assignment) → ((k : ℕ) → Contains reads k → v k ≡ w k) → h v ≡ h w)
        (sym between) are_read.only

    state_at : ReadsState (length g.order) (means t set)
    state_at = subst (ReadsState (length g.order)) (sym same) is_set.reads

    valid_at : (v : Assignment) → means t set v ≡ true → IsState d (state_of d g.order v)
    valid_at v here = set_valid v (sym (λ i. same i v) ∙ here)

    tests : (id : NodeId) →
        IsStates d g.order t
        (IsInUpper d (tracked_of d numbers) (λ u. means t set (assignment_of d g.order u))) id →
        IsStates d g.order t (IsInUpper d (tracked_of d numbers) (test_of d g set)) id
    tests id =
        subst (λ (h : Function). IsStates d g.order t
        (IsInUpper d (tracked_of d numbers) (λ u. h (assignment_of d g.order u))) id) same

    -- where no level is quantified
    pub part_itself : ((k : ℕ) → ¬ (is_marked_level marks k ≡ true)) →
        IsStates d g.order t (IsInUpper d (tracked_of d numbers) (test_of d g set)) set
    part_itself no_level =
        tests set
        (set_states d g (coding_told d g pooled.of order) t (tracked_of d numbers) free marks all joined left
        tracked_at count joining.all atom_at within_at none_at low
        joining.only_free set reads reads_at joining.set state_at valid_at
        (Knows-Extends g.diagrams.table t whole set is_set.known) no_level)

    -- where some are
    pub part_reached : (reached valid final : NodeId) →
        IsReached t marks joined (length g.order) (means s set) reached →
        IsStates d g.order t (λ u. Unit {0}) valid →
        IsFunction t final (λ v. means t valid v && means t reached v) →
        IsStates d g.order t (IsInUpper d (tracked_of d numbers) (test_of d g set)) final
    part_reached reached valid final is valid_is both =
        tests final
        (upper_states d g (coding_told d g pooled.of order) t (tracked_of d numbers) free marks all joined left
        tracked_at count joining.all atom_at within_at none_at low
        joining.only_free set reads reads_at joining.set state_at valid_at reached
        (subst (λ (h : Function). IsReached t marks joined (length g.order) h reached) (sym between) is) valid final
        valid_is both)
