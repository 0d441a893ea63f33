use Rattle.std.proofs.Common.{◌≡◌, inl, ℕ, Bool, true, ◌&&◌, List, All, length, map, sym, ap, ◌∙◌, subst, arith}
use Rattle.std.proofs.Math.Logic.{∥∥₁_elim}
use Rattle.std.proofs.Props.{props}
use Rattle.std.specs.Prelude.{slice_index_or, vec_len}
use Rattle.std.proofs.lemmas.Bool.{eqb-true}
use Rattle.std.proofs.lemmas.List.Elements.{All-contains, Contains-get_or}
use Rattle.std.proofs.lemmas.Result.{IfOk-weaker}
use Rattle.tm_abs.proofs.Copying.{all_copied, atom_copied, tracked_copied}
use Rattle.tm_abs.proofs.Parts.{part_itself, part_reached, reached_kept}
use Rattle.tm_abs.proofs.Tracking.{atoms_apart}
use Rattle.tm_abs.specs.Cells.{AreCells}
use Rattle.tm_abs.specs.declared.atoms.Atom.{Atom}
use Rattle.tm_abs.specs.declared.cells.Cells.{Cells}
use Rattle.tm_abs.specs.Inner.Atoms.{AreTracked, IsAtom, data_of}
use Rattle.tm_abs.specs.Inner.Joining.{IsJoining}
use Rattle.tm_abs.specs.Tracked.{IsPooled, tracked_of}
use Rattle.tm_dd.proofs.CallerLaws.{Extends-refl}
use Rattle.tm_dd.specs.declared.node.NodeId.{NodeId}
use Rattle.tm_dd.specs.Table.{means}
use Rattle.tm_ddops.specs.Manager.{IsFunction}
use Rattle.tm_flat_pool.specs.Cells.{IsInUpper}
use Rattle.tm_game.proofs.Growing.{grows_none, grows_then, known_kept}
use Rattle.tm_game.specs.Game.{GameData, IsStates}
use Rattle.tm_game.specs.Least.{test_of}
use Rattle.tm_game_bits.proofs.Extended.{IsSetOf-Extends, Knows-Extends}
use Rattle.tm_game_bits.specs.AssignedStates.{state_of}
use Rattle.tm_sem.specs.Step.{IsState}
use Rattle.tm_syntax.specs.Design.{DesignTree}
use Rattle.tm_abs.proofs.upper.upper_part.Goals as goal

-- the atoms of the cells, once more
module _ (cells : Cells) (all lent : List Atom) (same : lent ≡ cells.read.atoms.items)
    (made : map data_of all ≡ map data_of lent) where
  copies : map data_of all ≡ map data_of cells.read.atoms.items
  copies = made ∙ ap (map data_of) same

  atoms_of : (g : GameData) → AreCells g cells → All (IsAtom (length g.order) g.diagrams.table) all
  atoms_of g are =
      all_copied cells.read.atoms.items all copies (IsAtom (length g.order) g.diagrams.table)
      (atom_copied (length g.order) g.diagrams.table) are.atoms

  tracked_in : (g : GameData) → AreCells g cells → (d : DesignTree) → IsPooled d g →
      ∥ AreTracked d g g.diagrams.table (tracked_of d cells.tracked.items) cells.read.free.items all ∥₁
  tracked_in g are d pooled =
      ∥∥₁_elim (are.tracked g d (grows_none g) pooled) (squash₁)
      (λ is.
      ∣ tracked_copied d g g.diagrams.table (tracked_of d cells.tracked.items) cells.read.free.items
      cells.read.atoms.items all copies is ∣₁)

pub reached-requires : goal.reached-requires
reached-requires c =
    let g = c.args.game.now in
    let cells = c.args.cells.now in
    let all = c.in_ok-waiting.waiting.items in
    let marks = c.in_ok-joined.joined.gone.marks.items in
    let levels = c.in_ok-joined.joined.gone.levels.items in
    let joined = c.in_ok-joined.joined.atoms.items in
    let left = c.join.new.waiting.items in
    let reads = c.in_ok-reads.reads.items in
    let free = cells.read.free.items in
    let same = c.deref.ensures.value in
    let made = c.in_ok-waiting.ensures in
    let joining = subst (λ (xs : List Bool). IsJoining xs reads all marks levels joined left) c.deref-2.ensures.value
    (subst (λ (ks : List ℕ). IsJoining c.deref-2.result.now ks all marks levels joined left) c.deref-3.ensures.value
    c.in_ok-joined.ensures.joining) in
    record {
      set = c.requires.set;
      atoms = λ k a below.
          All-contains (IsAtom (length g.order) g.diagrams.table) all (slice_index_or joined k a)
          (atoms_of cells all c.deref.result.now same made g c.requires.cells)
          ((joining.all (slice_index_or joined k a)).1 (inl (Contains-get_or joined k a below)));
      apart = λ a b first second alike.
          ∥∥₁_elim c.requires.pool (hlevel props)
          (λ x.
          ∥∥₁_elim (tracked_in cells all c.deref.result.now same made g c.requires.cells x.0 x.1) (hlevel props)
          (λ is.
          atoms_apart x.0 g g.diagrams.table (tracked_of x.0 cells.tracked.items) free all is a b
          ((joining.all a).1 (inl first)) ((joining.all b).1 (inl second)) alike));
      count = joining.count ∙ c.requires.cells.count;
      listed = joining.listed;
    }

pub and-requires : goal.and-requires
and-requires c =
    let g = c.args.game.now in
    record {
      f = known_kept g c.reached.new.game c.reached.ensures.grows c.valid-valid.result
          (∥∥₁_elim c.requires.pool (hlevel props) (λ x. (c.valid-valid.ensures.states x.0 x.1.of).known));
      g = c.in_ok-reached.ensures.reached.known;
    }

pub returns-clause-grows : goal.returns-clause-grows
returns-clause-grows c =
    grows_then c.args.game.now c.reached.new.game c.and.new.self c.reached.ensures.grows c.and.ensures.grows

pub returns-then-is_empty-clause-part : goal.returns-then-is_empty-clause-part
returns-then-is_empty-clause-part c = λ d pooled.
    let g = c.args.game.now in
    let cells = c.args.cells.now in
    let free = cells.read.free.items in
    let all = c.in_ok-waiting.waiting.items in
    let marks = c.in_ok-joined.joined.gone.marks.items in
    let levels = c.in_ok-joined.joined.gone.levels.items in
    let joined = c.in_ok-joined.joined.atoms.items in
    let left = c.join.new.waiting.items in
    let reads = c.in_ok-reads.reads.items in
    let same = c.deref.ensures.value in
    let made = c.in_ok-waiting.ensures in
    let joining = subst (λ (xs : List Bool). IsJoining xs reads all marks levels joined left) c.deref-2.ensures.value
    (subst (λ (ks : List ℕ). IsJoining c.deref-2.result.now ks all marks levels joined left) c.deref-3.ensures.value
    c.in_ok-joined.ensures.joining) in
    let empty = eqb-true (vec_len c.in_ok-joined.joined.gone.levels) 0 (sym c.is_empty.ensures ∙ c.if-is_empty.true) in
    let long = c.in_ok-joined.joined.gone.levels.ok.0 in
    part_itself d g pooled c.order-order.ensures.places cells.tracked.items c.args.set c.requires.set
    (λ v here. ((c.valid-valid.ensures.states d pooled.of).only v
    (subst (λ (id : NodeId). means g.diagrams.table id v ≡ true) (sym c.valid-valid.ensures.value)
    (c.requires.valid v here))).0) g.diagrams.table (Extends-refl g.diagrams.table) free marks all joined left reads
    levels c.requires.cells.count (atoms_of cells all c.deref.result.now same made g c.requires.cells)
    (tracked_in cells all c.deref.result.now same made g c.requires.cells d pooled) c.in_ok-reads.ensures joining
    c.in_ok-joined.ensures.left g.diagrams.table (Extends-refl g.diagrams.table) (λ k marked.
    let there = (joining.listed k).1 marked in
    let inside = there.1 in
    omega (arith, inside, empty, long))

pub returns-clause-part : goal.returns-clause-part
returns-clause-part c =
    let g = c.args.game.now in
    let k = c.reached.new.game in
    let t = c.and.new.self.diagrams.table in
    let cells = c.args.cells.now in
    let free = cells.read.free.items in
    let all = c.in_ok-waiting.waiting.items in
    let marks = c.in_ok-joined.joined.gone.marks.items in
    let levels = c.in_ok-joined.joined.gone.levels.items in
    let joined = c.in_ok-joined.joined.atoms.items in
    let left = c.join.new.waiting.items in
    let reads = c.in_ok-reads.reads.items in
    let valid = c.valid-valid.result in
    let reached = c.in_ok-reached.reached in
    let set = c.args.set in
    let same = c.deref.ensures.value in
    let made = c.in_ok-waiting.ensures in
    let joining = subst (λ (xs : List Bool). IsJoining xs reads all marks levels joined left) c.deref-2.ensures.value
    (subst (λ (ks : List ℕ). IsJoining c.deref-2.result.now ks all marks levels joined left) c.deref-3.ensures.value
    c.in_ok-joined.ensures.joining) in
    let atoms = atoms_of cells all c.deref.result.now same made g c.requires.cells in
    let gt = (grows_then g k c.and.new.self c.reached.ensures.grows c.and.ensures.grows).diagrams in
    IfOk-weaker c.and.result
    (λ (id : NodeId). IsFunction t id (λ v. means t valid v && means t reached v))
    (λ (id : NodeId). (d : DesignTree) → IsPooled d g → IsStates d g.order t
    (IsInUpper d (tracked_of d cells.tracked.items) (test_of d g set)) id)
    (λ id is d pooled.
    part_reached d g pooled c.order-order.ensures.places cells.tracked.items set c.requires.set
    (λ v here. ((c.valid-valid.ensures.states d pooled.of).only v
    (subst (λ (x : NodeId). means g.diagrams.table x v ≡ true) (sym c.valid-valid.ensures.value)
    (c.requires.valid v here))).0) g.diagrams.table (Extends-refl g.diagrams.table) free marks all joined left reads
    levels c.requires.cells.count atoms
    (tracked_in cells all c.deref.result.now same made g c.requires.cells d pooled) c.in_ok-reads.ensures joining
    c.in_ok-joined.ensures.left t gt reached valid id
    (reached_kept k.diagrams.table t c.and.ensures.grows.diagrams marks joined (length g.order)
    (means g.diagrams.table set) reached
    (λ a there. Knows-Extends g.diagrams.table k.diagrams.table c.reached.ensures.grows.diagrams a.holds
    (All-contains (IsAtom (length g.order) g.diagrams.table) all a atoms ((joining.all a).1 (inl there))).known)
    c.in_ok-reached.ensures.reached)
    (IsSetOf-Extends g.diagrams.table t gt
    (λ v. IsState d (state_of d g.order v) × Unit {0}) valid (c.valid-valid.ensures.states d pooled.of)) is)
    c.and.ensures.answer
