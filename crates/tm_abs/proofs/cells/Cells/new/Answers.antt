use Rattle.std.proofs.Common.{ℕ, List, All, length, ap, sym, ◌∙◌, subst}
use Rattle.tm_abs.specs.Inner.Atoms.{AreTracked, IsAtom}
use Rattle.tm_abs.specs.Tracked.{AreInPool, tracked_of}
use Rattle.tm_abs.proofs.ValidParts.{in_pool_kept}
use Rattle.tm_abs.proofs.cells.Cells.new.Goals as goal

pub read_tracked-requires-clause-tracked : goal.read_tracked-requires-clause-tracked
read_tracked-requires-clause-tracked c =
    subst (AreInPool c.args.game.now) (sym c.deref.ensures.value) c.requires.tracked

pub returns-clause-cells : goal.returns-clause-cells
returns-clause-cells c =
    let g = c.args.game.now in
    let h = c.read_tracked.new.game in
    let read = c.in_ok-read.ensures in
    let tracked = c.args.tracked.items in
    let order = ap (λ (o : List ℕ). length o) (sym read.grows.order) in
    record {
      in_pool = in_pool_kept g h read.grows tracked c.deref.result.now (sym c.deref.ensures.value)
          (subst (AreInPool g) (sym c.deref.ensures.value) c.requires.tracked);
      count = read.count ∙ order;
      atoms = subst (λ (n : ℕ). All (IsAtom n h.diagrams.table) c.in_ok-read.read.atoms.items) order read.atoms;
      tracked = λ k d grows pooled.
          ∣ subst (λ (ks : List ℕ). AreTracked d k k.diagrams.table (tracked_of d ks) c.in_ok-read.read.free.items
          c.in_ok-read.read.atoms.items) c.deref.ensures.value (read.tracked k d grows pooled) ∣₁;
    }
