use Rattle.std.proofs.Common.{◌&&◌, IfOk, sym, subst}
use Rattle.std.proofs.Math.Logic.{∥∥₁_elim}
use Rattle.std.proofs.Props.{props}
use Rattle.std.proofs.lemmas.Result.{IfOk-weaker}
use Rattle.tm_abs.proofs.Kept.{cells_kept}
use Rattle.tm_abs.proofs.ValidParts.{complement_set, left_set, lower_made, pooled_kept, set_prop, some_kept, valid_only, valid_set}
use Rattle.tm_abs.specs.Tracked.{IsPooled, tracked_of}
use Rattle.tm_dd.specs.declared.node.NodeId.{NodeId}
use Rattle.tm_dd.specs.NodeId.{complement}
use Rattle.tm_dd.specs.Table.{means}
use Rattle.tm_ddops.specs.Manager.{IsFunction}
use Rattle.tm_flat_pool.specs.Cells.{IsInLower}
use Rattle.tm_game.proofs.Growing.{grows_then}
use Rattle.tm_game.specs.Game.{IsSet, IsStates}
use Rattle.tm_game.specs.Least.{test_of}
use Rattle.tm_syntax.specs.Design.{DesignTree}
use Rattle.tm_abs.proofs.cells.Cells.lower.Goals as goal

pub valid_part-requires : goal.valid_part-requires
valid_part-requires c = record {
  pool = c.requires.pool;
  set = subst (IsSet c.args.game.now) (sym c.complement.ensures.value)
      (complement_set c.args.game.now c.args.c c.requires.set);
}

pub upper_part-requires : goal.upper_part-requires
upper_part-requires c =
    let g = c.args.game.now in
    let h = c.valid_part.new.game in
    let part = c.in_ok-outside.ensures in
    let outside = c.in_ok-outside.outside in
    let set = complement_set g c.args.c c.requires.set in
    let is = subst (λ (x : NodeId). IsFunction h.diagrams.table outside
    (λ v. means h.diagrams.table g.valid v && means h.diagrams.table x v)) c.complement.ensures.value part.part in
    record {
      cells = cells_kept g h part.grows c.args.self.now c.requires.cells;
      pool = some_kept g h part.grows c.requires.pool;
      set = ∥∥₁_elim c.requires.pool (set_prop h outside)
          (λ x.
          valid_set x.0 g h part.grows x.1.of part.order (part.valid x.0 x.1.of) (complement c.args.c) outside set
          is);
      valid = λ v here.
          ∥∥₁_elim c.requires.pool (hlevel props)
          (λ x.
          valid_only x.0 g h part.grows x.1.of part.order (part.valid x.0 x.1.of) (complement c.args.c) outside set
          is v here);
    }

pub valid_part-requires-2 : goal.valid_part-requires-2
valid_part-requires-2 c =
    let g = c.args.game.now in
    let h = c.valid_part.new.game in
    let k = c.upper_part.new.game in
    let part = c.in_ok-outside.ensures in
    let outside = c.in_ok-outside.outside in
    let left = c.in_ok-left.left in
    let numbers = c.args.self.now.tracked.items in
    let is = subst (λ (x : NodeId). IsFunction h.diagrams.table outside
    (λ v. means h.diagrams.table g.valid v && means h.diagrams.table x v)) c.complement.ensures.value part.part in
    record {
      pool = some_kept g k (grows_then g h k part.grows c.in_ok-left.ensures.grows) c.requires.pool;
      set = subst (IsSet k) (sym c.complement-2.ensures.value)
          (complement_set k left
          (∥∥₁_elim c.requires.pool (set_prop k left)
          (λ x.
          left_set x.0 g h k part.grows c.in_ok-left.ensures.grows x.1 part.order (part.valid x.0 x.1.of)
          (tracked_of x.0 numbers) c.args.c outside left c.requires.set is
          (c.in_ok-left.ensures.part x.0 (pooled_kept x.0 g h part.grows x.1)))));
    }

pub returns-in_err-left-clause-grows : goal.returns-in_err-left-clause-grows
returns-in_err-left-clause-grows c =
    grows_then c.args.game.now c.valid_part.new.game c.upper_part.new.game c.valid_part.ensures.grows
    c.upper_part.ensures.grows

pub returns-clause-grows : goal.returns-clause-grows
returns-clause-grows c =
    grows_then c.args.game.now c.upper_part.new.game c.valid_part-2.new.game
    (grows_then c.args.game.now c.valid_part.new.game c.upper_part.new.game c.valid_part.ensures.grows
    c.upper_part.ensures.grows) c.valid_part-2.ensures.grows

pub returns-clause-part : goal.returns-clause-part
returns-clause-part c =
    let g = c.args.game.now in
    let h = c.valid_part.new.game in
    let k = c.upper_part.new.game in
    let l = c.valid_part-2.new.game in
    let part = c.in_ok-outside.ensures in
    let outside = c.in_ok-outside.outside in
    let left = c.in_ok-left.left in
    let numbers = c.args.self.now.tracked.items in
    let is = subst (λ (x : NodeId). IsFunction h.diagrams.table outside
    (λ v. means h.diagrams.table g.valid v && means h.diagrams.table x v)) c.complement.ensures.value part.part in
    IfOk-weaker c.valid_part-2.result
    (λ (id : NodeId). IsFunction l.diagrams.table id
    (λ v. means l.diagrams.table k.valid v && means l.diagrams.table (complement left) v))
    (λ (id : NodeId). (d : DesignTree) → IsPooled d g → IsStates d g.order l.diagrams.table
    (IsInLower d (tracked_of d numbers) (test_of d g c.args.c)) id)
    (λ id final d pooled.
    lower_made d g h k part.grows c.in_ok-left.ensures.grows pooled part.order (part.valid d pooled.of)
    (tracked_of d numbers) c.args.c outside left c.requires.set is
    (c.in_ok-left.ensures.part d (pooled_kept d g h part.grows pooled)) l c.valid_part-2.ensures.grows id final)
    (subst (λ (x : NodeId). IfOk c.valid_part-2.result
    (λ (id : NodeId). IsFunction l.diagrams.table id
    (λ v. means l.diagrams.table k.valid v && means l.diagrams.table x v))) c.complement-2.ensures.value
    c.valid_part-2.ensures.part)
