use Rattle.std.proofs.Math.Logic.{∥∥₁_elim}
use Rattle.std.proofs.Props.{props}
use Rattle.std.proofs.lemmas.Result.{IfOk-weaker}
use Rattle.tm_abs.proofs.Kept.{cells_kept}
use Rattle.tm_abs.proofs.ValidParts.{pooled_kept, set_prop, some_kept, upper_valid, valid_only, valid_set}
use Rattle.tm_abs.specs.Tracked.{IsPooled, tracked_of}
use Rattle.tm_dd.specs.declared.node.NodeId.{NodeId}
use Rattle.tm_flat_pool.specs.Cells.{IsInUpper}
use Rattle.tm_game.proofs.Growing.{grows_then}
use Rattle.tm_game.specs.Game.{IsStates}
use Rattle.tm_game.specs.Least.{test_of}
use Rattle.tm_syntax.specs.Design.{DesignTree}
use Rattle.tm_abs.proofs.cells.Cells.upper.Goals as goal

pub upper_part-requires : goal.upper_part-requires
upper_part-requires c =
    let g = c.args.game.now in
    let h = c.valid_part.new.game in
    let part = c.in_ok-inside.ensures in
    let inside = c.in_ok-inside.inside in
    record {
      cells = cells_kept g h part.grows c.args.self.now c.requires.cells;
      pool = some_kept g h part.grows c.requires.pool;
      set = ∥∥₁_elim c.requires.pool (set_prop h inside)
          (λ x.
          valid_set x.0 g h part.grows x.1.of part.order (part.valid x.0 x.1.of) c.args.c inside c.requires.set
          part.part);
      valid = λ v here.
          ∥∥₁_elim c.requires.pool (hlevel props)
          (λ x.
          valid_only x.0 g h part.grows x.1.of part.order (part.valid x.0 x.1.of) c.args.c inside c.requires.set
          part.part v here);
    }

pub returns-clause-grows : goal.returns-clause-grows
returns-clause-grows c =
    grows_then c.args.game.now c.valid_part.new.game c.upper_part.new.game c.valid_part.ensures.grows
    c.upper_part.ensures.grows

pub returns-clause-part : goal.returns-clause-part
returns-clause-part c =
    let g = c.args.game.now in
    let h = c.valid_part.new.game in
    let k = c.upper_part.new.game in
    let part = c.in_ok-inside.ensures in
    let inside = c.in_ok-inside.inside in
    let numbers = c.args.self.now.tracked.items in
    IfOk-weaker c.upper_part.result
    (λ (id : NodeId). (d : DesignTree) → IsPooled d h → IsStates d h.order k.diagrams.table
    (IsInUpper d (tracked_of d numbers) (test_of d h inside)) id)
    (λ (id : NodeId). (d : DesignTree) → IsPooled d g → IsStates d g.order k.diagrams.table
    (IsInUpper d (tracked_of d numbers) (test_of d g c.args.c)) id)
    (λ id is d pooled.
    upper_valid d g h part.grows pooled.of part.order (part.valid d pooled.of) c.args.c inside c.requires.set part.part
    (tracked_of d numbers) k.diagrams.table id (is d (pooled_kept d g h part.grows pooled)))
    c.upper_part.ensures.part
