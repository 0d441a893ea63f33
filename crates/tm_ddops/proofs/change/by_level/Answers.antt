use Rattle.std.proofs.Common.{◌≡◌, length, eqb, get_or, if◌then◌else◌, Some, ap, ◌∙◌, arith}
use Rattle.tm_dd.specs.declared.node.TheConstants.{FALSE}
use Rattle.tm_ddops.specs.declared.change.Change.TheVariants.{Becomes}
use Rattle.tm_ddops.specs.Changed.{change_at, first_of}
use Rattle.tm_ddops.proofs.ChangeLists.{table_step, written_back, length-written_back}
use Rattle.tm_ddops.proofs.change.by_level.Goals as goal

pub loop-level-preserved : goal.loop-level-preserved
loop-level-preserved c =
    let old = c.loop-level.table.items in
    let new = c.set_first.new.table in
    let is : c.loop-level.table.len ≡ length old = c.loop-level.table.ok.0 in
    let same : length new ≡ length old = c.set_first.auto.table ∙ c.deref_mut.ensures.len ∙ is in (
      length-written_back new old c.loop-level.table.len same is ∙ is ∙ c.loop-level.invariant.0,
      λ k below. written_back new old c.loop-level.table.len k same is
          (omega (arith, below, is, c.loop-level.invariant.0))
          ∙ table_step c.args.changes.now c.loop-level.level-index (0, Becomes FALSE) c.loop-level-test.true old new
          (length old)
          (λ j h. c.loop-level.invariant.1 j (omega (arith, h, c.loop-level.invariant.0)))
          (λ j h. c.set_first.ensures j (omega (arith, h, c.deref_mut.ensures.len, is))
          ∙ ap (λ xs. if eqb (get_or c.args.changes.now c.loop-level.level-index (0, Becomes FALSE)).0 j
          then first_of (change_at xs j)
          (Some (get_or c.args.changes.now c.loop-level.level-index (0, Becomes FALSE)).1)
          else change_at xs j) c.deref_mut.ensures.value) k (omega (arith, below, c.loop-level.invariant.0)),
    )
