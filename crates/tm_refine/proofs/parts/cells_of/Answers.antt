use Rattle.std.proofs.Common.{ℕ, ap, ◌∙◌}
use Rattle.std.proofs.lemmas.Result.{IfOk-weaker}
use Rattle.std.specs.List.{filter}
use Rattle.std.specs.Prelude.{nat_lt}
use Rattle.tm_abs.specs.declared.cells.Cells.{Cells}
use Rattle.tm_refine.proofs.PoolKeeps.{has_pooled, keeps, keeps_none}
use Rattle.tm_refine.proofs.PoolParts.{in_pool, pool_len}
use Rattle.tm_refine.proofs.parts.cells_of.Goals as goal

pub new-cells-requires-clause-tracked : goal.new-cells-requires-clause-tracked
new-cells-requires-clause-tracked c =
    in_pool c.args.game.now c.in_ok-tracked.tracked.items c.args.numbers.now c.len-count.result
    (pool_len c.args.game.now c.flat.result.now c.len-count.result c.flat.ensures
    (c.len-count.ensures ∙ c.flat.result.now.pool.ok.0)) c.in_ok-tracked.ensures

pub new-cells-requires-clause-pool : goal.new-cells-requires-clause-pool
new-cells-requires-clause-pool c = has_pooled c.args.game.now c.requires.can

pub returns-clause-tracked : goal.returns-clause-tracked
returns-clause-tracked c =
    let long = pool_len c.args.game.now c.flat.result.now c.len-count.result c.flat.ensures
    (c.len-count.ensures ∙ c.flat.result.now.pool.ok.0) in
    IfOk-weaker c.new-cells.result _ _
    (λ (cells : Cells) same.
    same ∙ c.in_ok-tracked.ensures
    ∙ ap (λ (n : ℕ). filter (λ k. nat_lt k n) c.args.numbers.now) long) c.new-cells.ensures.tracked

pub returns-clause-kept : goal.returns-clause-kept
returns-clause-kept c =
    keeps c.args.game.now c.new-cells.new.game c.requires.can c.new-cells.ensures.grows c.tell-2.ensures

pub returns-in_err-tracked-clause-kept : goal.returns-in_err-tracked-clause-kept
returns-in_err-tracked-clause-kept c = keeps_none c.args.game.now c.requires.can c.tell.ensures
