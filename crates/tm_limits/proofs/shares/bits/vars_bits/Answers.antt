use Rattle.std.proofs.Common.{◌<◌, ℕ, length, map, ap, ◌∙◌, arith}
use Rattle.std.specs.Prelude.{sum_by}
use Rattle.std.proofs.lemmas.List.{take_all}
use Rattle.tm_syntax.specs.Tree.View.{spec_tree, var_tree}
use Rattle.tm_syntax.specs.Counts.Bodies.{var_bits}
use Rattle.tm_limits.specs.Amount.{capped}
use Rattle.tm_limits.proofs.Sums.{mapped_more}
use Rattle.tm_limits.proofs.shares.bits.vars_bits.Goals as goal

pub loop-var-preserved : goal.loop-var-preserved
loop-var-preserved c =
    let spec = spec_tree c.args.scopes.now in
    let vars = c.args.vars.now in
    let i : ℕ = c.loop-var.var-index in
    let within : i < length vars = omega arith in
    mapped_more (var_bits spec) var_tree vars i c.var-item.result c.sum-bits.result within c.var-item.is
    (c.sum-bits.ensures _ (var_bits spec (var_tree c.var-item.result)) c.loop-var.invariant c.var_bits.ensures)

pub returns : goal.returns
returns c =
    c.loop-var.invariant
    ∙ ap (λ vs. capped (sum_by (var_bits (spec_tree c.args.scopes.now)) (map var_tree vs)))
    (take_all c.loop-var.var-index c.args.vars.now (omega arith))
