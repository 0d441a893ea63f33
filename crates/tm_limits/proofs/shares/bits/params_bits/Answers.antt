use Rattle.std.proofs.Common.{◌<◌, ℕ, length, ap, ◌∙◌, arith}
use Rattle.std.proofs.lemmas.List.{take_all}
use Rattle.tm_syntax.specs.declared.tree.Param.{Param}
use Rattle.tm_syntax.specs.Tree.View.{spec_tree}
use Rattle.tm_syntax.specs.Scopes.Names.{type_of}
use Rattle.tm_syntax.specs.Design.Sizes.{type_bits}
use Rattle.tm_syntax.specs.Counts.Bodies.{param_bits}
use Rattle.tm_limits.specs.Amount.{capped}
use Rattle.tm_limits.proofs.Sums.{sum_more}
use Rattle.tm_limits.proofs.shares.bits.params_bits.Goals as goal

pub loop-param-preserved : goal.loop-param-preserved
loop-param-preserved c =
    let spec = spec_tree c.args.scopes.now in
    let params = c.args.params.now in
    let i : ℕ = c.loop-param.param-index in
    let within : i < length params = omega arith in
    sum_more (λ (p : Param). type_bits spec (type_of p.ty)) params i c.param-item.result c.sum-bits.result within
    c.param-item.is
    (c.sum-bits.ensures _ (type_bits spec (type_of c.param-item.result.ty)) c.loop-param.invariant
    (c.type_bits.ensures ∙ ap (λ ty. capped (type_bits spec ty)) c.of.ensures))

pub returns : goal.returns
returns c =
    c.loop-param.invariant
    ∙ ap (λ ps. capped (param_bits (spec_tree c.args.scopes.now) ps))
    (take_all c.loop-param.param-index c.args.params.now (omega arith))
