use Rattle.std.proofs.Common.{◌<◌, ℕ, length, map, ap, ◌∙◌, arith}
use Rattle.std.proofs.lemmas.List.{take_all}
use Rattle.tm_syntax.specs.Tree.{LocalTree}
use Rattle.tm_syntax.specs.Tree.View.{local_tree, spec_tree}
use Rattle.tm_syntax.specs.Scopes.Names.{type_of}
use Rattle.tm_syntax.specs.Design.Sizes.{type_bits}
use Rattle.tm_syntax.specs.Counts.Bodies.{local_bits}
use Rattle.tm_limits.specs.Amount.{capped}
use Rattle.tm_limits.proofs.Sums.{mapped_more}
use Rattle.tm_limits.proofs.shares.bits.locals_bits.Goals as goal

pub loop-local-preserved : goal.loop-local-preserved
loop-local-preserved c =
    let spec = spec_tree c.args.scopes.now in
    let locals = c.args.locals.now in
    let i : ℕ = c.loop-local.local-index in
    let within : i < length locals = omega arith in
    mapped_more (λ (l : LocalTree). type_bits spec (type_of l.ty)) local_tree locals i c.local-item.result
    c.sum-bits.result within c.local-item.is
    (c.sum-bits.ensures _ (type_bits spec (type_of c.local-item.result.ty)) c.loop-local.invariant
    (c.type_bits.ensures ∙ ap (λ ty. capped (type_bits spec ty)) c.of.ensures))

pub returns : goal.returns
returns c =
    c.loop-local.invariant
    ∙ ap (λ ls. capped (local_bits (spec_tree c.args.scopes.now) (map local_tree ls)))
    (take_all c.loop-local.local-index c.args.locals.now (omega arith))
