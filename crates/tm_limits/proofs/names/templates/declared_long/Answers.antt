use Rattle.std.proofs.Common.{◌<◌, ℕ, length, map, ap, ◌∙◌, arith}
use Rattle.std.specs.List.{flat_map}
use Rattle.std.proofs.lemmas.List.{take_all}
use Rattle.tm_limits.proofs.LongNames.{long_more}
use Rattle.tm_limits.specs.LongNames.{first_long}
use Rattle.tm_syntax.specs.Faults.Limits.{declared_names}
use Rattle.tm_syntax.specs.Tree.View.{template_tree}
use Rattle.tm_limits.proofs.names.templates.declared_long.Goals as goal

pub loop-template-preserved : goal.loop-template-preserved
loop-template-preserved c =
    let xs = c.args.templates.now in
    let i : ℕ = c.loop-template.template-index in
    let x = c.template-item.result in
    let within : i < length xs = omega arith in
    long_more declared_names template_tree xs i x _ _ _ within c.template-item.is
    (c.template_declared.ensures) c.earlier-first.ensures c.loop-template.invariant

pub returns : goal.returns
returns c =
    c.loop-template.invariant
    ∙ ap (λ xs. first_long (flat_map declared_names (map template_tree xs)))
    (take_all c.loop-template.template-index c.args.templates.now (omega arith))
