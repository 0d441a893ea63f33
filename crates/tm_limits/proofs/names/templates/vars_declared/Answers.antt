use Rattle.std.proofs.Common.{◌<◌, ◌∷◌, [], ℕ, length, map, ap, ◌∙◌, arith}
use Rattle.std.specs.List.{flat_map}
use Rattle.std.proofs.lemmas.List.{take_all}
use Rattle.tm_limits.proofs.LongNames.{long_more}
use Rattle.tm_limits.specs.LongNames.{first_long}
use Rattle.tm_syntax.specs.Tree.{VarTree}
use Rattle.tm_syntax.specs.Tree.View.{var_tree}
use Rattle.tm_limits.proofs.names.templates.vars_declared.Goals as goal

pub loop-var-preserved : goal.loop-var-preserved
loop-var-preserved c =
    let xs = c.args.vars.now in
    let i : ℕ = c.loop-var.var-index in
    let x = c.var-item.result in
    let within : i < length xs = omega arith in
    long_more (λ (y : VarTree). y.name ∷ []) var_tree xs i x _ _ _ within c.var-item.is
    (c.long.ensures) c.earlier-first.ensures c.loop-var.invariant

pub returns : goal.returns
returns c =
    c.loop-var.invariant
    ∙ ap (λ xs. first_long (flat_map (λ (y : VarTree). y.name ∷ []) (map var_tree xs)))
    (take_all c.loop-var.var-index c.args.vars.now (omega arith))
