use Rattle.std.proofs.Common.{◌≡◌, ◌++◌, ◌∷◌, map, ap, ◌∙◌, arith}
use Rattle.std.specs.Fmt.{decimal}
use Rattle.std.specs.List.{range_with_len}
use Rattle.tm_inst.specs.Inner.Listed.{var_of}
use Rattle.tm_inst.proofs.Listing.{ranged_more}
use Rattle.tm_inst.proofs.vars.push_elements.Goals as goal

pub loop-index-preserved : goal.loop-index-preserved
loop-index-preserved c =
    ranged_more (λ p. var_of c.args.number p c.args.ty.now c.args.init) (λ k. c.args.base.now ++ 46 ∷ decimal k)
    c.loop-index.index c.args.vars.now.items c.loop-index.vars.items c.push_var.new.vars.items c.in_ok-path.path
    (c.in_ok-path.ensures) (c.in_ok-push_var.ensures) c.loop-index.invariant

pub returns : goal.returns
returns c =
    let end : c.loop-index.index ≡ c.unwrap_or-index-end.result = omega arith in
    c.loop-index.invariant
    ∙ ap (λ n. c.args.vars.now.items ++ map (λ p. var_of c.args.number p c.args.ty.now c.args.init)
    (map (λ k. c.args.base.now ++ 46 ∷ decimal k) (range_with_len 0 n))) (end ∙ c.unwrap_or-index-end.ensures)
