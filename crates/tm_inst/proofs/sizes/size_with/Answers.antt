use Rattle.std.proofs.Common.{◌≡◌, ◌+◌, ◌<◌, ℕ, length, get_or, map, min, take, refl, sym, ap, ◌∙◌, arith}
use Rattle.std.proofs.lemmas.List.{take_all}
use Rattle.std.proofs.lemmas.Option.{slice_get-get_or}
use Rattle.tm_scope.proofs.Entries.{at-contained}
use Rattle.tm_syntax.specs.declared.fault.Quantity.TheVariants as quantity
use Rattle.tm_limits.specs.Shares.{combination_of}
use Rattle.tm_limits.specs.Amount.{capped}
use Rattle.tm_limits.specs.Totals.{combined, over}
use Rattle.tm_limits.proofs.TotalSteps.{total_more}
use Rattle.tm_inst.proofs.sizes.size_with.Goals as goal

-- two counts that are told, added
added : (m n x y sum : ℕ) → x ≡ capped m → y ≡ capped n → sum ≡ min (x + y) 18446744073709551615 →
    sum ≡ capped (m + n)
added m n x y sum first second is = omega arith

pub loop-node-init : goal.loop-node-init
loop-node-init c = λ count each. omega arith

pub loop-node-preserved : goal.loop-node-preserved
loop-node-preserved c = λ count each.
    let below = c.args.below.now in
    let i : ℕ = c.loop-node.node-index in
    let node : ℕ = get_or below i 0 in
    let within : i < length below = omega arith in
    let so_far : ℕ = combined (combination_of quantity.Instances) 1
    (over (combination_of quantity.Instances) (map count (take i below))) in
    let told = c.size_at.ensures ∙ each node (at-contained below i node (slice_get-get_or below i 0 within)) in
    let joined : c.saturating_add-size.result ≡ capped (so_far + count node) =
    added so_far (count node) c.loop-node.size c.size_at.result c.saturating_add-size.result
    (c.loop-node.invariant count each) told c.saturating_add-size.ensures in
    joined ∙ ap capped (sym (total_more (combination_of quantity.Instances) count 1 below i node within refl))

pub returns : goal.returns
returns c = λ count each.
    c.loop-node.invariant count each
    ∙ ap (λ ns. capped (combined (combination_of quantity.Instances) 1
    (over (combination_of quantity.Instances) (map count ns))))
    (take_all c.loop-node.node-index c.args.below.now (omega arith))
