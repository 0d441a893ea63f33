use Rattle.std.proofs.Common.{◌≡◌, ◌-◌, List, ℕ, ap, ◌∙◌, arith, length, take}
use Rattle.tm_judge.proofs.Numbers.{states_cut}
use Rattle.tm_judge.proofs.flat_shape.state_bits.Goals as goal

pub returns : goal.returns
returns c =
    let widths = c.args.flat.now.widths.items in
    let count = c.saturating_sub-count.result in
    let long = ap (λ (ws : List ℕ). length ws) c.as_slice-widths.ensures.value in
    let cut : count ≡ length widths - 128 = omega (arith, c.saturating_sub-count.ensures, long) in
    c.sum_of.ensures
    ∙ states_cut widths (take count c.as_slice-widths.result.now) count cut
    (ap (λ (ws : List ℕ). take count ws) c.as_slice-widths.ensures.value)
