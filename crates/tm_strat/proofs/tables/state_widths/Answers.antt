use Rattle.std.proofs.Common.{ℕ, List, length, ap, ◌∙◌, arith}
use Rattle.std.proofs.lemmas.Result.{IfOk-weaker}
use Rattle.tm_flat.specs.Flat.{FlatTerms}
use Rattle.tm_strat.proofs.StateWidths.{widths_past, widths_taken}
use Rattle.tm_strat.proofs.tables.state_widths.Goals as goal

pub returns-then-numbers-count : goal.returns-then-numbers-count
returns-then-numbers-count c =
    let same = c.len-count.ensures ∙ c.flat.result.now.widths.ok.0 in
    let long = ap (λ (l : List ℕ). length l) c.as_slice-all.ensures.value in
    let small = c.len-count.type_inv in
    let below = c.if-numbers-count.true in
    IfOk-weaker c.from_slice.result _ _
    (λ widths taken. λ d of fits.
    widths_taken d c.args.game.now of c.args.counts fits c.as_slice-all.result.now
    (c.as_slice-all.ensures.value ∙ ap (λ (f : FlatTerms). f.widths) c.flat.ensures) c.saturating_add-numbers.result
    c.saturating_add-numbers.ensures (omega (arith, same, long, below)) (omega (arith, same, long, small)) _
    (omega arith) widths.items taken)
    c.from_slice.ensures.items

pub returns : goal.returns
returns c =
    let same = c.len-count.ensures ∙ c.flat.result.now.widths.ok.0 in
    let long = ap (λ (l : List ℕ). length l) c.as_slice-all.ensures.value in
    let past = c.if-numbers-count.false in
    IfOk-weaker c.from_slice-2.result _ _
    (λ widths taken. λ d of fits.
    widths_past d c.args.game.now of c.args.counts fits c.as_slice-all.result.now
    (c.as_slice-all.ensures.value ∙ ap (λ (f : FlatTerms). f.widths) c.flat.ensures) c.saturating_add-numbers.result
    c.saturating_add-numbers.ensures (omega (arith, same, long, past)) widths.items)
    c.from_slice-2.ensures.items
