use Rattle.std.proofs.Common.{ℕ, Vec, map, ap, ◌∙◌}
use Rattle.std.proofs.lemmas.List.{take_all}
use Rattle.std.specs.declared.alloc.Global.{Global}
use Rattle.tm_flat.specs.Flat.{FlatTerms}
use Rattle.tm_strat.proofs.Rows.{rows_more}
use Rattle.tm_strat.proofs.making.widths_of.Goals as goal

pub loop-index-init : goal.loop-index-init
loop-index-init c = ap (map (λ (row : Vec ℕ Global). row.items)) c.new-all.ensures.items

pub loop-index-preserved : goal.loop-index-preserved
loop-index-preserved c =
    rows_more c.as_slice-rows.result.now c.loop-index.all.items c.push.new.self.items c.loop-index.index
    c.index-rows-index.result c.in_ok-widths.widths c.loop-index.invariant c.loop-index-test.true c.index-rows-index.is
    (c.in_ok-widths.ensures.items ∙ c.as_slice.ensures.value) c.in_ok-push.ensures.items

pub returns : goal.returns
returns c =
    c.loop-index.invariant
    ∙ ap (map (λ (row : Vec ℕ Global). row.items))
    (take_all c.loop-index.index c.as_slice-rows.result.now c.loop-index-test.false ∙ c.as_slice-rows.ensures.value)
    ∙ ap (λ (f : FlatTerms). f.parameters) c.flat.ensures
