use Rattle.std.proofs.Common.{◌+◌, ◌<◌, length, sym, subst, arith}
use Rattle.std.specs.Prelude.{slice_index_or}
use Rattle.std.proofs.lemmas.Option.{slice_get-get_or}
use Rattle.tm_term.specs.declared.term.TermId.{TermId}
use Rattle.tm_flat_exprs.specs.Inner.Merging.{MergesValues}
use Rattle.tm_flat_exprs.proofs.Choices.{one_more_chosen, width_along}
use Rattle.tm_flat_exprs.proofs.memory.choices.chosen_values.Goals as goal

pub chosen-requires-clause-width : goal.chosen-requires-clause-width
chosen-requires-clause-width c =
    let none : TermId = record { 0 = 0 } in
    let a : TermId = slice_index_or c.args.first.now c.loop-index.index none in
    let b : TermId = slice_index_or c.args.second.now c.loop-index.index none in
    let below : c.loop-index.index < length c.args.first.now = omega arith in
    let within : c.loop-index.index < length c.args.second.now = omega (arith, c.requires.long) in
    width_along c.args.terms.now c.loop-index.terms a b c.loop-index.invariant.grown
    (c.requires.widths c.loop-index.index a b (slice_get-get_or c.args.first.now c.loop-index.index none below)
    (slice_get-get_or c.args.second.now c.loop-index.index none within))

pub loop-index-preserved : goal.loop-index-preserved
loop-index-preserved c =
    let none : TermId = record { 0 = 0 } in
    let a : TermId = slice_index_or c.args.first.now c.loop-index.index none in
    let b : TermId = slice_index_or c.args.second.now c.loop-index.index none in
    let below : c.loop-index.index < length c.args.first.now = omega arith in
    let within : c.loop-index.index < length c.args.second.now = omega (arith, c.requires.long) in
    subst (MergesValues c.args.terms.now c.chosen.new.terms c.args.guard c.args.first.now c.args.second.now
    (c.loop-index.index + 1)) (sym c.in_ok-push.ensures.items)
    (one_more_chosen c.args.terms.now c.loop-index.terms c.chosen.new.terms c.args.guard c.args.first.now
    c.args.second.now c.loop-index.index c.loop-index.values.items a b c.in_ok-id.id c.loop-index.invariant
    c.in_ok-id.ensures (slice_get-get_or c.args.first.now c.loop-index.index none below)
    (slice_get-get_or c.args.second.now c.loop-index.index none within))
