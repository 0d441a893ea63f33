use Rattle.std.proofs.Common.{◌≡◌, ◌<◌, List, Some, length, sym, ap, ◌∙◌, subst, arith}
use Rattle.std.specs.Prelude.{filter, slice_get}
use Rattle.std.specs.List.{range_with_len}
use Rattle.std.proofs.lemmas.Option.{slice_get-get_or}
use Rattle.tm_syntax.specs.declared.design.Item.{Item}
use Rattle.tm_syntax.specs.Design.View.{design_tree}
use Rattle.tm_sem.specs.Fairness.{is_owed}
use Rattle.tm_judge.proofs.Counting.{at_most, byte_is, few_owing, owed_more}
use Rattle.tm_judge.proofs.fairness.owed_count.Goals as goal

pub overflow_add-count : goal.overflow_add-count
overflow_add-count c =
    let d = c.args.design.now in
    let within : c.loop-process.process-index < length d.processes.items =
    subst (λ (xs : List Item). c.loop-process.process-index < length xs) c.deref-process-items.ensures.value
    c.loop-process-test.true in
    omega (arith, at_most c.is_owed.result, c.loop-process.invariant.few, within, few_owing d c.requires)

pub loop-process-preserved : goal.loop-process-preserved
loop-process-preserved c =
    let d = c.args.design.now in
    let i = c.loop-process.process-index in
    let items = c.deref-process-items.result.now in
    let item = c.process-item.result in
    let listed : slice_get d.processes.items i ≡ Some item =
    ap (λ (xs : List Item). slice_get xs i) (sym c.deref-process-items.ensures.value)
    ∙ slice_get-get_or items i item c.loop-process-test.true ∙ ap Some (sym c.process-item.is) in
    let more = owed_more (design_tree d) i in
    let one = byte_is c.is_owed.result (is_owed (design_tree d) i) (c.is_owed.ensures i listed) in
    record {
      so_far = omega (arith, c.loop-process.invariant.so_far, more, one);
      few = omega (arith, c.loop-process.invariant.few, at_most c.is_owed.result);
    }

pub returns : goal.returns
returns c =
    let d = c.args.design.now in
    let here = ap (λ (xs : List Item). length xs) c.deref-process-items.ensures.value in
    let all : c.loop-process.process-index ≡ length d.processes.items =
    omega (arith, c.loop-process-test.false, c.loop-process.auto.process-index-end, here) in
    c.loop-process.invariant.so_far
    ∙ ap (λ n. length (filter (is_owed (design_tree d)) (range_with_len 0 n))) all
