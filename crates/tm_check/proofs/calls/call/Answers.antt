use Rattle.std.proofs.Common.{ℕ, ◌<◌, ◌≤◌, List, Vec, length, map, sym, ap, ◌∙◌, subst, arith}
use Rattle.std.specs.Prelude.{All, min}
use Rattle.std.specs.List.{range_with_len}
use Rattle.std.specs.declared.alloc.Global.{Global}
use Rattle.std.proofs.lemmas.List.{length-map}
use Rattle.tm_check.specs.Arguments.{AreArguments, placed}
use Rattle.tm_check.proofs.Placing.{call_is, row_is, rows_there, widths_narrow}
use Rattle.tm_check.proofs.calls.call.Goals as goal
use Rattle.tm_cir.specs.View.{num_tree}
use Rattle.tm_flat.specs.Flat.{FlatTerms}

pub index-requires : goal.index-requires
index-requires c =
    omega (
      arith,
      c.requires.task,
      rows_there c.requires.reads.0 c.args.game.now c.requires.reads.1.of,
      c.flat.result.now.parameters.ok.0,
      length-map c.flat.result.now.parameters.items (λ (r : Vec ℕ Global). r.items),
      ap (λ (f : FlatTerms). length f.parameters) c.flat.ensures,
    )

pub read_arguments-requires-clause-widths : goal.read_arguments-requires-clause-widths
read_arguments-requires-clause-widths c =
    let inside : c.args.task < length c.flat.result.now.parameters.items = omega (
      arith,
      c.requires.task,
      rows_there c.requires.reads.0 c.args.game.now c.requires.reads.1.of,
      length-map c.flat.result.now.parameters.items (λ (r : Vec ℕ Global). r.items),
      ap (λ (f : FlatTerms). length f.parameters) c.flat.ensures,
    ) in
    subst (All (λ w. w ≤ 64)) (sym c.deref.ensures.value)
    (widths_narrow c.requires.reads.0 c.args.game.now c.requires.reads.1.of c.args.task c.in_ok-widths.widths.items
    (row_is c.flat.result.now c.args.game.now.flat c.args.task c.index.result.now c.in_ok-widths.widths.items
    c.flat.ensures inside c.index.ensures (c.in_ok-widths.ensures.items ∙ c.as_slice-row.ensures.value)))

pub returns-clause-call : goal.returns-clause-call
returns-clause-call c = λ d is.
    let inside : c.args.task < length c.flat.result.now.parameters.items = omega (
      arith,
      c.requires.task,
      rows_there c.requires.reads.0 c.args.game.now c.requires.reads.1.of,
      length-map c.flat.result.now.parameters.items (λ (r : Vec ℕ Global). r.items),
      ap (λ (f : FlatTerms). length f.parameters) c.flat.ensures,
    ) in
    call_is d c.args.game.now c.args.reading is c.read_arguments.new.game.diagrams.table c.args.task
    c.in_ok-widths.widths.items (map num_tree c.args.args.now) c.in_ok-given.given.fit c.in_ok-given.given.bits.items
    c.in_ok-parts.parts.items c.requires.task
    (row_is c.flat.result.now c.args.game.now.flat c.args.task c.index.result.now c.in_ok-widths.widths.items
    c.flat.ensures inside c.index.ensures (c.in_ok-widths.ensures.items ∙ c.as_slice-row.ensures.value))
    (subst (λ (widths : List ℕ). AreArguments d c.args.game.now.order c.read_arguments.new.game.diagrams.table
    c.args.reading.goal widths (map num_tree c.args.args.now) c.in_ok-given.given.fit c.in_ok-given.given.bits.items)
    c.deref.ensures.value (c.in_ok-given.ensures.are d is))
    (c.in_ok-parts.ensures
    ∙ (λ i. map (placed (length (c.order.ensures.value i)) (c.deref-2.ensures.value i))
    (range_with_len 0 (min (length (c.deref-2.ensures.value i)) 64))))
