use Rattle.std.proofs.Common.{◌+◌, length, ap, ◌∙◌, arith}
use Rattle.tm_syntax.specs.Design.Locations.{end_number}
use Rattle.tm_syntax.specs.Design.Sizes.{bits_of_number}
use Rattle.tm_syntax.specs.Design.View.{design_tree}
use Rattle.tm_flat_states.specs.Actors.{magic_truth}
use Rattle.tm_flat_states.proofs.Laid.{tables_many}
use Rattle.tm_flat_states.proofs.Lists.{map_long, range_long}
use Rattle.tm_flat_states.proofs.MagicPlaces.{process_table}
use Rattle.tm_flat_states.proofs.Picking.{are_magic_truths, few_truths, magic_found, magic_none_past, picked}
use Rattle.tm_flat_states.proofs.marker.Marker.stands_at_magic.Goals as goal

pub bounds-self-process : goal.bounds-self-process
bounds-self-process c =
    let m = c.args.self.now in
    let many = tables_many (design_tree m.design.now) m.locations.now c.requires.located in
    omega (arith, many, c.requires.process)

pub truth_of_number-requires-clause-known : goal.truth_of_number-requires-clause-known
truth_of_number-requires-clause-known c =
    c.in_ok-always.ensures.grown.known c.in_ok-place.place c.in_ok-place.ensures.term.0

pub truth_of_number-requires-clause-within : goal.truth_of_number-requires-clause-within
truth_of_number-requires-clause-within c =
    let m = c.args.self.now in
    let d = design_tree m.design.now in
    let p = c.args.process in
    let are = c.in_ok-truths.ensures d p
    (process_table d m.locations.now c.requires.located p c.index-self-process.result c.requires.process) in
    few_truths d p c.requires.markable.small c.args.terms.now c.place.new.terms c.make.new.terms c.in_ok-place.place _
    c.in_ok-place.ensures c.in_ok-always.ensures.grown c.in_ok-truths.truths.items c.as_slice.result.now
    (end_number d p + 1) (ap length are ∙ map_long _ _ ∙ range_long 0 (end_number d p + 1)) (omega arith)
    c.as_slice.ensures.value

pub truth_of_number-requires-clause-truths : goal.truth_of_number-requires-clause-truths
truth_of_number-requires-clause-truths c =
    let m = c.args.self.now in
    let d = design_tree m.design.now in
    let p = c.args.process in
    let are = c.in_ok-truths.ensures d p
    (process_table d m.locations.now c.requires.located p c.index-self-process.result c.requires.process) in
    are_magic_truths d p c.in_ok-always.always c.make.new.terms c.in_ok-truths.truths.items c.as_slice.result.now
    c.in_ok-always.ensures.term are c.as_slice.ensures.value

pub returns : goal.returns
returns c =
    let m = c.args.self.now in
    let d = design_tree m.design.now in
    let p = c.args.process in
    let i = length m.design.now.vars.items + p in
    let always = c.in_ok-always.always in
    let are = c.in_ok-truths.ensures d p
    (process_table d m.locations.now c.requires.located p c.index-self-process.result c.requires.process) in
    magic_found d p always c.args.terms.now c.place.new.terms c.make.new.terms c.truth_of_number.new.terms
    c.in_ok-id.id i
    c.in_ok-always.ensures c.in_ok-id.ensures.grown
    (picked c.args.terms.now c.place.new.terms c.truth_of_number.new.terms c.in_ok-place.place
    (bits_of_number (end_number d p)) i (magic_truth d p always) (end_number d p + 1) c.in_ok-truths.truths.items
    c.as_slice.result.now c.in_ok-id.id (magic_none_past d p always) c.in_ok-place.ensures c.make.new.terms
    c.in_ok-always.ensures.grown are c.as_slice.ensures.value c.in_ok-id.ensures)
