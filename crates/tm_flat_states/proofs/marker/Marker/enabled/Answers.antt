use Rattle.std.proofs.Common.{◌+◌, length, map, sym, ap, ◌∙◌, arith}
use Rattle.tm_syntax.specs.Design.Locations.{end_number}
use Rattle.tm_syntax.specs.Design.Sizes.{bits_of_number}
use Rattle.tm_syntax.specs.Design.View.{design_tree}
use Rattle.tm_flat.specs.Flat.{step_terms}
use Rattle.tm_flat_exprs.proofs.Later.{Extends-refl}
use Rattle.tm_flat_states.specs.Actors.{legal_truth}
use Rattle.tm_flat_states.proofs.Laid.{tables_many}
use Rattle.tm_flat_states.proofs.Lists.{map_long, range_long}
use Rattle.tm_flat_states.proofs.MagicPlaces.{process_table}
use Rattle.tm_flat_states.proofs.Picking.{are_legal_truths, few_truths, legal_none_past, picked, steps_many}
use Rattle.tm_flat_states.proofs.marker.Marker.enabled.Goals as goal

pub bounds-self-process : goal.bounds-self-process
bounds-self-process c =
    let m = c.args.self.now in
    let many = tables_many (design_tree m.design.now) m.locations.now c.requires.located in
    omega (arith, many, c.requires.process)

pub truth_of_number-requires-clause-within : goal.truth_of_number-requires-clause-within
truth_of_number-requires-clause-within c =
    let m = c.args.self.now in
    let d = design_tree m.design.now in
    let p = c.args.process in
    let are = c.in_ok-truths.ensures d p
    (process_table d m.locations.now c.requires.located p c.index-self-process.result c.requires.process) in
    let steps = map step_terms c.args.steps.now in
    few_truths d p c.requires.markable.small c.args.terms.now c.place.new.terms c.place.new.terms c.in_ok-place.place _
    c.in_ok-place.ensures (Extends-refl c.place.new.terms) c.in_ok-truths.truths.items c.as_slice.result.now
    (length c.args.steps.now) (ap length are ∙ map_long _ _ ∙ range_long 0 (length c.args.steps.now))
    (sym (map_long step_terms c.args.steps.now) ∙ steps_many c.args.terms.now d p steps c.requires.steps)
    c.as_slice.ensures.value

pub truth_of_number-requires-clause-truths : goal.truth_of_number-requires-clause-truths
truth_of_number-requires-clause-truths c =
    let m = c.args.self.now in
    let d = design_tree m.design.now in
    let p = c.args.process in
    let are = c.in_ok-truths.ensures d p
    (process_table d m.locations.now c.requires.located p c.index-self-process.result c.requires.process) in
    are_legal_truths c.args.terms.now d p (map step_terms c.args.steps.now) c.requires.steps c.place.new.terms
    c.in_ok-truths.truths.items c.as_slice.result.now (length c.args.steps.now) c.in_ok-place.ensures.grown are
    c.as_slice.ensures.value

pub returns : goal.returns
returns c =
    let m = c.args.self.now in
    let d = design_tree m.design.now in
    let p = c.args.process in
    let i = length m.design.now.vars.items + p in
    let steps = map step_terms c.args.steps.now in
    let are = c.in_ok-truths.ensures d p
    (process_table d m.locations.now c.requires.located p c.index-self-process.result c.requires.process) in
    picked c.args.terms.now c.place.new.terms c.truth_of_number.new.terms c.in_ok-place.place
    (bits_of_number (end_number d p)) i (legal_truth d p steps) (length c.args.steps.now) c.in_ok-truths.truths.items
    c.as_slice.result.now c.in_ok-id.id
    (λ x past. legal_none_past c.args.terms.now d p steps c.requires.steps x
    (let same = map_long step_terms c.args.steps.now in omega (arith, same, past))) c.in_ok-place.ensures
    c.place.new.terms (Extends-refl c.place.new.terms) are c.as_slice.ensures.value c.in_ok-id.ensures
