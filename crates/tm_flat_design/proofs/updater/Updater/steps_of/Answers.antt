use Rattle.std.proofs.Common.{ℕ, ◌+◌, List, get_or, length, ap, arith}
use Rattle.tm_syntax.specs.declared.design.Design.{Design}
use Rattle.tm_syntax.specs.Design.Locations.{end_number}
use Rattle.tm_syntax.specs.Design.View.{design_tree}
use Rattle.tm_locations.specs.Locations.{table_of}
use Rattle.tm_locations.specs.declared.table.LocationRow.{LocationRow}
use Rattle.tm_design.proofs.FewPlaces.{few_places}
use Rattle.tm_flat_design.proofs.Movable.{end_is, located_at, moves_of, steps_of_mover}
use Rattle.tm_flat_design.proofs.updater.Updater.steps_of.Goals as goal

pub overflow_cast-number : goal.overflow_cast-number
overflow_cast-number c =
    let d = c.args.self.now.design.now in
    let runnable = c.requires.design.runnable in
    omega (arith, c.requires.process, (few_places (design_tree d) runnable.sound runnable.read).processes)

pub location_steps-requires-clause-moves : goal.location_steps-requires-clause-moves
location_steps-requires-clause-moves c =
    let d = c.args.self.now.design.now in
    let all = c.args.self.now.locations.now in
    let here = c.index-self-number.result in
    moves_of c.what_is_left_may_be_walked.ensures c.new-mover.result d (get_or all c.args.number here) c.args.number
    c.args.course.now.terms c.new-mover.ensures.design c.new-mover.ensures.locations c.new-mover.ensures.process
    c.requires.design.runnable c.requires.design.few c.requires.process
    (located_at d (length d.processes.items) all c.requires.design.located c.args.number c.requires.process here)
    c.requires.terms

pub location_steps-requires-clause-within : goal.location_steps-requires-clause-within
location_steps-requires-clause-within c =
    let d = c.args.self.now.design.now in
    let all = c.args.self.now.locations.now in
    let here = c.index-self-number.result in
    let ends = end_is (table_of (get_or all c.args.number here)) (design_tree d) c.args.number
    (located_at d (length d.processes.items) all c.requires.design.located c.args.number c.requires.process here) in
    let long = ap (λ (rows : List LocationRow). length rows) c.rows.ensures in
    let design = ap (λ (k : Design). end_number (design_tree k) c.new-mover.result.process)
    c.new-mover.ensures.design in
    let process = ap (λ (k : ℕ). end_number (design_tree d) k) c.new-mover.ensures.process in
    omega (arith, ends, long, design, process)

pub returns : goal.returns
returns c =
    let d = c.args.self.now.design.now in
    let all = c.args.self.now.locations.now in
    let here = c.index-self-number.result in
    let ends = end_is (table_of (get_or all c.args.number here)) (design_tree d) c.args.number
    (located_at d (length d.processes.items) all c.requires.design.located c.args.number c.requires.process here) in
    let long = ap (λ (rows : List LocationRow). length rows) c.rows.ensures in
    steps_of_mover c.new-mover.result d c.args.number (length c.rows.result.now + 2) c.args.course.now.terms
    c.location_steps.new.course.terms c.in_ok-steps.steps.items c.new-mover.ensures.design c.new-mover.ensures.process
    c.in_ok-steps.ensures (end_number (design_tree d) c.args.number + 1) (omega (arith, ends, long))
