use Rattle.std.proofs.Common.{◌≡◌, ◌+◌, ◌<◌, ◌^◌, length, ap, ◌∙◌, subst, sym, arith}
use Rattle.tm_base.specs.Arithmetic.{IsWidth}
use Rattle.tm_syntax.specs.Design.Locations.{end_number, is_magic_at, rest}
use Rattle.tm_syntax.specs.Design.Sizes.{bits_of_number}
use Rattle.tm_syntax.specs.Design.View.{design_tree}
use Rattle.tm_flat.specs.Inputs.{room}
use Rattle.tm_flat.specs.Writes.{items_write}
use Rattle.tm_plain.proofs.Places.{end_is}
use Rattle.tm_flat_moves.specs.Movable.{tables_by}
use Rattle.tm_flat_moves.specs.Run.{HasRun, runs_from}
use Rattle.tm_flat_moves.proofs.Located.{mover_low, place_low, place_wide}
use Rattle.tm_flat_moves.proofs.Stepping.{end_made, ok_so, step_made}
use Rattle.tm_flat_moves.proofs.mover.Mover.process_step.Goals as goal

pub returns-then-place-rows : goal.returns-then-place-rows
returns-then-place-rows c =
    let m = c.args.self.now in
    let w = tables_by m in
    let d = design_tree m.design.now in
    let rows : length c.rows.result.now ≡ length w.locations.rows = ap length c.rows.ensures in
    let end = end_is w.locations d m.process c.requires.movable.are in
    let is : c.args.place ≡ end_number d m.process =
    omega (arith, rows, end, c.if-place-rows.true, c.requires.place) in
    ok_so
    (λ step made.
    end_made w d m.process c.args.place c.args.course.now.terms c.nowhere.new.course.terms c.requires.movable
    c.requires.process step is made) c.nowhere.result c.nowhere.ensures

pub mover_number-last-requires : goal.mover_number-last-requires
mover_number-last-requires c =
    let d = c.args.self.now.design.now in
    let few : length d.vars.items + (length d.processes.items + 1) + (room + room) < 2 ^ 32 =
    c.requires.movable.few in
    omega (arith, few, c.requires.process)

pub place_width-width-requires-clause-inputs : goal.place_width-width-requires-clause-inputs
place_width-width-requires-clause-inputs c =
    let m = c.args.self.now in
    let w = tables_by m in
    let d = design_tree m.design.now in
    let course = c.run_from.new.course in
    let ran : HasRun w d m.process (runs_from d m.process c.args.place)
    (λ i. items_write d i (rest d m.process c.args.place) 0) c.args.course.now.terms course =
    c.in_ok-run_from.ensures in
    ran.grown.inputs ∙ c.requires.movable.inputs

pub place_width-width-requires-clause-process : goal.place_width-width-requires-clause-process
place_width-width-requires-clause-process c = c.requires.process

pub finish-requires-clause-ending : goal.finish-requires-clause-ending
finish-requires-clause-ending c =
    let m = c.args.self.now in
    let w = tables_by m in
    let d = design_tree m.design.now in
    let course = c.run_from.new.course in
    let ran : HasRun w d m.process (runs_from d m.process c.args.place)
    (λ i. items_write d i (rest d m.process c.args.place) 0) c.args.course.now.terms course =
    c.in_ok-run_from.ensures in
    record {
      cells = c.requires.movable.cells;
      sound = ran.sound;
      inputs = ran.grown.inputs ∙ c.requires.movable.inputs;
      few = let few = c.requires.movable.few in omega (arith, few);
      small = c.requires.movable.small;
      known = ran.ends;
    }

pub finish-requires-clause-last : goal.finish-requires-clause-last
finish-requires-clause-last c =
    let m = c.args.self.now in
    let w = tables_by m in
    let d = design_tree m.design.now in
    mover_low (is_magic_at d m.process c.args.place) m.process (length d.processes) c.mover_number-last.result
    c.requires.process (c.mover_number-last.ensures d m.process c.requires.movable.are)

pub finish-requires-clause-width : goal.finish-requires-clause-width
finish-requires-clause-width c =
    let m = c.args.self.now in
    let w = tables_by m in
    let d = design_tree m.design.now in
    let course = c.run_from.new.course in
    let ran : HasRun w d m.process (runs_from d m.process c.args.place)
    (λ i. items_write d i (rest d m.process c.args.place) 0) c.args.course.now.terms course =
    c.in_ok-run_from.ensures in
    subst IsWidth (sym c.place_width-width.ensures)
    (place_wide d course.terms (ran.grown.inputs ∙ c.requires.movable.inputs) m.process c.requires.process ran.sound)

pub finish-requires-clause-within : goal.finish-requires-clause-within
finish-requires-clause-within c =
    let m = c.args.self.now in
    let w = tables_by m in
    let d = design_tree m.design.now in
    let course = c.run_from.new.course in
    let ran : HasRun w d m.process (runs_from d m.process c.args.place)
    (λ i. items_write d i (rest d m.process c.args.place) 0) c.args.course.now.terms course =
    c.in_ok-run_from.ensures in
    let end = end_is w.locations d m.process c.requires.movable.are in
    let low = place_low d m.process c.requires.movable.small in
    let width : 2 ^ c.place_width-width.result ≡ 2 ^ bits_of_number (end_number d m.process) =
    ap (λ k. 2 ^ k) c.place_width-width.ensures in
    omega (arith, end, low, width, ran.count)

pub finish-requires-clause-mover : goal.finish-requires-clause-mover
finish-requires-clause-mover c = (c.requires.process, c.place_width-width.ensures)

pub returns : goal.returns
returns c =
    let m = c.args.self.now in
    let w = tables_by m in
    let d = design_tree m.design.now in
    let course = c.run_from.new.course in
    let ran : HasRun w d m.process (runs_from d m.process c.args.place)
    (λ i. items_write d i (rest d m.process c.args.place) 0) c.args.course.now.terms course =
    c.in_ok-run_from.ensures in
    let rows : length c.rows.result.now ≡ length w.locations.rows = ap length c.rows.ensures in
    let end = end_is w.locations d m.process c.requires.movable.are in
    let below : c.args.place < end_number d m.process = omega (arith, rows, end, c.if-place-rows.false) in
    step_made w d m.process c.args.place c.args.course.now.terms c.finish.new.course.terms c.requires.movable
    c.requires.process c.in_ok-step.step below c.mover_number-last.result
    (c.mover_number-last.ensures d m.process c.requires.movable.are) course ran c.in_ok-step.ensures
