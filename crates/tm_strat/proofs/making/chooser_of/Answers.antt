use Rattle.std.proofs.Common.{ℕ, ◌<◌, List, length, ap, ◌∙◌, arith}
use Rattle.std.specs.List.{range_with_len}
use Rattle.tm_flat.specs.Inputs.{room}
use Rattle.tm_strat.specs.Shapes.{all_shapes}
use Rattle.tm_strat.proofs.making.chooser_of.Goals as goal

pub argument_levels-requires : goal.argument_levels-requires
argument_levels-requires c =
    let long = ap (λ (l : List ℕ). length l) c.order.ensures.value in
    let room_there = c.requires in
    let small : length c.order.result.now < 4294967296 = omega (arith, long, room_there) in
    let first = c.narrow-first.ensures small in
    omega (arith, long, room_there, first)

pub returns-clause-levels : goal.returns-clause-levels
returns-clause-levels c =
    let long = ap (λ (l : List ℕ). length l) c.order.ensures.value in
    let room_there = c.requires in
    let small : length c.order.result.now < 4294967296 = omega (arith, long, room_there) in
    c.in_ok-levels.ensures ∙ ap (λ (n : ℕ). range_with_len n room) (c.narrow-first.ensures small ∙ long)

pub returns-clause-few : goal.returns-clause-few
returns-clause-few c = c.in_ok-shapes.ensures.few

pub returns-clause-all : goal.returns-clause-all
returns-clause-all c = λ fits.
    let processes_long = c.len.ensures ∙ c.args.design.now.processes.ok.0 in
    let tasks_long = c.len-2.ensures ∙ c.args.design.now.tasks.ok.0 in
    let few : c.len.result < 4294967296 = omega (arith, processes_long, fits) in
    let few_tasks : c.len-2.result < 4294967296 = omega (arith, tasks_long, fits) in
    let processes = c.narrow-processes.ensures few ∙ processes_long in
    let tasks = c.narrow.ensures few_tasks ∙ tasks_long in
    c.in_ok-shapes.ensures.all (omega (arith, fits, processes, tasks)) ∙ (λ i. all_shapes (processes i) (tasks i))
