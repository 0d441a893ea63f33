use Rattle.std.proofs.Common.{◌<◌, ◌++◌, ◌∷◌, [], Some, length, sym, ap, ◌∙◌, arith}
use Rattle.std.proofs.lemmas.Option.{slice_get-get_or}
use Rattle.tm_syntax.specs.Design.View.{design_tree}
use Rattle.tm_flat_states.proofs.OwedTerms.{all_actors, first_actor, more_actors, processes_many, steps_here}
use Rattle.tm_flat_states.proofs.marker.Marker.actors.Goals as goal

pub bounds-processes-process : goal.bounds-processes-process
bounds-processes-process c =
    let d = c.args.self.now.design.now in
    let many = processes_many c.args.terms.now (design_tree d) c.args.processes.now c.requires.steps in
    omega (arith, many, c.loop-process-test.true, c.len-process-end.ensures, d.processes.ok.0)

pub loop-process-init : goal.loop-process-init
loop-process-init c =
    first_actor (design_tree c.args.self.now.design.now) c.args.terms.now c.driver.new.terms c.push.new.self.items
    c.in_ok-driver.driver c.in_ok-driver.ensures
    (c.in_ok-push.ensures.items ∙ ap (λ l. l ++ c.in_ok-driver.driver ∷ []) c.new-ids.ensures.items)

pub push_owed-requires-clause-inputs : goal.push_owed-requires-clause-inputs
push_owed-requires-clause-inputs c = c.loop-process.invariant.grown.inputs ∙ c.requires.inputs

pub push_owed-requires-clause-process : goal.push_owed-requires-clause-process
push_owed-requires-clause-process c =
    let d = c.args.self.now.design.now in
    omega (arith, c.loop-process-test.true, c.len-process-end.ensures, d.processes.ok.0)

pub push_owed-requires-clause-steps : goal.push_owed-requires-clause-steps
push_owed-requires-clause-steps c =
    let d = c.args.self.now.design.now in
    let i = c.loop-process.process in
    let inside : i < length d.processes.items =
    omega (arith, c.loop-process-test.true, c.len-process-end.ensures, d.processes.ok.0) in
    let many = processes_many c.args.terms.now (design_tree d) c.args.processes.now c.requires.steps in
    let steps = c.index-processes-process.result in
    steps_here c.args.terms.now c.loop-process.terms (design_tree d) i c.args.processes.now steps
    _ c.requires.steps c.loop-process.invariant.grown inside
    (slice_get-get_or c.args.processes.now i steps (omega (arith, many, inside)) ∙ ap Some
    (sym c.index-processes-process.is))
    c.deref.ensures.value

pub loop-process-preserved : goal.loop-process-preserved
loop-process-preserved c =
    more_actors (design_tree c.args.self.now.design.now) c.args.terms.now c.loop-process.terms c.push_owed.new.terms
    c.loop-process.process c.loop-process.ids.items c.push_owed.new.ids.items c.loop-process.invariant
    c.in_ok-push_owed.ensures

pub returns : goal.returns
returns c =
    let d = c.args.self.now.design.now in
    all_actors (design_tree d) c.args.terms.now c.loop-process.terms c.loop-process.process c.loop-process.ids
    (omega (
      arith,
      c.loop-process-test.false,
      c.loop-process.auto.process-end,
      c.len-process-end.ensures,
      d.processes.ok.0,
    ))
    c.loop-process.invariant
