use Rattle.std.proofs.Common.{◌∙◌, length}
use Rattle.tm_syntax.specs.Design.View.{design_tree}
use Rattle.tm_flat_stmts.proofs.Flowing.{ends_along}
use Rattle.tm_flat_exprs.specs.Tables.{cells_of}
use Rattle.tm_flat_moves.proofs.Finishing.{finishes}
use Rattle.tm_flat_moves.proofs.mover.Mover.finish.Goals as goal

pub arrivals-requires-clause-sound : goal.arrivals-requires-clause-sound
arrivals-requires-clause-sound c = c.requires.ending.sound

pub arrivals-requires-clause-ends : goal.arrivals-requires-clause-ends
arrivals-requires-clause-ends c = (cells_of c.args.self.now.design.now, c.requires.ending.known)

pub arrived-requires-clause-ending : goal.arrived-requires-clause-ending
arrived-requires-clause-ending c =
    let x = cells_of c.args.self.now.design.now in
    let found = c.in_ok-found.ensures x c.requires.ending.known in
    let ending = c.requires.ending in
    record {
      cells = ending.cells;
      sound = found.sound;
      inputs = found.grown.inputs ∙ ending.inputs;
      few = ending.few;
      small = ending.small;
      known = ends_along x c.args.course.now.terms c.arrivals.new.terms c.args.course.now.ends found.grown ending.known;
    }

pub arrived-requires-clause-flow : goal.arrived-requires-clause-flow
arrived-requires-clause-flow c =
    (c.in_ok-found.ensures (cells_of c.args.self.now.design.now) c.requires.ending.known).flow

pub arrived-requires-clause-last : goal.arrived-requires-clause-last
arrived-requires-clause-last c = c.requires.last

pub returns : goal.returns
returns c =
    let x = cells_of c.args.self.now.design.now in
    let ends = c.args.course.now.ends in
    finishes x c.args.course.now.terms c.arrivals.new.terms c.arrived.new.course.terms
    (design_tree c.args.self.now.design.now) ends c.args.width c.args.mover c.args.last c.in_ok-found.found
    c.in_ok-step.step c.requires.ending c.requires.mover (c.in_ok-found.ensures x c.requires.ending.known)
    c.in_ok-step.ensures
