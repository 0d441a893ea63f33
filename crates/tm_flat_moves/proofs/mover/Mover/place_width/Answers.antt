use Rattle.std.proofs.Common.{◌≡◌, ◌+◌, ◌<◌, length, slice_index, ap, ◌∙◌, arith}
use Rattle.tm_syntax.specs.Design.View.{design_tree}
use Rattle.tm_flat_moves.proofs.Located.{place_is, place_within}
use Rattle.tm_flat_moves.proofs.mover.Mover.place_width.Goals as goal

pub bounds-inputs-vars : goal.bounds-inputs-vars
bounds-inputs-vars c =
    let d = c.args.self.now.design.now in
    let t = c.args.course.now.terms in
    let within : length d.vars.items + c.args.self.now.process < length t.inputs =
    place_within (design_tree d) t c.requires.inputs c.args.self.now.process c.requires.process in
    let same : length c.inputs.result.now ≡ length t.inputs = ap length c.inputs.ensures in
    omega (arith, within, same, c.vars.ensures)

pub returns : goal.returns
returns c =
    let d = c.args.self.now.design.now in
    (λ j. slice_index (c.inputs.ensures j) (c.vars.ensures j + c.args.self.now.process))
    ∙ place_is (design_tree d) c.args.course.now.terms c.requires.inputs c.args.self.now.process c.requires.process
