use Rattle.std.proofs.Common.{◌+◌, length, arith}
use Rattle.tm_syntax.specs.Design.Sizes.{bits_of_number}
use Rattle.tm_syntax.specs.Design.View.{design_tree}
use Rattle.tm_term.proofs.Valued.{Extends-trans}
use Rattle.tm_flat_exprs.proofs.Later.{truth_along}
use Rattle.tm_flat_states.proofs.Idling.{idle_alike, last_fits, moved_made}
use Rattle.tm_flat_states.proofs.InputTerms.{input_made, last_inside, last_width}
use Rattle.tm_flat_states.proofs.marker.Marker.moved_or_idle.Goals as goal

pub make-requires : goal.make-requires
make-requires c =
    let d = c.args.self.now.design.now in
    let inside = last_inside (design_tree d) c.args.terms.now.inputs c.requires.inputs in
    omega (arith, inside, c.len.ensures, c.len-2.ensures, d.vars.ok.0, d.processes.ok.0)

pub is_number-requires-clause-known : goal.is_number-requires-clause-known
is_number-requires-clause-known c = c.in_ok-last.ensures.term.0

pub is_number-requires-clause-within : goal.is_number-requires-clause-within
is_number-requires-clause-within c =
    let d = c.args.self.now.design.now in
    last_fits (design_tree d) c.requires.markable.small c.args.terms.now c.make.new.terms c.in_ok-last.last _
    c.args.number
    (input_made (design_tree d) c.args.terms.now c.make.new.terms _ (length d.vars.items + length d.processes.items)
    (bits_of_number (1 + length d.processes.items)) c.in_ok-last.last c.requires.inputs
    (omega (arith, c.len.ensures, c.len-2.ensures, d.vars.ok.0, d.processes.ok.0)) (last_width (design_tree d))
    c.in_ok-last.ensures) c.requires.number

pub truth-requires-clause-truth : goal.truth-requires-clause-truth
truth-requires-clause-truth c =
    truth_along c.args.terms.now c.is_number.new.terms c.args.busy
    (Extends-trans c.args.terms.now c.make.new.terms c.is_number.new.terms c.in_ok-last.ensures.grown
    c.in_ok-moved.ensures.grown) c.requires.busy

pub make-requires-2 : goal.make-requires-2
make-requires-2 c =
    let d = c.args.self.now.design.now in
    idle_alike c.args.terms.now c.make.new.terms c.is_number.new.terms c.truth.new.terms c.denial.new.terms
    c.denial.new.terms c.in_ok-last.last c.in_ok-moved.moved c.in_ok-may.may c.in_ok-idle.idle c.in_ok-idle.idle
    (bits_of_number (1 + length d.processes.items)) (length d.vars.items + length d.processes.items) c.args.number
    c.args.busy
    (input_made (design_tree d) c.args.terms.now c.make.new.terms _ (length d.vars.items + length d.processes.items)
    (bits_of_number (1 + length d.processes.items)) c.in_ok-last.last c.requires.inputs
    (omega (arith, c.len.ensures, c.len-2.ensures, d.vars.ok.0, d.processes.ok.0)) (last_width (design_tree d))
    c.in_ok-last.ensures) c.in_ok-moved.ensures c.in_ok-may.ensures c.in_ok-idle.ensures

pub returns : goal.returns
returns c =
    let d = c.args.self.now.design.now in
    moved_made c.args.terms.now c.make.new.terms c.is_number.new.terms c.truth.new.terms c.denial.new.terms
    c.make-2.new.terms c.in_ok-last.last c.in_ok-moved.moved c.in_ok-may.may c.in_ok-idle.idle c.in_ok-id.id
    (bits_of_number (1 + length d.processes.items)) (length d.vars.items + length d.processes.items) c.args.number
    c.args.busy
    (input_made (design_tree d) c.args.terms.now c.make.new.terms _ (length d.vars.items + length d.processes.items)
    (bits_of_number (1 + length d.processes.items)) c.in_ok-last.last c.requires.inputs
    (omega (arith, c.len.ensures, c.len-2.ensures, d.vars.ok.0, d.processes.ok.0)) (last_width (design_tree d))
    c.in_ok-last.ensures) c.in_ok-moved.ensures c.in_ok-may.ensures c.in_ok-idle.ensures c.in_ok-id.ensures
