use Rattle.std.proofs.Common.{◌≡◌, ◌+◌, length, refl, ap, ◌∙◌, subst, arith}
use Rattle.tm_syntax.specs.Design.View.{design_tree}
use Rattle.tm_flat.specs.Inputs.{first_choice}
use Rattle.tm_flat_moves.specs.Begun.{AreInputTerms}
use Rattle.tm_flat_moves.proofs.InputWidths.{inputs_many}
use Rattle.tm_flat_moves.proofs.mover.Mover.nowhere.Goals as goal

pub input_terms-requires-clause-sound : goal.input_terms-requires-clause-sound
input_terms-requires-clause-sound c = c.in_ok-error.ensures.sound

pub input_terms-requires-clause-within : goal.input_terms-requires-clause-within
input_terms-requires-clause-within c =
    let d = design_tree c.args.self.now.design.now in
    let all = inputs_many d in
    let same = ap length (c.in_ok-error.ensures.grown.inputs ∙ c.requires.inputs) in
    omega (arith, all, same, c.vars.ensures, c.processes.ensures)

pub returns : goal.returns
returns c =
    let d = design_tree c.args.self.now.design.now in
    let many : c.vars.result + (c.processes.result + 1) ≡ first_choice d =
    (λ i. c.vars.ensures i + (c.processes.ensures i + 1)) in
    record {
      mid = c.truth.new.terms;
      error = c.in_ok-error.ensures;
      legal = refl;
      next = subst (λ n. AreInputTerms c.truth.new.terms c.input_terms.new.terms 0 n c.in_ok-next.next.items) many
          c.in_ok-next.ensures;
    }
