use Rattle.std.proofs.Common.{◌≡◌, ◌+◌, length, refl, ap, ◌∙◌, arith, subst}
use Rattle.tm_syntax.specs.Design.View.{design_tree}
use Rattle.tm_flat.specs.Inputs.{first_choice, room}
use Rattle.tm_flat_moves.specs.Begun.{AreInputTerms}
use Rattle.tm_flat_moves.proofs.InputWidths.{inputs_many}
use Rattle.tm_flat_moves.proofs.tasks.Tasks.never.Goals as goal

pub input_terms-requires-clause-sound : goal.input_terms-requires-clause-sound
input_terms-requires-clause-sound c = c.in_ok-error.ensures.sound

pub input_terms-requires-clause-within : goal.input_terms-requires-clause-within
input_terms-requires-clause-within c =
    let d = design_tree c.args.self.now.design.now in
    let all : length c.make.new.terms.inputs ≡ first_choice d + (room + room) =
    ap length (c.in_ok-error.ensures.grown.inputs ∙ c.requires.inputs) ∙ inputs_many d in
    omega (arith, all, c.first-count.ensures)

pub returns : goal.returns
returns c =
    let d = design_tree c.args.self.now.design.now in
    record {
      mid = c.make.new.terms;
      error = c.in_ok-error.ensures;
      legal = refl;
      next = subst (λ n. AreInputTerms c.make.new.terms c.input_terms.new.terms 0 n c.in_ok-next.next.items)
          c.first-count.ensures c.in_ok-next.ensures;
    }
