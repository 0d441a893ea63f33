use Rattle.std.proofs.Common.{◌+◌, refl, sym, ap, ◌∙◌, subst}
use Rattle.tm_syntax.specs.Design.Sizes.{bits_of_number}
use Rattle.tm_flat.specs.Inputs.{room}
use Rattle.tm_flat_stmts.specs.Choices.{AreChoiceBits}
use Rattle.tm_flat_bodies.specs.Tables.{known_by}
use Rattle.tm_flat_bodies.proofs.Alternating.{entered_so}
use Rattle.tm_flat_bodies.proofs.Standing.{bits_within}
use Rattle.tm_flat_bodies.proofs.walker.Walker.enter_choice.Goals as goal

pub choice_number-requires-clause-sound : goal.choice_number-requires-clause-sound
choice_number-requires-clause-sound c = c.requires.standing.sound

pub choice_number-requires-clause-width : goal.choice_number-requires-clause-width
choice_number-requires-clause-width c = c.bits_of_number-width.ensures.is_width

pub choice_number-requires-clause-bits : goal.choice_number-requires-clause-bits
choice_number-requires-clause-bits c =
    let w = known_by c.args.self.now in
    let width = c.bits_of_number-width.ensures.bits ∙ ap bits_of_number c.saturating_sub.ensures in
    subst (λ k. AreChoiceBits c.args.course.now.terms w.first k c.bits_of_number-width.result)
    (sym c.position-start.ensures)
    (subst (λ n. AreChoiceBits c.args.course.now.terms w.first c.args.flow.position n) (sym width)
    (bits_within c.args.course.now.terms w.first room c.args.flow.position _ c.requires.standing.bits
    c.requires.within))

pub returns : goal.returns
returns c =
    entered_so (known_by c.args.self.now) c.args.count c.args.course.now _ c.args.flow _ c.position-start.result
    c.position-start.ensures (c.bits_of_number-width.ensures.bits ∙ ap bits_of_number c.saturating_sub.ensures)
    c.bits_of_number-width.ensures.is_width
    (c.moved.ensures ∙ (λ i. record {
      guard = c.args.flow.guard;
      memory = c.args.flow.memory;
      position = c.position-start.result + c.from.ensures i;
    }))
    c.in_ok-number.ensures refl
