-- A sound design of a text is regular: it has room, its steps are steady, and its initial states are valid.
use Rattle.tm_syntax.specs.declared.design.Design.{Design}
use Rattle.tm_syntax.specs.Design.View.{design_tree}
use Rattle.tm_syntax.specs.Faults.{IsOfText, IsSound}
use Rattle.tm_typing.proofs.Sound.{checked}
use Rattle.tm_states.proofs.StateLaws.{initial_valid}
use Rattle.tm_states.proofs.Stepping.{steps_valid}
use Rattle.tm_flat_room.proofs.Room.{design_has_room}
use Rattle.tm_verdict.specs.Regular.{IsRegular}

pub regular : (d : Design) → IsSound (design_tree d) → IsOfText (design_tree d).spec → IsRegular (design_tree d)
regular d sound of = record {
  room = design_has_room d sound of;
  steady = steps_valid (design_tree d) sound of;
  initial = initial_valid (design_tree d) (checked (design_tree d) sound of) sound.numbered;
}
