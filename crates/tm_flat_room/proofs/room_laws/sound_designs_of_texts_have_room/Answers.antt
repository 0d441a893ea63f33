use Rattle.tm_flat_room.proofs.Room.{design_has_room}
use Rattle.tm_flat_room.proofs.room_laws.sound_designs_of_texts_have_room.Goals as goal

pub returns : goal.returns
returns c = design_has_room
