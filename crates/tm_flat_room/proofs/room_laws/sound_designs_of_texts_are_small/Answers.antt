use Rattle.tm_flat_room.proofs.Room.{are_small}
use Rattle.tm_flat_room.proofs.room_laws.sound_designs_of_texts_are_small.Goals as goal

pub returns : goal.returns
returns c = are_small
