-- What a run sees of its memory: the value in each cell, and not how the values that live for one step are listed.
use Rattle.std.specs.Prelude.{◌≡◌, List}
use Rattle.tm_base.specs.declared.place.Place.{Place}
use Rattle.tm_syntax.specs.Design.Cells.{Cell}
use Rattle.tm_sem.specs.Value.{Memory, read}
use Rattle.tm_sem.specs.Run.{Ending, stopped, finished, failed, blocked}

-- two memories that read alike
pub record ReadAlike (m n : Memory) : Type 0 where
  pub values : m.values ≡ n.values
  pub cells : (c : Cell) → read m c ≡ read n c

-- two endings of one sort and place, with memories that read alike
pub data EndAlike : Ending → Ending → Type 0 where
  both_stopped : {m n : Memory} (at : Place) (trail : List Place) → ReadAlike m n →
      EndAlike (stopped at trail m) (stopped at trail n)
  both_finished : {m n : Memory} → ReadAlike m n → EndAlike (finished m) (finished n)
  both_failed : EndAlike failed failed
  both_blocked : EndAlike blocked blocked
