-- What a structured driver answers: the tests are followed from `driver_turn`, and through the functions that it
-- names, to a call, a leave or nothing. `fs` are the functions, `s` is the state, `g` the number of the pending goal,
-- and `m` the move.
use Rattle.std.specs.Prelude.{◌≡◌, ℕ, true, false, List, Some, map, slice_get}
use Rattle.tm_sem.specs.State.{StateData}
use Rattle.tm_sem.specs.declared.state.Move.{Move}
use Rattle.tm_sem.specs.declared.state.Move.TheVariants as moves
use Rattle.tm_cir.specs.Tree.{NumTree, TruthTree}
use Rattle.tm_cir.specs.Meaning.{num_value, holds}
use Rattle.tm_struct.specs.Tree.{ActionTree, choose, call, leave, go, idle, ProgramTree}

-- the move to which an action leads
pub data LeadsTo (fs : List ActionTree) (s : StateData) (g : ℕ) : ActionTree → Move → Type 0 where
  goes_first : {t : TruthTree} {a b : ActionTree} {m : Move} → holds s g t ≡ true → LeadsTo fs s g a m →
      LeadsTo fs s g (choose t a b) m
  goes_second : {t : TruthTree} {a b : ActionTree} {m : Move} → holds s g t ≡ false → LeadsTo fs s g b m →
      LeadsTo fs s g (choose t a b) m
  calls : {task : ℕ} {args : List NumTree} →
      LeadsTo fs s g (call task args) (moves.Call task (map (num_value s g) args))
  leaves : {process : ℕ} → LeadsTo fs s g (leave process) (moves.Leave process)
  goes_on : {k : ℕ} {a : ActionTree} {m : Move} → slice_get fs k ≡ Some a → LeadsTo fs s g a m →
      LeadsTo fs s g (go k) m
  idles : LeadsTo fs s g idle moves.Idle

-- the move that a driver answers at a state and the number of the pending goal
abbrev pub AnswersSo : ProgramTree → StateData → ℕ → Move → Type 0
AnswersSo p s g m = LeadsTo p.functions s g p.main m
