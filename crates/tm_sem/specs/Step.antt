-- The steps of a design as a labelled transition system: which states there are, and what a move leads to.
use Rattle.std.specs.Prelude.{◌≡◌, ◌≢◌, ℕ, ◌+◌, ◌<◌, ◌≤◌, Bool, true, false, Option, None, Some, List, [], ◌&&◌, not, length, nat_lt, nat_eq, replicate, slice_index, slice_set, slice_get, MatchOption, IsTrue}
use Rattle.std.specs.Bool.{then_some}
use Rattle.std.specs.Option.{option_and_then, unwrap_or}
use Rattle.std.specs.List.{list_any, list_all, zip, fold, AllZip, range_with_len}
use Rattle.tm_syntax.specs.declared.design.Var.{Var}
use Rattle.tm_syntax.specs.Design.{DesignTree}
use Rattle.tm_sem.specs.declared.state.Move.{Move}
use Rattle.tm_sem.specs.declared.state.Move.TheVariants as moves
use Rattle.tm_sem.specs.declared.state.Outcome.{Outcome}
use Rattle.tm_sem.specs.declared.state.Outcome.TheVariants as outcomes
use Rattle.tm_sem.specs.State.{StateData}
use Rattle.tm_syntax.specs.Design.Scope.{site}
use Rattle.tm_syntax.specs.Design.Cells.{Cell, Called, task_called}
use Rattle.tm_syntax.specs.Design.Sizes.{type_size}
use Rattle.tm_syntax.specs.Design.Work.{WorkItem, body_items}
use Rattle.tm_syntax.specs.Design.Locations.{end_number, location_number, rest, is_magic_at}
use Rattle.tm_sem.specs.Value.{Memory, plain_memory, put}
use Rattle.tm_sem.specs.Run.{Ending, stopped, finished, failed, blocked, Run, asked_by}

-- a valid state: each value is in its type, each location is one of its process, and some actor or none moved last
pub record IsState (d : DesignTree) (s : StateData) : Type 0 where
  pub values : AllZip (λ (v : Var) n. n < type_size d.spec v.ty) d.vars s.values
  pub places : AllZip (λ p k. k ≤ end_number d p) (range_with_len 0 (length d.processes)) s.places
  pub last : s.last < 2 + length d.processes

-- an initial state: declared values, any value where none is declared, every process at its start
pub record IsInitial (d : DesignTree) (s : StateData) : Type 0 where
  pub values : AllZip (λ (v : Var) n. MatchOption v.init (n < type_size d.spec v.ty) (λ k. n ≡ k)) d.vars s.values
  pub places : s.places ≡ replicate (length d.processes) 0
  pub last : s.last ≡ 0

-- the values of a state, before anything lives for a step
abbrev pub memory_of : StateData → Memory
memory_of s = plain_memory s.values

-- whether a process stands at a magic block
abbrev pub stands_at_magic : DesignTree → StateData → ℕ → Bool
stands_at_magic d s p = is_magic_at d p (slice_index s.places p)

-- whether some process stands at a magic block, so that the driver can be picked
abbrev pub is_driver_turn : DesignTree → StateData → Bool
is_driver_turn d s = list_any (stands_at_magic d s) (range_with_len 0 (length d.processes))

-- what a move has to do: items from a memory, a process that they move if there is one, and who moved last then
pub record Work : Type 0 where
  pub items : List WorkItem
  pub memory : Memory
  pub mover : Option ℕ
  pub last : ℕ

-- a process runs from its location, which is no magic block and not its end
abbrev pub process_work : DesignTree → StateData → ℕ → Option Work
process_work d s p =
    then_some
    (nat_lt p (length d.processes) && nat_lt (slice_index s.places p) (end_number d p) && not (stands_at_magic d s p))
    (record { items = rest d p (slice_index s.places p); memory = memory_of s; mover = Some p; last = 2 + p })

-- the driver leaves the magic block at which a process stands
abbrev pub leave_work : DesignTree → StateData → ℕ → Option Work
leave_work d s p =
    then_some (nat_lt p (length d.processes) && stands_at_magic d s p)
    (record { items = rest d p (slice_index s.places p); memory = memory_of s; mover = Some p; last = 1 })

-- whether the arguments of a call are as many as its parameters, each in its type
abbrev pub arguments_fit : DesignTree → List Cell → List ℕ → Bool
arguments_fit d params args =
    nat_eq (length params) (length args)
    && list_all (λ p. nat_lt p.1 (type_size d.spec (asked_by d (Some p.0)))) (zip params args)

-- a controllable task of a design, as a call runs it
abbrev pub task_of : DesignTree → ℕ → Option Called
task_of d t =
    option_and_then
    (λ item. option_and_then (λ at. option_and_then (task_called d at) item.index) (site d item.instance))
    (slice_get d.tasks t)

-- the driver calls a controllable task
abbrev pub call_work : DesignTree → StateData → ℕ → List ℕ → Option Work
call_work d s t args =
    option_and_then (λ callee. then_some (is_driver_turn d s && arguments_fit d callee.params args)
    (record {
      items = body_items callee.scope [] callee.body;
      memory = fold (λ m p. put m p.0 p.1) (memory_of s) (zip callee.params args);
      mover = None;
      last = 1;
    }))
    (task_of d t)

-- what a move has to do at a state, where the turn rule permits it
abbrev pub work : DesignTree → StateData → Move → Option Work
work d s moves.Stutter = Some (record { items = []; memory = memory_of s; mover = None; last = 0 })
work d s (moves.Process p) = process_work d s p
work d s moves.Idle =
    then_some (is_driver_turn d s) (record { items = []; memory = memory_of s; mover = None; last = 1 })
work d s (moves.Leave p) = leave_work d s p
work d s (moves.Call t args) = call_work d s t args

-- the locations of the processes after one of them was moved
abbrev pub locations_after : Option ℕ → StateData → ℕ → List ℕ
locations_after None s k = s.places
locations_after (Some p) s k = slice_set s.places p k

-- what an end of the work leads to
abbrev pub outcome_of : DesignTree → StateData → Work → Ending → Outcome
outcome_of d s w (stopped at trail m) =
    outcomes.Next (record {
      values = m.values;
      places = locations_after w.mover s (location_number d (unwrap_or w.mover 0) at trail);
      last = w.last;
    })
outcome_of d s w (finished m) =
    outcomes.Next (record {
      values = m.values;
      places = locations_after w.mover s (end_number d (unwrap_or w.mover 0));
      last = w.last;
    })
outcome_of d s w failed = outcomes.Error
outcome_of d s w blocked = outcomes.NoOutcome

-- the work comes to an end that leads to the outcome
pub record Comes (d : DesignTree) (s : StateData) (w : Work) (choices : List ℕ) (o : Outcome) : Type 0 where
  pub end : Ending
  pub run : Run d w.items w.memory choices end
  pub outcome : o ≡ outcome_of d s w end

-- a move with these choices leads to the outcome; where the turn rule does not permit it, to none
abbrev pub Step : DesignTree → StateData → Move → List ℕ → Outcome → Type 0
Step d s move choices o = MatchOption (work d s move) (o ≡ outcomes.NoOutcome) (λ w. Comes d s w choices o)

-- a process is enabled where some choices give it an outcome, an error included
abbrev pub IsEnabled : DesignTree → StateData → ℕ → Type 0
IsEnabled d s p = (choices : List ℕ) × (o : Outcome) × Step d s (moves.Process p) choices o × (o ≢ outcomes.NoOutcome)

-- whether a move is the driver's
abbrev pub is_driver_move : Move → Bool
is_driver_move moves.Stutter = false
is_driver_move (moves.Process p) = false
is_driver_move _ = true

-- a driver move is allowed where the driver can be picked, its arguments are in range and some choices give an outcome
abbrev pub IsAllowed : DesignTree → StateData → Move → Type 0
IsAllowed d s move =
    IsTrue (is_driver_move move) × (choices : List ℕ) × (o : Outcome) × Step d s move choices o
    × (o ≢ outcomes.NoOutcome)

-- an outcome that is a state is a valid one
abbrev pub LeadsToState : DesignTree → Outcome → Type 0
LeadsToState d (outcomes.Next s) = IsState d s
LeadsToState d o = Unit {0}
