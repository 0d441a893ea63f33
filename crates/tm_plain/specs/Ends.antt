-- How the work of a process ends, as a machine finds it.
use Rattle.std.specs.Prelude.{◌≡◌, ⊤, ℕ, None, Some, Result, Ok, Err, List, []}
use Rattle.tm_base.specs.declared.place.Place.{Place}
use Rattle.tm_syntax.specs.declared.design.Design.{Design}
use Rattle.tm_syntax.specs.Design.{DesignTree}
use Rattle.tm_syntax.specs.Design.Locations.{end_number, location_number, rest}
use Rattle.tm_syntax.specs.Design.View.{design_tree}
use Rattle.tm_syntax.specs.Design.Work.{WorkItem}
use Rattle.tm_sem.specs.Run.{Ending, Run, blocked, failed, finished, stopped}
use Rattle.tm_sem.specs.State.{StateData}
use Rattle.tm_sem.specs.Step.{Work, memory_of}
use Rattle.tm_sem.specs.Value.{Memory}
use Rattle.tm_plain_bodies.specs.declared.course.Course.{Course}
use Rattle.tm_plain_bodies.specs.declared.halt.Halt.{Halt}
use Rattle.tm_plain_bodies.specs.declared.halt.Halt.TheVariants as halt
use Rattle.tm_plain_bodies.specs.Going.{EndsWithin, GoesOn}
use Rattle.tm_plain_bodies.specs.Tables.{tables_of}
use Rattle.tm_plain_exprs.specs.Kept.{Kept, Keeps}
use Rattle.tm_plain.specs.declared.machine.rests.End.{End}
use Rattle.tm_plain.specs.declared.machine.rests.End.TheVariants as end

-- an ending in a memory, at the location of a number
abbrev pub ArrivesAt : DesignTree → ℕ → Memory → ℕ → Ending → Type 0
ArrivesAt d p m n (stopped at trail w) = (w ≡ m) × (location_number d p at trail ≡ n)
ArrivesAt d p m n (finished w) = (w ≡ m) × (end_number d p ≡ n)
ArrivesAt d p m n failed = ⊥
ArrivesAt d p m n blocked = ⊥

-- items come to such an end from a memory, in one that is kept
abbrev pub EndsSo : Design → ℕ → List WorkItem → Memory → List ℕ → Kept → End → Type 0
EndsSo d p items m choices to (end.At n) =
    (w : Memory) × Keeps (tables_of d) to w × (e : Ending) × Run (design_tree d) items m choices e
    × ArrivesAt (design_tree d) p w n e
EndsSo d p items m choices to end.Failed = Run (design_tree d) items m choices failed
EndsSo d p items m choices to end.Blocked = Run (design_tree d) items m choices blocked

-- what is left at a location of a process comes to such an end, from each memory that is kept at first
abbrev pub RestEnds : Design → ℕ → ℕ → Kept → List ℕ → Kept → End → Type 0
RestEnds d p k from choices to e =
    (m : Memory) → Keeps (tables_of d) from m → EndsSo d p (rest (design_tree d) p k) m choices to e

-- a halt, where this trail of calls has been left, is such an end
abbrev pub IsEndOf : DesignTree → ℕ → List Place → Halt → End → Type 0
IsEndOf d p trail (halt.Stopped at) (end.At n) = n ≡ location_number d p at trail
IsEndOf d p trail halt.Failed end.Failed = ⊤
IsEndOf d p trail halt.Blocked end.Blocked = ⊤
IsEndOf d p trail _ _ = ⊥

-- a halt within some items, from a memory and with these choices
abbrev pub HaltsSo : Design → List WorkItem → Memory → List ℕ → Course → Halt → Type 0
HaltsSo d items m choices to (halt.Stopped at) =
    (n : Memory) × Keeps (tables_of d) to.store n × EndsWithin (design_tree d) items m choices (stopped at to.trail n)
HaltsSo d items m choices to halt.Failed = EndsWithin (design_tree d) items m choices failed
HaltsSo d items m choices to halt.Blocked = EndsWithin (design_tree d) items m choices blocked
HaltsSo d items m choices to halt.Memory = ⊤

-- what was done of some items
abbrev pub Leads : {A : Type 0} → Design → List WorkItem → Memory → List ℕ → Course → Result A Halt → Type 0
Leads d items m choices to (Ok done) =
    (n : Memory) × Keeps (tables_of d) to.store n × GoesOn (design_tree d) items m n choices to.choices
Leads d items m choices to (Err h) = HaltsSo d items m choices to h

-- nothing is to be done but to tell who moved last
abbrev pub still : StateData → ℕ → Work
still s last = record { items = []; memory = memory_of s; mover = None; last = last }

-- what a process has to do from its location
abbrev pub work_from : DesignTree → StateData → ℕ → ℕ → ℕ → Work
work_from d s p place last =
    record { items = rest d p place; memory = memory_of s; mover = Some p; last = last }

-- the driver has to do some items, from a memory
abbrev pub driver_work : List WorkItem → Memory → Work
driver_work items m = record { items = items; memory = m; mover = None; last = 1 }
