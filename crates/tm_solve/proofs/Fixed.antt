-- Fixpoints grow with their sets.
use Rattle.std.proofs.Common.{◌≡◌, ℕ, true}
use Rattle.tm_sem.specs.State.{StateData}
use Rattle.tm_solve.specs.Sets.{StateSet, IsWithin}
use Rattle.tm_solve.specs.Game.{Game, IsMonotone}
use Rattle.tm_solve.specs.Fixpoints.{InStay, InSome, InReach}
use Rattle.tm_solve.proofs.Sets.{within_here}

pub stay_rises : (g : Game) → IsMonotone g → (z z' y y' : StateSet) (j i : ℕ) → IsWithin g.states z z' →
    IsWithin g.states y y' → (s : StateData) → InStay g z y j i s → InStay g z' y' j i s
stay_rises g mono z z' y y' j i v w s stay = record {
  set = stay.set;
  holds = λ t among here. (mono.rises z z' y y' stay.set stay.set j i v w (within_here _ _)).within t among
      (stay.holds t among here);
  here = stay.here;
}

pub some_rises : (g : Game) → IsMonotone g → (z z' y y' : StateSet) (j : ℕ) → IsWithin g.states z z' →
    IsWithin g.states y y' → (s : StateData) → InSome g z y j s → InSome g z' y' j s
some_rises g mono z z' y y' j v w s (i, below, stay) = (i, below, stay_rises g mono z z' y y' j i v w s stay)

pub reach_rises : (g : Game) → IsMonotone g → (z z' : StateSet) (j : ℕ) → IsWithin g.states z z' → (s : StateData) →
    InReach g z j s → InReach g z' j s
reach_rises g mono z z' j v s reach = record {
  every = λ f closed. reach.every f (λ t among some. closed t among
      (some_rises g mono z z' f f j v (within_here _ _) t some));
}

-- a set that lies in what the operator makes of it waits
pub stay_of : (g : Game) (z y x : StateSet) (j i : ℕ) → IsWithin g.states x (g.part z y x j i) → (s : StateData) →
    x s ≡ true → InStay g z y j i s
stay_of g z y x j i w s here = record { set = x; holds = w.within; here = here }
