-- How runs go on behind some work, or end within it, whatever is left to be done.
use Rattle.std.specs.Prelude.{ℕ, List, ◌++◌}
use Rattle.tm_syntax.specs.Design.{DesignTree}
use Rattle.tm_syntax.specs.Design.Work.{WorkItem}
use Rattle.tm_sem.specs.Value.{Memory}
use Rattle.tm_sem.specs.Run.{Ending, Run}

-- a run goes on behind some items with another memory and the choices that are left
abbrev pub GoesOn : DesignTree → List WorkItem → Memory → Memory → List ℕ → List ℕ → Type 0
GoesOn d items m n cs ds = (rest : List WorkItem) (e : Ending) → Run d rest n ds e → Run d (items ++ rest) m cs e

-- a run comes to an end within some items, whatever stands behind them
abbrev pub EndsWithin : DesignTree → List WorkItem → Memory → List ℕ → Ending → Type 0
EndsWithin d items m cs e = (rest : List WorkItem) → Run d (items ++ rest) m cs e
