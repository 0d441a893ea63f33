-- What a machine does of an item, by what the item leads to.
use Rattle.std.proofs.Common.{◌≡◌, ℕ, Result, Ok, Err, List, [], ◌∷◌, ◌++◌, sym, ap, ◌∙◌, subst}
use Rattle.std.specs.Prelude.{IsErrAnd}
use Rattle.tm_base.specs.declared.place.Place.{Place}
use Rattle.tm_syntax.specs.Tree.{ExprTree}
use Rattle.tm_syntax.specs.Design.Work.{WorkItem}
use Rattle.tm_scope.specs.Cells.{CellTables, ScopedCells}
use Rattle.tm_sem.specs.Value.{Memory}
use Rattle.tm_sem.specs.Run.{Ending, stopped, failed, blocked, Run, progress, goes_on, comes_to}
use Rattle.tm_sem.specs.Run as run
use Rattle.tm_plain_bodies.specs.declared.course.Course.{Course}
use Rattle.tm_plain_bodies.specs.declared.halt.Halt.{Halt}
use Rattle.tm_plain_bodies.specs.declared.halt.Halt.TheVariants as halt
use Rattle.tm_plain_exprs.specs.Kept.{Keeps}
use Rattle.tm_plain_bodies.specs.Runs.{Stands, GetsThrough, HaltsWithin, Does, HaltsAt, IsSame, at_end}
use Rattle.tm_plain_exprs.specs.Valued.{Overruns}
use Rattle.tm_plain_bodies.proofs.Going.{goes_past, ends_at, ends_before}

-- one stand after the other
pub same_then : (a b c : Course) → IsSame a b → IsSame b c → IsSame a c
same_then a b c one two = record {
  store = two.store ∙ one.store;
  trail = two.trail ∙ one.trail;
  choices = two.choices ∙ one.choices;
}

-- what stands still has the same memory
abbrev pub stands_on : (x : CellTables) (from to : Course) → to.store ≡ from.store → (o : Stands x from.store) →
    Stands x to.store
stands_on x from to same o = record {
  design = o.design;
  memory = o.memory;
  cells = o.cells;
  keeps = subst (λ k. Keeps x k o.memory) (sym same) o.keeps;
  apart = o.apart;
  typed = o.typed;
}

-- a halt that a `?` hands on
pub handed_halt : {A : Type 0} (x : CellTables) (items : List WorkItem) (from to : Course) (r : Result A Halt)
    (h : Halt) → IsErrAnd r (λ y. y ≡ h) → HaltsWithin x items from to h → Does x items from to r
handed_halt x items from to (Ok done) h is halts = absurd is
handed_halt x items from to (Err y) h is halts = subst (HaltsWithin x items from to) (sym is) halts

module _ (x : CellTables) (item : WorkItem) (from to : Course) where
  -- an item that goes on by itself
  pub passes : to.trail ≡ from.trail →
      ((o : Stands x from.store) → (m : Memory) × Keeps x to.store m
      × (progress o.design o.memory from.choices item ≡ goes_on [] m to.choices)) →
      GetsThrough x (item ∷ []) from to
  passes trail h = record {
    trail = trail;
    goes = λ o. let n = h o in
        (n.0, n.1, goes_past o.design item o.memory from.choices n.0 to.choices n.2);
  }

  -- one that has no outcome
  pub blocks : ((o : Stands x from.store) → progress o.design o.memory from.choices item ≡ comes_to blocked) →
      HaltsWithin x (item ∷ []) from to halt.Blocked
  blocks h = (λ o. ends_at o.design item o.memory from.choices blocked (h o))

  fails_at : (ds : List ℕ) (h : Halt) → h ≡ at_end ds halt.Failed →
      ((o : Stands x from.store) → progress o.design o.memory from.choices item ≡ comes_to (run.at_end ds failed)) →
      HaltsWithin x (item ∷ []) from to h
  fails_at [] h is ends =
      subst (HaltsWithin x (item ∷ []) from to) (sym is)
      (λ o. ends_at o.design item o.memory from.choices failed (ends o))
  fails_at (d ∷ ds) h is ends =
      subst (HaltsWithin x (item ∷ []) from to) (sym is)
      (λ o. ends_at o.design item o.memory from.choices blocked (ends o))

  -- one that errs
  pub fails : (h : Halt) → h ≡ at_end from.choices halt.Failed →
      ((o : Stands x from.store) →
      progress o.design o.memory from.choices item ≡ comes_to (run.at_end from.choices failed)) →
      HaltsWithin x (item ∷ []) from to h
  fails h is ends = fails_at from.choices h is ends

  stops_at : (ds : List ℕ) (at : Place) (h : Halt) → h ≡ at_end ds (halt.Stopped at) → to.store ≡ from.store →
      ((o : Stands x from.store) →
      progress o.design o.memory from.choices item ≡ comes_to (run.at_end ds (stopped at to.trail o.memory))) →
      HaltsWithin x (item ∷ []) from to h
  stops_at [] at h is same ends =
      subst (HaltsWithin x (item ∷ []) from to) (sym is)
      (λ o. (
        o.memory,
        subst (λ k. Keeps x k o.memory) (sym same) o.keeps,
        ends_at o.design item o.memory from.choices (stopped at to.trail o.memory) (ends o),
      ))
  stops_at (d ∷ ds) at h is same ends =
      subst (HaltsWithin x (item ∷ []) from to) (sym is)
      (λ o. ends_at o.design item o.memory from.choices blocked (ends o))

  -- one that is a location
  pub stops : (at : Place) (h : Halt) → h ≡ at_end from.choices (halt.Stopped at) → to.store ≡ from.store →
      ((o : Stands x from.store) →
      progress o.design o.memory from.choices item
      ≡ comes_to (run.at_end from.choices (stopped at to.trail o.memory))) →
      HaltsWithin x (item ∷ []) from to h
  stops at h is same ends = stops_at from.choices at h is same ends

-- an end within some items is one before others
pub halts_before : (x : CellTables) (items others : List WorkItem) (from to : Course) (h : Halt) →
    HaltsWithin x items from to h → HaltsWithin x (items ++ others) from to h
halts_before x items others from to (halt.Stopped at) h =
    (λ o.
    let n = h o in
    (n.0, n.1, ends_before o.design items others o.memory from.choices (stopped at to.trail n.0) n.2))
halts_before x items others from to halt.Failed h =
    (λ o. ends_before o.design items others o.memory from.choices failed (h o))
halts_before x items others from to halt.Blocked h =
    (λ o. ends_before o.design items others o.memory from.choices blocked (h o))
halts_before x items others from to halt.Memory h = tt

-- a halt at an expression is one of the item that values it
pub halts_at : (s : ScopedCells) (item : WorkItem) (from to : Course) (e : ExprTree) (h : Halt) →
    HaltsAt s from e h →
    ((o : Stands s.tables from.store) → Overruns s from.store e →
    progress o.design o.memory from.choices item ≡ comes_to (run.at_end from.choices failed)) →
    HaltsWithin s.tables (item ∷ []) from to h
halts_at s item from to e (halt.Stopped at) h ends =
    fails s.tables item from to (halt.Stopped at) h.1 (λ o. ends o h.0)
halts_at s item from to e halt.Failed h ends = fails s.tables item from to halt.Failed h.1 (λ o. ends o h.0)
halts_at s item from to e halt.Blocked h ends = fails s.tables item from to halt.Blocked h.1 (λ o. ends o h.0)
halts_at s item from to e halt.Memory h ends = tt

-- what halts at an expression that overruns
pub overrun_halts : (s : ScopedCells) (from : Course) (e : ExprTree) (h : Halt) → h ≡ at_end from.choices halt.Failed →
    Overruns s from.store e → HaltsAt s from e h
overrun_halts s from e (halt.Stopped at) is over = (over, is)
overrun_halts s from e halt.Failed is over = (over, is)
overrun_halts s from e halt.Blocked is over = (over, is)
overrun_halts s from e halt.Memory is over = tt

-- an overrun where only what is kept in the buffer has changed
earlier : (s : ScopedCells) (from mid : Course) → IsSame from mid → (e : ExprTree) (h : Halt) →
    Overruns s mid.store e × (h ≡ at_end mid.choices halt.Failed) →
    Overruns s from.store e × (h ≡ at_end from.choices halt.Failed)
earlier s from mid same e h halts = (
  subst (λ k. Overruns s k e) same.store halts.0,
  halts.1 ∙ ap (λ cs. at_end cs halt.Failed) same.choices,
)

-- a halt where only what is kept in the buffer has changed
pub halts_earlier : (s : ScopedCells) (from mid : Course) → IsSame from mid → (e : ExprTree) (h : Halt) →
    HaltsAt s mid e h → HaltsAt s from e h
halts_earlier s from mid same e (halt.Stopped at) halts = earlier s from mid same e (halt.Stopped at) halts
halts_earlier s from mid same e halt.Failed halts = earlier s from mid same e halt.Failed halts
halts_earlier s from mid same e halt.Blocked halts = earlier s from mid same e halt.Blocked halts
halts_earlier s from mid same e halt.Memory halts = tt
