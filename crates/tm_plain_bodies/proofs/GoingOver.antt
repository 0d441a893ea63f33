-- How a run goes over what is left to be done.
use Rattle.std.proofs.Common.{◌≡◌, List, [], ◌∷◌, ◌++◌, append_assoc, map, refl, sym, ap, ◌∙◌, subst}
use Rattle.std.specs.List.{AllByRecursion}
use Rattle.tm_base.specs.declared.place.Place.{Place}
use Rattle.tm_syntax.specs.declared.design.Design.{Design}
use Rattle.tm_syntax.specs.Tree.{StmtTree, row_of}
use Rattle.tm_syntax.specs.Design.{DesignTree}
use Rattle.tm_syntax.specs.Design.Work.{WorkItem, call_place, perform, performs}
use Rattle.tm_scope.specs.Cells.{CellTables, scope_of}
use Rattle.tm_sem.specs.Value.{Memory}
use Rattle.tm_sem.specs.Run.{Run, blocked, failed, goes as leads_to, goes_on, progress, stopped}
use Rattle.tm_plain_bodies.specs.declared.course.Course.{Course}
use Rattle.tm_plain_bodies.specs.declared.halt.Halt.{Halt}
use Rattle.tm_plain_bodies.specs.declared.halt.Halt.TheVariants as halt
use Rattle.tm_plain_bodies.specs.declared.todo.Level.{Level}
use Rattle.tm_plain_bodies.specs.Inner.Owed.{Comes, IsAskedFor, IsRow, Owed, again, answer, leave, one, row, trail_of, work_of}
use Rattle.tm_plain_bodies.specs.Inner.Steps.{GoesOver, HaltsOver}
use Rattle.tm_plain_bodies.specs.Runs.{GetsThrough, HaltsWithin, Stands, behind}
use Rattle.tm_plain_exprs.specs.Kept.{Keeps}
use Rattle.tm_plain_bodies.proofs.Doing.{halts_before}
use Rattle.tm_plain_bodies.proofs.Passing.{stmts_of_row}

pub nothing_behind : {A : Type 0} (xs : List A) → xs ++ [] ≡ xs
nothing_behind [] = refl
nothing_behind (x ∷ xs) = ap (λ ys. x ∷ ys) (nothing_behind xs)

-- further calls stand behind each trail
trail_behind : (base calls : List Place) (ts : List Owed) → trail_of (base ++ calls) ts ≡ trail_of base ts ++ calls
trail_behind base calls [] = refl
trail_behind base calls (one _ _ ∷ ts) = trail_behind base calls ts
trail_behind base calls (row _ _ ∷ ts) = trail_behind base calls ts
trail_behind base calls (again _ _ ∷ ts) = trail_behind base calls ts
trail_behind base calls (leave path ∷ ts) =
    ap (λ trail. call_place path ++ trail) (trail_behind base calls ts)
    ∙ sym (append_assoc (call_place path) (trail_of base ts) calls)
trail_behind base calls (answer _ _ _ _ ∷ ts) = trail_behind base calls ts

-- a design, with the memory of where a run has come to
abbrev pub stands_now : (x : CellTables) (from to : Course) (o : Stands x from.store) (m : Memory) →
    Keeps x to.store m → Stands x to.store
stands_now x from to o m keeps = record {
  design = o.design;
  memory = m;
  cells = o.cells;
  keeps = keeps;
  apart = o.apart;
  typed = o.typed;
}

module _ (x : CellTables) where
  pub over_self : (ts : List Owed) (c : Course) → GoesOver x ts ts c c
  over_self ts c = record {
    trail = λ base is. is;
    goes = λ base calls is o asked. (o.memory, o.keeps, asked, λ rest e run. run);
  }

  -- one step after the other
  pub over_then : (a b c : List Owed) (from mid to : Course) → GoesOver x a b from mid → GoesOver x b c mid to →
      GoesOver x a c from to
  over_then a b c from mid to first second = record {
    trail = λ base is. second.trail base (first.trail base is);
    goes = λ base calls is o asked.
        let m = first.goes base calls is o asked in
        let n = second.goes base calls (first.trail base is) (stands_now x from mid o m.0 m.1) m.2 in
        (n.0, n.1, n.2, λ rest e run. m.3 rest e (n.3 rest e run));
  }

  -- a halt behind some steps
  pub over_halts : (a b : List Owed) (from mid to : Course) → GoesOver x a b from mid →
      ((d : DesignTree) → AllByRecursion (IsAskedFor d x) a) → (h : Halt) → HaltsOver x b mid to h →
      HaltsOver x a from to h
  over_halts a b from mid to first asked (halt.Stopped at) halts = λ base calls is o.
      let m = first.goes base calls is o (asked o.design) in
      let n = halts base calls (first.trail base is) (stands_now x from mid o m.0 m.1) in
      (n.0, n.1, λ rest. m.3 rest (stopped at (to.trail ++ calls) n.0) (n.2 rest))
  over_halts a b from mid to first asked halt.Failed halts = λ base calls is o rest.
      let m = first.goes base calls is o (asked o.design) in
      m.3 rest failed (halts base calls (first.trail base is) (stands_now x from mid o m.0 m.1) rest)
  over_halts a b from mid to first asked halt.Blocked halts = λ base calls is o rest.
      let m = first.goes base calls is o (asked o.design) in
      m.3 rest blocked (halts base calls (first.trail base is) (stands_now x from mid o m.0 m.1) rest)
  over_halts a b from mid to first asked halt.Memory halts = λ base calls is. tt

-- rows make no calls, and put nothing that is returned
rows_trail : (base : List Place) (ts : List Owed) → AllByRecursion IsRow ts → trail_of base ts ≡ base
rows_trail base [] rows = refl
rows_trail base (one _ _ ∷ ts) rows = absurd rows.0
rows_trail base (row _ _ ∷ ts) rows = rows_trail base ts rows.1
rows_trail base (again _ _ ∷ ts) rows = absurd rows.0
rows_trail base (leave _ ∷ ts) rows = absurd rows.0
rows_trail base (answer _ _ _ _ ∷ ts) rows = absurd rows.0

pub rows_asked : (x : CellTables) (ts : List Owed) → AllByRecursion IsRow ts → (d : DesignTree) →
    AllByRecursion (IsAskedFor d x) ts
rows_asked x [] rows d = tt
rows_asked x (one _ _ ∷ ts) rows d = absurd rows.0
rows_asked x (row _ _ ∷ ts) rows d = (tt, rows_asked x ts rows.1 d)
rows_asked x (again _ _ ∷ ts) rows d = absurd rows.0
rows_asked x (leave _ ∷ ts) rows d = absurd rows.0
rows_asked x (answer _ _ _ _ ∷ ts) rows d = absurd rows.0

-- no loop stands behind rows
pub rows_never : (d : Design) (ts : List Owed) → AllByRecursion IsRow ts → Comes d ts → ⊥
rows_never d [] rows comes = comes
rows_never d (one _ _ ∷ ts) rows comes = rows.0
rows_never d (row _ _ ∷ ts) rows comes = rows_never d ts rows.1 comes.1
rows_never d (again _ _ ∷ ts) rows comes = rows.0
rows_never d (leave _ ∷ ts) rows comes = rows.0
rows_never d (answer _ _ _ _ ∷ ts) rows comes = rows.0

-- all rows are done, or a run halts within them
module _ (x : CellTables) (ts : List Owed) (rows : AllByRecursion IsRow ts) (from to : Course) where
  pub rows_done : GoesOver x ts [] from to → (calls : List Place) →
      GetsThrough x (work_of x (from.trail ++ calls) ts) (behind calls from) (behind calls to)
  rows_done over calls = record {
    trail = ap (λ trail. trail ++ calls) (over.trail from.trail (sym (rows_trail from.trail ts rows)));
    goes = λ o.
        let m = over.goes from.trail calls (sym (rows_trail from.trail ts rows)) o (rows_asked x ts rows o.design) in
        (m.0, m.1, λ rest e run. m.3 rest e run);
  }

  pub rows_halt : (h : Halt) → HaltsOver x ts from to h → (calls : List Place) →
      HaltsWithin x (work_of x (from.trail ++ calls) ts) (behind calls from) (behind calls to) h
  rows_halt h halts calls = halts from.trail calls (sym (rows_trail from.trail ts rows))

-- the trail of where the first of what is left stands
pub trail_here : (ts : List Owed) (from : Course) (base calls : List Place) → from.trail ≡ trail_of base ts →
    from.trail ++ calls ≡ trail_of (base ++ calls) ts
trail_here ts from base calls is = ap (λ trail. trail ++ calls) is ∙ sym (trail_behind base calls ts)

-- a statement in front of what is left
module _ (x : CellTables) (level : Level) (s : StmtTree) (ts : List Owed) (from to : Course) where
  abbrev item : List Place → WorkItem
  item trail = perform (scope_of level.at) trail s

  -- it is got through by itself
  pub one_through : ((calls : List Place) → GetsThrough x (item (from.trail ++ calls) ∷ []) (behind calls from)
      (behind calls to)) → GoesOver x (one level s ∷ ts) ts from to
  one_through through = record {
    trail = λ base is.
        sym (nothing_behind to.trail) ∙ (through []).trail ∙ nothing_behind from.trail ∙ is;
    goes = λ base calls is o asked.
        let n = (subst (λ trail. GetsThrough x (item trail ∷ []) (behind calls from) (behind calls to))
        (trail_here ts from base calls is) (through calls)).goes o in
        (n.0, n.1, asked.1, λ rest e run. n.2 (work_of x (base ++ calls) ts ++ rest) e run);
  }

  -- a halt at it
  pub one_halts : (h : Halt) → ((calls : List Place) → HaltsWithin x (item (from.trail ++ calls) ∷ [])
      (behind calls from) (behind calls to) h) → HaltsOver x (one level s ∷ ts) from to h
  one_halts h halts base calls is =
      halts_before x (item (trail_of (base ++ calls) ts) ∷ []) (work_of x (base ++ calls) ts) (behind calls from)
      (behind calls to) h
      (subst (λ trail. HaltsWithin x (item trail ∷ []) (behind calls from) (behind calls to) h)
      (trail_here ts from base calls is)
      (halts calls))

  -- it leads to others
  pub one_leads : (new : List Owed) →
      ((base : List Place) → from.trail ≡ trail_of base ts → to.trail ≡ trail_of base new) →
      ((base calls : List Place) → from.trail ≡ trail_of base ts → (o : Stands x from.store) →
      AllByRecursion (IsAskedFor o.design x) ts →
      (m : Memory) × Keeps x to.store m × AllByRecursion (IsAskedFor o.design x) new × (front : List WorkItem)
      × (progress o.design o.memory from.choices (item (from.trail ++ calls)) ≡ goes_on front m to.choices)
      × (front ++ work_of x (base ++ calls) ts ≡ work_of x (base ++ calls) new)) →
      GoesOver x (one level s ∷ ts) new from to
  one_leads new trail leads = record {
    trail = trail;
    goes = λ base calls is o asked.
        let n = leads base calls is o asked.1 in (
          n.0,
          n.1,
          n.2,
          λ rest e run.
              leads_to
              (ap (λ trail. progress o.design o.memory from.choices (item trail))
              (sym (trail_here ts from base calls is)) ∙ n.4)
              (subst (λ items. Run o.design items n.0 to.choices e)
              (ap (λ items. items ++ rest) (sym n.5) ∙ append_assoc n.3 (work_of x (base ++ calls) ts) rest) run),
        );
  }

  -- the statements of a row
  row_items : (trail : List Place) (ss : List StmtTree) →
      performs (scope_of level.at) trail (row_of ss) ≡ map (perform (scope_of level.at) trail) ss
  row_items trail ss = ap (map (perform (scope_of level.at) trail)) (stmts_of_row ss)

  module _ (ss : List StmtTree) (store : to.store ≡ from.store) (trail : to.trail ≡ from.trail) where
    -- it leads to a row
    pub row_taken : ((calls : List Place) (o : Stands x from.store) →
        progress o.design o.memory from.choices (item (from.trail ++ calls))
        ≡ goes_on (performs (scope_of level.at) (from.trail ++ calls) (row_of ss)) o.memory to.choices) →
        GoesOver x (one level s ∷ ts) (row level ss ∷ ts) from to
    row_taken leads =
        one_leads (row level ss ∷ ts) (λ base is. trail ∙ is) (λ base calls is o asked. (
          o.memory,
          subst (λ k. Keeps x k o.memory) (sym store) o.keeps,
          (tt, asked),
          performs (scope_of level.at) (from.trail ++ calls) (row_of ss),
          leads calls o,
          ap (λ items. items ++ work_of x (base ++ calls) ts)
              (row_items (from.trail ++ calls) ss
              ∙ ap (λ trail. map (perform (scope_of level.at) trail) ss) (trail_here ts from base calls is)),
        ))

    -- it leads to the body of a loop, and comes again
    pub loop_taken : ((calls : List Place) (o : Stands x from.store) →
        progress o.design o.memory from.choices (item (from.trail ++ calls))
        ≡ goes_on (performs (scope_of level.at) (from.trail ++ calls) (row_of ss) ++ (item (from.trail ++ calls) ∷ []))
        o.memory to.choices) →
        GoesOver x (one level s ∷ ts) (row level ss ∷ again level s ∷ ts) from to
    loop_taken leads =
        one_leads (row level ss ∷ again level s ∷ ts) (λ base is. trail ∙ is) (λ base calls is o asked. (
          o.memory,
          subst (λ k. Keeps x k o.memory) (sym store) o.keeps,
          (tt, (tt, asked)),
          performs (scope_of level.at) (from.trail ++ calls) (row_of ss) ++ (item (from.trail ++ calls) ∷ []),
          leads calls o,
          append_assoc (performs (scope_of level.at) (from.trail ++ calls) (row_of ss))
              (item (from.trail ++ calls) ∷ []) (work_of x (base ++ calls) ts)
              ∙ ap (λ items. items ++ (item (from.trail ++ calls) ∷ work_of x (base ++ calls) ts))
              (row_items (from.trail ++ calls) ss)
              ∙ ap (λ trail. map (perform (scope_of level.at) trail) ss
              ++ (item trail ∷ work_of x (base ++ calls) ts)) (trail_here ts from base calls is),
        ))
