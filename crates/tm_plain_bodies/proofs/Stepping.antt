-- What a step does of a statement, by what it does at once and what it leads to.
use Rattle.std.proofs.Common.{◌≡◌, ◌+◌, ◌<◌, ℕ, true, false, Some, Result, Ok, Err, List, [], ◌∷◌, ◌++◌, refl, sym, ◌∙◌, subst, arith, true≢false}
use Rattle.std.specs.Prelude.{IfErr, IfOk, IsErrAnd, slice_get}
use Rattle.tm_base.specs.declared.place.Place.{Place}
use Rattle.tm_syntax.specs.declared.design.Design.{Design}
use Rattle.tm_syntax.specs.Tree.{ExprTree, StmtRow, StmtTree, alternatives_of, branch, choose, forever, repeat, row_of}
use Rattle.tm_syntax.specs.Scopes.Context.{Context}
use Rattle.tm_syntax.specs.Scopes.Crossing.{row_crosses}
use Rattle.tm_syntax.specs.Design.Work.{perform, performs}
use Rattle.tm_scope.specs.Cells.{scope_of}
use Rattle.tm_sem.specs.Run.{goes_on, progress}
use Rattle.tm_design.specs.Typed.{context_at}
use Rattle.tm_plain_bodies.specs.declared.course.Course.{Course}
use Rattle.tm_plain_bodies.specs.declared.frame.Frame.{Frame}
use Rattle.tm_plain_bodies.specs.declared.halt.Halt.{Halt}
use Rattle.tm_plain_bodies.specs.declared.halt.Halt.TheVariants as halt
use Rattle.tm_plain_bodies.specs.declared.todo.Level.{Level}
use Rattle.tm_plain_bodies.specs.Frames.{RowFits, StmtFits}
use Rattle.tm_plain_bodies.specs.Inner.Owed.{Owed, again, frame_of, level_of, one, row}
use Rattle.tm_plain_bodies.specs.Inner.Steps.{GoesOver, HaltsOver, Stepped, Steps}
use Rattle.tm_plain_bodies.specs.Inner.Weights.{row_weight, stmt_weight, weighs}
use Rattle.tm_plain_bodies.specs.Runs.{DoesStmt, GetsThrough, HaltsWithin, IsSame, RowMayPass, Stands, StmtMayPass, behind, crossing, item_of}
use Rattle.tm_plain_bodies.specs.Tables.{body_of, tables_of}
use Rattle.tm_plain_exprs.specs.Valued.{Holds}
use Rattle.tm_plain_bodies.proofs.Fits.{block_fits, choose_fits, first_fits, forever_crosses, forever_fits, head_fits, repeat_crosses, repeat_fits, second_fits, tail_fits}
use Rattle.tm_plain_bodies.proofs.GoingOver.{loop_taken, one_halts, one_through, row_taken}
use Rattle.tm_plain_bodies.proofs.Passing.{block_passes, first_passes, row_on, second_passes}
use Rattle.tm_plain_bodies.proofs.Performing.{branch_leads, choice_leads, forever_leads, loop_leads}
use Rattle.tm_plain_bodies.proofs.Weights.{block_lighter, stmt_weighs}

-- a halt that a `?` hands on
pub handed : {A : Type 0} (d : Design) (old new : List Owed) (from to : Course) (r : Result A Halt) (h : Halt) →
    IsErrAnd r (λ y. y ≡ h) → HaltsOver (tables_of d) old from to h → Steps d old new from to r
handed d old new from to (Ok done) h is halts = absurd is
handed d old new from to (Err y) h is halts = subst (HaltsOver (tables_of d) old from to) (sym is) halts

-- a step that leaves others to be done, if there is memory for them
pub left_steps : {A : Type 0} (d : Design) (old new next : List Owed) (from to : Course) (r : Result A Halt) →
    IfOk r (λ _. new ≡ next) → IfErr r (λ h. h ≡ halt.Memory) → Stepped d old next from to →
    Steps d old new from to r
left_steps d old new next from to (Ok done) left memory step =
    subst (λ ts. Stepped d old ts from to) (sym left) step
left_steps d old new next from to (Err h) left memory step = λ base calls is.
    subst (λ h. HaltsOver (tables_of d) old from to h) (sym memory) (λ base calls there. tt) base calls is

-- nothing is left of a row
pub row_ended : (d : Design) (level : Level) (ss : List StmtTree) (ts : List Owed) (c : Course) → ss ≡ [] →
    Stepped d (row level ss ∷ ts) ts c c
row_ended d level ss ts c none = subst (λ ss. Stepped d (row level ss ∷ ts) ts c c) (sym none) (record {
  over = record {
    trail = λ base is. is;
    goes = λ base calls is o asked. (o.memory, o.keeps, asked.1, λ rest e run. run);
  };
  fits = λ all. all.1;
  comes = λ rest. (λ c stands. refl, rest);
  lighter = omega arith;
})

-- of a row the first statement is done, and the others are left
module _ (d : Design) (level : Level) (s : StmtTree) (ss : List StmtTree) (ts : List Owed) where
  first_stepped : (new : List Owed) (from to : Course) → RowFits d (frame_of d level) (s ∷ ss) →
      Stepped d (one level s ∷ row level ss ∷ ts) new from to → Stepped d (row level (s ∷ ss) ∷ ts) new from to
  first_stepped new from to fits step = record {
    over = record {
      trail = step.over.trail;
      goes = λ base calls is o asked. step.over.goes base calls is o (tt, (tt, asked.1));
    };
    fits = λ all.
        step.fits (head_fits d (frame_of d level) s ss all.0, (tail_fits d (frame_of d level) s ss all.0, all.1));
    comes = λ rest.
        let c = step.comes rest in
        (λ k stands. sym (row_on (crossing k) s ss (c.0 k stands)) ∙ c.1.0 k stands, c.1.1);
    lighter = let less = step.lighter in omega (arith, less);
  }

  pub first_steps : {A : Type 0} (all : List StmtTree) → all ≡ s ∷ ss → (mid new : List Owed) →
      mid ≡ row level ss ∷ ts → (from to : Course) (r : Result A Halt) →
      RowFits d (frame_of d level) all → Steps d (one level s ∷ mid) new from to r →
      Steps d (row level all ∷ ts) new from to r
  first_steps all is mid new left from to r fits steps =
      subst (λ ss. Steps d (row level ss ∷ ts) new from to r) (sym is)
      (by r (subst (λ ts. Steps d (one level s ∷ ts) new from to r) left steps))
    where
      by : {A : Type 0} (r : Result A Halt) → Steps d (one level s ∷ row level ss ∷ ts) new from to r →
          Steps d (row level (s ∷ ss) ∷ ts) new from to r
      by (Ok done) step = first_stepped new from to (subst (RowFits d (frame_of d level)) is fits) step
      by (Err h) halts = halts

module _ (d : Design) (f : Frame) (tables : f.reader.tables ≡ tables_of d) where
  -- a frame of a design is that of its level
  pub same_body : f.reader ≡ body_of d f.reader.at
  same_body = λ i. record { tables = tables i; at = f.reader.at }

  pub same_frame : f ≡ frame_of d (level_of f)
  same_frame = λ i. record { reader = same_body i; depth = f.depth }

  pub row_there : (ss : List StmtTree) → RowFits d f ss → RowFits d (frame_of d (level_of f)) ss
  row_there ss h = subst (λ g. RowFits d g ss) same_frame h

  pub row_here : (ss : List StmtTree) → RowMayPass (body_of d f.reader.at) ss → RowMayPass f.reader ss
  row_here ss h = subst (λ r. RowMayPass r ss) (sym same_body) h

  pub stmt_there : (s : StmtTree) → StmtMayPass f.reader s → StmtMayPass (body_of d f.reader.at) s
  stmt_there s h = subst (λ r. StmtMayPass r s) same_body h

  module _ (s : StmtTree) (ts : List Owed) (from to : Course) where
    abbrev old : List Owed
    old = one (level_of f) s ∷ ts

    -- what is gone over by the tables of the frame is gone over by those of the design
    pub there : (new : List Owed) → GoesOver f.reader.tables old new from to → GoesOver (tables_of d) old new from to
    there new over = subst (λ x. GoesOver x old new from to) tables over

    -- it is done at once
    pub at_once : ((calls : List Place) → GetsThrough f.reader.tables (item_of f.reader (from.trail ++ calls) s)
        (behind calls from) (behind calls to)) → StmtMayPass f.reader s → Stepped d old ts from to
    at_once through may = record {
      over = there ts (one_through f.reader.tables (level_of f) s ts from to through);
      fits = λ all. all.1;
      comes = λ rest. (stmt_there s may, rest);
      lighter = let some = stmt_weighs (weighs d (frame_of d (level_of f))) s in omega (arith, some);
    }

    -- a run halts at it
    pub halts_there : (h : Halt) → ((calls : List Place) → HaltsWithin f.reader.tables
        (item_of f.reader (from.trail ++ calls) s) (behind calls from) (behind calls to) h) →
        HaltsOver (tables_of d) old from to h
    halts_there h halts =
        subst (λ x. HaltsOver x old from to h) tables
        (one_halts f.reader.tables (level_of f) s ts from to h halts)

    pub does_at_once : {A : Type 0} (r : Result A Halt) → DoesStmt f.reader s from to r → StmtMayPass f.reader s →
        Steps d old ts from to r
    does_at_once (Ok done) through may = at_once through may
    does_at_once (Err h) halts may = halts_there h halts

    -- it leads to a row
    pub takes_row : (ss : List StmtTree) → to.store ≡ from.store → to.trail ≡ from.trail →
        ((calls : List Place) (o : Stands f.reader.tables from.store) →
        progress o.design o.memory from.choices (perform (scope_of f.reader.at) (from.trail ++ calls) s)
        ≡ goes_on (performs (scope_of f.reader.at) (from.trail ++ calls) (row_of ss)) o.memory to.choices) →
        RowFits d f ss → (RowMayPass f.reader ss → StmtMayPass f.reader s) →
        1 + row_weight (weighs d f) (row_of ss) < stmt_weight (weighs d f) s →
        Stepped d old (row (level_of f) ss ∷ ts) from to
    takes_row ss store trail leads fits passes less = record {
      over = there (row (level_of f) ss ∷ ts)
          (row_taken f.reader.tables (level_of f) s ts from to ss store trail leads);
      fits = λ all. (row_there ss fits, all.1);
      comes = λ c. (stmt_there s (passes (row_here ss c.0)), c.1);
      lighter = omega (arith, less);
    }

    -- it leads to the body of a loop
    pub takes_loop : (ss : List StmtTree) → to.store ≡ from.store → to.trail ≡ from.trail →
        ((calls : List Place) (o : Stands f.reader.tables from.store) →
        progress o.design o.memory from.choices (perform (scope_of f.reader.at) (from.trail ++ calls) s)
        ≡ goes_on (performs (scope_of f.reader.at) (from.trail ++ calls) (row_of ss)
        ++ item_of f.reader (from.trail ++ calls) s) o.memory to.choices) →
        RowFits d f ss →
        (c : Context) × (context_at f.reader ≡ Some c) × (row_crosses (crossing c) (row_of ss) ≡ true) →
        1 + row_weight (weighs d f) (row_of ss) < stmt_weight (weighs d f) s →
        Stepped d old (row (level_of f) ss ∷ again (level_of f) s ∷ ts) from to
    takes_loop ss store trail leads fits crosses less = record {
      over = there (row (level_of f) ss ∷ again (level_of f) s ∷ ts)
          (loop_taken f.reader.tables (level_of f) s ts from to ss store trail leads);
      fits = λ all. (row_there ss fits, (tt, all.1));
      comes = λ c. absurd (true≢false (sym crosses.2 ∙ row_here ss c.0 crosses.0 crosses.1));
      lighter = omega (arith, less);
    }

  -- the rows of a branch
  module _ (e : ExprTree) (ts : List Owed) (from to : Course) (same : IsSame from to) where
    pub takes_first : (a : List StmtTree) (b : StmtRow) → StmtFits d f (branch e (row_of a) b) →
        Holds f.reader from.store e true →
        Stepped d (one (level_of f) (branch e (row_of a) b) ∷ ts) (row (level_of f) a ∷ ts) from to
    takes_first a b fits holds =
        takes_row (branch e (row_of a) b) ts from to a same.store same.trail
        (λ calls o. branch_leads f.reader (behind calls from) e (behind calls to) same.choices (row_of a) b true holds
        o)
        (first_fits d f e a b fits)
        (λ may k stands. first_passes (crossing k) e (row_of a) b (may k stands)) (omega arith)

    pub takes_second : (a : StmtRow) (b : List StmtTree) → StmtFits d f (branch e a (row_of b)) →
        Holds f.reader from.store e false →
        Stepped d (one (level_of f) (branch e a (row_of b)) ∷ ts) (row (level_of f) b ∷ ts) from to
    takes_second a b fits holds =
        takes_row (branch e a (row_of b)) ts from to b same.store same.trail
        (λ calls o. branch_leads f.reader (behind calls from) e (behind calls to) same.choices a (row_of b) false holds
        o) (second_fits d f e a b fits)
        (λ may k stands. second_passes (crossing k) e a (row_of b) (may k stands)) (omega arith)

    -- the body of a `while`
    pub takes_repeat : (at : Place) (a : List StmtTree) → StmtFits d f (repeat at e (row_of a)) →
        Holds f.reader from.store e true → Stepped d (one (level_of f) (repeat at e (row_of a)) ∷ ts)
        (row (level_of f) a ∷ again (level_of f) (repeat at e (row_of a)) ∷ ts) from to
    takes_repeat at a fits holds =
        takes_loop (repeat at e (row_of a)) ts from to a same.store same.trail
        (λ calls o. loop_leads f.reader (behind calls from) e at (behind calls to) same.choices (row_of a) holds o)
        (repeat_fits d f at e a fits) (repeat_crosses d f at e a fits) (omega arith)

  -- the body of a `forever`
  pub takes_forever : (at : Place) (a : List StmtTree) (ts : List Owed) (c : Course) →
      StmtFits d f (forever at (row_of a)) → Stepped d (one (level_of f) (forever at (row_of a)) ∷ ts)
      (row (level_of f) a ∷ again (level_of f) (forever at (row_of a)) ∷ ts) c c
  takes_forever at a ts c fits =
      takes_loop (forever at (row_of a)) ts c c a refl refl
      (λ calls o. forever_leads f.reader (behind calls c) at (row_of a) o) (forever_fits d f at a fits)
      (forever_crosses d f at a fits) (omega arith)

  -- the alternative that the next choice numbers
  pub takes_block : (at : Place) (bs : List StmtRow) (k : ℕ) (ss : List StmtTree) (ts : List Owed) (from : Course)
      (left : List ℕ) → from.choices ≡ k ∷ left → slice_get bs k ≡ Some (row_of ss) →
      (there : Place) → StmtFits d f (choose there (alternatives_of bs)) →
      Stepped d (one (level_of f) (choose at (alternatives_of bs)) ∷ ts) (row (level_of f) ss ∷ ts) from
      (record from { choices = left })
  takes_block at bs k ss ts from left next is there fits =
      takes_row (choose at (alternatives_of bs)) ts from (record from { choices = left }) ss refl refl
      (λ calls o. choice_leads f.reader (behind calls from) (behind calls from) at bs k left next (row_of ss) is o)
      (block_fits d f bs k ss is (choose_fits d f there bs fits))
      (λ may c stands. block_passes (crossing c) bs k (row_of ss) is (may c stands))
      (let less = block_lighter (weighs d f) bs k (row_of ss) is in omega (arith, less))
