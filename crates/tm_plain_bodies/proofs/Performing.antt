-- What a machine does of a statement, by what it does of its parts.
use Rattle.std.proofs.Common.{◌≡◌, ℕ, Bool, true, false, Option, None, Some, List, [], ◌∷◌, ◌++◌, refl, sym, ap, ◌∙◌}
use Rattle.std.specs.Prelude.{if◌then◌else◌, slice_get}
use Rattle.tm_base.specs.declared.place.Place.{Place}
use Rattle.tm_syntax.specs.declared.design.Ty.TheVariants as types
use Rattle.tm_syntax.specs.declared.tree.Ident.{Ident}
use Rattle.tm_syntax.specs.Tree.{ExprTree, ValueTree, plain, StmtTree, assign, branch, repeat, forever, choose, assert, assume, pause, wait, magic, StmtRow, BlockRow, row_of, alternatives_of, blocks_of}
use Rattle.tm_syntax.specs.Design.Work.{perform, performs}
use Rattle.tm_scope.specs.Cells.{ScopedCells, scope_of}
use Rattle.tm_sem.specs.Run.{chooses_block, goes_on, progress}
use Rattle.tm_plain_bodies.specs.declared.course.Course.{Course}
use Rattle.tm_plain_bodies.specs.declared.halt.Halt.{Halt}
use Rattle.tm_plain_bodies.specs.declared.halt.Halt.TheVariants as halt
use Rattle.tm_plain_bodies.specs.Runs.{Stands, GetsThrough, HaltsWithin, HaltsAt, IsSame, StmtAt, RowAt, BlocksAt, TargetAt, HasTargetType, at_end, item_of, told}
use Rattle.tm_design.specs.Typed.{HasTypeAt}
use Rattle.tm_plain_exprs.specs.Valued.{Holds}
use Rattle.tm_plain_bodies.proofs.Doing.{blocks, fails, halts_at, passes, stands_on, stops}
use Rattle.tm_plain_bodies.proofs.Passing.{blocks_of_alternatives}
use Rattle.tm_plain_bodies.proofs.Progress.{assert_overruns, assert_holds, assert_fails, assume_overruns, assume_holds, assume_fails, branch_overruns, branch_goes, repeat_overruns, repeat_goes, repeat_stops, block_taken, block_refused}
use Rattle.tm_states.proofs.Promised.{branch_rows, repeat_row, forever_row, choose_blocks, row_first, block_at, assert_typed, assume_typed, branch_typed, repeat_typed, value_typed}

module _ (s : ScopedCells) where
  -- the parts of a statement that is promised are
  module _ (e : ExprTree) (a b : StmtRow) (h : StmtAt s (branch e a b)) where
    pub branch_test : HasTypeAt s types.Bool e
    branch_test = record { context = h.context; stands = h.stands; typed = branch_typed h.context e a b h.promised }

  pub branch_first : (e : ExprTree) (a : List StmtTree) (b : StmtRow) → StmtAt s (branch e (row_of a) b) → RowAt s a
  branch_first e a b h = record {
    context = h.context;
    stands = h.stands;
    promised = (branch_rows h.context e (row_of a) b h.promised).0;
  }

  pub branch_second : (e : ExprTree) (a : StmtRow) (b : List StmtTree) → StmtAt s (branch e a (row_of b)) → RowAt s b
  branch_second e a b h = record {
    context = h.context;
    stands = h.stands;
    promised = (branch_rows h.context e a (row_of b) h.promised).1;
  }

  pub repeat_test : (at : Place) (e : ExprTree) (a : StmtRow) → StmtAt s (repeat at e a) → HasTypeAt s types.Bool e
  repeat_test at e a h = record {
    context = h.context;
    stands = h.stands;
    typed = repeat_typed h.context at e a h.promised;
  }

  pub repeat_body : (at : Place) (e : ExprTree) (a : List StmtTree) → StmtAt s (repeat at e (row_of a)) → RowAt s a
  repeat_body at e a h = record {
    context = h.context;
    stands = h.stands;
    promised = repeat_row h.context at e (row_of a) h.promised;
  }

  pub forever_body : (at : Place) (a : List StmtTree) → StmtAt s (forever at (row_of a)) → RowAt s a
  forever_body at a h = record {
    context = h.context;
    stands = h.stands;
    promised = forever_row h.context at (row_of a) h.promised;
  }

  pub choose_at : (at : Place) (a : List StmtRow) → StmtAt s (choose at (alternatives_of a)) → BlocksAt s a
  choose_at at a h = record {
    context = h.context;
    stands = h.stands;
    promised = choose_blocks h.context at (alternatives_of a) h.promised;
  }

  pub assert_test : (at : Place) (e : ExprTree) → StmtAt s (assert at e) → HasTypeAt s types.Bool e
  assert_test at e h = record {
    context = h.context;
    stands = h.stands;
    typed = assert_typed h.context at e h.promised;
  }

  pub assume_test : (at : Place) (e : ExprTree) → StmtAt s (assume at e) → HasTypeAt s types.Bool e
  assume_test at e h = record {
    context = h.context;
    stands = h.stands;
    typed = assume_typed h.context at e h.promised;
  }

  pub row_head : (t : StmtTree) (ts : List StmtTree) → RowAt s (t ∷ ts) → StmtAt s t
  row_head t ts h = record {
    context = h.context;
    stands = h.stands;
    promised = (row_first h.context t (row_of ts) h.promised).0;
  }

  pub row_tail : (t : StmtTree) (ts : List StmtTree) → RowAt s (t ∷ ts) → RowAt s ts
  row_tail t ts h = record {
    context = h.context;
    stands = h.stands;
    promised = (row_first h.context t (row_of ts) h.promised).1;
  }

  pub block_here : (bs : List StmtRow) (k : ℕ) (ts : List StmtTree) → BlocksAt s bs →
      slice_get bs k ≡ Some (row_of ts) → RowAt s ts
  block_here bs k ts h is = record {
    context = h.context;
    stands = h.stands;
    promised =
        block_at h.context (alternatives_of bs) k (row_of ts) h.promised
        (ap (λ xs. slice_get xs k) (blocks_of_alternatives bs) ∙ is);
  }

  abbrev pub target_at : (names : List Ident) (index : Option ExprTree) (v : ValueTree) →
      StmtAt s (assign names index v) →
      TargetAt s names index
  target_at names index v h = record {
    context = h.context;
    stands = h.stands;
    resolves = h.promised.0.resolves.0;
  }

  pub value_at : (names : List Ident) (index : Option ExprTree) (e : ExprTree) →
      StmtAt s (assign names index (plain e)) → HasTargetType s names e
  value_at names index e h =
      let ty = value_typed h.context names index e h.promised in record {
        context = h.context;
        stands = h.stands;
        ty = ty.0;
        named = ty.1;
        typed = ty.2;
      }

  module _ (from : Course) (e : ExprTree) where
    -- a branch, by its condition
    pub branch_leads : (mid : Course) → mid.choices ≡ from.choices → (a b : StmtRow) (t : Bool) →
        Holds s from.store e t → (o : Stands s.tables from.store) →
        progress o.design o.memory from.choices (perform (scope_of s.at) from.trail (branch e a b))
        ≡ goes_on (performs (scope_of s.at) from.trail (if t then a else b)) o.memory mid.choices
    branch_leads mid unread a b t h o =
        branch_goes o.design (scope_of s.at) from.trail o.memory from.choices e a b t
        (h.within (told s from.store o)) (h.holds (told s from.store o))
        ∙ ap (goes_on (performs (scope_of s.at) from.trail (if t then a else b)) o.memory) (sym unread)

    pub branch_halts : (to : Course) (a b : StmtRow) (h : Halt) → HaltsAt s from e h →
        HaltsWithin s.tables (item_of s from.trail (branch e a b)) from to h
    branch_halts to a b h halts =
        halts_at s (perform (scope_of s.at) from.trail (branch e a b)) from to e h halts
        (λ o over. branch_overruns o.design (scope_of s.at) from.trail o.memory from.choices e a b
        (over.is (told s from.store o)))

    module _ (at : Place) where
      -- a loop
      pub loop_leads : (mid : Course) → mid.choices ≡ from.choices → (a : StmtRow) → Holds s from.store e true →
          (o : Stands s.tables from.store) →
          progress o.design o.memory from.choices (perform (scope_of s.at) from.trail (repeat at e a))
          ≡ goes_on (performs (scope_of s.at) from.trail a ++ item_of s from.trail (repeat at e a)) o.memory
          mid.choices
      loop_leads mid unread a h o =
          repeat_goes o.design (scope_of s.at) from.trail o.memory from.choices at e a
          (h.within (told s from.store o)) (h.holds (told s from.store o))
          ∙ ap (goes_on (performs (scope_of s.at) from.trail a ++ item_of s from.trail (repeat at e a)) o.memory)
          (sym unread)

      pub loop_passes : (to : Course) (a : StmtRow) → IsSame from to → Holds s from.store e false →
          GetsThrough s.tables (item_of s from.trail (repeat at e a)) from to
      loop_passes to a same h =
          passes s.tables (perform (scope_of s.at) from.trail (repeat at e a)) from to same.trail
          (λ o. (
            o.memory,
            (stands_on s.tables from to same.store o).keeps,
            repeat_stops o.design (scope_of s.at) from.trail o.memory from.choices at e a
                (h.within (told s from.store o)) (h.holds (told s from.store o))
                ∙ ap (goes_on [] o.memory) (sym same.choices),
          ))

      pub loop_test_halts : (to : Course) (a : StmtRow) (h : Halt) → HaltsAt s from e h →
          HaltsWithin s.tables (item_of s from.trail (repeat at e a)) from to h
      loop_test_halts to a h halts =
          halts_at s (perform (scope_of s.at) from.trail (repeat at e a)) from to e h halts
          (λ o over. repeat_overruns o.design (scope_of s.at) from.trail o.memory from.choices at e a
          (over.is (told s from.store o)))

      -- assertions and assumptions
      pub assert_passes : (to : Course) → IsSame from to → Holds s from.store e true →
          GetsThrough s.tables (item_of s from.trail (assert at e)) from to
      assert_passes to same h =
          passes s.tables (perform (scope_of s.at) from.trail (assert at e)) from to same.trail
          (λ o. (
            o.memory,
            (stands_on s.tables from to same.store o).keeps,
            assert_holds o.design (scope_of s.at) from.trail o.memory from.choices at e
                (h.within (told s from.store o)) (h.holds (told s from.store o))
                ∙ ap (goes_on [] o.memory) (sym same.choices),
          ))

      pub assert_errs : (to : Course) (h : Halt) → h ≡ at_end from.choices halt.Failed → Holds s from.store e false →
          HaltsWithin s.tables (item_of s from.trail (assert at e)) from to h
      assert_errs to h is holds =
          fails s.tables (perform (scope_of s.at) from.trail (assert at e)) from to h is
          (λ o. assert_fails o.design (scope_of s.at) from.trail o.memory from.choices at e
          (holds.within (told s from.store o)) (holds.holds (told s from.store o)))

      pub assert_halts : (to : Course) (h : Halt) → HaltsAt s from e h →
          HaltsWithin s.tables (item_of s from.trail (assert at e)) from to h
      assert_halts to h halts =
          halts_at s (perform (scope_of s.at) from.trail (assert at e)) from to e h halts
          (λ o over. assert_overruns o.design (scope_of s.at) from.trail o.memory from.choices at e
          (over.is (told s from.store o)))

      pub assume_passes : (to : Course) → IsSame from to → Holds s from.store e true →
          GetsThrough s.tables (item_of s from.trail (assume at e)) from to
      assume_passes to same h =
          passes s.tables (perform (scope_of s.at) from.trail (assume at e)) from to same.trail
          (λ o. (
            o.memory,
            (stands_on s.tables from to same.store o).keeps,
            assume_holds o.design (scope_of s.at) from.trail o.memory from.choices at e
                (h.within (told s from.store o)) (h.holds (told s from.store o))
                ∙ ap (goes_on [] o.memory) (sym same.choices),
          ))

      pub assume_blocks : (to : Course) → Holds s from.store e false →
          HaltsWithin s.tables (item_of s from.trail (assume at e)) from to halt.Blocked
      assume_blocks to holds =
          blocks s.tables (perform (scope_of s.at) from.trail (assume at e)) from to
          (λ o. assume_fails o.design (scope_of s.at) from.trail o.memory from.choices at e
          (holds.within (told s from.store o)) (holds.holds (told s from.store o)))

      pub assume_halts : (to : Course) (h : Halt) → HaltsAt s from e h →
          HaltsWithin s.tables (item_of s from.trail (assume at e)) from to h
      assume_halts to h halts =
          halts_at s (perform (scope_of s.at) from.trail (assume at e)) from to e h halts
          (λ o over. assume_overruns o.design (scope_of s.at) from.trail o.memory from.choices at e
          (over.is (told s from.store o)))

  -- the next choice as an alternative
  module _ (from to : Course) (at : Place) (bs : List StmtRow) (c : ℕ) (ds : List ℕ) (first : from.choices ≡ c ∷ ds)
    where
      pub choice_leads : (block : StmtRow) → slice_get bs c ≡ Some block → (o : Stands s.tables from.store) →
          progress o.design o.memory from.choices (perform (scope_of s.at) from.trail (choose at (alternatives_of bs)))
          ≡ goes_on (performs (scope_of s.at) from.trail block) o.memory ds
      choice_leads block is o =
          ap (chooses_block (scope_of s.at) from.trail o.memory (blocks_of (alternatives_of bs))) first
          ∙ block_taken o.design (scope_of s.at) from.trail o.memory (blocks_of (alternatives_of bs)) c ds block
          (ap (λ xs. slice_get xs c) (blocks_of_alternatives bs) ∙ is)

      pub choice_blocks : slice_get bs c ≡ None →
          HaltsWithin s.tables (item_of s from.trail (choose at (alternatives_of bs))) from to halt.Blocked
      choice_blocks none =
          blocks s.tables (perform (scope_of s.at) from.trail (choose at (alternatives_of bs))) from to
          (λ o. ap (chooses_block (scope_of s.at) from.trail o.memory (blocks_of (alternatives_of bs))) first
          ∙ block_refused o.design (scope_of s.at) from.trail o.memory (blocks_of (alternatives_of bs)) c ds
          (ap (λ xs. slice_get xs c) (blocks_of_alternatives bs) ∙ none))

  pub choice_wants : (from to : Course) (at : Place) (bs : BlockRow) → from.choices ≡ [] →
      HaltsWithin s.tables (item_of s from.trail (choose at bs)) from to halt.Blocked
  choice_wants from to at bs none =
      blocks s.tables (perform (scope_of s.at) from.trail (choose at bs)) from to
      (λ o. ap (chooses_block (scope_of s.at) from.trail o.memory (blocks_of bs)) none)

  -- the locations
  module _ (from : Course) (at : Place) (h : Halt) (is : h ≡ at_end from.choices (halt.Stopped at)) where
    pub pause_stops : HaltsWithin s.tables (item_of s from.trail (pause at)) from from h
    pause_stops = stops s.tables (perform (scope_of s.at) from.trail (pause at)) from from at h is refl (λ o. refl)

    pub wait_stops : (e : ExprTree) → HaltsWithin s.tables (item_of s from.trail (wait at e)) from from h
    wait_stops e = stops s.tables (perform (scope_of s.at) from.trail (wait at e)) from from at h is refl (λ o. refl)

    pub magic_stops : HaltsWithin s.tables (item_of s from.trail (magic at)) from from h
    magic_stops = stops s.tables (perform (scope_of s.at) from.trail (magic at)) from from at h is refl (λ o. refl)

  -- the body of a `forever`
  pub forever_leads : (from : Course) (at : Place) (a : StmtRow) (o : Stands s.tables from.store) →
      progress o.design o.memory from.choices (perform (scope_of s.at) from.trail (forever at a))
      ≡ goes_on (performs (scope_of s.at) from.trail a ++ item_of s from.trail (forever at a)) o.memory from.choices
  forever_leads from at a o = refl
