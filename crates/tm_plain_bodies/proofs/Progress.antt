-- What a statement leads to, by the values of its expressions.
use Rattle.std.proofs.Common.{◌≡◌, ℕ, Bool, true, false, Option, None, Some, List, [], ◌∷◌, ◌++◌, refl, ap, ◌∙◌}
use Rattle.std.specs.Prelude.{◌||◌, nat_lt, slice_get, if◌then◌else◌}
use Rattle.std.specs.List.{list_any}
use Rattle.std.specs.Option.{option_map, option_map_or}
use Rattle.std.proofs.lemmas.List.Folds.{list_any-append}
use Rattle.tm_base.specs.declared.place.Place.{Place}
use Rattle.tm_syntax.specs.declared.tree.Ident.{Ident}
use Rattle.tm_syntax.specs.Tree.{ExprTree, ValueTree, star, plain, StmtTree, assign, branch, repeat, assert, assume, StmtRow}
use Rattle.tm_syntax.specs.Design.{DesignTree}
use Rattle.tm_syntax.specs.Design.Scope.{Scope}
use Rattle.tm_syntax.specs.Design.Cells.{Cell, cell}
use Rattle.tm_syntax.specs.Design.Sizes.{type_size}
use Rattle.tm_syntax.specs.Design.Work.{WorkItem, perform, performs}
use Rattle.tm_sem.specs.Value.{Memory, value, holds_in, overruns, index_value}
use Rattle.tm_sem.specs.Run.{failed, blocked, Progress, goes_on, comes_to, progress, acts, at_end, valued, valued_by, target_element, asked_by, put_in, assigns, chooses_value, chooses_block}

module _ (d : DesignTree) (scope : Scope) (trail : List Place) (m : Memory) (cs : List ℕ) where
  abbrev over : StmtTree → Bool
  over s = list_any (overruns d scope m) (valued s)

  abbrev progress_by : StmtTree → Bool → Progress
  progress_by s t = if t then comes_to (at_end cs failed) else acts d scope trail m cs s

  -- an expression that overruns
  pub overrun_ends : (s : StmtTree) → over s ≡ true → progress d m cs (perform scope trail s)
      ≡ comes_to (at_end cs failed)
  overrun_ends s is = ap (progress_by s) is

  pub within_acts : (s : StmtTree) → over s ≡ false → progress d m cs (perform scope trail s)
      ≡ acts d scope trail m cs s
  within_acts s is = ap (progress_by s) is

  -- one expression
  one_over : (e : ExprTree) (t : Bool) → overruns d scope m e ≡ t → list_any (overruns d scope m) (e ∷ []) ≡ t
  one_over e true is = ap (λ b. b || false) is
  one_over e false is = ap (λ b. b || false) is

  module _ (at : Place) (e : ExprTree) where
    pub assert_overruns : overruns d scope m e ≡ true →
        progress d m cs (perform scope trail (assert at e)) ≡ comes_to (at_end cs failed)
    assert_overruns is = overrun_ends (assert at e) (one_over e true is)

    pub assume_overruns : overruns d scope m e ≡ true →
        progress d m cs (perform scope trail (assume at e)) ≡ comes_to (at_end cs failed)
    assume_overruns is = overrun_ends (assume at e) (one_over e true is)

    module _ (within : overruns d scope m e ≡ false) where
      pub assert_holds : holds_in d scope m e ≡ true →
          progress d m cs (perform scope trail (assert at e)) ≡ goes_on [] m cs
      assert_holds holds =
          within_acts (assert at e) (one_over e false within)
          ∙ ap (λ t. if t then goes_on [] m cs else comes_to (at_end cs failed)) holds

      pub assert_fails : holds_in d scope m e ≡ false →
          progress d m cs (perform scope trail (assert at e)) ≡ comes_to (at_end cs failed)
      assert_fails holds =
          within_acts (assert at e) (one_over e false within)
          ∙ ap (λ t. if t then goes_on [] m cs else comes_to (at_end cs failed)) holds

      pub assume_holds : holds_in d scope m e ≡ true →
          progress d m cs (perform scope trail (assume at e)) ≡ goes_on [] m cs
      assume_holds holds =
          within_acts (assume at e) (one_over e false within)
          ∙ ap (λ t. if t then goes_on [] m cs else comes_to blocked) holds

      pub assume_fails : holds_in d scope m e ≡ false →
          progress d m cs (perform scope trail (assume at e)) ≡ comes_to blocked
      assume_fails holds =
          within_acts (assume at e) (one_over e false within)
          ∙ ap (λ t. if t then goes_on [] m cs else comes_to blocked) holds

  -- a branch
  module _ (e : ExprTree) (first second : StmtRow) where
    pub branch_overruns : overruns d scope m e ≡ true →
        progress d m cs (perform scope trail (branch e first second)) ≡ comes_to (at_end cs failed)
    branch_overruns is = overrun_ends (branch e first second) (one_over e true is)

    pub branch_goes : (t : Bool) → overruns d scope m e ≡ false → holds_in d scope m e ≡ t →
        progress d m cs (perform scope trail (branch e first second))
        ≡ goes_on (performs scope trail (if t then first else second)) m cs
    branch_goes t within holds =
        within_acts (branch e first second) (one_over e false within)
        ∙ ap (λ t. goes_on (performs scope trail (if t then first else second)) m cs) holds

  -- a loop
  module _ (at : Place) (e : ExprTree) (body : StmtRow) where
    pub repeat_overruns : overruns d scope m e ≡ true →
        progress d m cs (perform scope trail (repeat at e body)) ≡ comes_to (at_end cs failed)
    repeat_overruns is = overrun_ends (repeat at e body) (one_over e true is)

    abbrev loop_items : Bool → List WorkItem
    loop_items t = if t then performs scope trail body ++ perform scope trail (repeat at e body) ∷ [] else []

    pub repeat_goes : overruns d scope m e ≡ false → holds_in d scope m e ≡ true →
        progress d m cs (perform scope trail (repeat at e body))
        ≡ goes_on (performs scope trail body ++ perform scope trail (repeat at e body) ∷ []) m cs
    repeat_goes within holds =
        within_acts (repeat at e body) (one_over e false within) ∙ ap (λ t. goes_on (loop_items t) m cs) holds

    pub repeat_stops : overruns d scope m e ≡ false → holds_in d scope m e ≡ false →
        progress d m cs (perform scope trail (repeat at e body)) ≡ goes_on [] m cs
    repeat_stops within holds =
        within_acts (repeat at e body) (one_over e false within) ∙ ap (λ t. goes_on (loop_items t) m cs) holds

  -- an assignment
  module _ (names : List Ident) (index : Option ExprTree) where
    abbrev target : Option Cell
    target = cell d scope names (option_map (index_value d scope m) index)

    abbrev target_over : Bool
    target_over = list_any (overruns d scope m) (target_element names index)

    over_parts : (v : ValueTree) → over (assign names index v)
        ≡ (target_over || list_any (overruns d scope m) (valued_by v))
    over_parts v = list_any-append (overruns d scope m) (target_element names index) (valued_by v)

    pub target_overruns : (v : ValueTree) → target_over ≡ true →
        progress d m cs (perform scope trail (assign names index v)) ≡ comes_to (at_end cs failed)
    target_overruns v is =
        overrun_ends (assign names index v)
        (over_parts v ∙ ap (λ b. b || list_any (overruns d scope m) (valued_by v)) is)

    module _ (within : target_over ≡ false) where
      assign_acts : (v : ValueTree) → list_any (overruns d scope m) (valued_by v) ≡ false →
          progress d m cs (perform scope trail (assign names index v)) ≡ assigns d scope trail m cs target v
      assign_acts v is =
          within_acts (assign names index v)
          (over_parts v ∙ ap (λ b. b || list_any (overruns d scope m) (valued_by v)) within ∙ is)

      module _ (at : Place) where
        pub star_goes : progress d m cs (perform scope trail (assign names index (star at)))
            ≡ chooses_value d m target cs
        star_goes = assign_acts (star at) refl

      module _ (e : ExprTree) where
        pub value_overruns : overruns d scope m e ≡ true →
            progress d m cs (perform scope trail (assign names index (plain e))) ≡ comes_to (at_end cs failed)
        value_overruns is =
            overrun_ends (assign names index (plain e))
            (over_parts (plain e) ∙ ap (λ b. b || list_any (overruns d scope m) (e ∷ [])) within ∙ one_over e true is)

        pub value_goes : overruns d scope m e ≡ false →
            progress d m cs (perform scope trail (assign names index (plain e)))
            ≡ goes_on [] (put_in m target (value d scope m (asked_by d target) e)) cs
        value_goes is = assign_acts (plain e) (one_over e false is)

-- the next choice as a value
module _ (d : DesignTree) (m : Memory) (target : Option Cell) where
  pub no_value_left : chooses_value d m target [] ≡ comes_to blocked
  no_value_left = refl

  module _ (c : ℕ) (cs : List ℕ) where
    pub value_taken : nat_lt c (type_size d.spec (asked_by d target)) ≡ true →
        chooses_value d m target (c ∷ cs) ≡ goes_on [] (put_in m target c) cs
    value_taken is = ap (λ t. if t then goes_on [] (put_in m target c) cs else comes_to blocked) is

    pub value_refused : nat_lt c (type_size d.spec (asked_by d target)) ≡ false →
        chooses_value d m target (c ∷ cs) ≡ comes_to blocked
    value_refused is = ap (λ t. if t then goes_on [] (put_in m target c) cs else comes_to blocked) is

-- the next choice as an alternative
module _ (d : DesignTree) (scope : Scope) (trail : List Place) (m : Memory) (blocks : List StmtRow) (c : ℕ)
    (cs : List ℕ)
  where
    pub block_taken : (block : StmtRow) → slice_get blocks c ≡ Some block →
        chooses_block scope trail m blocks (c ∷ cs) ≡ goes_on (performs scope trail block) m cs
    block_taken block is =
        ap (λ o. option_map_or (λ b. goes_on (performs scope trail b) m cs) o (comes_to blocked)) is

    pub block_refused : slice_get blocks c ≡ None → chooses_block scope trail m blocks (c ∷ cs) ≡ comes_to blocked
    block_refused is = ap (λ o. option_map_or (λ b. goes_on (performs scope trail b) m cs) o (comes_to blocked)) is
