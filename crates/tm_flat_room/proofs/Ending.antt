-- Statements come to an end for some choices, where what they call does.
use Rattle.std.proofs.Common.{◌≡◌, ◌≢◌, ◌⊎◌, inl, inr, ⊎_elim, ℕ, zero, suc, ◌<◌, Bool, true, false, cond, Option, None, Some, List, [], ◌∷◌, ◌++◌, map, refl, sym, ap, ◌∙◌, subst, append_assoc, true≢false, ◌||◌}
use Rattle.std.proofs.lemmas.Bool.{lt-ltb}
use Rattle.std.specs.List.{AllByRecursion, list_any}
use Rattle.std.specs.Option.{option_map, option_map_or, option_to_list}
use Rattle.tm_base.specs.declared.place.Place.{Place}
use Rattle.tm_syntax.specs.declared.tree.Ident.{Ident}
use Rattle.tm_syntax.specs.Tree.{ExprTree, star, result, plain, StmtTree, assign, invoke, branch, repeat, forever, choose, assert, assume, pause, wait, magic, StmtRow, nothing, then, BlockRow, nowhere, or_else, LocalTree, BodyTree, TemplateTree, SpecTree}
use Rattle.tm_syntax.specs.Scopes.Parts.{inner_stmts, row_stmts, block_stmts, all_stmts, body_stmts, stmts_in, own_calls}
use Rattle.tm_syntax.specs.Scopes.Pauses.{task_reached, call_depth}
use Rattle.tm_syntax.specs.Scopes.Crossing.{value_crosses, stmt_crosses, row_crosses, blocks_cross, body_crosses, call_crosses}
use Rattle.tm_syntax.specs.Faults.Crossings.{loop_faults}
use Rattle.tm_syntax.specs.Design.{DesignTree}
use Rattle.tm_syntax.specs.Design.Scope.{Scope}
use Rattle.tm_syntax.specs.Design.Cells.{Cell, cell, Called, called}
use Rattle.tm_syntax.specs.Design.Sizes.{type_size}
use Rattle.tm_syntax.specs.Design.Work.{WorkItem, perform, deliver, performs, body_items, call_place}
use Rattle.tm_sem.specs.Value.{Memory, value, holds_in, index_value, overruns}
use Rattle.tm_sem.specs.Run.{Ending, stopped, finished, failed, blocked, goes_on, comes_to, at_end, asked_by, put_in, with_arguments, calls, delivery, acts, valued, progress, Run, none_left, ends, goes}
use Rattle.tm_typing.proofs.Fitting.{all_of_both, both_true, fits_there}
use Rattle.tm_flat_room.specs.Assuming.{may_block}

either_true : (a b : Bool) → a || b ≡ true → (a ≡ true) ⊎ (b ≡ true)
either_true true b e = inl refl
either_true false b e = inr e

-- whether a call from a template is of a body that is sure to cross, where calls nest at most so deep
abbrev pub crossing : SpecTree → TemplateTree → ℕ → List Ident → Bool
crossing spec t depth path =
    option_map_or (λ k. body_crosses depth spec k.0 k.1.body) (task_reached spec t path) false

module _ (d : DesignTree) where
  -- choices with which items come to an end that counts
  pub record Ends (items : List WorkItem) (m : Memory) : Type 0 where
    pub choices : List ℕ
    pub end : Ending
    pub run : Run d items m choices end
    pub counts : end ≢ blocked

  -- from each memory
  abbrev pub Always : List WorkItem → Type 0
  Always items = (m : Memory) → Ends items m

  pub nothing_ends : Always []
  nothing_ends m = record { choices = []; end = finished m; run = none_left refl; counts = λ same. cc }

  -- an item that goes on whatever the choices are
  goes_to : (first : WorkItem) (others front : List WorkItem) (m n : Memory) →
      ((cs : List ℕ) → progress d m cs first ≡ goes_on front n cs) → Ends (front ++ others) n →
      Ends (first ∷ others) m
  goes_to first others front m n on rest = record {
    choices = rest.choices;
    end = rest.end;
    run = goes (on rest.choices) rest.run;
    counts = rest.counts;
  }

  -- an item that goes on with the choice 0
  goes_by_zero : (first : WorkItem) (others front : List WorkItem) (m n : Memory) →
      ((cs : List ℕ) → progress d m (0 ∷ cs) first ≡ goes_on front n cs) → Ends (front ++ others) n →
      Ends (first ∷ others) m
  goes_by_zero first others front m n on rest = record {
    choices = 0 ∷ rest.choices;
    end = rest.end;
    run = goes (on rest.choices) rest.run;
    counts = rest.counts;
  }

  -- an item that comes to an end
  ends_at : (first : WorkItem) (others : List WorkItem) (m : Memory) (e : Ending) → e ≢ blocked →
      progress d m [] first ≡ comes_to e → Ends (first ∷ others) m
  ends_at first others m e counts is = record { choices = []; end = e; run = ends is; counts = counts }

  -- an overrun is an end
  unless_overrun : (scope : Scope) (trail : List Place) (s : StmtTree) (others : List WorkItem) (m : Memory) →
      (((cs : List ℕ) → progress d m cs (perform scope trail s) ≡ acts d scope trail m cs s) →
      Ends (perform scope trail s ∷ others) m) → Ends (perform scope trail s ∷ others) m
  unless_overrun scope trail s others m act = by (list_any (overruns d scope m) (valued s)) refl
    where
      by : (b : Bool) → list_any (overruns d scope m) (valued s) ≡ b → Ends (perform scope trail s ∷ others) m
      by true is =
          ends_at (perform scope trail s) others m failed (λ same. cc)
          (ap (λ b. cond b (comes_to failed) (acts d scope trail m [] s)) is)
      by false is = act (λ cs. ap (λ b. cond b (comes_to (at_end cs failed)) (acts d scope trail m cs s)) is)

  -- what a call returns is put into its target
  deliver_passes : (target : Option Cell) (scope : Scope) (e : ExprTree) (others : List WorkItem) → Always others →
      Always (deliver target scope e ∷ others)
  deliver_passes target scope e others always m = by (overruns d scope m e) refl
    where
      by : (b : Bool) → overruns d scope m e ≡ b → Ends (deliver target scope e ∷ others) m
      by true is =
          ends_at (deliver target scope e) others m failed (λ same. cc)
          (ap (λ b. cond b (comes_to failed) (goes_on [] (put_in m target (value d scope m (asked_by d target) e)) []))
          is)
      by false is =
          goes_to (deliver target scope e) others [] m (put_in m target (value d scope m (asked_by d target) e))
          (λ cs. ap (λ b. cond b (comes_to (at_end cs failed))
          (goes_on [] (put_in m target (value d scope m (asked_by d target) e)) cs)) is)
          (always (put_in m target (value d scope m (asked_by d target) e)))

  pub delivery_passes : (target : Option Cell) (c : Called) (others : List WorkItem) → Always others →
      Always (delivery target c ++ others)
  delivery_passes target c others always = by c.body.answer
    where
      by : (o : Option ExprTree) → Always (map (deliver target c.scope) (option_to_list o) ++ others)
      by None = always
      by (Some e) = deliver_passes target c.scope e others always

  -- what a path calls passes on, and comes to an end before what stands behind it where the text says so
  pub record CallEnds (scope : Scope) (t : TemplateTree) (path : List Ident) : Type 0 where
    pub callee : Called
    pub is : called d scope path ≡ Some callee
    pub passes : (trail : List Place) (others : List WorkItem) → Always others →
        Always (body_items callee.scope trail callee.body ++ others)
    pub crosses : (depth : ℕ) → crossing d.spec t depth path ≡ true → (trail : List Place) (others : List WorkItem) →
        Always (body_items callee.scope trail callee.body ++ others)

  -- what is asked of a statement
  pub record Fine (scope : Scope) (t : TemplateTree) (s : StmtTree) : Type 0 where
    pub steady : may_block s ≡ false
    pub loops : loop_faults d.spec t s ≡ []
    pub calls : AllByRecursion (CallEnds scope t) (own_calls s)

  module _ (scope : Scope) (t : TemplateTree) (trail : List Place)
      (sized : (path : List Ident) (index : Option ℕ) →
      0 < type_size d.spec (asked_by d (cell d scope path index)))
    where
      abbrev pub AllFine : List StmtTree → Type 0
      AllFine ss = AllByRecursion (Fine scope t) ss

      abbrev pub item : StmtTree → WorkItem
      item s = perform scope trail s

      abbrev pub rows : StmtRow → List WorkItem
      rows r = performs scope trail r

      abbrev pub Acts : Memory → StmtTree → Type 0
      Acts m s = (cs : List ℕ) → progress d m cs (item s) ≡ acts d scope trail m cs s

      -- a call, given that the called body passes on to what stands behind it
      call_ends : (s : StmtTree) (others : List WorkItem) (m : Memory) (path : List Ident) (args : List ExprTree)
          (c : CallEnds scope t path) (after : Called → List WorkItem) →
          ((cs : List ℕ) → progress d m cs (item s) ≡ calls d scope trail m cs path args after) →
          Always (body_items c.callee.scope (call_place path ++ trail) c.callee.body ++ (after c.callee ++ others)) →
          Ends (item s ∷ others) m
      call_ends s others m path args c after act inside =
          let body = body_items c.callee.scope (call_place path ++ trail) c.callee.body in
          let n = with_arguments d scope m c.callee.params args in
          goes_to (item s) others (body ++ after c.callee) m n
          (λ cs. act cs
          ∙ ap (λ (o : Option Called). option_map_or (λ callee.
          goes_on (body_items callee.scope (call_place path ++ trail) callee.body ++ after callee)
          (with_arguments d scope m callee.params args) cs) o (comes_to blocked)) c.is)
          (subst (λ (items : List WorkItem). Ends items n) (sym (append_assoc body (after c.callee) others)) (inside n))

      star_ends : (names : List Ident) (index : Option ExprTree) (at : Place) (others : List WorkItem) (m : Memory) →
          Always others → Acts m (assign names index (star at)) → Ends (item (assign names index (star at)) ∷ others) m
      star_ends names index at others m always act =
          let target = cell d scope names (option_map (index_value d scope m) index) in
          goes_by_zero (item (assign names index (star at))) others [] m (put_in m target 0)
          (λ cs. act (0 ∷ cs)
          ∙ ap (λ b. cond b (goes_on [] (put_in m target 0) cs) (comes_to blocked))
          (lt-ltb 0 (type_size d.spec (asked_by d target)) (sized names (option_map (index_value d scope m) index))))
          (always (put_in m target 0))

      plain_ends : (names : List Ident) (index : Option ExprTree) (e : ExprTree) (others : List WorkItem)
          (m : Memory) → Always others → Acts m (assign names index (plain e)) →
          Ends (item (assign names index (plain e)) ∷ others) m
      plain_ends names index e others m always act =
          let target = cell d scope names (option_map (index_value d scope m) index) in
          goes_to (item (assign names index (plain e))) others [] m
          (put_in m target (value d scope m (asked_by d target) e)) act
          (always (put_in m target (value d scope m (asked_by d target) e)))

      branch_ends : (e : ExprTree) (a b : StmtRow) (others : List WorkItem) (m : Memory) →
          Ends (rows a ++ others) m → Ends (rows b ++ others) m → Acts m (branch e a b) →
          Ends (item (branch e a b) ∷ others) m
      branch_ends e a b others m first second act = by (holds_in d scope m e) refl
        where
          by : (v : Bool) → holds_in d scope m e ≡ v → Ends (item (branch e a b) ∷ others) m
          by true is =
              goes_to (item (branch e a b)) others (rows a) m m
              (λ cs. act cs ∙ ap (λ v. goes_on (rows (cond v a b)) m cs) is) first
          by false is =
              goes_to (item (branch e a b)) others (rows b) m m
              (λ cs. act cs ∙ ap (λ v. goes_on (rows (cond v a b)) m cs) is) second

      -- a loop goes round once more, to an end within its body, or is left
      round_ends : (loop : StmtTree) (body : StmtRow) (others : List WorkItem) (m : Memory) →
          ((cs : List ℕ) → progress d m cs (item loop) ≡ goes_on (rows body ++ item loop ∷ []) m cs) →
          Always (rows body ++ (item loop ∷ others)) → Ends (item loop ∷ others) m
      round_ends loop body others m on inside =
          goes_to (item loop) others (rows body ++ item loop ∷ []) m m on
          (subst (λ (items : List WorkItem). Ends items m) (sym (append_assoc (rows body) (item loop ∷ []) others))
          (inside m))

      repeat_ends : (at : Place) (e : ExprTree) (body : StmtRow) (others : List WorkItem) (m : Memory) →
          Always (rows body ++ (item (repeat at e body) ∷ others)) → Always others → Acts m (repeat at e body) →
          Ends (item (repeat at e body) ∷ others) m
      repeat_ends at e body others m inside always act = by (holds_in d scope m e) refl
        where
          by : (v : Bool) → holds_in d scope m e ≡ v → Ends (item (repeat at e body) ∷ others) m
          by true is =
              round_ends (repeat at e body) body others m
              (λ cs. act cs ∙ ap (λ v. goes_on (cond v (rows body ++ item (repeat at e body) ∷ []) []) m cs) is) inside
          by false is =
              goes_to (item (repeat at e body)) others [] m m
              (λ cs. act cs ∙ ap (λ v. goes_on (cond v (rows body ++ item (repeat at e body) ∷ []) []) m cs) is)
              (always m)

      assert_ends : (at : Place) (e : ExprTree) (others : List WorkItem) (m : Memory) → Always others →
          Acts m (assert at e) → Ends (item (assert at e) ∷ others) m
      assert_ends at e others m always act = by (holds_in d scope m e) refl
        where
          by : (v : Bool) → holds_in d scope m e ≡ v → Ends (item (assert at e) ∷ others) m
          by true is =
              goes_to (item (assert at e)) others [] m m
              (λ cs. act cs ∙ ap (λ v. cond v (goes_on [] m cs) (comes_to (at_end cs failed))) is) (always m)
          by false is =
              ends_at (item (assert at e)) others m failed (λ same. cc)
              (act [] ∙ ap (λ v. cond v (goes_on [] m []) (comes_to failed)) is)

      first_crosses : (called : List Ident → Bool) (first : StmtRow) (more : BlockRow) →
          blocks_cross called (or_else first more) ≡ true → row_crosses called first ≡ true
      first_crosses called first nowhere e = e
      first_crosses called first (or_else next others) e =
          (both_true (row_crosses called first) (blocks_cross called (or_else next others)) e).0

      -- the body of a loop is sure to cross
      loop_crosses : (body : StmtRow) (at : Place) → loop_faults d.spec t (forever at body) ≡ [] →
          row_crosses (crossing d.spec t (call_depth d.spec)) body ≡ true
      loop_crosses body at none = fits_there (row_crosses (call_crosses d.spec t) body) at none

      mutual
        stmt_passes : (s : StmtTree) → AllFine (s ∷ inner_stmts s) → (others : List WorkItem) → Always others →
            Always (item s ∷ others)
        stmt_passes (assign names index (star at)) fine others always m =
            unless_overrun scope trail (assign names index (star at)) others m
            (star_ends names index at others m always)
        stmt_passes (assign names index (plain e)) fine others always m =
            unless_overrun scope trail (assign names index (plain e)) others m
            (plain_ends names index e others m always)
        stmt_passes (assign names index (result path args)) fine others always m =
            let c = fine.0.calls.0 in
            let target = cell d scope names (option_map (index_value d scope m) index) in
            unless_overrun scope trail (assign names index (result path args)) others m
            (λ act. call_ends (assign names index (result path args)) others m path args c (delivery target) act
            (c.passes (call_place path ++ trail) (delivery target c.callee ++ others)
            (delivery_passes target c.callee others always)))
        stmt_passes (invoke path args) fine others always m =
            let c = fine.0.calls.0 in
            unless_overrun scope trail (invoke path args) others m
            (λ act. call_ends (invoke path args) others m path args c (λ _. []) act
            (c.passes (call_place path ++ trail) others always))
        stmt_passes (branch e a b) fine others always m =
            let parts = all_of_both (Fine scope t) (row_stmts a) (row_stmts b) fine.1 in
            unless_overrun scope trail (branch e a b) others m
            (branch_ends e a b others m (row_passes a parts.0 others always m) (row_passes b parts.1 others always m))
        stmt_passes (repeat at e body) fine others always m =
            unless_overrun scope trail (repeat at e body) others m
            (repeat_ends at e body others m
            (row_crossed body fine.1 (call_depth d.spec) (loop_crosses body at fine.0.loops)
            (item (repeat at e body) ∷ others)) always)
        stmt_passes (forever at body) fine others always m =
            unless_overrun scope trail (forever at body) others m
            (λ act. round_ends (forever at body) body others m act
            (row_crossed body fine.1 (call_depth d.spec) (loop_crosses body at fine.0.loops)
            (item (forever at body) ∷ others)))
        stmt_passes (choose at nowhere) fine others always m = absurd (true≢false fine.0.steady)
        stmt_passes (choose at (or_else first more)) fine others always m =
            let parts = all_of_both (Fine scope t) (row_stmts first) (block_stmts more) fine.1 in
            unless_overrun scope trail (choose at (or_else first more)) others m
            (λ act. goes_by_zero (item (choose at (or_else first more))) others (rows first) m m
            (λ cs. act (0 ∷ cs)) (row_passes first parts.0 others always m))
        stmt_passes (assert at e) fine others always m =
            unless_overrun scope trail (assert at e) others m (assert_ends at e others m always)
        stmt_passes (assume at e) fine others always m = absurd (true≢false fine.0.steady)
        stmt_passes (pause at) fine others always m =
            unless_overrun scope trail (pause at) others m
            (λ act. ends_at (item (pause at)) others m (stopped at trail m) (λ same. cc) (act []))
        stmt_passes (wait at e) fine others always m =
            unless_overrun scope trail (wait at e) others m
            (λ act. ends_at (item (wait at e)) others m (stopped at trail m) (λ same. cc) (act []))
        stmt_passes (magic at) fine others always m =
            unless_overrun scope trail (magic at) others m
            (λ act. ends_at (item (magic at)) others m (stopped at trail m) (λ same. cc) (act []))

        stmt_crossed : (s : StmtTree) → AllFine (s ∷ inner_stmts s) → (depth : ℕ) →
            stmt_crosses (crossing d.spec t depth) s ≡ true → (others : List WorkItem) → Always (item s ∷ others)
        stmt_crossed (assign names index (star at)) fine depth e others m = absurd (true≢false (sym e))
        stmt_crossed (assign names index (plain p)) fine depth e others m = absurd (true≢false (sym e))
        stmt_crossed (assign names index (result path args)) fine depth e others m =
            let c = fine.0.calls.0 in
            let target = cell d scope names (option_map (index_value d scope m) index) in
            unless_overrun scope trail (assign names index (result path args)) others m
            (λ act. call_ends (assign names index (result path args)) others m path args c (delivery target) act
            (c.crosses depth e (call_place path ++ trail) (delivery target c.callee ++ others)))
        stmt_crossed (invoke path args) fine depth e others m =
            let c = fine.0.calls.0 in
            unless_overrun scope trail (invoke path args) others m
            (λ act. call_ends (invoke path args) others m path args c (λ _. []) act
            (c.crosses depth e (call_place path ++ trail) others))
        stmt_crossed (branch test a b) fine depth e others m =
            let parts = all_of_both (Fine scope t) (row_stmts a) (row_stmts b) fine.1 in
            let both = both_true (row_crosses (crossing d.spec t depth) a) (row_crosses (crossing d.spec t depth) b)
            e in
            unless_overrun scope trail (branch test a b) others m
            (branch_ends test a b others m (row_crossed a parts.0 depth both.0 others m)
            (row_crossed b parts.1 depth both.1 others m))
        stmt_crossed (repeat at test body) fine depth e others m = absurd (true≢false (sym e))
        stmt_crossed (forever at body) fine depth e others m =
            unless_overrun scope trail (forever at body) others m
            (λ act. round_ends (forever at body) body others m act
            (row_crossed body fine.1 depth e (item (forever at body) ∷ others)))
        stmt_crossed (choose at nowhere) fine depth e others m = absurd (true≢false (sym e))
        stmt_crossed (choose at (or_else first more)) fine depth e others m =
            let parts = all_of_both (Fine scope t) (row_stmts first) (block_stmts more) fine.1 in
            unless_overrun scope trail (choose at (or_else first more)) others m
            (λ act. goes_by_zero (item (choose at (or_else first more))) others (rows first) m m
            (λ cs. act (0 ∷ cs))
            (row_crossed first parts.0 depth (first_crosses (crossing d.spec t depth) first more e) others m))
        stmt_crossed (assert at test) fine depth e others m = absurd (true≢false (sym e))
        stmt_crossed (assume at test) fine depth e others m = absurd (true≢false (sym e))
        stmt_crossed (pause at) fine depth e others m =
            unless_overrun scope trail (pause at) others m
            (λ act. ends_at (item (pause at)) others m (stopped at trail m) (λ same. cc) (act []))
        stmt_crossed (wait at test) fine depth e others m =
            unless_overrun scope trail (wait at test) others m
            (λ act. ends_at (item (wait at test)) others m (stopped at trail m) (λ same. cc) (act []))
        stmt_crossed (magic at) fine depth e others m =
            unless_overrun scope trail (magic at) others m
            (λ act. ends_at (item (magic at)) others m (stopped at trail m) (λ same. cc) (act []))

        pub row_passes : (r : StmtRow) → AllFine (row_stmts r) → (others : List WorkItem) → Always others →
            Always (rows r ++ others)
        row_passes nothing fine others always = always
        row_passes (then first more) fine others always =
            let parts = all_of_both (Fine scope t) (first ∷ inner_stmts first) (row_stmts more) fine in
            stmt_passes first parts.0 (rows more ++ others) (row_passes more parts.1 others always)

        row_crossed : (r : StmtRow) → AllFine (row_stmts r) → (depth : ℕ) →
            row_crosses (crossing d.spec t depth) r ≡ true → (others : List WorkItem) → Always (rows r ++ others)
        row_crossed nothing fine depth e others = absurd (true≢false (sym e))
        row_crossed (then first more) fine depth e others =
            let parts = all_of_both (Fine scope t) (first ∷ inner_stmts first) (row_stmts more) fine in
            ⊎_elim (λ here. stmt_crossed first parts.0 depth here (rows more ++ others))
            (λ later. stmt_passes first parts.0 (rows more ++ others) (row_crossed more parts.1 depth later others))
            (either_true (stmt_crosses (crossing d.spec t depth) first) (row_crosses (crossing d.spec t depth) more) e)

      -- a loop or any other statement alone
      pub one_passes : (s : StmtTree) → AllFine (s ∷ inner_stmts s) → (others : List WorkItem) → Always others →
          Always (item s ∷ others)
      one_passes = stmt_passes

      -- statements in a row
      pub list_passes : (ss : List StmtTree) → AllFine (all_stmts ss) → (others : List WorkItem) → Always others →
          Always (map (perform scope trail) ss ++ others)
      list_passes [] fine others always = always
      list_passes (s ∷ ss) fine others always =
          let parts = all_of_both (Fine scope t) (s ∷ inner_stmts s) (all_stmts ss) fine in
          stmt_passes s parts.0 (map (perform scope trail) ss ++ others) (list_passes ss parts.1 others always)

      list_crossed : (ss : List StmtTree) → AllFine (all_stmts ss) → (depth : ℕ) →
          list_any (stmt_crosses (crossing d.spec t depth)) ss ≡ true → (others : List WorkItem) →
          Always (map (perform scope trail) ss ++ others)
      list_crossed [] fine depth e others = absurd (true≢false (sym e))
      list_crossed (s ∷ ss) fine depth e others =
          let parts = all_of_both (Fine scope t) (s ∷ inner_stmts s) (all_stmts ss) fine in
          ⊎_elim (λ here. stmt_crossed s parts.0 depth here (map (perform scope trail) ss ++ others))
          (λ later. stmt_passes s parts.0 (map (perform scope trail) ss ++ others)
          (list_crossed ss parts.1 depth later others))
          (either_true (stmt_crosses (crossing d.spec t depth) s)
          (list_any (stmt_crosses (crossing d.spec t depth)) ss) e)

      or_more : (a b c : Bool) → (a || b) || c ≡ a || (b || c)
      or_more true b c = refl
      or_more false b c = refl

      -- a local's declaration crosses as its value does
      locals_cross : (called : List Ident → Bool) (ls : List LocalTree) (ss : List StmtTree) →
          (list_any (λ l. value_crosses called l.value) ls || list_any (stmt_crosses called) ss)
          ≡ list_any (stmt_crosses called) (map (λ l. assign (l.name ∷ []) None l.value) ls ++ ss)
      locals_cross called [] ss = refl
      locals_cross called (l ∷ ls) ss =
          or_more (value_crosses called l.value) (list_any (λ l. value_crosses called l.value) ls)
          (list_any (stmt_crosses called) ss)
          ∙ ap (λ b. value_crosses called l.value || b) (locals_cross called ls ss)

      pub body_crossed : (body : BodyTree) → AllFine (stmts_in body) → (depth : ℕ) →
          body_crosses depth d.spec t body ≡ true → (others : List WorkItem) →
          Always (body_items scope trail body ++ others)
      body_crossed body fine zero e others = absurd (true≢false (sym e))
      body_crossed body fine (suc depth) e others =
          list_crossed (body_stmts body) fine depth
          (sym (locals_cross (crossing d.spec t depth) body.locals body.stmts) ∙ e) others
