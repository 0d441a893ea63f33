-- The numbers that a run reads as bits are, in order, a list of choices with which the plain run comes to the same end.
use Rattle.std.proofs.Common.{◌≡◌, ◌≢◌, ℕ, zero, suc, Bool, true, false, Option, None, Some, List, [], ◌∷◌, ◌++◌, map, refl, sym, ap, ◌∙◌, subst, append_assoc, append-nil}
use Rattle.std.specs.Prelude.{◌+◌, slice_get, nat_lt, if◌then◌else◌}
use Rattle.std.specs.Option.{option_map_or, option_map, option_to_list}
use Rattle.std.specs.List.{list_any}
use Rattle.tm_base.specs.declared.place.Place.{Place}
use Rattle.tm_syntax.specs.declared.tree.Ident.{Ident}
use Rattle.tm_syntax.specs.Tree.{ExprTree, ValueTree, star, result, plain, StmtTree, assign, invoke, branch, repeat, forever, choose, assert, assume, pause, wait, magic, StmtRow, nothing, then as in_row, row_of, stmts_of, BlockRow, nowhere, or_else, blocks_of}
use Rattle.tm_syntax.specs.Scopes.Pauses.{call_depth}
use Rattle.tm_syntax.specs.Design.{DesignTree}
use Rattle.tm_syntax.specs.Design.Scope.{Scope}
use Rattle.tm_syntax.specs.Design.Cells.{Cell, cell, Called, called}
use Rattle.tm_syntax.specs.Design.Sizes.{type_size}
use Rattle.tm_syntax.specs.Design.Work.{WorkItem, perform, deliver, performs, body_items, call_place}
use Rattle.tm_syntax.specs.Scopes.Parts.{body_stmts}
use Rattle.tm_sem.specs.Value.{Memory, value, holds_in, index_value, overruns}
use Rattle.tm_sem.specs.Run.{Ending, stopped, finished, failed, blocked, Progress, goes_on, comes_to, at_end, asked_by, put_in, with_arguments, calls, delivery, chooses_value, chooses_block, assigns, acts, progress, Run, none_left, ends, goes, valued}
use Rattle.tm_flat.specs.Positions.{target_bits, choice_bits, stmt_after, body_after, item_after}
use Rattle.tm_flat.specs.BitRun.{number_at, Reader, followed_by, behind, unless_overrun, puts_number, delivers, returns, call_ending, value_ending, stmt_ending, row_ending, block_ending, body_ending, reader, item_ending, items_ending}

-- what is left of a run after its first item has made some progress
abbrev pub Continues : DesignTree → List WorkItem → Ending → Progress → Type 0
Continues d others e (goes_on front m cs) = Run d (front ++ others) m cs e
Continues d others e (comes_to end) = end ≡ e

-- some choices lead to an ending
abbrev pub HasChoices : DesignTree → (List ℕ → Progress) → List WorkItem → Ending → Type 0
HasChoices d p others e = (cs : List ℕ) × Continues d others e (p cs)

-- what ends as a run that reads bits does, or goes on behind where that run falls through
abbrev pub Leads : DesignTree → (List ℕ → Progress) → Ending → Type 0
Leads d p (stopped at trail n) = (others : List WorkItem) → HasChoices d p others (stopped at trail n)
Leads d p (finished n) =
    (others : List WorkItem) (ds : List ℕ) (e : Ending) → Run d others n ds e → HasChoices d p others e
Leads d p failed = (others : List WorkItem) → HasChoices d p others failed
Leads d p blocked = Unit {0}

-- a run whose first item makes this progress
pub resume : (d : DesignTree) (first : WorkItem) (others : List WorkItem) (m : Memory) (cs : List ℕ) (e : Ending)
    (p : Progress) → progress d m cs first ≡ p → Continues d others e p → Run d (first ∷ others) m cs e
resume d first others m cs e (goes_on front n ds) is left = goes is left
resume d first others m cs e (comes_to end) is same = ends (is ∙ ap comes_to same)

-- the statements of the row of a list
pub stmts_of_row : (ss : List StmtTree) → stmts_of (row_of ss) ≡ ss
stmts_of_row [] = refl
stmts_of_row (s ∷ ss) = ap (λ l. s ∷ l) (stmts_of_row ss)

module _ (d : DesignTree) where
  -- nothing to be done leads on at once
  nothing_leads : (m : Memory) → Leads d (goes_on [] m) (finished m)
  nothing_leads m others ds e run = (ds, run)

  -- what is put in front of items that lead on
  in_front : (p : List ℕ → Progress) (rest : List WorkItem) (n : Memory) (end : Ending) →
      ((others : List WorkItem) (ds : List ℕ) (e : Ending) → Run d (rest ++ others) n ds e → HasChoices d p others e) →
      Leads d (goes_on rest n) end → Leads d p end
  in_front p rest n (stopped at trail k) lift h =
      λ others. lift others (h others).0 (stopped at trail k) (h others).1
  in_front p rest n (finished k) lift h =
      λ others ds e run. lift others (h others ds e run).0 e (h others ds e run).1
  in_front p rest n failed lift h = λ others. lift others (h others).0 failed (h others).1
  in_front p rest n blocked lift h = tt

  -- one thing behind the other
  then_leads : (p q : List ℕ → Progress) (rest : List WorkItem) (end : Ending) (next : Memory → Ending) →
      ((others : List WorkItem) (e : Ending) → HasChoices d p (rest ++ others) e → HasChoices d q others e) →
      Leads d p end → ((n : Memory) → Leads d (goes_on rest n) (next n)) → Leads d q (followed_by end next)
  then_leads p q rest (stopped at trail n) next lift h f =
      λ others. lift others (stopped at trail n) (h (rest ++ others))
  then_leads p q rest (finished n) next lift h f =
      in_front q rest n (next n) (λ others ds e run. lift others e (h (rest ++ others) ds e run)) (f n)
  then_leads p q rest failed next lift h f = λ others. lift others failed (h (rest ++ others))
  then_leads p q rest blocked next lift h f = tt

  -- an item, and then others
  item_then : (first : WorkItem) (rest : List WorkItem) (m : Memory) (end : Ending) (next : Memory → Ending) →
      Leads d (λ cs. progress d m cs first) end → ((n : Memory) → Leads d (goes_on rest n) (next n)) →
      Leads d (goes_on (first ∷ rest) m) (followed_by end next)
  item_then first rest m end next =
      then_leads (λ cs. progress d m cs first) (goes_on (first ∷ rest) m) rest end next
      (λ others e h. (h.0, resume d first (rest ++ others) m h.0 e (progress d m h.0 first) refl h.1))

  -- items, and then others
  items_then : (front rest : List WorkItem) (m : Memory) (end : Ending) (next : Memory → Ending) →
      Leads d (goes_on front m) end → ((n : Memory) → Leads d (goes_on rest n) (next n)) →
      Leads d (goes_on (front ++ rest) m) (followed_by end next)
  items_then front rest m end next =
      then_leads (goes_on front m) (goes_on (front ++ rest) m) rest end next
      (λ others e h.
      (h.0, subst (λ (l : List WorkItem). Run d l m h.0 e) (sym (append_assoc front rest others)) h.1))

  -- a number that is taken as a choice
  takes : (p : List ℕ → Progress) (c : ℕ) (end : Ending) → Leads d (λ cs. p (c ∷ cs)) end → Leads d p end
  takes p c (stopped at trail n) h = λ others. (c ∷ (h others).0, (h others).1)
  takes p c (finished n) h = λ others ds e run. (c ∷ (h others ds e run).0, (h others ds e run).1)
  takes p c failed h = λ others. (c ∷ (h others).0, (h others).1)
  takes p c blocked h = tt

  -- an end is there at once
  stops : (at : Place) (trail : List Place) (m : Memory) →
      Leads d (λ cs. comes_to (at_end cs (stopped at trail m))) (stopped at trail m)
  stops at trail m = λ others. ([], refl)

  -- an overrun
  unless_fails : (b : Bool) (p : List ℕ → Progress) (end : Ending) → Leads d p end →
      Leads d (λ cs. if b then comes_to (at_end cs failed) else p cs) (if b then failed else end)
  unless_fails true p end h = λ others. ([], refl)
  unless_fails false p end h = h

  -- where the text tells behind what something stands
  behind_leads : (p : List ℕ → Progress) (k : Option ℕ) (next : ℕ → Memory → Ending) (n : Memory) →
      ((i : ℕ) → Leads d p (next i n)) → Leads d p (behind k next n)
  behind_leads p None next n h = tt
  behind_leads p (Some i) next n h = h i

  -- a value that is put into a target
  puts : (m : Memory) (target : Option Cell) (n : ℕ) → Leads d (chooses_value d m target) (puts_number d m target n)
  puts m target n = takes (chooses_value d m target) n (puts_number d m target n)
      (of (nat_lt n (type_size d.spec (asked_by d target))))
    where
      of : (b : Bool) →
          Leads d (λ cs. if b then goes_on [] (put_in m target n) cs else comes_to blocked)
          (if b then finished (put_in m target n) else blocked)
      of true = nothing_leads (put_in m target n)
      of false = tt

  -- what a body returns
  delivers_lead : (target : Option Cell) (scope : Scope) (e : ExprTree) (m : Memory) →
      Leads d (λ cs. progress d m cs (deliver target scope e)) (delivers d target scope e m)
  delivers_lead target scope e m =
      unless_fails (overruns d scope m e) (goes_on [] (put_in m target (value d scope m (asked_by d target) e)))
      (finished (put_in m target (value d scope m (asked_by d target) e)))
      (nothing_leads (put_in m target (value d scope m (asked_by d target) e)))

  -- a lone item
  item_alone : (item : WorkItem) (m : Memory) (end : Ending) → Leads d (λ cs. progress d m cs item) end →
      Leads d (goes_on (item ∷ []) m) end
  item_alone item m (stopped at trail n) h = item_then item [] m (stopped at trail n) finished h nothing_leads
  item_alone item m (finished n) h = item_then item [] m (finished n) finished h nothing_leads
  item_alone item m failed h = item_then item [] m failed finished h nothing_leads
  item_alone item m blocked h = tt

  returns_lead : (target : Option Cell) (callee : Called) (m : Memory) →
      Leads d (goes_on (delivery target callee) m) (returns d target callee m)
  returns_lead target callee m = of callee.body.answer
    where
      of : (answer : Option ExprTree) →
          Leads d (goes_on (map (deliver target callee.scope) (option_to_list answer)) m)
          (option_map_or (λ e. delivers d target callee.scope e m) answer (finished m))
      of None = nothing_leads m
      of (Some e) = item_alone (deliver target callee.scope e) m (delivers d target callee.scope e m)
          (delivers_lead target callee.scope e m)

  -- two branches
  branch_leads : (scope : Scope) (trail : List Place) (b : Bool) (first second : StmtRow) (m : Memory)
      (one other : Ending) → Leads d (goes_on (performs scope trail first) m) one →
      Leads d (goes_on (performs scope trail second) m) other →
      Leads d (λ cs. goes_on (performs scope trail (if b then first else second)) m cs) (if b then one else other)
  branch_leads scope trail true first second m one other f g = f
  branch_leads scope trail false first second m one other f g = g

  -- a loop with a test
  repeat_leads : (b : Bool) (body : List WorkItem) (again : WorkItem) (m : Memory) (end : Ending) →
      Leads d (goes_on body m) end →
      Leads d (λ cs. goes_on (if b then body ++ again ∷ [] else []) m cs)
      (if b then followed_by end (λ _. blocked) else finished m)
  repeat_leads true body again m end h = items_then body (again ∷ []) m end (λ _. blocked) h (λ n. tt)
  repeat_leads false body again m end h = nothing_leads m

  assert_leads : (b : Bool) (m : Memory) →
      Leads d (λ cs. if b then goes_on [] m cs else comes_to (at_end cs failed)) (if b then finished m else failed)
  assert_leads true m = nothing_leads m
  assert_leads false m = λ others. ([], refl)

  assume_leads : (b : Bool) (m : Memory) →
      Leads d (λ cs. if b then goes_on [] m cs else comes_to blocked) (if b then finished m else blocked)
  assume_leads true m = nothing_leads m
  assume_leads false m = tt

  module _ (bits : ℕ → Bool) (after : Called → ℕ → Option ℕ) (ending : Called → List Place → ℕ → Memory → Ending)
      (body : (callee : Called) (trail : List Place) (k : ℕ) (m : Memory) →
      Leads d (goes_on (body_items callee.scope trail callee.body) m) (ending callee trail k m)) where
    abbrev here : Reader
    here = record { design = d; bits = bits; after = after; ending = ending }

    -- a call, and what is behind it
    calls_lead : (scope : Scope) (trail : List Place) (names : List Ident) (args : List ExprTree)
        (rest : Called → List WorkItem) (next : Called → Memory → Ending) (k : ℕ) (m : Memory) →
        ((callee : Called) (n : Memory) → Leads d (goes_on (rest callee) n) (next callee n)) →
        Leads d (λ cs. calls d scope trail m cs names args rest) (call_ending here scope trail names args next k m)
    calls_lead scope trail names args rest next k m h = of (called d scope names)
      where
        of : (c : Option Called) →
            Leads d
            (λ cs. option_map_or
            (λ callee.
            goes_on (body_items callee.scope (call_place names ++ trail) callee.body ++ rest callee)
            (with_arguments d scope m callee.params args) cs) c (comes_to blocked))
            (option_map_or
            (λ callee.
            followed_by
            (ending callee (call_place names ++ trail) k (with_arguments d scope m callee.params args))
            (next callee))
            c blocked)
        of None = tt
        of (Some callee) =
            items_then (body_items callee.scope (call_place names ++ trail) callee.body) (rest callee)
            (with_arguments d scope m callee.params args)
            (ending callee (call_place names ++ trail) k (with_arguments d scope m callee.params args)) (next callee)
            (body callee (call_place names ++ trail) k (with_arguments d scope m callee.params args)) (h callee)

    -- an assignment
    value_leads : (scope : Scope) (trail : List Place) (names : List Ident) (target : Option Cell) (v : ValueTree)
        (k : ℕ) (m : Memory) →
        Leads d (λ cs. assigns d scope trail m cs target v) (value_ending here scope trail names target v k m)
    value_leads scope trail names target (star _) k m = puts m target (number_at bits k (target_bits d scope names))
    value_leads scope trail names target (result callee args) k m =
        calls_lead scope trail callee args (delivery target) (returns d target) k m (returns_lead target)
    value_leads scope trail names target (plain e) k m =
        nothing_leads (put_in m target (value d scope m (asked_by d target) e))

    mutual
      -- a statement none of whose expressions overruns
      stmt_leads : (scope : Scope) (trail : List Place) (s : StmtTree) (k : ℕ) (m : Memory) →
          Leads d (λ cs. acts d scope trail m cs s) (stmt_ending here scope trail s k m)
      stmt_leads scope trail (assign names index v) k m =
          value_leads scope trail names (cell d scope names (option_map (index_value d scope m) index)) v k m
      stmt_leads scope trail (invoke names args) k m =
          calls_lead scope trail names args (λ _. []) (λ _. finished) k m (λ callee n. nothing_leads n)
      stmt_leads scope trail (branch e first second) k m =
          branch_leads scope trail (holds_in d scope m e) first second m (row_ending here scope trail first k m)
          (row_ending here scope trail second k m) (row_leads scope trail first k m)
          (row_leads scope trail second k m)
      stmt_leads scope trail (repeat at e body) k m =
          repeat_leads (holds_in d scope m e) (performs scope trail body) (perform scope trail (repeat at e body)) m
          (row_ending here scope trail body k m) (row_leads scope trail body k m)
      stmt_leads scope trail (forever at body) k m =
          items_then (performs scope trail body) (perform scope trail (forever at body) ∷ []) m
          (row_ending here scope trail body k m) (λ _. blocked) (row_leads scope trail body k m) (λ n. tt)
      stmt_leads scope trail (choose _ blocks) k m =
          takes (chooses_block scope trail m (blocks_of blocks)) (number_at bits k (choice_bits blocks))
          (block_ending here scope trail blocks (number_at bits k (choice_bits blocks)) (k + choice_bits blocks) m)
          (blocks_lead scope trail blocks (number_at bits k (choice_bits blocks)) (k + choice_bits blocks) m)
      stmt_leads scope trail (assert _ e) k m = assert_leads (holds_in d scope m e) m
      stmt_leads scope trail (assume _ e) k m = assume_leads (holds_in d scope m e) m
      stmt_leads scope trail (pause at) k m = stops at trail m
      stmt_leads scope trail (wait at _) k m = stops at trail m
      stmt_leads scope trail (magic at) k m = stops at trail m

      -- statements in a row
      row_leads : (scope : Scope) (trail : List Place) (row : StmtRow) (k : ℕ) (m : Memory) →
          Leads d (goes_on (performs scope trail row) m) (row_ending here scope trail row k m)
      row_leads scope trail nothing k m = nothing_leads m
      row_leads scope trail (in_row first others) k m =
          item_then (perform scope trail first) (performs scope trail others) m
          (unless_overrun d scope m first (stmt_ending here scope trail first k m))
          (behind (stmt_after after d scope first k) (λ i. row_ending here scope trail others i))
          (unless_fails (list_any (overruns d scope m) (valued first)) (λ cs. acts d scope trail m cs first)
          (stmt_ending here scope trail first k m) (stmt_leads scope trail first k m))
          (λ n. behind_leads (goes_on (performs scope trail others) n) (stmt_after after d scope first k)
          (λ i. row_ending here scope trail others i) n (λ i. row_leads scope trail others i n))

      -- the alternative of a number
      blocks_lead : (scope : Scope) (trail : List Place) (blocks : BlockRow) (n k : ℕ) (m : Memory) →
          Leads d
          (λ cs. option_map_or (λ block. goes_on (performs scope trail block) m cs) (slice_get (blocks_of blocks) n)
          (comes_to blocked))
          (block_ending here scope trail blocks n k m)
      blocks_lead scope trail nowhere n k m = tt
      blocks_lead scope trail (or_else first others) zero k m = row_leads scope trail first k m
      blocks_lead scope trail (or_else first others) (suc n) k m = blocks_lead scope trail others n k m

    -- a body
    rows_of_body_lead : (callee : Called) (trail : List Place) (k : ℕ) (m : Memory) →
        Leads d (goes_on (body_items callee.scope trail callee.body) m)
        (row_ending here callee.scope trail (row_of (body_stmts callee.body)) k m)
    rows_of_body_lead callee trail k m =
        subst
        (λ (ss : List StmtTree). Leads d (goes_on (map (perform callee.scope trail) ss) m)
        (row_ending here callee.scope trail (row_of (body_stmts callee.body)) k m))
        (stmts_of_row (body_stmts callee.body))
        (row_leads callee.scope trail (row_of (body_stmts callee.body)) k m)

  -- bodies, where calls nest at most so deep
  bodies_lead : (bits : ℕ → Bool) (depth : ℕ) (callee : Called) (trail : List Place) (k : ℕ) (m : Memory) →
      Leads d (goes_on (body_items callee.scope trail callee.body) m) (body_ending depth d bits callee trail k m)
  bodies_lead bits zero callee trail k m = tt
  bodies_lead bits (suc depth) callee trail k m =
      rows_of_body_lead bits (body_after depth d) (body_ending depth d bits) (bodies_lead bits depth) callee trail k m

  module _ (bits : ℕ → Bool) where
    item_leads : (item : WorkItem) (k : ℕ) (m : Memory) →
        Leads d (λ cs. progress d m cs item) (item_ending d bits item k m)
    item_leads (perform scope trail s) k m =
        unless_fails (list_any (overruns d scope m) (valued s)) (λ cs. acts d scope trail m cs s)
        (stmt_ending (reader d bits) scope trail s k m)
        (stmt_leads bits (body_after (call_depth d.spec) d) (body_ending (call_depth d.spec) d bits)
        (bodies_lead bits (call_depth d.spec)) scope trail s k m)
    item_leads (deliver target scope e) k m = delivers_lead target scope e m

    items_lead : (items : List WorkItem) (k : ℕ) (m : Memory) →
        Leads d (goes_on items m) (items_ending d bits items k m)
    items_lead [] k m = nothing_leads m
    items_lead (first ∷ others) k m =
        item_then first others m (item_ending d bits first k m)
        (behind (item_after d first k) (λ i. items_ending d bits others i)) (item_leads first k m)
        (λ n. behind_leads (goes_on others n) (item_after d first k) (λ i. items_ending d bits others i) n
        (λ i. items_lead others i n))

-- what a run that reads bits comes to, some choices come to
pub bits_to_list : (d : DesignTree) (bits : ℕ → Bool) (items : List WorkItem) (k : ℕ) (m : Memory) →
    items_ending d bits items k m ≢ blocked → (cs : List ℕ) × Run d items m cs (items_ending d bits items k m)
bits_to_list d bits items k m = of (items_ending d bits items k m) (items_lead d bits items k m)
  where
    whole : (cs : List ℕ) (e : Ending) → Run d (items ++ []) m cs e → Run d items m cs e
    whole cs e run = subst (λ (l : List WorkItem). Run d l m cs e) (append-nil items) run

    of : (e : Ending) → Leads d (goes_on items m) e → e ≢ blocked → (cs : List ℕ) × Run d items m cs e
    of (stopped at trail n) h there = ((h []).0, whole (h []).0 (stopped at trail n) (h []).1)
    of (finished n) h there =
        let run : Run d [] n [] (finished n) = none_left refl in
        ((h [] [] (finished n) run).0, whole (h [] [] (finished n) run).0 (finished n) (h [] [] (finished n) run).1)
    of failed h there = ((h []).0, whole (h []).0 failed (h []).1)
    of blocked h there = absurd (there refl)
