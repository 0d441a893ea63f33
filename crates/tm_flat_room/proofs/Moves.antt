-- What is left after a magic block comes to an end for some choices, and so does each move that the turn rule permits.
use Rattle.std.proofs.Common.{◌≡◌, ◌≢◌, ℕ, zero, suc, ◌<◌, Bool, true, false, nat_lt, Option, None, Some, List, [], ◌∷◌, ◌++◌, length, position, slice_get, refl, sym, ap, ◌∙◌, subst, arith, true≢false, ◌&&◌}
use Rattle.std.specs.Prelude.{MatchOption, is_some, slice_index}
use Rattle.std.specs.Bool.{then_some}
use Rattle.std.proofs.lemmas.List.{append-nil}
use Rattle.std.proofs.lemmas.Option.{none-some, same_Some}
use Rattle.std.specs.List.{AllByRecursion, AllZip, fold, zip}
use Rattle.std.specs.Option.{option_map, option_map_or, option_and_then}
use Rattle.tm_base.specs.declared.place.Place.{Place}
use Rattle.tm_syntax.specs.declared.design.Item.{Item}
use Rattle.tm_syntax.specs.declared.design.Var.{Var}
use Rattle.tm_syntax.specs.declared.tree.Ident.{Ident}
use Rattle.tm_syntax.specs.Tree.{StmtTree, assign, invoke, branch, repeat, forever, choose, assert, assume, pause, wait, magic, StmtRow, nothing, then, row_of, BlockRow, nowhere, or_else, BodyTree, ProcessTree, TaskTree, TemplateTree, SpecTree}
use Rattle.tm_syntax.specs.Scopes.Names.{is_spelled, last_name}
use Rattle.tm_syntax.specs.Scopes.Context.{process_body, task_body}
use Rattle.tm_syntax.specs.Scopes.Parts.{inner_stmts, row_stmts, block_stmts, all_stmts, body_stmts}
use Rattle.tm_syntax.specs.Scopes.Pauses.{call_depth}
use Rattle.tm_syntax.specs.Faults.{IsSound, IsOfText}
use Rattle.tm_syntax.specs.Design.{DesignTree}
use Rattle.tm_syntax.specs.Design.Cells.{cell, Called, called, task_called}
use Rattle.tm_syntax.specs.Design.Locations.{Location, stmt_locations, row_locations, block_locations, body_locations, Thread, thread, locations, rest, is_magic_at}
use Rattle.tm_syntax.specs.Design.Scope.{Scope, Site, site, site_along}
use Rattle.tm_syntax.specs.Design.Sizes.{type_size}
use Rattle.tm_syntax.specs.Design.Work.{WorkItem, perform, performs, body_items, call_place}
use Rattle.tm_sem.specs.State.{StateData}
use Rattle.tm_sem.specs.declared.state.Move.{Move}
use Rattle.tm_sem.specs.declared.state.Move.TheVariants as moves
use Rattle.tm_sem.specs.declared.state.Outcome.TheVariants as outcomes
use Rattle.tm_sem.specs.Value.{put}
use Rattle.tm_sem.specs.Run.{asked_by, Ending, stopped, finished, failed, blocked}
use Rattle.tm_sem.specs.Step.{IsState, memory_of, stands_at_magic, is_driver_turn, Work, leave_work, call_work, task_of, arguments_fit, work, outcome_of, Comes, is_driver_move, IsAllowed}
use Rattle.tm_typing.proofs.Fitting.{all_of_both, both_true}
use Rattle.tm_typing.proofs.Listed.{all_join, holds_in, in_get}
use Rattle.tm_locations.proofs.CalledBodies.{made, site-number, along-number}
use Rattle.tm_flat_room.specs.Assuming.{AssumesNothing}
use Rattle.tm_flat_room.proofs.AllowedBodies.{sizes, task_ends, all_fine}
use Rattle.tm_flat_room.proofs.TextBodies.{IsBody, task_is, process_is}
use Rattle.tm_flat_room.proofs.Ending.{Always, nothing_ends, Fine, row_passes, one_passes}
use Rattle.tm_flat_room.proofs.Plain.{row_is}
use Rattle.tm_flat_room.proofs.Sizes.{HasValue}

-- the values of a valid state show that its variables have some
zip_values : (spec : SpecTree) (vars : List Var) (values : List ℕ) →
    AllZip (λ (v : Var) n. n < type_size spec v.ty) vars values → AllByRecursion (λ (v : Var). HasValue spec v.ty) vars
zip_values x [] values each = tt
zip_values x (v ∷ vs) [] each = elim each [ ]
zip_values x (v ∷ vs) (n ∷ ns) each =
    let below = each.0 in (omega arith, zip_values x vs ns each.1)

-- what is there under a test passed it
then_some_is : {X : Type 0} (b : Bool) (x y : X) → then_some b x ≡ Some y → (b ≡ true) × (x ≡ y)
then_some_is true x y e = (refl, same_Some x y e)
then_some_is false x y e = absurd (none-some y e)

module _ (d : DesignTree) where
  -- what a path calls is a task of an instance
  pub record IsMade (c : Called) : Type 0 where
    pub at : Site
    pub number : ℕ
    pub task : TaskTree
    pub there : site d at.number ≡ Some at
    pub is : slice_get at.template.tasks number ≡ Some task
    pub same : made d at number task ≡ c

  task_made : (u : Site) (k : ℕ) (c : Called) → site d u.number ≡ Some u → task_called d u k ≡ Some c → IsMade c
  task_made u k c there = by (slice_get u.template.tasks k) refl
    where
      by : (o : Option TaskTree) → slice_get u.template.tasks k ≡ o → option_map (made d u k) o ≡ Some c → IsMade c
      by None at e = absurd (none-some c e)
      by (Some task) at e =
          record { at = u; number = k; task = task; there = there; is = at; same = same_Some (made d u k task) c e }

  numbered_made : (u : Site) (c : Called) (o : Option ℕ) → site d u.number ≡ Some u →
      option_and_then (task_called d u) o ≡ Some c → IsMade c
  numbered_made u c None there e = absurd (none-some c e)
  numbered_made u c (Some k) there e = task_made u k c there e

  pub called_made : (scope : Scope) (s : Site) → site d scope.instance ≡ Some s → (path : List Ident) (c : Called) →
      called d scope path ≡ Some c → IsMade c
  called_made scope s there path c e =
      by (site_along d s path) refl
      (sym (ap (option_and_then (λ at. option_and_then (λ u. option_and_then (task_called d u)
      (position (λ task. is_spelled (last_name path) task.name) u.template.tasks)) (site_along d at path))) there) ∙ e)
    where
      by : (o : Option Site) → site_along d s path ≡ o →
          option_and_then (λ u. option_and_then (task_called d u)
          (position (λ task. is_spelled (last_name path) task.name) u.template.tasks)) o ≡ Some c → IsMade c
      by None along e = absurd (none-some c e)
      by (Some u) along e =
          numbered_made u c (position (λ task. is_spelled (last_name path) task.name) u.template.tasks)
          (along-number d path s u (site-number d scope.instance s there) along) e

  -- a controllable task of the design is one
  pub task_of_made : (t : ℕ) (c : Called) → task_of d t ≡ Some c → IsMade c
  task_of_made t c = by (slice_get d.tasks t)
    where
      at_site : (item : Item) (o : Option Site) → site d item.instance ≡ o →
          option_and_then (λ at. option_and_then (task_called d at) item.index) o ≡ Some c → IsMade c
      at_site item None there e = absurd (none-some c e)
      at_site item (Some u) there e = numbered_made u c item.index (site-number d item.instance u there) e

      by : (o : Option Item) →
          option_and_then (λ item. option_and_then (λ at. option_and_then (task_called d at) item.index)
          (site d item.instance)) o ≡ Some c → IsMade c
      by None e = absurd (none-some c e)
      by (Some item) e = at_site item (site d item.instance) refl e

  -- a process of the design
  pub record IsThread (t : Thread) : Type 0 where
    pub at : Site
    pub number : ℕ
    pub there : site d at.number ≡ Some at
    pub is : slice_get at.template.processes number ≡ Some t.process
    pub scope : record { instance = at.number; body = process_body number } ≡ t.scope

  pub thread_is : (p : ℕ) (t : Thread) → thread d p ≡ Some t → IsThread t
  thread_is p t = by (slice_get d.processes p)
    where
      of_process : (u : Site) (k : ℕ) → site d u.number ≡ Some u → (o : Option ProcessTree) →
          slice_get u.template.processes k ≡ o →
          option_map (λ process. record {
            scope = record { instance = u.number; body = process_body k };
            process = process;
          }) o ≡ Some t → IsThread t
      of_process u k there None at e = absurd (none-some t e)
      of_process u k there (Some p) at e =
          let made : Thread = record {
            scope = record { instance = u.number; body = process_body k };
            process = p;
          } in
          let same : made ≡ t = same_Some made t e in
          record {
            at = u;
            number = k;
            there = there;
            is = at ∙ ap (λ (t : Thread). Some t.process) same;
            scope = ap (λ (t : Thread). t.scope) same;
          }

      of_index : (u : Site) → site d u.number ≡ Some u → (o : Option ℕ) →
          option_and_then (λ k. option_map (λ process. record {
            scope = record { instance = u.number; body = process_body k };
            process = process;
          }) (slice_get u.template.processes k)) o ≡ Some t → IsThread t
      of_index u there None e = absurd (none-some t e)
      of_index u there (Some k) e = of_process u k there (slice_get u.template.processes k) refl e

      of_site : (item : Item) (o : Option Site) → site d item.instance ≡ o →
          option_and_then (λ at. option_and_then (λ k. option_map (λ process. record {
            scope = record { instance = at.number; body = process_body k };
            process = process;
          }) (slice_get at.template.processes k)) item.index) o ≡ Some t → IsThread t
      of_site item None there e = absurd (none-some t e)
      of_site item (Some u) there e = of_index u (site-number d item.instance u there) item.index e

      by : (o : Option Item) →
          option_and_then (λ item. option_and_then (λ at. option_and_then (λ k. option_map (λ process. record {
            scope = record { instance = at.number; body = process_body k };
            process = process;
          }) (slice_get at.template.processes k)) item.index) (site d item.instance)) o ≡ Some t → IsThread t
      by None e = absurd (none-some t e)
      by (Some item) e = of_site item (site d item.instance) refl e

  -- what is left after each magic block comes to an end
  abbrev pub AllLeave : List Location → Type 0
  AllLeave ls = AllByRecursion (λ (l : Location). l.is_magic ≡ true → Always d l.rest) ls

  both_leave : (xs ys : List Location) → AllLeave xs → AllLeave ys → AllLeave (xs ++ ys)
  both_leave xs ys a b = all_join (λ (l : Location). l.is_magic ≡ true → Always d l.rest) xs ys a b

  module _ (within : List Ident → List WorkItem → List Location) (scope : Scope) (t : TemplateTree)
      (trail : List Place)
      (sized : (path : List Ident) (index : Option ℕ) →
      0 < type_size d.spec (asked_by d (cell d scope path index)))
      (inside : (path : List Ident) (left : List WorkItem) → Always d left → AllLeave (within path left))
    where
      abbrev pub FineAll : List StmtTree → Type 0
      FineAll ss = AllByRecursion (Fine d scope t) ss

      mutual
        stmt_leaves : (s : StmtTree) → FineAll (s ∷ inner_stmts s) → (after : List WorkItem) → Always d after →
            AllLeave (stmt_locations within scope trail s after)
        stmt_leaves (assign _ _ _) fine after always = tt
        stmt_leaves (invoke path _) fine after always = inside path after always
        stmt_leaves (branch _ a b) fine after always =
            let parts = all_of_both (Fine d scope t) (row_stmts a) (row_stmts b) fine.1 in
            both_leave (row_locations within scope trail a after) (row_locations within scope trail b after)
            (row_leaves a parts.0 after always) (row_leaves b parts.1 after always)
        stmt_leaves (repeat at e body) fine after always =
            row_leaves body fine.1 (perform scope trail (repeat at e body) ∷ after)
            (one_passes d scope t trail sized (repeat at e body) fine after always)
        stmt_leaves (forever at body) fine after always =
            row_leaves body fine.1 (perform scope trail (forever at body) ∷ after)
            (one_passes d scope t trail sized (forever at body) fine after always)
        stmt_leaves (choose _ blocks) fine after always = blocks_leave blocks fine.1 after always
        stmt_leaves (assert _ _) fine after always = tt
        stmt_leaves (assume _ _) fine after always = tt
        stmt_leaves (pause at) fine after always = (λ e. absurd (true≢false (sym e)), tt)
        stmt_leaves (wait at c) fine after always = (λ e. absurd (true≢false (sym e)), tt)
        stmt_leaves (magic at) fine after always = (λ e. always, tt)

        row_leaves : (r : StmtRow) → FineAll (row_stmts r) → (after : List WorkItem) → Always d after →
            AllLeave (row_locations within scope trail r after)
        row_leaves nothing fine after always = tt
        row_leaves (then first more) fine after always =
            let parts = all_of_both (Fine d scope t) (first ∷ inner_stmts first) (row_stmts more) fine in
            both_leave (stmt_locations within scope trail first (performs scope trail more ++ after))
            (row_locations within scope trail more after)
            (stmt_leaves first parts.0 (performs scope trail more ++ after)
            (row_passes d scope t trail sized more parts.1 after always))
            (row_leaves more parts.1 after always)

        blocks_leave : (bs : BlockRow) → FineAll (block_stmts bs) → (after : List WorkItem) → Always d after →
            AllLeave (block_locations within scope trail bs after)
        blocks_leave nowhere fine after always = tt
        blocks_leave (or_else first more) fine after always =
            let parts = all_of_both (Fine d scope t) (row_stmts first) (block_stmts more) fine in
            both_leave (row_locations within scope trail first after) (block_locations within scope trail more after)
            (row_leaves first parts.0 after always) (blocks_leave more parts.1 after always)

      pub whole_leaves : (ss : List StmtTree) → FineAll (all_stmts ss) → (after : List WorkItem) → Always d after →
          AllLeave (row_locations within scope trail (row_of ss) after)
      whole_leaves ss fine after always = row_leaves (row_of ss) (subst FineAll (sym (row_is ss)) fine) after always

  module _ (sound : IsSound d) (of : IsOfText d.spec) (plain_text : AssumesNothing d.spec)
      (vars : AllByRecursion (λ (v : Var). HasValue d.spec v.ty) d.vars)
    where
      -- the locations of a body, where calls nest at most so deep
      body_leaves : (depth : ℕ) (scope : Scope) (s : Site) (body : BodyTree) →
          IsBody d sound of scope s body → (trail : List Place) (after : List WorkItem) →
          Always d after → AllLeave (body_locations depth d scope trail body after)
      body_leaves zero scope s body at trail after always = tt
      body_leaves (suc depth) scope s body at trail after always =
          whole_leaves
          (λ names left. option_map_or (λ callee.
          body_locations depth d callee.scope (call_place names ++ trail) callee.body left) (called d scope names) [])
          scope s.template trail (sizes d sound of plain_text vars scope s body at)
          (λ path left ends. callee_leaves (body_leaves depth) path left ends (called d scope path) refl)
          (body_stmts body) (all_fine d sound of plain_text vars scope s body at) after always
        where
          callee_leaves : ((scope : Scope) (s : Site) (body : BodyTree) →
              IsBody d sound of scope s body → (trail : List Place) (after : List WorkItem) →
              Always d after → AllLeave (body_locations depth d scope trail body after)) → (path : List Ident)
              (left : List WorkItem) → Always d left → (o : Option Called) → called d scope path ≡ o →
              AllLeave (option_map_or (λ callee.
              body_locations depth d callee.scope (call_place path ++ trail) callee.body left) o [])
          callee_leaves deeper path left ends None is = tt
          callee_leaves deeper path left ends (Some c) is =
              let made = called_made scope s at.there path c is in
              subst (λ (c : Called). AllLeave (body_locations depth d c.scope (call_place path ++ trail) c.body left))
              made.same
              (deeper (record { instance = made.at.number; body = task_body made.number }) made.at
              made.task.body (task_is d sound of made.at made.number made.task made.there made.is)
              (call_place path ++ trail) left ends)

      locations_leave : (p : ℕ) → AllLeave (locations d p)
      locations_leave p = by (thread d p) refl
        where
          by : (o : Option Thread) → thread d p ≡ o →
              AllLeave (option_map_or
              (λ t. body_locations (suc (call_depth d.spec)) d t.scope [] t.process.body []) o [])
          by None is = tt
          by (Some t) is =
              let of_design = thread_is p t is in
              subst (λ (scope : Scope). AllLeave (body_locations (suc (call_depth d.spec)) d scope [] t.process.body
              []))
              of_design.scope
              (body_leaves (suc (call_depth d.spec))
              (record { instance = of_design.at.number; body = process_body of_design.number }) of_design.at
              t.process.body
              (process_is d sound of of_design.at of_design.number t.process of_design.there
              of_design.is)
              [] [] (nothing_ends d))

      -- what is left at a magic block
      rest_ends : (p k : ℕ) → is_magic_at d p k ≡ true → Always d (rest d p k)
      rest_ends p zero e = absurd (true≢false (sym e))
      rest_ends p (suc k) e = by (slice_get (locations d p) k) refl e
        where
          by : (o : Option Location) → slice_get (locations d p) k ≡ o →
              option_map_or (λ (l : Location). l.is_magic) o false ≡ true →
              Always d (option_map_or (λ (l : Location). l.rest) o [])
          by None is e = absurd (true≢false (sym e))
          by (Some l) is e =
              holds_in (λ (l : Location). l.is_magic ≡ true → Always d l.rest) (locations d p) (locations_leave p)
              (in_get (locations d p) k is) e

      leave_ends : (s : StateData) (p : ℕ) (w : Work) → leave_work d s p ≡ Some w → Always d w.items
      leave_ends s p w e =
          let w0 : Work = record {
            items = rest d p (slice_index s.places p);
            memory = memory_of s;
            mover = Some p;
            last = 1;
          } in
          let is = then_some_is (nat_lt p (length d.processes) && stands_at_magic d s p) w0 w e in
          let stands = both_true (nat_lt p (length d.processes)) (stands_at_magic d s p) is.0 in
          subst (λ (w : Work). Always d w.items) is.1 (rest_ends p (slice_index s.places p) stands.1)

      call_ends : (s : StateData) (t : ℕ) (args : List ℕ) (w : Work) → call_work d s t args ≡ Some w →
          Always d w.items
      call_ends s t args w = by (task_of d t) refl
        where
          made_ends : (c : Called) → IsMade c → Always d (body_items c.scope [] c.body)
          made_ends c made =
              let ends = task_ends d sound of plain_text vars made.at made.number made.task made.there made.is in
              let scope : Scope = record { instance = made.at.number; body = task_body made.number } in
              subst (λ (c : Called). Always d (body_items c.scope [] c.body)) made.same
              (subst (Always d) (append-nil (body_items scope [] made.task.body)) (ends.passes [] [] (nothing_ends d)))

          by : (o : Option Called) → task_of d t ≡ o →
              option_and_then (λ callee. then_some (is_driver_turn d s && arguments_fit d callee.params args)
              (record {
                items = body_items callee.scope [] callee.body;
                memory = fold (λ m p. put m p.0 p.1) (memory_of s) (zip callee.params args);
                mover = None;
                last = 1;
              })) o ≡ Some w → Always d w.items
          by None is e = absurd (none-some w e)
          by (Some c) is e =
              let w0 : Work = record {
                items = body_items c.scope [] c.body;
                memory = fold (λ m p. put m p.0 p.1) (memory_of s) (zip c.params args);
                mover = None;
                last = 1;
              } in
              let same = then_some_is (is_driver_turn d s && arguments_fit d c.params args) w0 w e in
              subst (λ (w : Work). Always d w.items) same.1 (made_ends c (task_of_made t c is))

      idle_ends : (s : StateData) (w : Work) → work d s moves.Idle ≡ Some w → Always d w.items
      idle_ends s w e =
          let w0 : Work = record { items = []; memory = memory_of s; mover = None; last = 1 } in
          let same = then_some_is (is_driver_turn d s) w0 w e in
          subst (λ (w : Work). Always d w.items) same.1 (nothing_ends d)

      work_ends : (s : StateData) (move : Move) (w : Work) → is_driver_move move ≡ true → work d s move ≡ Some w →
          Always d w.items
      work_ends s moves.Stutter w driver e = absurd (true≢false (sym driver))
      work_ends s (moves.Process p) w driver e = absurd (true≢false (sym driver))
      work_ends s moves.Idle w driver e = idle_ends s w e
      work_ends s (moves.Leave p) w driver e = leave_ends s p w e
      work_ends s (moves.Call t args) w driver e = call_ends s t args w e

-- an end that counts is an outcome
outcome_counts : (d : DesignTree) (s : StateData) (w : Work) (e : Ending) → e ≢ blocked →
    outcome_of d s w e ≢ outcomes.NoOutcome
outcome_counts d s w (stopped _ _ _) counts = λ same. cc
outcome_counts d s w (finished _) counts = λ same. cc
outcome_counts d s w failed counts = λ same. cc
outcome_counts d s w blocked counts = λ same. counts refl

-- a driver's move that the turn rule permits is allowed
pub permitted_allowed : (d : DesignTree) (s : StateData) (move : Move) → IsSound d → IsOfText d.spec →
    AssumesNothing d.spec → IsState d s → is_driver_move move ≡ true → is_some (work d s move) ≡ true →
    IsAllowed d s move
permitted_allowed d s move sound of plain_text valid driver permits = by (work d s move) refl permits
  where
    by : (o : Option Work) → work d s move ≡ o → is_some o ≡ true → IsAllowed d s move
    by None is e = absurd (true≢false (sym e))
    by (Some w) is e =
        let always = work_ends d sound of plain_text (zip_values d.spec d.vars s.values valid.values) s move w driver is
        in
        let end = always w.memory in (
          driver,
          end.choices,
          outcome_of d s w end.end,
          subst (λ o. MatchOption o (outcome_of d s w end.end ≡ outcomes.NoOutcome)
              (λ w2. Comes d s w2 end.choices (outcome_of d s w end.end))) (sym is)
              (record { end = end.end; run = end.run; outcome = refl }),
          outcome_counts d s w end.end end.counts,
        )
