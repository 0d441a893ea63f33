-- Where no procedure or controllable task holds a location, no procedure pauses.
use Rattle.std.proofs.Common.{◌≡◌, ℕ, zero, suc, Bool, true, false, cond, Option, None, Some, List, [], ◌∷◌, refl, sym, ap, ◌∙◌}
use Rattle.std.specs.Prelude.{not, ◌||◌}
use Rattle.std.specs.List.{AllByRecursion, filter, flat_map, list_any}
use Rattle.std.specs.Option.{option_map_or}
use Rattle.tm_syntax.specs.declared.tree.Ident.{Ident}
use Rattle.tm_syntax.specs.Tree.{ValueTree, star, result, plain, StmtTree, assign, invoke, branch, repeat, forever, choose, assert, assume, pause, wait, magic, StmtRow, nothing, then, BlockRow, nowhere, or_else, BodyTree, LocalTree, SpecTree, TaskTree, TemplateTree}
use Rattle.tm_syntax.specs.Scopes.Parts.{inner_stmts, row_stmts, block_stmts, all_stmts, value_calls, own_calls}
use Rattle.tm_syntax.specs.Scopes.Pauses.{value_pauses, stmt_pauses, row_pauses, block_pauses, body_pauses, call_depth, is_uncontrollable, may_pause, task_reached}
use Rattle.tm_syntax.specs.Faults.Crossings.{atomic_locations, call_pauses, held_locations, holds_location, is_location, stmt_place, task_locations, type_place}
use Rattle.tm_syntax.specs.Faults.Marks.{place_unless}
use Rattle.tm_typing.proofs.Fitting.{all_of_both, both_empty, fits_there, not_empty}
use Rattle.tm_typing.proofs.Listed.{In, all_hold, in_filter, none_of}
use Rattle.tm_locations.proofs.QuietBodies.{neither}

both_false : (a b : Bool) → a ≡ false → b ≡ false → (a || b) ≡ false
both_false a b e f = λ i. e i || f i

-- what does not pause by some calls does not by fewer
module _ (more less : List Ident → Bool) (fewer : (path : List Ident) → more path ≡ false → less path ≡ false) where
  value-fewer : (v : ValueTree) → value_pauses more v ≡ false → value_pauses less v ≡ false
  value-fewer (star _) e = refl
  value-fewer (result path _) e = fewer path e
  value-fewer (plain _) e = refl

  mutual
    stmt-fewer : (s : StmtTree) → stmt_pauses more s ≡ false → stmt_pauses less s ≡ false
    stmt-fewer (assign _ _ v) e = value-fewer v e
    stmt-fewer (invoke path _) e = fewer path e
    stmt-fewer (branch _ a b) e =
        let parts = neither (row_pauses more a) (row_pauses more b) e in
        both_false (row_pauses less a) (row_pauses less b) (row-fewer a parts.0) (row-fewer b parts.1)
    stmt-fewer (repeat _ _ body) e = row-fewer body e
    stmt-fewer (forever _ body) e = row-fewer body e
    stmt-fewer (choose _ blocks) e = block-fewer blocks e
    stmt-fewer (assert _ _) e = refl
    stmt-fewer (assume _ _) e = refl
    stmt-fewer (pause _) e = e
    stmt-fewer (wait _ _) e = e
    stmt-fewer (magic _) e = e

    row-fewer : (r : StmtRow) → row_pauses more r ≡ false → row_pauses less r ≡ false
    row-fewer nothing e = refl
    row-fewer (then first others) e =
        let parts = neither (stmt_pauses more first) (row_pauses more others) e in
        both_false (stmt_pauses less first) (row_pauses less others) (stmt-fewer first parts.0)
        (row-fewer others parts.1)

    block-fewer : (bs : BlockRow) → block_pauses more bs ≡ false → block_pauses less bs ≡ false
    block-fewer nowhere e = refl
    block-fewer (or_else first others) e =
        let parts = neither (row_pauses more first) (block_pauses more others) e in
        both_false (row_pauses less first) (block_pauses less others) (row-fewer first parts.0)
        (block-fewer others parts.1)

  stmts-fewer : (ss : List StmtTree) → list_any (stmt_pauses more) ss ≡ false →
      list_any (stmt_pauses less) ss ≡ false
  stmts-fewer [] e = refl
  stmts-fewer (s ∷ ss) e =
      let parts = neither (stmt_pauses more s) (list_any (stmt_pauses more) ss) e in
      both_false (stmt_pauses less s) (list_any (stmt_pauses less) ss) (stmt-fewer s parts.0) (stmts-fewer ss parts.1)

  locals-fewer : (ls : List LocalTree) → list_any (λ (l : LocalTree). value_pauses more l.value) ls ≡ false →
      list_any (λ (l : LocalTree). value_pauses less l.value) ls ≡ false
  locals-fewer [] e = refl
  locals-fewer (l ∷ ls) e =
      let parts = neither (value_pauses more l.value) (list_any (λ (l : LocalTree). value_pauses more l.value) ls) e in
      both_false (value_pauses less l.value) (list_any (λ (l : LocalTree). value_pauses less l.value) ls)
      (value-fewer l.value parts.0) (locals-fewer ls parts.1)

-- whether a path calls what pauses, where calls nest so deep
abbrev pauses_below : ℕ → SpecTree → TemplateTree → List Ident → Bool
pauses_below n spec t path =
    option_map_or (λ (k : TemplateTree × TaskTree). body_pauses n spec k.0 k.1.body) (task_reached spec t path) false

-- a body that does not pause does not where calls nest less deep
pauses_less : (n : ℕ) (spec : SpecTree) (t : TemplateTree) (body : BodyTree) →
    body_pauses (suc n) spec t body ≡ false → body_pauses n spec t body ≡ false
pauses_less zero spec t body e = refl
pauses_less (suc n) spec t body e =
    let more = pauses_below (suc n) spec t in
    let less = pauses_below n spec t in
    let parts = neither (list_any (λ (l : LocalTree). value_pauses more l.value) body.locals)
    (list_any (stmt_pauses more) body.stmts) e in
    both_false (list_any (λ (l : LocalTree). value_pauses less l.value) body.locals)
    (list_any (stmt_pauses less) body.stmts)
    (locals-fewer more less (λ path. fewer (pauses_less n spec) (task_reached spec t path)) body.locals parts.0)
    (stmts-fewer more less (λ path. fewer (pauses_less n spec) (task_reached spec t path)) body.stmts parts.1)
  where
    fewer : ((t : TemplateTree) (body : BodyTree) → body_pauses (suc n) spec t body ≡ false →
        body_pauses n spec t body ≡ false) → (o : Option (TemplateTree × TaskTree)) →
        option_map_or (λ (k : TemplateTree × TaskTree). body_pauses (suc n) spec k.0 k.1.body) o false ≡ false →
        option_map_or (λ (k : TemplateTree × TaskTree). body_pauses n spec k.0 k.1.body) o false ≡ false
    fewer deeper None e = refl
    fewer deeper (Some k) e = deeper k.0 k.1.body e

-- what holds no location, and calls nothing that does, does not pause
module _ (calls : List Ident → Bool) where
  abbrev HoldsNone : StmtTree → Type 0
  HoldsNone s = (is_location s || list_any calls (own_calls s)) ≡ false

  value-none : (v : ValueTree) → list_any calls (value_calls v) ≡ false → value_pauses calls v ≡ false
  value-none (star _) e = refl
  value-none (result path _) e = (neither (calls path) false e).0
  value-none (plain _) e = refl

  mutual
    stmt-none : (s : StmtTree) → AllByRecursion HoldsNone (s ∷ inner_stmts s) → stmt_pauses calls s ≡ false
    stmt-none (assign _ _ v) h = value-none v h.0
    stmt-none (invoke path _) h = (neither (calls path) false h.0).0
    stmt-none (branch _ a b) h =
        let parts = all_of_both HoldsNone (row_stmts a) (row_stmts b) h.1 in
        both_false (row_pauses calls a) (row_pauses calls b) (row-none a parts.0) (row-none b parts.1)
    stmt-none (repeat _ _ body) h = row-none body h.1
    stmt-none (forever _ body) h = row-none body h.1
    stmt-none (choose _ blocks) h = block-none blocks h.1
    stmt-none (assert _ _) h = refl
    stmt-none (assume _ _) h = refl
    stmt-none (pause _) h = h.0
    stmt-none (wait _ _) h = h.0
    stmt-none (magic _) h = h.0

    row-none : (r : StmtRow) → AllByRecursion HoldsNone (row_stmts r) → row_pauses calls r ≡ false
    row-none nothing h = refl
    row-none (then first others) h =
        let parts = all_of_both HoldsNone (first ∷ inner_stmts first) (row_stmts others) h in
        both_false (stmt_pauses calls first) (row_pauses calls others) (stmt-none first parts.0)
        (row-none others parts.1)

    block-none : (bs : BlockRow) → AllByRecursion HoldsNone (block_stmts bs) → block_pauses calls bs ≡ false
    block-none nowhere h = refl
    block-none (or_else first others) h =
        let parts = all_of_both HoldsNone (row_stmts first) (block_stmts others) h in
        both_false (row_pauses calls first) (block_pauses calls others) (row-none first parts.0)
        (block-none others parts.1)

  stmts-none : (ss : List StmtTree) → AllByRecursion HoldsNone (all_stmts ss) →
      list_any (stmt_pauses calls) ss ≡ false
  stmts-none [] h = refl
  stmts-none (s ∷ ss) h =
      let parts = all_of_both HoldsNone (s ∷ inner_stmts s) (all_stmts ss) h in
      both_false (stmt_pauses calls s) (list_any (stmt_pauses calls) ss) (stmt-none s parts.0) (stmts-none ss parts.1)

  locals-none : (ls : List LocalTree) →
      flat_map (λ (l : LocalTree). place_unless (not (list_any calls (value_calls l.value))) (type_place l.ty)) ls
      ≡ [] →
      list_any (λ (l : LocalTree). value_pauses calls l.value) ls ≡ false
  locals-none [] e = refl
  locals-none (l ∷ ls) e =
      let others = flat_map (λ (l : LocalTree).
      place_unless (not (list_any calls (value_calls l.value))) (type_place l.ty)) ls in
      let parts = both_empty (place_unless (not (list_any calls (value_calls l.value))) (type_place l.ty)) others e in
      both_false (value_pauses calls l.value) (list_any (λ (l : LocalTree). value_pauses calls l.value) ls)
      (value-none l.value (by (list_any calls (value_calls l.value))
      (fits_there (not (list_any calls (value_calls l.value))) (type_place l.ty) parts.0)))
      (locals-none ls parts.1)
    where
      by : (b : Bool) → not b ≡ true → b ≡ false
      by true e = sym e
      by false e = refl

module _ (spec : SpecTree) (t : TemplateTree) where
  -- what holds a location has a place
  placed : (s : StmtTree) → holds_location spec t s ≡ true → stmt_place s ≡ [] → holds_location spec t s ≡ false
  placed (assign _ _ _) h e = not_empty e
  placed (invoke _ _) h e = not_empty e
  placed (branch _ _ _) h e = refl
  placed (repeat _ _ _) h e = refl
  placed (forever _ _) h e = refl
  placed (choose _ _) h e = refl
  placed (assert _ _) h e = refl
  placed (assume _ _) h e = refl
  placed (pause _) h e = not_empty e
  placed (wait _ _) h e = not_empty e
  placed (magic _) h e = not_empty e

  none-held : (ss : List StmtTree) → flat_map stmt_place (filter (holds_location spec t) ss) ≡ [] →
      AllByRecursion (HoldsNone (call_pauses spec t)) ss
  none-held ss e = all_hold (HoldsNone (call_pauses spec t)) ss (λ s i. by s i (holds_location spec t s) refl)
    where
      by : (s : StmtTree) → In s ss → (b : Bool) → holds_location spec t s ≡ b → holds_location spec t s ≡ false
      by s i false is = is
      by s i true is =
          placed s is
          (none_of stmt_place (filter (holds_location spec t) ss) e (in_filter (holds_location spec t) ss i is))

  -- a body in which no location is held does not pause
  unheld : (body : BodyTree) → held_locations spec t body ≡ [] →
      body_pauses (call_depth spec) spec t body ≡ false
  unheld body e =
      let calls = call_pauses spec t in
      let parts = both_empty (flat_map (λ (l : LocalTree).
      place_unless (not (list_any calls (value_calls l.value))) (type_place l.ty)) body.locals)
      (flat_map stmt_place (filter (holds_location spec t) (all_stmts body.stmts))) e in
      pauses_less (call_depth spec) spec t body
      (both_false (list_any (λ (l : LocalTree). value_pauses calls l.value) body.locals)
      (list_any (stmt_pauses calls) body.stmts) (locals-none calls body.locals parts.0)
      (stmts-none calls body.stmts (none-held (all_stmts body.stmts) parts.1)))

-- a procedure does not pause
pub quiet_procedure : (spec : SpecTree) → atomic_locations spec ≡ [] → (t : TemplateTree) → In t spec.templates →
    (k : TaskTree) → In k t.tasks → is_uncontrollable k.kind ≡ false → may_pause spec t k ≡ false
quiet_procedure spec atomic t at k among kind =
    let tasks = none_of (λ (t : TemplateTree). flat_map (task_locations spec t) t.tasks) spec.templates atomic at in
    let own = none_of (task_locations spec t) t.tasks tasks among in
    unheld spec t k.body (ap (λ b. cond b [] (held_locations spec t k.body)) (sym kind) ∙ own)
