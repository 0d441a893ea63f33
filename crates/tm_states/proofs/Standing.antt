-- What is left to be done at the locations of a design stands in its bodies.
use Rattle.std.proofs.Common.{◌≡◌, ℕ, zero, suc, Option, None, Some, List, [], ◌∷◌, ◌++◌, map, slice_get, refl, sym, ap, subst}
use Rattle.std.specs.List.{AllByRecursion, enumerate_from}
use Rattle.std.specs.Option.{option_map, option_map_or}
use Rattle.tm_base.specs.declared.place.Place.{Place}
use Rattle.tm_syntax.specs.declared.tree.Ident.{Ident}
use Rattle.tm_syntax.specs.Tree.{BlockRow, BodyTree, ExprTree, ProcessTree, StmtRow, StmtTree, TaskTree, TemplateTree, assert, assign, assume, branch, choose, forever, invoke, magic, nothing, nowhere, or_else, pause, repeat, row_of, then, wait}
use Rattle.tm_syntax.specs.Scopes.Context.{Context, process_body, task_body}
use Rattle.tm_syntax.specs.Scopes.Parts.{all_stmts, body_stmts, inner_stmts, process_body_at, row_stmts, block_stmts, stmts_in, task_body_at, template_bodies}
use Rattle.tm_syntax.specs.Scopes.Pauses.{call_depth}
use Rattle.tm_syntax.specs.Design.{DesignTree, InstanceNode}
use Rattle.tm_syntax.specs.Design.Cells.{Called, called}
use Rattle.tm_syntax.specs.Design.Locations.{Location, Thread, block_locations, body_locations, rest, row_locations, stmt_locations, thread}
use Rattle.tm_syntax.specs.Design.Scope.{Scope, Site, context, site}
use Rattle.tm_syntax.specs.Design.Work.{WorkItem, call_place, perform, performs}
use Rattle.tm_syntax.specs.Faults.{IsTyped}
use Rattle.tm_typing.proofs.Fitting.{all_of_both}
use Rattle.tm_typing.proofs.Listed.{In, all_join, in_behind, in_flat, in_front, in_get, in_map}
use Rattle.tm_states.specs.Promised.{BlocksArePromised, IsPromised, RowIsPromised, StmtIsPromised}
use Rattle.tm_design.proofs.Indices.{in_enumerated}
use Rattle.tm_states.proofs.Bodies.{IsProcess, IsTask, called_task, thread_is}
use Rattle.tm_design.proofs.Found.{and_then_is, map_is}
use Rattle.tm_states.proofs.Promised.{body_promised}
use Rattle.tm_states.specs.Standing.{ItemStands, ItemsStand, StandsIn}

-- what holds of all holds of the one of an index
all_at : {A : Type 0} (P : A → Type 0) (xs : List A) (k : ℕ) (x : A) → AllByRecursion P xs → slice_get xs k ≡ Some x →
    P x
all_at P [] k x all is = absurd (cc)
all_at P (y ∷ xs) zero x all is = let same : y ≡ x = cc in subst P same all.0
all_at P (y ∷ xs) (suc k) x all is = all_at P xs k x all.1 is

-- the template of a site is one of the text
pub site_template : (d : DesignTree) (i : ℕ) (at : Site) → site d i ≡ Some at → In at.template d.spec.templates
site_template d i at is =
    let node = and_then_is (λ (n : InstanceNode). option_map (λ t. record { number = i; node = n; template = t })
    (slice_get d.spec.templates n.template)) (slice_get d.instances i) at is in
    let t = map_is (λ (t : TemplateTree). record { number = i; node = node.0; template = t })
    (slice_get d.spec.templates node.0.template) at node.2 in
    subst (λ t. In t d.spec.templates) (ap (λ (s : Site). s.template) t.2)
    (in_get d.spec.templates node.0.template t.1)

-- the statements of a row with those within them
row_all : (ss : List StmtTree) → row_stmts (row_of ss) ≡ all_stmts ss
row_all [] = refl
row_all (s ∷ ss) = ap (λ rest. (s ∷ inner_stmts s) ++ rest) (row_all ss)

module _ (d : DesignTree) where
  -- the rests of locations stand
  abbrev RestsStand : List Location → Type 0
  RestsStand ls = AllByRecursion (λ (l : Location). ItemsStand d l.rest) ls

  -- the assumption of a `wait` is promised as it is
  waits : (c : Context) (at : Place) (e : ExprTree) → StmtIsPromised c (wait at e) → StmtIsPromised c (assume at e)
  waits c at e h = (record { exprs = h.0.exprs; resolves = tt; crosses = refl }, tt)

  module _ (scope : Scope) (c : Context) (here : context d scope ≡ Some c) (trail : List Place) where
    pub stands : (s : StmtTree) → StmtIsPromised c s → StandsIn d scope s
    stands s h = record { place = c; here = here; promised = h }

    pub row_stands : (row : StmtRow) → RowIsPromised c row → ItemsStand d (performs scope trail row)
    row_stands nothing h = tt
    row_stands (then s others) h =
        let parts = all_of_both (IsPromised c) (s ∷ inner_stmts s) (row_stmts others) h in
        (stands s parts.0, row_stands others parts.1)

    pub list_stands : (ss : List StmtTree) → AllByRecursion (IsPromised c) (all_stmts ss) →
        ItemsStand d (map (perform scope trail) ss)
    list_stands [] h = tt
    list_stands (s ∷ ss) h =
        let parts = all_of_both (IsPromised c) (s ∷ inner_stmts s) (all_stmts ss) h in
        (stands s parts.0, list_stands ss parts.1)

    module _ (within : List Ident → List WorkItem → List Location)
        (far : (names : List Ident) (left : List WorkItem) → ItemsStand d left → RestsStand (within names left)) where
      mutual
        stmt_rests : (s : StmtTree) → StmtIsPromised c s → (after : List WorkItem) → ItemsStand d after →
            RestsStand (stmt_locations within scope trail s after)
        stmt_rests (assign _ _ _) h after k = tt
        stmt_rests (invoke names _) h after k = far names after k
        stmt_rests (branch _ first second) h after k =
            let parts = all_of_both (IsPromised c) (row_stmts first) (row_stmts second) h.1 in
            all_join (λ (l : Location). ItemsStand d l.rest) (row_locations within scope trail first after)
            (row_locations within scope trail second after) (row_rests first parts.0 after k)
            (row_rests second parts.1 after k)
        stmt_rests (repeat at e body) h after k =
            row_rests body h.1 (perform scope trail (repeat at e body) ∷ after) (stands (repeat at e body) h, k)
        stmt_rests (forever at body) h after k =
            row_rests body h.1 (perform scope trail (forever at body) ∷ after) (stands (forever at body) h, k)
        stmt_rests (choose _ blocks) h after k = block_rests blocks h.1 after k
        stmt_rests (assert _ _) h after k = tt
        stmt_rests (assume _ _) h after k = tt
        stmt_rests (pause at) h after k = (k, tt)
        stmt_rests (wait at e) h after k = ((stands (assume at e) (waits c at e h), k), tt)
        stmt_rests (magic at) h after k = (k, tt)

        row_rests : (row : StmtRow) → RowIsPromised c row → (after : List WorkItem) → ItemsStand d after →
            RestsStand (row_locations within scope trail row after)
        row_rests nothing h after k = tt
        row_rests (then first others) h after k =
            let parts = all_of_both (IsPromised c) (first ∷ inner_stmts first) (row_stmts others) h in
            all_join (λ (l : Location). ItemsStand d l.rest)
            (stmt_locations within scope trail first (performs scope trail others ++ after))
            (row_locations within scope trail others after)
            (stmt_rests first parts.0 (performs scope trail others ++ after)
            (all_join (ItemStands d) (performs scope trail others) after (row_stands others parts.1) k))
            (row_rests others parts.1 after k)

        block_rests : (blocks : BlockRow) → BlocksArePromised c blocks → (after : List WorkItem) →
            ItemsStand d after → RestsStand (block_locations within scope trail blocks after)
        block_rests nowhere h after k = tt
        block_rests (or_else first others) h after k =
            let parts = all_of_both (IsPromised c) (row_stmts first) (block_stmts others) h in
            all_join (λ (l : Location). ItemsStand d l.rest) (row_locations within scope trail first after)
            (block_locations within scope trail others after) (row_rests first parts.0 after k)
            (block_rests others parts.1 after k)

  -- a body of a scope that the text promises
  pub record BodyStands (scope : Scope) (body : BodyTree) : Type 0 where
    pub place : Context
    pub here : context d scope ≡ Some place
    pub promised : AllByRecursion (IsPromised place) (stmts_in body)

  module _ (typed : IsTyped d.spec) where
    -- the task of a number of an instance
    pub task_stands : (n : ℕ) (u : Site) → site d n ≡ Some u → (k : ℕ) (task : TaskTree) →
        slice_get u.template.tasks k ≡ Some task →
        BodyStands (record { instance = n; body = task_body k }) task.body
    task_stands n u there k task is =
        let b = task_body_at d.spec u.template (k, task) in record {
          place = b.context;
          here = ap (option_map (λ (v : Site). record {
            spec = d.spec;
            template = v.template;
            body = task_body k;
          })) there;
          promised = body_promised d.spec typed b
              (in_flat (template_bodies d.spec) d.spec.templates (site_template d n u there)
              (in_behind (map (process_body_at d.spec u.template) (enumerate_from 0 u.template.processes))
              (map (task_body_at d.spec u.template) (enumerate_from 0 u.template.tasks))
              (in_map (task_body_at d.spec u.template) (enumerate_from 0 u.template.tasks)
              (in_enumerated u.template.tasks k is))));
        }

    process_stands : (n : ℕ) (u : Site) → site d n ≡ Some u → (k : ℕ) (process : ProcessTree) →
        slice_get u.template.processes k ≡ Some process →
        BodyStands (record { instance = n; body = process_body k }) process.body
    process_stands n u there k process is =
        let b = process_body_at d.spec u.template (k, process) in record {
          place = b.context;
          here = ap (option_map (λ (v : Site). record {
            spec = d.spec;
            template = v.template;
            body = process_body k;
          })) there;
          promised = body_promised d.spec typed b
              (in_flat (template_bodies d.spec) d.spec.templates (site_template d n u there)
              (in_front (map (process_body_at d.spec u.template) (enumerate_from 0 u.template.processes))
              (map (task_body_at d.spec u.template) (enumerate_from 0 u.template.tasks))
              (in_map (process_body_at d.spec u.template) (enumerate_from 0 u.template.processes)
              (in_enumerated u.template.processes k is))));
        }

    -- the body of a task that a call runs
    pub called_stands : (c : Called) → IsTask d c → BodyStands c.scope c.body
    called_stands c to =
        subst (λ (x : Called). BodyStands x.scope x.body) to.same
        (task_stands to.at.number to.at to.there to.number to.task to.is)

    body_rests : (depth : ℕ) (scope : Scope) (trail : List Place) (body : BodyTree) → BodyStands scope body →
        (after : List WorkItem) → ItemsStand d after → RestsStand (body_locations depth d scope trail body after)
    body_rests zero scope trail body h after k = tt
    body_rests (suc depth) scope trail body h after k =
        row_rests scope h.place h.here trail
        (λ names left. option_map_or (λ callee.
        body_locations depth d callee.scope (call_place names ++ trail) callee.body left)
        (called d scope names) [])
        (λ names left known. by names left
        (λ c stands. body_rests depth c.scope (call_place names ++ trail) c.body stands left known)
        (called d scope names) refl)
        (row_of (body_stmts body))
        (subst (AllByRecursion (IsPromised h.place)) (sym (row_all (body_stmts body))) h.promised) after k
      where
        by : (names : List Ident) (left : List WorkItem) →
            ((c : Called) → BodyStands c.scope c.body →
            RestsStand (body_locations depth d c.scope (call_place names ++ trail) c.body left)) →
            (o : Option Called) → called d scope names ≡ o →
            RestsStand (option_map_or (λ callee.
            body_locations depth d callee.scope (call_place names ++ trail) callee.body left) o [])
        by names left each None is = tt
        by names left each (Some c) is = each c (called_stands c (called_task d scope names c is))

    -- the body of a process
    thread_stands : (t : Thread) → IsProcess d t → BodyStands t.scope t.process.body
    thread_stands t to =
        subst (λ (x : Thread). BodyStands x.scope x.process.body) to.same
        (process_stands to.at.number to.at to.there to.number to.process to.is)

    -- what is left at a location of a process
    pub rest_stands : (p k : ℕ) → ItemsStand d (rest d p k)
    rest_stands p zero = by (thread d p) refl
      where
        by : (o : Option Thread) → thread d p ≡ o →
            ItemsStand d (option_map_or (λ t. map (perform t.scope []) (body_stmts t.process.body)) o [])
        by None is = tt
        by (Some t) is =
            let h = thread_stands t (thread_is d p t is) in
            list_stands t.scope h.place h.here [] (body_stmts t.process.body) h.promised
    rest_stands p (suc k) = by (thread d p) refl
      where
        at_place : (ls : List Location) → RestsStand ls → (o : Option Location) → slice_get ls k ≡ o →
            ItemsStand d (option_map_or (λ (l : Location). l.rest) o [])
        at_place ls all None is = tt
        at_place ls all (Some l) is = all_at (λ (l : Location). ItemsStand d l.rest) ls k l all is

        by : (o : Option Thread) → thread d p ≡ o →
            ItemsStand d (option_map_or (λ (l : Location). l.rest) (slice_get (option_map_or
            (λ t. body_locations (suc (call_depth d.spec)) d t.scope [] t.process.body []) o []) k) [])
        by None is = at_place [] tt (slice_get [] k) refl
        by (Some t) is =
            let h = thread_stands t (thread_is d p t is) in
            let ls = body_locations (suc (call_depth d.spec)) d t.scope [] t.process.body [] in
            at_place ls (body_rests (suc (call_depth d.spec)) t.scope [] t.process.body h [] tt) (slice_get ls k) refl
