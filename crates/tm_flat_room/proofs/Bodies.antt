-- The bodies of a sound design of a text are as the paths of its text say, however deep calls nest.
use Rattle.std.proofs.Common.{◌≡◌, ℕ, zero, suc, ◌+◌, ◌≤◌, Option, Some, List, [], ◌∷◌, ◌++◌, map, length, position, slice_get, length-append, refl, sym, ap, ◌∙◌, subst, arith}
use Rattle.std.specs.Prelude.{MatchOption, sum_by}
use Rattle.std.proofs.lemmas.List.Sums.{sum_by-cons}
use Rattle.std.specs.List.{AllByRecursion, enumerate_from, flat_map}
use Rattle.std.specs.Option.{option_map, option_map_or, option_and_then}
use Rattle.tm_base.specs.declared.place.Place.{Place}
use Rattle.tm_syntax.specs.declared.member.Member.{Member}
use Rattle.tm_syntax.specs.declared.tree.Ident.{Ident}
use Rattle.tm_syntax.specs.Tree.{star, result, plain, StmtTree, assign, invoke, branch, repeat, forever, choose, assert, assume, pause, wait, magic, row_of, BodyTree, TaskTree, TemplateTree, SpecTree}
use Rattle.tm_syntax.specs.Scopes.Names.{is_spelled, last_name}
use Rattle.tm_syntax.specs.Scopes.Calls.{body_calls, callee, task_number, Calls}
use Rattle.tm_syntax.specs.Scopes.Context.{task_body, Context}
use Rattle.tm_syntax.specs.Scopes.Crossing.{call_crosses, row_crosses}
use Rattle.tm_syntax.specs.Scopes.Parts.{BodyAt, bodies, stmts_in, body_stmts, own_calls, row_stmts}
use Rattle.tm_syntax.specs.Scopes.Pauses.{call_depth, task_reached}
use Rattle.tm_syntax.specs.Counts.Choices.{Paths, body_paths, choosing}
use Rattle.tm_syntax.specs.Faults.{IsSound, IsOfText}
use Rattle.tm_syntax.specs.Faults.Crossings.{loop_faults}
use Rattle.tm_syntax.specs.Design.{DesignTree}
use Rattle.tm_syntax.specs.Design.Scope.{Scope, Site, context, site}
use Rattle.tm_syntax.specs.Design.Cells.{Called, called}
use Rattle.tm_syntax.specs.Design.Locations.{Location, body_locations}
use Rattle.tm_syntax.specs.Design.Work.{WorkItem, call_place}
use Rattle.tm_scope.specs.Members.{task_at}
use Rattle.tm_scope.proofs.CallOrders.{numbered, reached as reached_by_number}
use Rattle.tm_typing.specs.Statements.{StmtResolves}
use Rattle.tm_typing.proofs.Fitting.{fits_there}
use Rattle.tm_typing.proofs.Listed.{In, first_of, holds_in, none_of, all_hold, in_flat}
use Rattle.tm_typing.proofs.Statements.{bodies_resolve}
use Rattle.tm_locations.proofs.CalledBodies.{made, site-template}
use Rattle.tm_flat_room.proofs.Depth.{Under, each_under, is_member, all_members, members_of}
use Rattle.tm_flat_room.proofs.Plain.{row_is}
use Rattle.tm_flat_room.proofs.TextBodies.{contained, leads_some, with_task, Found, found, IsBody, typed, leads, task_is, has_callee}
use Rattle.tm_design.proofs.TypedCells.{typed_cells}
use Rattle.tm_flat.specs.Inputs.{room, AreSmall}
use Rattle.tm_flat.specs.Positions.{body_after, call_after}
use Rattle.tm_flat.specs.Fitting.{BodyFits, ItemsFit}
use Rattle.tm_flat.proofs.Crossings.{crossing_rows_stop}
use Rattle.tm_flat.proofs.Widths.{choice_has_bits}
use Rattle.tm_flat_room.proofs.Alternatives.{HasAlternatives, HaveAlternatives}
use Rattle.tm_flat_room.proofs.Fits.{IsFine, IsFineCall, row_comes, row_fits, row_leads}
use Rattle.tm_flat_room.proofs.Rests.{HasLocated, IsLocated, row_rests}
use Rattle.tm_flat_room.proofs.Sums.{Comes, LeadsOn, Stays, Within}
use Rattle.tm_flat_room.proofs.Targets.{target_bits_are, target_fits, target_typed}
use Rattle.tm_flat_room.proofs.Wired.{are_wired}

-- so many tasks are there as calls may nest deep
enumerated : {A B : Type 0} (f : ℕ × A → B) (n : ℕ) (xs : List A) → length (map f (enumerate_from n xs)) ≡ length xs
enumerated f n [] = refl
enumerated f n (x ∷ xs) = ap suc (enumerated f (n + 1) xs)

members_from : (spec : SpecTree) (n : ℕ) (ts : List TemplateTree) →
    length (flat_map (members_of spec) (enumerate_from n ts)) ≡ sum_by (λ (t : TemplateTree). length t.tasks) ts
members_from spec n [] = refl
members_from spec n (t ∷ ts) =
    let both = length-append (members_of spec (n, t)) (flat_map (members_of spec) (enumerate_from (n + 1) ts)) in
    let own = enumerated {B = Member} (λ (k : ℕ × TaskTree). record { template = n; index = k.0 }) 0 t.tasks in
    let rest = members_from spec (n + 1) ts in
    let sums = sum_by-cons (λ (t : TemplateTree). length t.tasks) t ts in
    omega (arith, both, own, rest, sums)

members_counted : (spec : SpecTree) → length (all_members spec) ≡ call_depth spec
members_counted spec = members_from spec 0 spec.templates

module _ (d : DesignTree) (sound : IsSound d) (of : IsOfText d.spec) (small : AreSmall d)
    (have : HaveAlternatives d.spec) where
  -- where the text of a body of an instance stands
  abbrev pub context_of : Scope → Site → Context
  context_of scope s = record { spec = d.spec; template = s.template; body = scope.body }

  abbrev pub text_of : Scope → Site → BodyTree → BodyAt
  text_of scope s body = record { context = context_of scope s; body = body }

  -- the scope of a task of an instance
  abbrev pub scope_of_task : Site → ℕ → Scope
  scope_of_task s k = record { instance = s.number; body = task_body k }

  -- the paths of what a path calls, where calls nest so deep
  abbrev pub call_paths : ℕ → Context → List Ident → Paths
  call_paths n c path = option_map_or (body_paths n) (callee c path) (choosing 0)

  -- the locations of a call, where calls nest so deep
  abbrev pub call_locations : Scope → ℕ → List Place → List Ident → List WorkItem → List Location
  call_locations scope n trail names left =
      option_map_or (λ (k : Called). body_locations n d k.scope (call_place names ++ trail) k.body left)
      (called d scope names) []

  -- a task of an instance is as the paths of its text say, which nest so deep, where calls nest so deep
  record IsFineTask (n depth : ℕ) (s : Site) (k : ℕ) (task : TaskTree) : Type 0 where
    comes : (i : ℕ) →
        Comes i (body_paths n (text_of (scope_of_task s k) s task.body)).across (body_after depth d (made d s k task) i)
    leads : LeadsOn (body_paths n (text_of (scope_of_task s k) s task.body))
    fits : (i : ℕ) → Stays i (body_paths n (text_of (scope_of_task s k) s task.body)) →
        BodyFits room depth d (made d s k task) i

  -- what is left after each location of a task fits, where its paths stay within the room
  record HasRests (n : ℕ) (s : Site) (k : ℕ) (task : TaskTree) : Type 0 where
    rests : (trail : List Place) (left : List WorkItem) →
        Within 0 (body_paths n (text_of (scope_of_task s k) s task.body)).between →
        ((m : ℕ) → In m (body_paths n (text_of (scope_of_task s k) s task.body)).outward → ItemsFit room d left m) →
        AllByRecursion (λ (l : Location). ItemsFit room d l.rest 0)
        (body_locations n d (scope_of_task s k) trail task.body left)

  module _ (scope : Scope) (s : Site) (body : BodyTree) (at : IsBody d sound of scope s body) where
    abbrev c : Context
    c = context_of scope s

    here : context d scope ≡ Some c
    here =
        ap (option_map (λ (at : Site). record { spec = d.spec; template = at.template; body = scope.body })) at.there

    module _ (path : List Ident) (t : TemplateTree) (task : TaskTree) (f : Found d scope s path t task) where
      -- the text of what a path calls
      text_found : callee c path ≡ Some (text_of (scope_of_task f.at f.number) f.at task.body)
      text_found =
          ap (option_and_then (λ (u : TemplateTree). option_and_then (λ k. option_map (λ (task : TaskTree).
          record { context = record { spec = d.spec; template = u; body = task_body k }; body = task.body })
          (slice_get u.tasks k)) (position (λ (task : TaskTree). is_spelled (last_name path) task.name) u.tasks)))
          (sym (leads d sound of scope.instance s path at.there) ∙ ap (option_map (λ (v : Site). v.template)) f.along)
          ∙ ap (option_and_then (λ k. option_map (λ (task : TaskTree).
          record { context = record { spec = d.spec; template = f.at.template; body = task_body k }; body = task.body })
          (slice_get f.at.template.tasks k))) f.first
          ∙ ap (option_map (λ (task : TaskTree).
          record {
            context = record { spec = d.spec; template = f.at.template; body = task_body f.number };
            body = task.body;
          })) f.is

      fine_call : (n depth : ℕ) → IsFineTask n depth f.at f.number task →
          IsFineCall d scope c (body_after depth d) (BodyFits room depth d) (call_paths n c) path
      fine_call n depth fine = record {
        comes = λ i.
            subst (λ (o : Option BodyAt).
            Comes i (option_map_or (body_paths n) o (choosing 0)).across
            (call_after (body_after depth d) d scope path i))
            (sym text_found)
            (subst (λ (o : Option Called).
            Comes i (body_paths n (text_of (scope_of_task f.at f.number) f.at task.body)).across
            (option_and_then (λ callee. body_after depth d callee i) o)) (sym f.calls) (fine.comes i));
        leads =
            subst (λ (o : Option BodyAt). LeadsOn (option_map_or (body_paths n) o (choosing 0))) (sym text_found)
            fine.leads;
        fits = λ i stays.
            subst (λ (o : Option Called). MatchOption o (Unit {0}) (λ callee. BodyFits room depth d callee i))
            (sym f.calls)
            (fine.fits i (subst (λ (o : Option BodyAt). Stays i (option_map_or (body_paths n) o (choosing 0)))
            text_found stays));
      }

      has_located : (n : ℕ) (trail : List Place) → HasRests n f.at f.number task →
          IsLocated d scope c (call_paths n c) (call_locations scope n trail) trail path
      has_located n trail has = record {
        rests = λ left between behind.
            subst (λ (o : Option Called). AllByRecursion (λ (l : Location). ItemsFit room d l.rest 0)
            (option_map_or (λ (k : Called). body_locations n d k.scope (call_place path ++ trail) k.body left) o []))
            (sym f.calls)
            (has.rests (call_place path ++ trail) left
            (subst (λ (o : Option BodyAt). Within 0 (option_map_or (body_paths n) o (choosing 0)).between) text_found
            between)
            (subst (λ (o : Option BodyAt).
            (m : ℕ) → In m (option_map_or (body_paths n) o (choosing 0)).outward → ItemsFit room d left m) text_found
            behind));
      }

    -- what a statement of a text has, for its place
    resolves : (x : StmtTree) → In x (stmts_in body) → StmtResolves c x
    resolves x i =
        holds_in (StmtResolves c) (stmts_in body)
        (holds_in (λ (b : BodyAt). AllByRecursion (StmtResolves b.context) (stmts_in b.body)) (bodies d.spec)
        (bodies_resolve d.spec (typed d sound of)) at.is) i

    loops : (x : StmtTree) → In x (stmts_in body) → loop_faults d.spec s.template x ≡ []
    loops x i =
        none_of (loop_faults d.spec s.template) (stmts_in body)
        (none_of (λ (b : BodyAt). flat_map (loop_faults b.context.spec b.context.template) (stmts_in b.body))
        (bodies d.spec) sound.crossing at.is) i

    chooses : (x : StmtTree) → In x (stmts_in body) → HasAlternatives x
    chooses x i =
        holds_in HasAlternatives (stmts_in body)
        (holds_in (λ (b : BodyAt). AllByRecursion HasAlternatives (stmts_in b.body)) (bodies d.spec) have at.is) i

    module _ (n depth : ℕ) where
      abbrev IsFineHere : StmtTree → Type 0
      IsFineHere = IsFine d scope c (body_after depth d) (BodyFits room depth d) (call_paths n c)

      fine_stmt : (x : StmtTree) → StmtResolves c x → loop_faults d.spec s.template x ≡ [] → HasAlternatives x →
          ((path : List Ident) → In path (own_calls x) →
          IsFineCall d scope c (body_after depth d) (BodyFits room depth d) (call_paths n c) path) → IsFineHere x
      fine_stmt (assign names index (star _)) resolves loops some calls =
          let target = target_typed c names index resolves.0 in (
            target_bits_are d small (typed_cells d sound of) scope c here refl names target,
            target_fits d small (typed_cells d sound of) scope c here refl names target,
          )
      fine_stmt (assign _ _ (result path _)) resolves loops some calls = calls path first_of
      fine_stmt (assign _ _ (plain _)) resolves loops some calls = tt
      fine_stmt (invoke path _) resolves loops some calls = calls path first_of
      fine_stmt (branch _ _ _) resolves loops some calls = tt
      fine_stmt (repeat place _ row) resolves loops some calls = λ k.
          crossing_rows_stop d
          (are_wired d.spec (record { known = sound.known; once = sound.once; matching = sound.matching }))
          sound.numbered.instances depth scope c row k here
          (fits_there (row_crosses (call_crosses d.spec s.template) row) place loops)
      fine_stmt (forever place row) resolves loops some calls = λ k.
          crossing_rows_stop d
          (are_wired d.spec (record { known = sound.known; once = sound.once; matching = sound.matching }))
          sound.numbered.instances depth scope c row k here
          (fits_there (row_crosses (call_crosses d.spec s.template) row) place loops)
      fine_stmt (choose _ blocks) resolves loops some calls = (some.0, choice_has_bits blocks some.1)
      fine_stmt (assert _ _) resolves loops some calls = tt
      fine_stmt (assume _ _) resolves loops some calls = tt
      fine_stmt (pause _) resolves loops some calls = tt
      fine_stmt (wait _ _) resolves loops some calls = tt
      fine_stmt (magic _) resolves loops some calls = tt

      -- the statements of a body are fine, where what they call is
      pub fine_stmts : ((path : List Ident) → In path (body_calls body) →
          IsFineCall d scope c (body_after depth d) (BodyFits room depth d) (call_paths n c) path) →
          AllByRecursion IsFineHere (row_stmts (row_of (body_stmts body)))
      fine_stmts calls =
          subst (λ (xs : List StmtTree). AllByRecursion IsFineHere xs) (sym (row_is (body_stmts body)))
          (all_hold IsFineHere (stmts_in body)
          (λ x i. fine_stmt x (resolves x i) (loops x i) (chooses x i)
          (λ path j. calls path (in_flat own_calls (stmts_in body) i j))))

    located_stmt : (within : List Ident → Paths) (locate : List Ident → List WorkItem → List Location)
        (trail : List Place) (x : StmtTree) →
        ((path : List Ident) → In path (own_calls x) → IsLocated d scope c within locate trail path) →
        HasLocated d scope c within locate trail x
    located_stmt within locate trail (assign _ _ _) calls = tt
    located_stmt within locate trail (invoke path _) calls = calls path first_of
    located_stmt within locate trail (branch _ _ _) calls = tt
    located_stmt within locate trail (repeat _ _ _) calls = tt
    located_stmt within locate trail (forever _ _) calls = tt
    located_stmt within locate trail (choose _ _) calls = tt
    located_stmt within locate trail (assert _ _) calls = tt
    located_stmt within locate trail (assume _ _) calls = tt
    located_stmt within locate trail (pause _) calls = tt
    located_stmt within locate trail (wait _ _) calls = tt
    located_stmt within locate trail (magic _) calls = tt

    pub located_stmts : (within : List Ident → Paths) (locate : List Ident → List WorkItem → List Location)
        (trail : List Place) →
        ((path : List Ident) → In path (body_calls body) → IsLocated d scope c within locate trail path) →
        AllByRecursion (HasLocated d scope c within locate trail) (row_stmts (row_of (body_stmts body)))
    located_stmts within locate trail calls =
        subst (λ (xs : List StmtTree). AllByRecursion (HasLocated d scope c within locate trail) xs)
        (sym (row_is (body_stmts body)))
        (all_hold (HasLocated d scope c within locate trail) (stmts_in body)
        (λ x i. located_stmt within locate trail x (λ path j. calls path (in_flat own_calls (stmts_in body) i j))))

    -- the task that a path of the body calls
    pub record HasTask (path : List Ident) : Type 0 where
      pub template : TemplateTree
      pub task : TaskTree
      pub reached : task_reached d.spec s.template path ≡ Some (with_task template task)
      pub found : Found d scope s path template task

    pub has_task : (path : List Ident) → In path (body_calls body) → HasTask path
    has_task path i =
        let k = has_callee d sound of scope s body at path i in
        record {
          template = k.0;
          task = k.1;
          reached = k.2;
          found = found d (leads d sound of) scope s at.there path k.0 k.1 k.2;
        }

  -- what a task calls is a task that it calls by the text
  record CallsTo (b : Member) (t : TemplateTree) (task : TaskTree) : Type 0 where
    to : Member
    calls : Calls d.spec b to
    is : task_at d.spec to ≡ Some (with_task t task)

  calls_to : (b : Member) (s : Site) (k : ℕ) (task : TaskTree) (at : IsBody d sound of (scope_of_task s k) s task.body)
      (path : List Ident) → In path (body_calls task.body) → task_at d.spec b ≡ Some (with_task s.template task) →
      (h : HasTask (scope_of_task s k) s task.body at path) → CallsTo b h.found.at.template h.task
  calls_to b s k task at path i is h =
      let to = leads_some (task_at d.spec) (with_task h.template h.task) (task_number d.spec b.template path)
      (sym (reached_by_number d.spec b (with_task s.template task) path is) ∙ h.reached) in
      record {
        to = to.0;
        calls = record {
          task = task;
          path = path;
          is = numbered d.spec b (with_task s.template task) is;
          calls = contained (body_calls task.body) i;
          leads = to.1;
        };
        is = to.2 ∙ ap (λ t. Some (with_task t h.task)) (sym h.found.template);
      }

  -- the tasks below which calls nest so deep are fine
  fine_task : (n depth : ℕ) → n ≤ depth → (b : Member) → Under d.spec n b → (s : Site) (k : ℕ) (task : TaskTree) →
      site d s.number ≡ Some s → slice_get s.template.tasks k ≡ Some task →
      task_at d.spec b ≡ Some (with_task s.template task) → IsFineTask n depth s k task
  fine_task zero depth deep b below s k task there at is = absurd below
  fine_task (suc n) zero deep b below s k task there at is = absurd (omega (arith, deep))
  fine_task (suc n) (suc depth) deep b below s k task there at is =
      let scope = scope_of_task s k in
      let body = task_is d sound of s k task there at in
      let fine = fine_stmts scope s task.body body n depth (λ path i.
      let h = has_task scope s task.body body path i in
      let to = calls_to b s k task body path i is h in
      fine_call scope s task.body body path h.template h.task h.found n depth
      (fine_task n depth (omega (arith, deep)) to.to (below to.to to.calls) h.found.at h.found.number h.task
      h.found.there h.found.is to.is)) in
      record {
        comes =
            row_comes d scope (context_of scope s) (body_after depth d) (BodyFits room depth d)
            (call_paths n (context_of scope s)) (row_of (body_stmts task.body)) fine;
        leads =
            row_leads d scope (context_of scope s) (body_after depth d) (BodyFits room depth d)
            (call_paths n (context_of scope s)) (row_of (body_stmts task.body)) fine;
        fits =
            row_fits d scope (context_of scope s) (body_after depth d) (BodyFits room depth d)
            (call_paths n (context_of scope s)) (row_of (body_stmts task.body)) fine;
      }

  -- what is left after each location of such a task fits
  task_rests : (n : ℕ) → n ≤ call_depth d.spec → (b : Member) → Under d.spec n b → (s : Site) (k : ℕ)
      (task : TaskTree) → site d s.number ≡ Some s → slice_get s.template.tasks k ≡ Some task →
      task_at d.spec b ≡ Some (with_task s.template task) → HasRests n s k task
  task_rests zero deep b below s k task there at is = absurd below
  task_rests (suc n) deep b below s k task there at is =
      let scope = scope_of_task s k in
      let body = task_is d sound of s k task there at in
      let fine = fine_stmts scope s task.body body n (call_depth d.spec) (λ path i.
      let h = has_task scope s task.body body path i in
      let to = calls_to b s k task body path i is h in
      fine_call scope s task.body body path h.template h.task h.found n (call_depth d.spec)
      (fine_task n (call_depth d.spec) (omega (arith, deep)) to.to (below to.to to.calls) h.found.at h.found.number
      h.task h.found.there h.found.is to.is)) in
      record {
        rests = λ trail.
            row_rests d scope (context_of scope s) (call_paths n (context_of scope s)) (call_locations scope n trail)
            trail (row_of (body_stmts task.body)) fine
            (located_stmts scope s task.body body (call_paths n (context_of scope s)) (call_locations scope n trail)
            trail (λ path i.
            let h = has_task scope s task.body body path i in
            let to = calls_to b s k task body path i is h in
            has_located scope s task.body body path h.template h.task h.found n trail
            (task_rests n (omega (arith, deep)) to.to (below to.to to.calls) h.found.at h.found.number h.task
            h.found.there h.found.is to.is)));
      }

  -- each task of an instance is one of those of the text, below which calls nest so deep
  record IsCounted (s : Site) (task : TaskTree) : Type 0 where
    member : Member
    below : Under d.spec (call_depth d.spec) member
    is : task_at d.spec member ≡ Some (with_task s.template task)

  counted : (s : Site) (k : ℕ) (task : TaskTree) → site d s.number ≡ Some s →
      slice_get s.template.tasks k ≡ Some task → IsCounted s task
  counted s k task there at =
      let b : Member = record { template = s.node.template; index = k } in
      let here = site-template d s.number s there in
      record {
        member = b;
        below =
            subst (λ n. Under d.spec n b) (members_counted d.spec)
            (each_under d.spec sound.no_call_cycle b (is_member d.spec b s.template task here at));
        is =
            ap (option_and_then (λ (t : TemplateTree). option_map (λ k. (t, k)) (slice_get t.tasks k))) here
            ∙ ap (option_map (λ k. (s.template, k))) at;
      }

  -- the statements of each body are fine, as deep as calls nest, and so are its locations
  module _ (scope : Scope) (s : Site) (body : BodyTree) (at : IsBody d sound of scope s body) where
    pub body_fine : AllByRecursion (IsFine d scope (context_of scope s) (body_after (call_depth d.spec) d)
        (BodyFits room (call_depth d.spec) d) (call_paths (call_depth d.spec) (context_of scope s)))
        (row_stmts (row_of (body_stmts body)))
    body_fine =
        fine_stmts scope s body at (call_depth d.spec) (call_depth d.spec) (λ path i.
        let h = has_task scope s body at path i in
        let is = counted h.found.at h.found.number h.task h.found.there h.found.is in
        fine_call scope s body at path h.template h.task h.found (call_depth d.spec) (call_depth d.spec)
        (fine_task (call_depth d.spec) (call_depth d.spec) (omega arith) is.member is.below h.found.at h.found.number
        h.task h.found.there h.found.is is.is))

    pub body_located : (trail : List Place) → AllByRecursion (HasLocated d scope (context_of scope s)
        (call_paths (call_depth d.spec) (context_of scope s)) (call_locations scope (call_depth d.spec) trail) trail)
        (row_stmts (row_of (body_stmts body)))
    body_located trail =
        located_stmts scope s body at (call_paths (call_depth d.spec) (context_of scope s))
        (call_locations scope (call_depth d.spec) trail) trail (λ path i.
        let h = has_task scope s body at path i in
        let is = counted h.found.at h.found.number h.task h.found.there h.found.is in
        has_located scope s body at path h.template h.task h.found (call_depth d.spec) trail
        (task_rests (call_depth d.spec) (omega arith) is.member is.below h.found.at h.found.number h.task h.found.there
        h.found.is is.is))
