-- What a machine does of what is left at a location, node by node.
use Rattle.std.proofs.Common.{◌≡◌, ℕ, ◌<◌, None, Some, Result, Ok, Err, List, [], ◌∷◌, ◌++◌, length, map, refl, sym, ap, ◌∙◌, subst}
use Rattle.std.specs.List.{AllByRecursion}
use Rattle.std.proofs.lemmas.List.{append-nil}
use Rattle.tm_base.specs.declared.place.Place.{Place}
use Rattle.tm_syntax.specs.declared.design.Design.{Design}
use Rattle.tm_syntax.specs.declared.design.Ty.TheVariants as types
use Rattle.tm_syntax.specs.Tree.{ExprTree, StmtTree, assume, row_of}
use Rattle.tm_syntax.specs.Tree.View.{spec_tree}
use Rattle.tm_syntax.specs.Scopes.Context.{Context}
use Rattle.tm_syntax.specs.Scopes.Parts.{inner_stmts, row_stmts}
use Rattle.tm_syntax.specs.Design.{DesignTree}
use Rattle.tm_syntax.specs.Design.Locations.{end_number, rest}
use Rattle.tm_syntax.specs.Design.Scope.{Scope, context, site}
use Rattle.tm_syntax.specs.Design.View.{design_tree}
use Rattle.tm_syntax.specs.Design.Work.{WorkItem, perform}
use Rattle.tm_syntax.specs.Faults.{IsSound, IsTyped}
use Rattle.tm_scope.specs.Cells.{ScopedCells, scope_of}
use Rattle.tm_scope.specs.Inner.Calls.{row_calls}
use Rattle.tm_scope.specs.declared.cells.site_body.SiteBody.{SiteBody}
use Rattle.tm_typing.proofs.Fitting.{all_of_both}
use Rattle.tm_locations.specs.Locations.{IsRest, IsTrail, LocationTable, numbered_node, work_stmts}
use Rattle.tm_locations.specs.declared.table.RestNode.{RestNode}
use Rattle.tm_design.specs.Typed.{HasTypeAt, context_at}
use Rattle.tm_design.proofs.Contexts.{context_here}
use Rattle.tm_sem.specs.Run.{Ending, Run, at_end, blocked, failed, finished, none_left, stopped}
use Rattle.tm_sem.specs.Value.{Memory}
use Rattle.tm_plain_bodies.specs.declared.course.Course.{Course}
use Rattle.tm_plain_bodies.specs.declared.frame.Frame.{Frame}
use Rattle.tm_plain_bodies.specs.declared.halt.Halt.{Halt}
use Rattle.tm_plain_bodies.specs.declared.halt.Halt.TheVariants as halt
use Rattle.tm_plain_bodies.specs.Calls.{NestsWithin}
use Rattle.tm_plain_bodies.specs.Frames.{IsFrame, RowFits}
use Rattle.tm_states.specs.Promised.{IsPromised, RowIsPromised}
use Rattle.tm_design.specs.Runnable.{HasTypedCells}
use Rattle.tm_plain_bodies.specs.Runs.{DoesRow, Stands, behind, items_of}
use Rattle.tm_plain_bodies.specs.Tables.{body_of, tables_of}
use Rattle.tm_design.proofs.Apart.{slots_apart}
use Rattle.tm_plain_bodies.proofs.Found.{own_cells}
use Rattle.tm_states.proofs.Promised.{assume_typed}
use Rattle.tm_plain_exprs.specs.Kept.{Kept, Keeps}
use Rattle.tm_plain.specs.declared.machine.rests.End.{End}
use Rattle.tm_plain.specs.declared.machine.rests.End.TheVariants as end
use Rattle.tm_plain.specs.Ends.{IsEndOf, RestEnds}
use Rattle.tm_states.specs.Standing.{ItemStands, ItemsStand, StandsIn, StmtsStand}
use Rattle.tm_plain.proofs.Chains.{NextWork, next_work, no_work, steps}
use Rattle.tm_states.proofs.Standing.{rest_stands}

-- what may be done in a body of an instance
module _ (d : Design) (at : SiteBody) where
  abbrev tree : DesignTree
  tree = design_tree d

  pub context_is : (c : Context) → context tree (scope_of at) ≡ Some c → context_at (body_of d at) ≡ Some c
  context_is c here = sym (context_here (body_of d at) tree (own_cells d)) ∙ here

  promised_row : (c : Context) → context tree (scope_of at) ≡ Some c → (ss : List StmtTree) →
      StmtsStand tree (scope_of at) ss → RowIsPromised c (row_of ss)
  promised_row c here [] stand = tt
  promised_row c here (s ∷ ss) stand =
      let same : stand.0.place ≡ c = (let both : Some stand.0.place ≡ Some c = sym stand.0.here ∙ here in cc) in
      joined (s ∷ inner_stmts s) (row_stmts (row_of ss))
      (subst (λ k. AllByRecursion (IsPromised k) (s ∷ inner_stmts s)) same stand.0.promised)
      (promised_row c here ss stand.1)
    where
      joined : (xs ys : List StmtTree) → AllByRecursion (IsPromised c) xs → AllByRecursion (IsPromised c) ys →
          AllByRecursion (IsPromised c) (xs ++ ys)
      joined [] ys one two = two
      joined (x ∷ xs) ys one two = (one.0, joined xs ys one.1 two)

  -- a body of which a statement stands is one of an instance
  pub stands_somewhere : (s : StmtTree) → StandsIn tree (scope_of at) s → site tree at.instance ≡ None → ⊥
  stands_somewhere s stand none =
      let nothing : context tree (scope_of at) ≡ None = rw none in
      let there = stand.here in cc

  pub some_body : (ss : List StmtTree) → (ss ≡ [] → ⊥) → StmtsStand tree (scope_of at) ss →
      site tree at.instance ≡ None → ⊥
  some_body [] some stand none = some refl
  some_body (s ∷ ss) some stand none = stands_somewhere s stand.0 none

  pub row_fits : (f : Frame) → IsFrame d at f → (ss : List StmtTree) → (ss ≡ [] → ⊥) →
      StmtsStand tree (scope_of at) ss → RowFits d f ss
  row_fits f frame [] some stand = absurd (some refl)
  row_fits f frame (s ∷ ss) some stand = record {
    tables = ap (λ (r : ScopedCells). r.tables) frame.reader;
    promised = record {
      context = stand.0.place;
      stands = ap context_at frame.reader ∙ context_is stand.0.place stand.0.here;
      promised = promised_row stand.0.place stand.0.here (s ∷ ss) stand;
    };
    nested = subst (λ (r : ScopedCells). NestsWithin f.depth tree (scope_of r.at) (row_calls (row_of (s ∷ ss))))
        (sym frame.reader) (frame.nested (row_calls (row_of (s ∷ ss))));
  }

  pub condition_typed : (place : Place) (e : ExprTree) → StandsIn tree (scope_of at) (assume place e) →
      HasTypeAt (body_of d at) types.Bool e
  condition_typed place e stand = record {
    context = stand.place;
    stands = context_is stand.place stand.here;
    typed = assume_typed stand.place place e stand.promised;
  }

  -- what is done by the frame's reader is done in the body
  pub done_there : {A : Type 0} (f : Frame) → IsFrame d at f → (ss : List StmtTree) (from to : Course)
      (r : Result A Halt) → DoesRow f.reader ss from to r → DoesRow (body_of d at) ss from to r
  done_there f frame ss from to r does = subst (λ s. DoesRow s ss from to r) frame.reader does

  -- statements that are those of a node's work fit the frame, and what its reader does with them is done in the body
  module _ (f : Frame) (frame : IsFrame d at f) (ss ts : List StmtTree) (same : ss ≡ ts) where
    pub work_fits : (e : Design) → e ≡ d → (ss ≡ [] → ⊥) → StmtsStand tree (scope_of at) ss → RowFits e f ts
    work_fits e own filled stand =
        subst (λ (d : Design). RowFits d f ts) (sym own)
        (row_fits f frame ts (λ none. filled (same ∙ none)) (subst (StmtsStand tree (scope_of at)) same stand))

    pub work_does : {A : Type 0} (from to : Course) (r : Result A Halt) → DoesRow f.reader ts from to r →
        DoesRow (body_of d at) ss from to r
    work_does from to r does =
        subst (λ (ss : List StmtTree). DoesRow (body_of d at) ss from to r) (sym same)
        (done_there f frame ts from to r does)

  pub work_typed : (f : Frame) → IsFrame d at f → (ss : List StmtTree) (place : Place) (e : ExprTree) →
      ss ≡ assume place e ∷ [] → StmtsStand tree (scope_of at) ss → HasTypeAt f.reader types.Bool e
  work_typed f frame ss place e same stand =
      let there : StmtsStand tree (scope_of at) (assume place e ∷ []) =
      subst (StmtsStand tree (scope_of at)) same stand in
      subst (λ s. HasTypeAt s types.Bool e) (sym frame.reader) (condition_typed place e there.0)

  -- of no statements nothing is done
  pub nothing_done : {A : Type 0} (done : A) (ss : List StmtTree) → ss ≡ [] → (c : Course) →
      DoesRow (body_of d at) ss c c (Ok done)
  nothing_done done ss none c =
      subst (λ (is : List StmtTree). DoesRow (body_of d at) is c c (Ok done)) (sym none) (λ calls. record {
        trail = refl;
        goes = λ o. (o.memory, o.keeps, λ rest e run. run);
      })

-- the work of a process so far
pub record Working (d : Design) (p k : ℕ) (t : LocationTable) (from : Kept) (choices : List ℕ) (left : ℕ)
    (now : Course) : Type 0 where
  pub items : List WorkItem
  pub leads : IsRest t.trails t.rests left items
  pub stand : ItemsStand (design_tree d) items
  pub trail : now.trail ≡ []
  pub goes : (m : Memory) → Keeps (tables_of d) from m →
      (n : Memory) × Keeps (tables_of d) now.store n
      × ((e : Ending) → Run (design_tree d) items n now.choices e →
      Run (design_tree d) (rest (design_tree d) p k) m choices e)

module _ (d : Design) (p k : ℕ) (t : LocationTable) where
  abbrev design : DesignTree
  design = design_tree d

  abbrev Goes : Kept → List ℕ → ℕ → Course → Type 0
  Goes from choices left now = Working d p k t from choices left now

  -- at first all is left
  pub work_begins : IsTyped (spec_tree d.spec) → (left : ℕ) (now : Course) →
      IsRest t.trails t.rests left (rest design p k) → now.trail ≡ [] → Goes now.store now.choices left now
  work_begins typed left now leads none = record {
    items = rest design p k;
    leads = leads;
    stand = rest_stands design typed p k;
    trail = none;
    goes = λ m keeps. (m, keeps, λ e run. run);
  }

  module _ (from : Kept) (choices : List ℕ) (left : ℕ) (now : Course) (w : Goes from choices left now) where
    -- where no node is left the work has come to its end
    module _ (none : numbered_node t.rests left ≡ None) where
      run_on : (n : Memory) (e : Ending) → e ≡ at_end now.choices (finished n) → Run design w.items n now.choices e
      run_on n e is =
          subst (λ items. Run design items n now.choices e) (sym (no_work t.trails t.rests left w.items w.leads none))
          (none_left is)

      pub work_ends : now.choices ≡ [] → (count : ℕ) → count ≡ end_number design p →
          RestEnds d p k from choices now.store (end.At count)
      work_ends used count is = λ m keeps.
          let later = w.goes m keeps in (
            later.0,
            later.1,
            finished later.0,
            later.2 (finished later.0)
                (run_on later.0 (finished later.0) (sym (ap (λ cs. at_end cs (finished later.0)) used))),
            (refl, sym is),
          )

      pub work_leaves_choices : ((e : Ending) → at_end now.choices e ≡ blocked) →
          RestEnds d p k from choices now.store end.Blocked
      work_leaves_choices unused = λ m keeps.
          let later = w.goes m keeps in later.2 blocked (run_on later.0 blocked (sym (unused (finished later.0))))

    -- else the next node tells what is to be done
    module _ (node : RestNode) (is : numbered_node t.rests left ≡ Some node) where
      pub next : NextWork t.trails t.rests left node w.items
      next = next_work t.trails t.rests left node w.items w.leads is

      pub next_trail : (trail : List Place) × IsTrail t.trails node.trail trail
      next_trail = (next.trail, next.is_trail)

      pub fewer_steps : steps t.rests (length t.rests) node.then < steps t.rests (length t.rests) left
      fewer_steps = next.fewer

      abbrev stmts : List StmtTree
      stmts = work_stmts node.work

      stand_in : (scope : Scope) (trail : List Place) (ss : List StmtTree) →
          ItemsStand design (map (perform scope trail) ss) → StmtsStand design scope ss
      stand_in scope trail [] h = tt
      stand_in scope trail (s ∷ ss) h = (h.0, stand_in scope trail ss h.1)

      parts_stand : ItemsStand design (map (perform (scope_of node.scope) next.trail) stmts)
          × ItemsStand design next.others
      parts_stand =
          all_of_both (ItemStands design) (map (perform (scope_of node.scope) next.trail) stmts) next.others
          (subst (ItemsStand design) next.are w.stand)

      pub work_stands : StmtsStand design (scope_of node.scope) stmts
      work_stands = stand_in (scope_of node.scope) next.trail stmts parts_stand.0

      module _ (sound : IsSound design) (typed : HasTypedCells design) (later : Course) where
        abbrev scoped : ScopedCells
        scoped = body_of d node.scope

        abbrev given : (n : Memory) → Keeps (tables_of d) now.store n →
            Stands (tables_of d) (behind next.trail now).store
        given n keeps = record {
          design = design;
          memory = n;
          cells = own_cells d;
          keeps = keeps;
          apart = slots_apart (tables_of d) sound.once;
          typed = typed;
        }

        -- the items of the node stand in front
        items_are : items_of scoped (now.trail ++ next.trail) stmts ++ next.others ≡ w.items
        items_are =
            ap (λ trail. items_of scoped (trail ++ next.trail) stmts ++ next.others) w.trail ∙ sym next.are

        onward : (n : Memory) (e : Ending) →
            Run design (items_of scoped (now.trail ++ next.trail) stmts ++ next.others) n now.choices e →
            Run design w.items n now.choices e
        onward n e run = subst (λ items. Run design items n now.choices e) items_are run

        pub work_goes_on : {A : Type 0} (done : A) → DoesRow scoped stmts now later (Ok done) →
            Goes from choices node.then later
        work_goes_on done does = record {
          items = next.others;
          leads = next.leads;
          stand = parts_stand.1;
          trail = sym (append-nil later.trail) ∙ (does []).trail ∙ append-nil now.trail ∙ w.trail;
          goes = λ m keeps.
              let n = w.goes m keeps in
              let o = (does next.trail).goes (given n.0 n.1) in (
                o.0,
                o.1,
                λ e run. n.2 e (onward n.0 e (o.2 next.others e run)),
              );
        }

        pub work_halts : (h : Halt) → DoesRow {A = Unit {0}} scoped stmts now later (Err h) → (e : End) →
            IsEndOf design p (later.trail ++ next.trail) h e → RestEnds d p k from choices later.store e
        work_halts (halt.Stopped at) does (end.At count) at_count = λ m keeps.
            let n = w.goes m keeps in
            let o = does next.trail (given n.0 n.1) in
            let stop = stopped at (later.trail ++ next.trail) o.0 in (
              o.0,
              o.1,
              stop,
              n.2 stop (onward n.0 stop (o.2 next.others)),
              (refl, sym at_count),
            )
        work_halts halt.Failed does end.Failed at_count = λ m keeps.
            let n = w.goes m keeps in n.2 failed (onward n.0 failed (does next.trail (given n.0 n.1) next.others))
        work_halts halt.Blocked does end.Blocked at_count = λ m keeps.
            let n = w.goes m keeps in n.2 blocked (onward n.0 blocked (does next.trail (given n.0 n.1) next.others))
        work_halts _ does _ at_count = absurd at_count

-- what a list is mapped to has as many items
pub nothing_mapped : {A B : Type 0} (f : A → B) (xs : List A) → xs ≡ [] → map f xs ≡ []
nothing_mapped f xs none = ap (map f) none

pub something_mapped : {A B : Type 0} (f : A → B) (xs : List A) → (xs ≡ [] → ⊥) → map f xs ≡ [] → ⊥
something_mapped f [] some none = some refl
something_mapped f (x ∷ xs) some none = cc
