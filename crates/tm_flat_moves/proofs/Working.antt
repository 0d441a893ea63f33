-- What is left to be done at a location is led through node by node.
use Rattle.std.proofs.Common.{◌≡◌, ℕ, ◌+◌, ◌<◌, Bool, false, Option, None, Some, List, [], ◌∷◌, ◌++◌, length, map, refl, sym, ap, ◌∙◌, subst}
use Rattle.std.specs.Prelude.{MatchOption}
use Rattle.std.specs.List.{AllByRecursion}
use Rattle.std.specs.Option.{option_and_then, option_map_or}
use Rattle.tm_base.specs.declared.place.Place.{Place}
use Rattle.tm_syntax.specs.Tree.{StmtTree, row_of}
use Rattle.tm_syntax.specs.Scopes.Pauses.{call_depth}
use Rattle.tm_syntax.specs.Tree.{SpecTree}
use Rattle.tm_syntax.specs.Design.{DesignTree}
use Rattle.tm_syntax.specs.Design.Locations.{location_number}
use Rattle.tm_syntax.specs.Design.Scope.{Scope, context, site}
use Rattle.tm_syntax.specs.Design.Work.{WorkItem, perform}
use Rattle.tm_scope.specs.Cells.{HasCells, ScopedCells, scope_of}
use Rattle.tm_scope.specs.declared.cells.site_body.SiteBody.{SiteBody}
use Rattle.tm_locations.specs.Locations.{AreLocations, IsRest, IsTrail, numbered_node, work_stmts}
use Rattle.tm_locations.specs.declared.table.RestNode.{RestNode}
use Rattle.tm_design.proofs.Contexts.{context_here}
use Rattle.tm_sem.specs.Run.{blocked}
use Rattle.tm_flat.specs.BitRun.{behind, followed_by, items_ending, reader, row_ending}
use Rattle.tm_flat.specs.Fitting.{BodyFits, ItemsFit, RowFits}
use Rattle.tm_flat.specs.Inputs.{room}
use Rattle.tm_flat.specs.Positions.{body_after, row_after}
use Rattle.tm_flat.specs.Writes.{body_writes, items_write, row_writes}
use Rattle.tm_flat_stmts.specs.Flows.{FlowTerms, LeadsOn}
use Rattle.tm_flat_stmts.specs.Statements.{reads}
use Rattle.tm_flat_stmts.proofs.Leading.{continues_nowhere, continues_so, continues_then}
use Rattle.tm_flat_stmts.proofs.Leaving.{leaves_memory, leaves_then, or_left, or_right}
use Rattle.tm_flat_stmts.specs.Choices.{choice_bit}
use Rattle.tm_flat_bodies.specs.declared.course.Course.{Course}
use Rattle.tm_flat_bodies.specs.declared.stand.Stand.{Stand}
use Rattle.tm_flat_bodies.specs.Asked.{RowIsTyped}
use Rattle.tm_flat_bodies.specs.Walks.{IsStanding, IsTrailOf, RowLeads, RowWalks, WalkTables, readers_at}
use Rattle.tm_flat_bodies.proofs.Standing.{goes_nowhere, stands_on}
use Rattle.tm_plain.proofs.Chains.{NextWork, next_work, no_work, steps}
use Rattle.tm_flat_moves.specs.Items.{ItemsAreTyped, ItemsLead, ItemsWalk, StmtStands, StmtsLead, WorkWalks, items_after}
use Rattle.tm_flat_moves.proofs.Rows.{back_typed, front_typed, items, row_behind, row_writing, rows_after, rows_end, rows_fit, rows_write, stands_typed}

module _ (w : WalkTables) (d : DesignTree) (p : ℕ) where
  abbrev number : Place → List Place → Option ℕ
  number at calls = Some (location_number d p at calls)

  -- ---- nothing is left to be done
  pub items_nothing : (now : Course) (here : FlowTerms) → IsStanding w now here →
      ItemsLead w d p [] now now here (Some here)
  items_nothing now here standing = record {
    goes = goes_nowhere w.tables number now.terms here now.ends standing.sound standing.stands standing.ended;
    leaves = λ i none. leaves_memory i here here now.ends now.ends refl refl;
  }

  pub stmts_nothing : (scope : Scope) (trail : List Place) (now : Course) (here : FlowTerms) → IsStanding w now here →
      StmtsLead w d p scope trail [] now now here (Some here)
  stmts_nothing scope trail now here standing = record {
    goes = goes_nowhere w.tables number now.terms here now.ends standing.sound standing.stands standing.ended;
    leaves = λ i none. leaves_memory i here here now.ends now.ends refl refl;
  }

  -- ---- statements of a body, and other items behind them
  module _ (scope : Scope) (trail : List Place) (ss : List StmtTree) (others : List WorkItem) where
    abbrev all : List WorkItem
    all = items d scope trail others ss

    abbrev after : ℕ → Option ℕ
    after k = row_behind d scope trail others ss k

    first_unwritten : (i k : ℕ) → items_write d i all k ≡ false → row_writing d scope trail others i ss k ≡ false
    first_unwritten i k none =
        or_left (row_writing d scope trail others i ss k)
        (option_map_or (λ j. items_write d i others j) (after k) false)
        (sym (rows_write d scope trail others i ss k) ∙ none)

    rest_unwritten : (i k j : ℕ) → Some j ≡ after k → items_write d i all k ≡ false → items_write d i others j ≡ false
    rest_unwritten i k j at none =
        ap (λ o. option_map_or (λ j. items_write d i others j) o false) at
        ∙ or_right (row_writing d scope trail others i ss k)
        (option_map_or (λ j. items_write d i others j) (after k) false)
        (sym (rows_write d scope trail others i ss k) ∙ none)

    pub items_then : (now mid end : Course) (here there : FlowTerms) (g : Option FlowTerms) →
        StmtsLead w d p scope trail ss now mid here (Some there) → ItemsLead w d p others mid end there g →
        ItemsLead w d p all now end here g
    items_then now mid end here there g one two =
        let at : Some there.position ≡ after here.position = one.goes.position in
        record {
          goes =
              continues_so w.tables number
              (λ v m. followed_by (row_ending (reader d (choice_bit w.first v)) scope trail (row_of ss) here.position m)
              (items_ending d (choice_bit w.first v) others there.position))
              (λ v m. items_ending d (choice_bit w.first v) all here.position m)
              (items_after d others there.position) (items_after d all here.position) now.terms end.terms (Some here) g
              now.ends end.ends
              (λ v m.
              (λ i. followed_by (row_ending (reader d (choice_bit w.first v)) scope trail (row_of ss) here.position m)
              (behind (at i) (λ j. items_ending d (choice_bit w.first v) others j)))
              ∙ rows_end d scope trail others (choice_bit w.first v) ss here.position m)
              ((λ i. option_and_then (λ j. items_after d others j) (at i))
              ∙ rows_after d scope trail others ss here.position)
              (continues_then w.tables number
              (λ v. row_ending (reader d (choice_bit w.first v)) scope trail (row_of ss) here.position)
              (λ v. items_ending d (choice_bit w.first v) others there.position)
              (after here.position) (items_after d others there.position) now.terms mid.terms end.terms (Some here)
              (Some there) g now.ends mid.ends end.ends one.goes two.goes);
          leaves = λ i none.
              leaves_then i (Some here) (Some there) g now.ends mid.ends end.ends
              (one.leaves i (first_unwritten i here.position none))
              (two.leaves i (rest_unwritten i here.position there.position at none));
        }

    pub items_stop : (now mid : Course) (here : FlowTerms) → StmtsLead w d p scope trail ss now mid here None →
        ItemsLead w d p all now mid here None
    items_stop now mid here one =
        let at : None ≡ after here.position = one.goes.position in
        record {
          goes =
              continues_so w.tables number
              (λ v m. followed_by (row_ending (reader d (choice_bit w.first v)) scope trail (row_of ss) here.position m)
              (λ _. blocked))
              (λ v m. items_ending d (choice_bit w.first v) all here.position m)
              None (items_after d all here.position) now.terms mid.terms (Some here) None now.ends mid.ends
              (λ v m.
              (λ i. followed_by (row_ending (reader d (choice_bit w.first v)) scope trail (row_of ss) here.position m)
              (behind (at i) (λ j. items_ending d (choice_bit w.first v) others j)))
              ∙ rows_end d scope trail others (choice_bit w.first v) ss here.position m)
              ((λ i. option_and_then (λ j. items_after d others j) (at i))
              ∙ rows_after d scope trail others ss here.position)
              (continues_nowhere w.tables number
              (λ v. row_ending (reader d (choice_bit w.first v)) scope trail (row_of ss) here.position)
              (λ v _. blocked) (after here.position) now.terms mid.terms (Some here) now.ends mid.ends one.goes);
          leaves = λ i none. one.leaves i (first_unwritten i here.position none);
        }

  -- the items behind statements may be walked
  others_walk : (scope : Scope) (trail : List Place) (ss : List StmtTree) (others : List WorkItem) (now mid : Course)
      (here there : FlowTerms) → ItemsWalk w d p (items d scope trail others ss) now here →
      ((e : DesignTree) (q : ℕ) → HasCells w.tables e → AreLocations w.locations e q →
      StmtsLead w e q scope trail ss now mid here (Some there)) → ItemsWalk w d p others mid there
  others_walk scope trail ss others now mid here there walks each = record {
    walkable = walks.walkable;
    cells = walks.cells;
    are = walks.are;
    typed = back_typed w.tables scope trail ss others walks.typed;
    fits = λ e q has are.
        subst (λ o. MatchOption o (Unit {0}) (λ i. ItemsFit room e others i)) (sym (each e q has are).goes.position)
        (rows_fit e scope trail others room ss here.position (walks.fits e q has are)).1;
    standing = stands_on w now mid here there (each d p walks.cells walks.are).goes walks.standing;
  }

  -- ---- node by node
  -- what was done so far leads to what is left
  pub record RestSoFar (whole : List WorkItem) (start : Course) (flow : FlowTerms) (left : ℕ) (now : Course)
      (here : FlowTerms) : Type 0 where
    pub items : List WorkItem
    pub leads : IsRest w.locations.trails w.locations.rests left items
    pub walks : ItemsWalk w d p items now here
    pub goes : (end : Course) (g : Option FlowTerms) → ItemsLead w d p items now end here g →
        ItemsLead w d p whole start end flow g

  pub rest_begins : (whole : List WorkItem) (left : ℕ) (start : Course) (flow : FlowTerms) →
      IsRest w.locations.trails w.locations.rests left whole → ItemsWalk w d p whole start flow →
      RestSoFar whole start flow left start flow
  rest_begins whole left start flow leads walks = record {
    items = whole;
    leads = leads;
    walks = walks;
    goes = λ end g led. led;
  }

  module _ (whole : List WorkItem) (start : Course) (flow : FlowTerms) (left : ℕ) (now : Course) (here : FlowTerms)
      (far : RestSoFar whole start flow left now here) where
    pub rest_ends : numbered_node w.locations.rests left ≡ None → ItemsLead w d p whole start now flow (Some here)
    rest_ends none =
        far.goes now (Some here)
        (subst (λ is. ItemsLead w d p is now now here (Some here))
        (sym (no_work w.locations.trails w.locations.rests left far.items far.leads none))
        (items_nothing now here far.walks.standing))

    module _ (node : RestNode) (is : numbered_node w.locations.rests left ≡ Some node) where
      next : NextWork w.locations.trails w.locations.rests left node far.items
      next = next_work w.locations.trails w.locations.rests left node far.items far.leads is

      abbrev scope : Scope
      scope = scope_of node.scope

      abbrev ss : List StmtTree
      ss = work_stmts node.work

      front : ItemsWalk w d p (items d scope next.trail next.others ss) now here
      front = subst (λ is. ItemsWalk w d p is now here) next.are far.walks

      pub node_walks : WorkWalks w d p node now here
      node_walks = record {
        walkable = front.walkable;
        cells = front.cells;
        are = front.are;
        trail = next.trail;
        reached = next.is_trail;
        typed = front_typed w.tables node.scope next.trail ss next.others front.typed;
        fits = λ e q has are.
            (rows_fit e scope next.trail next.others room ss here.position (front.fits e q has are)).0;
        standing = front.standing;
      }

      -- less is left behind it
      pub rest_fewer : steps w.locations.rests (length w.locations.rests) node.then
          < steps w.locations.rests (length w.locations.rests) left
      rest_fewer = next.fewer

      abbrev pub Does : Course → Option FlowTerms → Type 0
      Does mid g =
          (e : DesignTree) (q : ℕ) → HasCells w.tables e → AreLocations w.locations e q → (trail : List Place) →
          IsTrail w.locations.trails node.trail trail → StmtsLead w e q scope trail ss now mid here g

      pub rest_goes_on : (mid : Course) (there : FlowTerms) → Does mid (Some there) →
          RestSoFar whole start flow node.then mid there
      rest_goes_on mid there does =
          let one = does d p front.cells front.are next.trail next.is_trail in
          record {
            items = next.others;
            leads = next.leads;
            walks = others_walk scope next.trail ss next.others now mid here there front
                (λ e q has are. does e q has are next.trail next.is_trail);
            goes = λ end g led.
                far.goes end g
                (subst (λ is. ItemsLead w d p is now end here g) (sym next.are)
                (items_then scope next.trail ss next.others now mid end here there g one led));
          }

      pub rest_stops : (mid : Course) → Does mid None → ItemsLead w d p whole start mid flow None
      rest_stops mid does =
          far.goes mid None
          (subst (λ is. ItemsLead w d p is now mid here None) (sym next.are)
          (items_stop scope next.trail ss next.others now mid here
          (does d p front.cells front.are next.trail next.is_trail)))

  -- ---- work of a body
  module _ (f : Stand) (at : SiteBody) (k : ℕ) (reader_is : f.reader ≡ record { tables = w.tables; at = at })
      (depth_is : f.depth ≡ call_depth d.spec) (trail_is : f.trail ≡ Some k) where
    abbrev at_is : f.reader.at ≡ at
    at_is = ap (λ (s : ScopedCells). s.at) reader_is

    reached_so : (trail : List Place) → IsTrail w.locations.trails k trail → IsTrailOf w.locations f.trail trail
    reached_so trail reached = subst (λ o. IsTrailOf w.locations o trail) (sym trail_is) reached

    -- statements that lead through the body lead on
    pub stmts_lead : HasCells w.tables d → AreLocations w.locations d p → (ss : List StmtTree) (now mid : Course)
        (here : FlowTerms) (g : Option FlowTerms) → RowLeads w f (row_of ss) now mid here g → (trail : List Place) →
        IsTrail w.locations.trails k trail → StmtsLead w d p (scope_of at) trail ss now mid here g
    stmts_lead has are ss now mid here g led trail reached =
        subst (λ (a : SiteBody). StmtsLead w d p (scope_of a) trail ss now mid here g) at_is
        (subst (λ n. LeadsOn w.tables number
        (λ v. row_ending (reads (readers_at n w.first d) v) (scope_of f.reader.at) trail (row_of ss) here.position)
        (row_after (body_after n d) d (scope_of f.reader.at) (row_of ss) here.position)
        (λ i. row_writes (body_after n d) (body_writes n d i) d (scope_of f.reader.at) i (row_of ss) here.position)
        now.terms mid.terms (Some here) now.ends g mid.ends) depth_is
        (led d p has are trail (reached_so trail reached)))

    module _ (node : RestNode) (now : Course) (here : FlowTerms) (walks : WorkWalks w d p node now here)
        (node_at : node.scope ≡ at) (node_trail : node.trail ≡ k) where
      -- work of a node may be walked
      pub row_walks : RowWalks w f (row_of (work_stmts node.work)) now here
      row_walks = record {
        stand = record {
          walkable = walks.walkable;
          tables = ap (λ (s : ScopedCells). s.tables) reader_is;
          calls = walks.trail;
          trail = reached_so walks.trail (subst (λ n. IsTrail w.locations.trails n walks.trail) node_trail
              walks.reached);
        };
        typed = subst (λ s. RowIsTyped s (row_of (work_stmts node.work))) (sym reader_is)
            (stands_typed w.tables at (work_stmts node.work)
            (subst (λ (a : SiteBody). AllByRecursion (StmtStands w.tables a) (work_stmts node.work)) node_at
            walks.typed));
        fits = λ e q has are.
            let same : f.depth ≡ call_depth e.spec =
            depth_is ∙ ap call_depth (walks.cells.text ∙ sym has.text) in
            let here_fits = walks.fits e q has are in
            subst (λ (a : SiteBody). RowFits room (body_after f.depth e) (BodyFits room f.depth e) e (scope_of a)
            (row_of (work_stmts node.work)) here.position) (node_at ∙ sym at_is)
            (subst (λ n. RowFits room (body_after n e) (BodyFits room n e) e (scope_of node.scope)
            (row_of (work_stmts node.work)) here.position) (sym same) here_fits);
        standing = walks.standing;
      }

  -- where the design has no such instance there is no work
  no_stmts : (at : SiteBody) (ss : List StmtTree) → HasCells w.tables d → site d at.instance ≡ None →
      AllByRecursion (StmtStands w.tables at) ss → ss ≡ []
  no_stmts at [] has none stand = refl
  no_stmts at (s ∷ ss) has none stand =
      let nothing : context d (scope_of at) ≡ None = rw none in
      let there = context_here (record { tables = w.tables; at = at }) d has ∙ stand.0.stands in absurd (cc)

pub nothing_done : (w : WalkTables) (d : DesignTree) (p : ℕ) (node : RestNode) (now : Course) (here : FlowTerms) →
    WorkWalks w d p node now here → site d node.scope.instance ≡ None → (e : DesignTree) (q : ℕ)
    (trail : List Place) →
    StmtsLead w e q (scope_of node.scope) trail (work_stmts node.work) now now here (Some here)
nothing_done w d p node now here walks none e q trail =
    subst (λ ss. StmtsLead w e q (scope_of node.scope) trail ss now now here (Some here))
    (sym (no_stmts w d p node.scope (work_stmts node.work) walks.cells none walks.typed))
    (stmts_nothing w e q (scope_of node.scope) trail now here walks.standing)
