-- Calls: a body is entered with its arguments, and led through.
use Rattle.std.proofs.Common.{◌≡◌, ℕ, suc, ◌||◌, Bool, true, false, Option, None, Some, List, ◌++◌, refl, sym, ap, ◌∙◌, subst}
use Rattle.std.specs.Prelude.{MatchOption, if◌then◌else◌}
use Rattle.std.specs.List.{list_any}
use Rattle.std.specs.Option.{option_and_then, option_map_or}
use Rattle.std.proofs.lemmas.Option.{same_Some}
use Rattle.tm_base.specs.declared.place.Place.{Place}
use Rattle.tm_syntax.specs.declared.tree.Ident.{Ident}
use Rattle.tm_syntax.specs.Tree.{BodyTree, ExprTree, StmtRow, invoke, row_of}
use Rattle.tm_syntax.specs.Tree.View.{body_tree}
use Rattle.tm_syntax.specs.Scopes.Parts.{body_stmts}
use Rattle.tm_syntax.specs.Design.{DesignTree}
use Rattle.tm_syntax.specs.Design.Cells.{Called, called}
use Rattle.tm_syntax.specs.Design.Locations.{location_number}
use Rattle.tm_syntax.specs.Design.Scope.{Scope}
use Rattle.tm_syntax.specs.Design.Work.{call_place}
use Rattle.tm_scope.specs.Cells.{CellTables, HasCells, scope_of}
use Rattle.tm_sem.specs.Value.{Memory, overruns}
use Rattle.tm_sem.specs.Run.{Ending, stopped, finished, failed, blocked, with_arguments}
use Rattle.tm_flat.specs.BitRun.{body_ending, followed_by, row_ending}
use Rattle.tm_flat.specs.Fitting.{BodyFits, CallFits, RowFits}
use Rattle.tm_flat.specs.Inputs.{room}
use Rattle.tm_flat.specs.Positions.{body_after, call_after, row_after, stmt_after}
use Rattle.tm_flat.specs.Writes.{body_writes, is_variable, row_writes}
use Rattle.tm_flat_stmts.specs.Flows.{Continues, FlowTerms, LeadsOn}
use Rattle.tm_flat_stmts.specs.Statements.{Readers, reads, stmt_piece}
use Rattle.tm_flat_stmts.proofs.Leading.{continues_so, continues_then}
use Rattle.tm_flat_stmts.proofs.Leaving.{leaves_then, or_left, or_right}
use Rattle.tm_flat_stmts.specs.Choices.{choice_bit}
use Rattle.tm_flat_bodies.specs.declared.called.CalledTask.{CalledTask}
use Rattle.tm_flat_bodies.specs.declared.course.Course.{Course}
use Rattle.tm_flat_bodies.specs.declared.stand.Stand.{Stand}
use Rattle.tm_flat_bodies.specs.Asked.{RowIsTyped}
use Rattle.tm_design.specs.Callees.{IsCallee, RunsTask}
use Rattle.tm_flat_bodies.specs.Inner.Passing.{CallWalks, Enters, IsCalled}
use Rattle.tm_flat_bodies.specs.Walks.{AreWalkable, BodyLeads, BodyWalks, InEach, IsStand, IsStanding, StmtLeads, StmtWalks, WalkTables, readers_at}
use Rattle.tm_flat_bodies.proofs.Standing.{stands_on}

-- nothing is done behind a call that stands as a statement
ended_so : (e : Ending) → e ≡ followed_by e finished
ended_so (finished m) = refl
ended_so (stopped at trail m) = refl
ended_so failed = refl
ended_so blocked = refl

-- what is done behind arguments of which none overruns
passed_then : (b : Bool) (m : Memory) (next : Memory → Ending) →
    followed_by (if b then failed else finished m) next ≡ (if b then failed else next m)
passed_then true m next = refl
passed_then false m next = refl

-- a task that a path calls is what the design calls
module _ (w : WalkTables) (f : Stand) (names : List Ident) (k : CalledTask) (is : IsCalled w f names k) (d : DesignTree)
    (has : HasCells w.tables d) where
  abbrev runs : RunsTask d (scope_of f.reader.at) names k.stand.reader.at k.task.now
  runs = is.callee.runs d has

  -- the position behind the call is that behind the body
  pub call_position : (i : ℕ) →
      row_after (body_after k.stand.depth d) d (scope_of k.stand.reader.at)
      (row_of (body_stmts (body_tree k.task.now.body))) i
      ≡ call_after (body_after f.depth d) d (scope_of f.reader.at) names i
  call_position i =
      (λ j. row_after (body_after k.stand.depth d) d (sym runs.scope j) (row_of (body_stmts (sym runs.body j))) i)
      ∙ (λ j. body_after (sym is.depth j) d runs.called i)
      ∙ ap (option_and_then (λ c. body_after f.depth d c i)) (sym runs.is)

  -- the call writes what the body does
  pub call_written : (v i : ℕ) →
      row_writes (body_after k.stand.depth d) (body_writes k.stand.depth d v) d (scope_of k.stand.reader.at) v
      (row_of (body_stmts (body_tree k.task.now.body))) i
      ≡ body_writes f.depth d v runs.called i
  call_written v i =
      (λ j. row_writes (body_after k.stand.depth d) (body_writes k.stand.depth d v) d (sym runs.scope j) v
      (row_of (body_stmts (sym runs.body j))) i)
      ∙ (λ j. body_writes (sym is.depth j) d v runs.called i)

  -- the body is what the call runs
  pub call_runs : (bits : ℕ → Bool) (trail : List Place) (i : ℕ) (m : Memory) →
      row_ending (record {
        design = d;
        bits = bits;
        after = body_after k.stand.depth d;
        ending = body_ending k.stand.depth d bits;
      }) (scope_of k.stand.reader.at) trail (row_of (body_stmts (body_tree k.task.now.body))) i m
      ≡ body_ending f.depth d bits runs.called trail i m
  call_runs bits trail i m =
      (λ j. row_ending (record {
        design = d;
        bits = bits;
        after = body_after k.stand.depth d;
        ending = body_ending k.stand.depth d bits;
      }) (sym runs.scope j) trail (row_of (body_stmts (sym runs.body j))) i m)
      ∙ (λ j. body_ending (sym is.depth j) d bits runs.called trail i m)

-- ---- the body may be walked
module _ (w : WalkTables) (f : Stand) (names : List Ident) (k : CalledTask) (is : IsCalled w f names k) where
  here : k.stand.reader ≡ record { tables = w.tables; at = k.stand.reader.at }
  here i = record { tables = is.tables i; at = k.stand.reader.at }

  pub called_stand : IsStand w f → IsStand w k.stand
  called_stand stand = record {
    walkable = stand.walkable;
    tables = is.tables;
    calls = call_place names ++ stand.calls;
    trail = is.trail stand.calls stand.trail;
  }

  pub called_typed : AreWalkable w → RowIsTyped k.stand.reader (row_of (body_stmts (body_tree k.task.now.body)))
  called_typed walkable =
      subst (λ s. RowIsTyped s (row_of (body_stmts (body_tree k.task.now.body)))) (sym here)
      (walkable.bodies k.stand.reader.at k.task.now is.callee.task)

  pub called_fits : (d : DesignTree) → HasCells w.tables d → (i : ℕ) →
      CallFits (BodyFits room f.depth d) d (scope_of f.reader.at) names i →
      RowFits room (body_after k.stand.depth d) (BodyFits room k.stand.depth d) d (scope_of k.stand.reader.at)
      (row_of (body_stmts (body_tree k.task.now.body))) i
  called_fits d has i fits =
      let runs = is.callee.runs d has in
      let one : BodyFits room f.depth d runs.called i =
      subst (λ o. MatchOption o (Unit {0}) (λ c. BodyFits room f.depth d c i)) runs.is fits in
      let deep : BodyFits room (suc k.stand.depth) d runs.called i =
      subst (λ n. BodyFits room n d runs.called i) is.depth one in
      subst (λ (s : Scope). RowFits room (body_after k.stand.depth d) (BodyFits room k.stand.depth d) d s
      (row_of (body_stmts (body_tree k.task.now.body))) i) runs.scope
      (subst (λ (b : BodyTree). RowFits room (body_after k.stand.depth d) (BodyFits room k.stand.depth d) d
      runs.called.scope (row_of (body_stmts b)) i) runs.body deep)

  pub called_walks : AreWalkable w → IsStand w f → (now : Course) (flow : FlowTerms) → IsStanding w now flow →
      InEach w (λ d. CallFits (BodyFits room f.depth d) d (scope_of f.reader.at) names flow.position) →
      BodyWalks w k.stand (body_tree k.task.now.body) now flow
  called_walks walkable stand now flow standing fits = record {
    stand = called_stand stand;
    typed = called_typed walkable;
    fits = λ d p has are. called_fits d has flow.position (fits d p has are);
    standing = standing;
  }

  -- ---- the call leads where the body leads
  pub call_leads : (args : List ExprTree) (from mid now : Course) (flow entered : FlowTerms) (g : Option FlowTerms) →
      f.reader.tables ≡ w.tables →
      Enters f.reader args k.stand.reader.at from mid flow entered →
      BodyLeads w k.stand (body_tree k.task.now.body) mid now entered g →
      StmtLeads w f (invoke names args) from now flow g
  call_leads args from mid now flow entered g tables enters body d p has are trail led =
      let runs = is.callee.runs d has in
      let scope : Scope = scope_of f.reader.at in
      let inner : Readers = readers_at k.stand.depth w.first d in
      let outer : Readers = readers_at f.depth w.first d in
      let number : Place → List Place → Option ℕ = λ at calls. Some (location_number d p at calls) in
      let row : StmtRow = row_of (body_stmts (body_tree k.task.now.body)) in
      let calls : List Place = call_place names ++ trail in
      let any : Memory → Bool = λ m. list_any (overruns d scope m) args in
      let given : Memory → Memory = λ m. with_arguments d scope m runs.called.params args in
      let inside : List ℕ → Memory → Ending =
      λ v. row_ending (reads inner v) (scope_of k.stand.reader.at) calls row entered.position in
      let one = subst (λ (x : CellTables). LeadsOn x number (λ v m. if any m then failed else finished (given m))
      (Some flow.position) (λ i. list_any (is_variable i) runs.called.params) from.terms mid.terms (Some flow)
      from.ends (Some entered) mid.ends) tables
      (enters d (subst (λ (x : CellTables). HasCells x d) (sym tables) has) runs.called runs.by number) in
      let two = body d p has are calls (is.trail trail led) in
      let there : entered.position ≡ flow.position = same_Some entered.position flow.position one.goes.position in
      let ran : (v : List ℕ) (m : Memory) → inside v (given m)
      ≡ option_map_or (λ (c : Called). followed_by
      (body_ending f.depth d (choice_bit w.first v) c calls flow.position (with_arguments d scope m c.params args))
      finished) (called d scope names) blocked =
      λ v m.
      ap (λ i. row_ending (reads inner v) (scope_of k.stand.reader.at) calls row i (given m)) there
      ∙ call_runs w f names k is d has (choice_bit w.first v) calls flow.position (given m)
      ∙ ended_so (body_ending f.depth d (choice_bit w.first v) runs.called calls flow.position (given m))
      ∙ sym (ap (λ (o : Option Called). option_map_or (λ (c : Called). followed_by
      (body_ending f.depth d (choice_bit w.first v) c calls flow.position (with_arguments d scope m c.params args))
      finished) o blocked) runs.is) in
      record {
        goes =
            continues_so w.tables number (λ v m. followed_by (if any m then failed else finished (given m)) (inside v))
            (stmt_piece outer scope trail (invoke names args) flow.position)
            (row_after inner.after d (scope_of k.stand.reader.at) row entered.position)
            (stmt_after outer.after d scope (invoke names args) flow.position) from.terms now.terms (Some flow) g
            from.ends
            now.ends
            (λ v m. passed_then (any m) (given m) (inside v) ∙ ap (λ e. if any m then failed else e) (ran v m))
            (ap (row_after inner.after d (scope_of k.stand.reader.at) row) there
            ∙ call_position w f names k is d has flow.position)
            (continues_then w.tables number (λ v m. if any m then failed else finished (given m)) inside
            (Some flow.position)
            (row_after inner.after d (scope_of k.stand.reader.at) row entered.position) from.terms mid.terms now.terms
            (Some flow) (Some entered) g from.ends mid.ends now.ends one.goes two.goes);
        leaves = λ i none.
            let params : Bool = list_any (is_variable i) runs.called.params in
            let within : Bool = body_writes f.depth d i runs.called flow.position in
            let parts : (params || within) ≡ false =
            sym (ap (λ (o : Option Called). option_map_or (λ (c : Called). list_any (is_variable i) c.params
            || body_writes f.depth d i c flow.position) o false) runs.is) ∙ none in
            leaves_then i (Some flow) (Some entered) g from.ends mid.ends now.ends
            (one.leaves i (or_left params within parts))
            (two.leaves i
            (ap (row_writes inner.after (inner.writes i) d (scope_of k.stand.reader.at) i row) there
            ∙ call_written w f names k is d has i flow.position ∙ or_right params within parts));
      }

-- ---- what a call asks for
pub call_walks : (w : WalkTables) (f : Stand) (names : List Ident) (args : List ExprTree) (now : Course)
    (flow : FlowTerms) → StmtWalks w f (invoke names args) now flow → CallWalks w f names
call_walks w f names args now flow walks = record {
  stand = walks.stand;
  at = walks.typed.at;
  task = walks.typed.task;
  is = walks.typed.is;
  from = flow.position;
  fits = walks.fits;
}

pub callee_there : (w : WalkTables) (f : Stand) (names : List Ident) → IsStand w f → (k : CalledTask) →
    IsCalled w f names k → IsCallee f.reader.tables f.reader.at names k.stand.reader.at k.task.now
callee_there w f names stand k is =
    subst (λ (x : CellTables). IsCallee x f.reader.at names k.stand.reader.at k.task.now) (sym stand.tables) is.callee

pub entered_walks : (w : WalkTables) (f : Stand) (names : List Ident) (k : CalledTask) → IsCalled w f names k →
    AreWalkable w → (args : List ExprTree) (from mid : Course) (flow entered : FlowTerms) →
    StmtWalks w f (invoke names args) from flow → Enters f.reader args k.stand.reader.at from mid flow entered →
    BodyWalks w k.stand (body_tree k.task.now.body) mid entered
entered_walks w f names k is walkable args from mid flow entered walks enters =
    let d : DesignTree = walkable.design in
    let has : HasCells f.reader.tables d =
    subst (λ (x : CellTables). HasCells x d) (sym walks.stand.tables) walkable.cells in
    let runs = is.callee.runs d walkable.cells in
    let one = (enters d has runs.called runs.by (λ at calls. None)).goes in
    let there : flow.position ≡ entered.position = sym (same_Some entered.position flow.position one.position) in
    called_walks w f names k is walkable walks.stand mid entered
    (stands_on w from mid flow entered
    (subst (λ (x : CellTables). Continues x (λ at calls. None)
    (λ v m. if list_any (overruns d (scope_of f.reader.at) m) args
    then failed
    else finished (with_arguments d (scope_of f.reader.at) m runs.called.params args)) (Some flow.position)
    from.terms mid.terms (Some flow) from.ends (Some entered) mid.ends) walks.stand.tables one) walks.standing)
    (λ e p has_e are. subst (CallFits (BodyFits room f.depth e) e (scope_of f.reader.at) names) there
    (walks.fits e p has_e are))
