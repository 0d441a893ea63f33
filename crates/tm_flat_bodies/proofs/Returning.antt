-- What calls return, where it is assigned: the target is found first, then the body is run, and its answer is put
-- there.
use Rattle.std.proofs.Common.{◌≡◌, ◌≤◌, ℕ, Bool, true, false, Option, None, Some, List, ◌++◌, ◌||◌, refl, sym, ap, ◌∙◌, subst}
use Rattle.std.specs.Prelude.{MatchOption, if◌then◌else◌}
use Rattle.std.specs.List.{list_any}
use Rattle.std.specs.Option.{option_map, option_map_or}
use Rattle.std.proofs.lemmas.Option.{same_Some}
use Rattle.tm_base.specs.declared.place.Place.{Place}
use Rattle.tm_syntax.specs.declared.design.Ty.{Ty}
use Rattle.tm_syntax.specs.declared.tree.Ident.{Ident}
use Rattle.tm_syntax.specs.Tree.{ExprTree, assign, invoke, result}
use Rattle.tm_syntax.specs.Tree.View.{expr_tree}
use Rattle.tm_syntax.specs.Design.{DesignTree}
use Rattle.tm_syntax.specs.Design.Cells.{Called, Cell, called, cell}
use Rattle.tm_syntax.specs.Design.Locations.{location_number}
use Rattle.tm_syntax.specs.Design.Scope.{Scope}
use Rattle.tm_syntax.specs.Design.Work.{call_place}
use Rattle.tm_scope.specs.Cells.{CellTables, ScopedCells, scope_of}
use Rattle.tm_design.specs.Typed.{HasTypeAt}
use Rattle.tm_design.proofs.Contexts.{some_cells, some_design}
use Rattle.tm_term.specs.Value.{Extends}
use Rattle.tm_term.proofs.Valued.{Extends-trans}
use Rattle.tm_sem.specs.Value.{Memory, index_value, overruns}
use Rattle.tm_sem.specs.Run.{Ending, stopped, finished, failed, blocked, target_element, with_arguments}
use Rattle.tm_flat.specs.BitRun.{body_ending, call_ending, followed_by, returns}
use Rattle.tm_flat.specs.Fitting.{BodyFits, CallFits}
use Rattle.tm_flat.specs.Inputs.{room}
use Rattle.tm_flat.specs.Positions.{body_after, call_after, stmt_after}
use Rattle.tm_flat.specs.Writes.{call_writes, target_writes}
use Rattle.tm_flat_stmts.specs.Flows.{FlowTerms}
use Rattle.tm_flat_stmts.specs.Statements.{Readers, reads, stmt_piece}
use Rattle.tm_flat_stmts.specs.Targets.{HasTargetAt}
use Rattle.tm_flat_stmts.proofs.Leading.{continues_nowhere, continues_then}
use Rattle.tm_flat_stmts.proofs.Leaving.{leaves_asked, leaves_then, or_left, or_right}
use Rattle.tm_flat_stmts.proofs.Valuing.{any_behind, behind_operands, operands_position}
use Rattle.tm_flat_stmts.specs.Choices.{choice_bit}
use Rattle.tm_flat_stmts.specs.Places.{IsPlace, place_cell}
use Rattle.tm_flat_stmts.proofs.IntoElements.{element_target}
use Rattle.tm_flat_bodies.specs.declared.aims.Aim.{Aim}
use Rattle.tm_flat_bodies.specs.declared.called.CalledTask.{CalledTask}
use Rattle.tm_flat_bodies.specs.declared.course.Course.{Course}
use Rattle.tm_flat_bodies.specs.declared.stand.Stand.{Stand}
use Rattle.tm_flat_bodies.specs.Asked.{TargetIsTyped}
use Rattle.tm_flat_bodies.specs.Inner.Aimed.{Aims}
use Rattle.tm_flat_bodies.specs.Inner.Passing.{Answers, IsCalled}
use Rattle.tm_flat_bodies.specs.Walks.{AreWalkable, IsStanding, StmtLeads, StmtWalks, WalkTables, readers_at}
use Rattle.tm_flat_bodies.proofs.Aiming.{continues_where, place_along, place_known}
use Rattle.tm_flat_bodies.proofs.Invoking.{callee_there}
use Rattle.tm_flat_bodies.proofs.Standing.{stands_on}

-- what a called body returns is put into a target behind it
handed_on : (b : Bool) (e : Ending) (next : Memory → Ending) →
    followed_by (if b then failed else followed_by e finished) next ≡ (if b then failed else followed_by e next)
handed_on true e next = refl
handed_on false (finished m) next = refl
handed_on false (stopped at trail m) next = refl
handed_on false failed next = refl
handed_on false blocked next = refl

-- a body of an instance, over the tables of the walk
over_tables : (s : ScopedCells) (x : CellTables) → s.tables ≡ x → s ≡ record { tables = x; at = s.at }
over_tables s x same i = record { tables = same i; at = s.at }

module _ (w : WalkTables) (f : Stand) (names : List Ident) (k : CalledTask) (is : IsCalled w f names k)
    (target : List Ident) (index : Option ExprTree) (args : List ExprTree) where
  abbrev here : ScopedCells
  here = record { tables = w.tables; at = f.reader.at }

  module _ (d : DesignTree) (trail : List Place) (v : List ℕ) (m : Memory) where
    abbrev scope : Scope
    scope = scope_of f.reader.at

    abbrev outer : Readers
    outer = readers_at f.depth w.first d

    -- how the call ends whose answer is put into a cell
    abbrev called_into : ℕ → Option Cell → Ending
    called_into i o = call_ending (reads outer v) scope trail names args (returns d o) i m

    -- the answer is put into a cell behind the call
    handed_piece : (i : ℕ) (c : Called) → called d scope names ≡ Some c → (o : Option Cell) →
        followed_by (stmt_piece outer scope trail (invoke names args) i v m) (returns d o c)
        ≡ (if list_any (overruns d scope m) args then failed else called_into i o)
    handed_piece i c there o =
        let any : Bool = list_any (overruns d scope m) args in
        let ended : Called → Ending = λ c.
        body_ending f.depth d (choice_bit w.first v) c (call_place names ++ trail) i
        (with_arguments d scope m c.params args) in
        (λ j. followed_by (if any then failed else option_map_or (λ (c : Called). followed_by (ended c) finished)
        (there j) blocked) (returns d o c))
        ∙ handed_on any (ended c) (returns d o c)
        ∙ (λ j. if any then failed else option_map_or (λ (c : Called). followed_by (ended c) (returns d o c))
        (sym there j) blocked)

    -- what overruns of the target or the arguments
    any_asked : (b : Bool) → list_any (overruns d scope m) (target_element target index) ≡ b →
        list_any (overruns d scope m) (target_element target index ++ args)
        ≡ (b || list_any (overruns d scope m) args)
    any_asked b same =
        any_behind (overruns d scope m) (target_element target index) args
        ∙ ap (λ a. a || list_any (overruns d scope m) args) same

    -- where the target does not overrun, its cell is the one that gets the answer
    assigned_piece : (i : ℕ) (o : Option Cell) (b : Bool) →
        list_any (overruns d scope m) (target_element target index) ≡ b →
        (b ≡ false → cell d scope target (option_map (index_value d scope m) index) ≡ o) →
        (if b
        then failed
        else (if list_any (overruns d scope m) args then failed else called_into i o))
        ≡ stmt_piece outer scope trail (assign target index (result names args)) i v m
    assigned_piece i o true same safe =
        sym (ap (λ t. if t
        then failed
        else called_into i (cell d scope target (option_map (index_value d scope m) index))) (any_asked true same))
    assigned_piece i o false same safe =
        (λ j. if list_any (overruns d scope m) args then failed else called_into i (sym (safe refl) j))
        ∙ sym (ap (λ t. if t
        then failed
        else called_into i (cell d scope target (option_map (index_value d scope m) index))) (any_asked false same))

    -- where a run stands that found the target
    returned_piece : (aim : Aim) (i : ℕ) → aim.flow.position ≡ i → (c : Called) → called d scope names ≡ Some c →
        (o : Option Cell) →
        (list_any (overruns d scope m) (target_element target index) ≡ false →
        cell d scope target (option_map (index_value d scope m) index) ≡ o) →
        (if list_any (overruns d scope m) (target_element target index)
        then failed
        else followed_by (stmt_piece outer scope trail (invoke names args) aim.flow.position v m) (returns d o c))
        ≡ stmt_piece outer scope trail (assign target index (result names args)) i v m
    returned_piece aim i same c there o safe =
        (λ j. if list_any (overruns d scope m) (target_element target index)
        then failed
        else followed_by (stmt_piece outer scope trail (invoke names args) (same j) v m) (returns d o c))
        ∙ ap (λ e. if list_any (overruns d scope m) (target_element target index) then failed else e)
        (handed_piece i c there o)
        ∙ assigned_piece i o (list_any (overruns d scope m) (target_element target index)) refl safe

  module _ (from aimed : Course) (flow : FlowTerms) (aim : Aim) (tables : f.reader.tables ≡ w.tables)
      (aims : Aims f.reader target index from aimed flow aim) where
    over : Aims here target index from aimed flow aim
    over =
        subst (λ (s : ScopedCells). Aims s target index from aimed flow aim) (over_tables f.reader w.tables tables) aims

    same_place : aim.flow.position ≡ flow.position
    same_place =
        same_Some aim.flow.position flow.position
        (operands_position here (target_element target index) from.terms aimed.terms flow from.ends aim.flow aimed.ends
        over.asks)

    -- ---- the call falls through
    pub result_leads : (mid now : Course) (left h : FlowTerms) →
        StmtLeads w f (invoke names args) aimed mid aim.flow (Some left) →
        Answers f.reader target aim.place k mid now left h →
        StmtLeads w f (assign target index (result names args)) from now flow (Some h)
    result_leads mid now left h leads answers d p has are trail led =
        let runs = is.callee.runs d has in
        let at : Scope = scope_of f.reader.at in
        let r : Readers = readers_at f.depth w.first d in
        let number : Place → List Place → Option ℕ = λ at calls. Some (location_number d p at calls) in
        let es : List ExprTree = target_element target index in
        let after : List ℕ → Memory → Ending =
        λ v. returns d (place_cell mid.terms v d at target aim.place) runs.called in
        let call : List ℕ → Memory → Ending = stmt_piece r at trail (invoke names args) aim.flow.position in
        let one = leads d p has are trail led in
        let answered = subst (λ (s : ScopedCells). Answers s target aim.place k mid now left h)
        (over_tables f.reader w.tables tables) answers in
        let two = answered d has runs.called runs.scope runs.body number in
        let grown : Extends mid.terms now.terms = two.goes.grown in
        let known : IsPlace mid.terms aim.place =
        place_known aimed.terms mid.terms aim.place one.goes.grown over.known in
        record {
          goes =
              continues_where w.tables number
              (λ v m. if list_any (overruns d at m) es then failed else followed_by (call v m) (after v))
              (stmt_piece r at trail (assign target index (result names args)) flow.position) (Some left.position)
              (stmt_after r.after r.design at (assign target index (result names args)) flow.position) from.terms
              now.terms flow (Some h) from.ends now.ends
              (λ u more v inputs m on keeps.
              let of_mid : Extends mid.terms u = Extends-trans mid.terms now.terms u grown more in
              returned_piece d trail v m aim flow.position same_place runs.called runs.is
              (place_cell mid.terms v d at target aim.place)
              (λ safe.
              over.is u (Extends-trans aimed.terms mid.terms u one.goes.grown of_mid) v inputs d has m keeps safe
              ∙ place_along mid.terms u v d at target aim.place known of_mid))
              (one.goes.position
              ∙ ap (stmt_after r.after r.design at (assign target index (result names args))) same_place)
              (behind_operands here es from.terms aimed.terms flow from.ends aim.flow aimed.ends over.asks d has number
              (λ v m. followed_by (call v m) (after v)) (Some left.position) now.terms (Some h) now.ends
              (continues_then w.tables number call after
              (stmt_after r.after r.design at (invoke names args) aim.flow.position) (Some left.position) aimed.terms
              mid.terms now.terms (Some aim.flow) (Some left) (Some h) aimed.ends mid.ends now.ends one.goes two.goes));
          leaves = λ i none.
              let here_writes : Bool = target_writes d at i target index in
              let call_may : Bool = call_writes (r.writes i) d at i names flow.position in
              leaves_then i (Some flow) (Some aim.flow) (Some h) from.ends aimed.ends now.ends
              (leaves_asked i here es from.terms aimed.terms flow from.ends aim.flow aimed.ends over.asks)
              (leaves_then i (Some aim.flow) (Some left) (Some h) aimed.ends mid.ends now.ends
              (one.leaves i
              (ap (call_writes (r.writes i) d at i names) same_place ∙ or_right here_writes call_may none))
              (two.leaves i (over.writes d has i (or_left here_writes call_may none))));
        }

    -- ---- it does not
    pub result_stops : (now : Course) → StmtLeads w f (invoke names args) aimed now aim.flow None →
        StmtLeads w f (assign target index (result names args)) from now flow None
    result_stops now leads d p has are trail led =
        let runs = is.callee.runs d has in
        let at : Scope = scope_of f.reader.at in
        let r : Readers = readers_at f.depth w.first d in
        let number : Place → List Place → Option ℕ = λ at calls. Some (location_number d p at calls) in
        let es : List ExprTree = target_element target index in
        let after : List ℕ → Memory → Ending =
        λ v. returns d (place_cell aimed.terms v d at target aim.place) runs.called in
        let call : List ℕ → Memory → Ending = stmt_piece r at trail (invoke names args) aim.flow.position in
        let one = leads d p has are trail led in
        record {
          goes =
              continues_where w.tables number
              (λ v m. if list_any (overruns d at m) es then failed else followed_by (call v m) (after v))
              (stmt_piece r at trail (assign target index (result names args)) flow.position) None
              (stmt_after r.after r.design at (assign target index (result names args)) flow.position) from.terms
              now.terms flow None from.ends now.ends
              (λ u more v inputs m on keeps.
              let of_aimed : Extends aimed.terms u = Extends-trans aimed.terms now.terms u one.goes.grown more in
              returned_piece d trail v m aim flow.position same_place runs.called runs.is
              (place_cell aimed.terms v d at target aim.place)
              (λ safe.
              over.is u of_aimed v inputs d has m keeps safe
              ∙ place_along aimed.terms u v d at target aim.place over.known of_aimed))
              (one.goes.position
              ∙ ap (stmt_after r.after r.design at (assign target index (result names args))) same_place)
              (behind_operands here es from.terms aimed.terms flow from.ends aim.flow aimed.ends over.asks d has number
              (λ v m. followed_by (call v m) (after v)) None now.terms None now.ends
              (continues_nowhere w.tables number call after
              (stmt_after r.after r.design at (invoke names args) aim.flow.position) aimed.terms now.terms
              (Some aim.flow) aimed.ends now.ends one.goes));
          leaves = λ i none.
              leaves_then i (Some flow) (Some aim.flow) None from.ends aimed.ends now.ends
              (leaves_asked i here es from.terms aimed.terms flow from.ends aim.flow aimed.ends over.asks)
              (one.leaves i
              (ap (call_writes (r.writes i) d at i names) same_place
              ∙ or_right (target_writes d at i target index) (call_writes (r.writes i) d at i names flow.position)
              none));
        }

-- ---- what an assignment of a result asks for
module _ (w : WalkTables) (f : Stand) (target : List Ident) (index : Option ExprTree) (names : List Ident)
    (args : List ExprTree) (from : Course) (flow : FlowTerms)
    (walks : StmtWalks w f (assign target index (result names args)) from flow) where
  -- the call may be walked
  pub result_walks : StmtWalks w f (invoke names args) from flow
  result_walks = record {
    stand = walks.stand;
    typed = walks.typed.2.call;
    fits = walks.fits;
    within = walks.within;
    standing = walks.standing;
  }

  -- what is returned has the type of the target
  pub answer_typed : (k : CalledTask) → IsCalled w f names k →
      (ty : Ty) × HasTargetAt f.reader ty target × ((e : ExprTree) →
      option_map expr_tree k.task.now.body.answer ≡ Some e → HasTypeAt k.stand.reader ty e)
  answer_typed k is = (
    walks.typed.0,
    named index walks.typed.1,
    λ e answered.
        subst (λ (x : CellTables). HasTypeAt (record { tables = x; at = k.stand.reader.at }) walks.typed.0 e)
        (walks.stand.tables ∙ sym is.tables)
        (walks.typed.2.answer k.stand.reader.at k.task.now (callee_there w f names walks.stand k is) e answered),
  )
    where
      named : (o : Option ExprTree) → TargetIsTyped f.reader walks.typed.0 target o →
          HasTargetAt f.reader walks.typed.0 target
      named None typed = typed.0
      named (Some e) typed = element_target f.reader walks.typed.0 target e typed.0

  module _ (aimed : Course) (aim : Aim) (aims : Aims f.reader target index from aimed flow aim) where
    -- where a run stands that found the target
    pub aimed_standing : IsStanding w aimed aim.flow
    aimed_standing =
        let over = subst (λ (s : ScopedCells). Aims s target index from aimed flow aim)
        (over_tables f.reader w.tables walks.stand.tables) aims in
        stands_on w from aimed flow aim.flow
        (over.asks.goes (some_design w.tables) (some_cells w.tables) (λ at calls. None)) walks.standing

    -- the call may be walked from there
    pub aimed_walks : StmtWalks w f (invoke names args) aimed aim.flow
    aimed_walks =
        let there : flow.position ≡ aim.flow.position =
        sym (same_Some aim.flow.position flow.position
        (operands_position f.reader (target_element target index) from.terms aimed.terms flow from.ends aim.flow
        aimed.ends aims.asks)) in
        record {
          stand = walks.stand;
          typed = walks.typed.2.call;
          fits = λ d p has are.
              subst (CallFits (BodyFits room f.depth d) d (scope_of f.reader.at) names) there (walks.fits d p has are);
          within = λ d p has are.
              subst (λ i. MatchOption (call_after (body_after f.depth d) d (scope_of f.reader.at) names i) (Unit {0})
              (λ i. i ≤ room)) there (walks.within d p has are);
          standing = aimed_standing;
        }

    -- and where it stands behind the call
    pub result_stands : AreWalkable w → (mid : Course) (left : FlowTerms) →
        StmtLeads w f (invoke names args) aimed mid aim.flow (Some left) →
        IsStanding w mid left × IsPlace mid.terms aim.place
    result_stands walkable mid left leads =
        let one = (leads walkable.design walkable.process walkable.cells walkable.are walks.stand.calls
        walks.stand.trail).goes in (
          stands_on w aimed mid aim.flow left one aimed_standing,
          place_known aimed.terms mid.terms aim.place one.grown aims.known,
        )
