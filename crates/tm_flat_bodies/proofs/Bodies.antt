-- The locals of a body, and the statements behind them.
use Rattle.std.proofs.Common.{◌≡◌, ◌||◌, ℕ, Bool, false, suc, Option, None, Some, List, [], ◌∷◌, ◌++◌, length, refl, sym, ap, ◌∙◌, subst}
use Rattle.std.specs.Prelude.{MatchOption}
use Rattle.std.specs.Option.{option_and_then, option_map_or}
use Rattle.std.specs.declared.vec.Vec.{Vec}
use Rattle.std.specs.declared.alloc.Global.{Global}
use Rattle.tm_base.specs.declared.place.Place.{Place}
use Rattle.tm_syntax.specs.declared.tree.Stmt.{Stmt}
use Rattle.tm_syntax.specs.Tree.{BodyTree, LocalTree, StmtTree, assign, row_of}
use Rattle.tm_syntax.specs.Scopes.Parts.{body_stmts}
use Rattle.tm_syntax.specs.Design.Locations.{location_number}
use Rattle.tm_syntax.specs.Design.Scope.{Scope}
use Rattle.tm_scope.specs.Cells.{ScopedCells, scope_of}
use Rattle.tm_sem.specs.Run.{blocked}
use Rattle.tm_flat.specs.BitRun.{behind, followed_by, row_ending}
use Rattle.tm_flat.specs.Fitting.{BodyFits, RowFits}
use Rattle.tm_flat.specs.Inputs.{room}
use Rattle.tm_flat.specs.Positions.{body_after, row_after}
use Rattle.tm_flat.specs.Writes.{row_writes}
use Rattle.tm_flat_stmts.specs.Flows.{FlowTerms}
use Rattle.tm_flat_stmts.specs.Statements.{Readers, reads}
use Rattle.tm_flat_stmts.proofs.Leading.{continues_nowhere, continues_so, continues_then}
use Rattle.tm_flat_stmts.proofs.Leaving.{leaves_then, or_left, or_right}
use Rattle.tm_flat_bodies.specs.declared.course.Course.{Course}
use Rattle.tm_flat_bodies.specs.declared.stand.Stand.{Stand}
use Rattle.tm_flat_bodies.specs.Asked.{RowIsTyped}
use Rattle.tm_flat_bodies.specs.Inner.Alternatives.{block_rows}
use Rattle.tm_flat_bodies.specs.Inner.Passing.{local_stmts}
use Rattle.tm_flat_bodies.specs.Walks.{AreWalkable, BodyLeads, BodyWalks, RowLeads, RowWalks, WalkTables, readers_at}
use Rattle.tm_flat_bodies.proofs.Rows.{after_both, both_ending, both_write, fits_both}
use Rattle.tm_flat_bodies.proofs.Standing.{stands_on}

-- the declaration of a local
abbrev pub local_stmt : LocalTree → StmtTree
local_stmt l = assign (l.name ∷ []) None l.value

-- there are as many rows as blocks
pub rows_long : (blocks : List (Vec Stmt Global)) → length blocks ≡ length (block_rows blocks)
rows_long [] = refl
rows_long (b ∷ bs) = ap suc (rows_long bs)

-- statements in front of others have their types, and so have those
both_typed : (s : ScopedCells) (xs ys : List StmtTree) → RowIsTyped s (row_of (xs ++ ys)) →
    RowIsTyped s (row_of xs) × RowIsTyped s (row_of ys)
both_typed s [] ys typed = (tt, typed)
both_typed s (x ∷ xs) ys typed =
    let rest = both_typed s xs ys typed.1 in ((typed.0, rest.0), rest.1)

module _ (w : WalkTables) (f : Stand) (body : BodyTree) (from : Course) (flow : FlowTerms)
    (walks : BodyWalks w f body from flow) where
  -- the locals may be walked
  pub locals_walk : RowWalks w f (row_of (local_stmts body.locals)) from flow
  locals_walk = record {
    stand = walks.stand;
    typed = (both_typed f.reader (local_stmts body.locals) body.stmts walks.typed).0;
    fits = λ d p has are.
        (fits_both room (body_after f.depth d) (BodyFits room f.depth d) d (scope_of f.reader.at)
        (local_stmts body.locals) body.stmts flow.position (walks.fits d p has are)).0;
    standing = walks.standing;
  }

  -- and so may the statements behind them
  pub stmts_walk : AreWalkable w → (mid : Course) (entered : FlowTerms) →
      RowLeads w f (row_of (local_stmts body.locals)) from mid flow (Some entered) →
      RowWalks w f (row_of body.stmts) mid entered
  stmts_walk walkable mid entered one = record {
    stand = walks.stand;
    typed = (both_typed f.reader (local_stmts body.locals) body.stmts walks.typed).1;
    fits = λ d p has are.
        let a = one d p has are walks.stand.calls walks.stand.trail in
        subst (λ o. MatchOption o (Unit {0}) (λ i.
        RowFits room (body_after f.depth d) (BodyFits room f.depth d) d (scope_of f.reader.at) (row_of body.stmts) i))
        (sym a.goes.position)
        (fits_both room (body_after f.depth d) (BodyFits room f.depth d) d (scope_of f.reader.at)
        (local_stmts body.locals) body.stmts flow.position (walks.fits d p has are)).1;
    standing = stands_on w from mid flow entered
        (one walkable.design walkable.process walkable.cells walkable.are walks.stand.calls walks.stand.trail).goes
        walks.standing;
  }

module _ (w : WalkTables) (f : Stand) (body : BodyTree) where
  pub body_leads : (from mid now : Course) (flow entered : FlowTerms) (g : Option FlowTerms) →
      RowLeads w f (row_of (local_stmts body.locals)) from mid flow (Some entered) →
      RowLeads w f (row_of body.stmts) mid now entered g → BodyLeads w f body from now flow g
  body_leads from mid now flow entered g one two d p has are trail is =
      let r : Readers = readers_at f.depth w.first d in
      let scope : Scope = scope_of f.reader.at in
      let number : Place → List Place → Option ℕ = λ at calls. Some (location_number d p at calls) in
      let locals : List StmtTree = local_stmts body.locals in
      let a = one d p has are trail is in
      let b = two d p has are trail is in
      let at : Some entered.position ≡ row_after r.after d scope (row_of locals) flow.position = a.goes.position in
      record {
        goes =
            continues_so w.tables number
            (λ v m. followed_by (row_ending (reads r v) scope trail (row_of locals) flow.position m)
            (row_ending (reads r v) scope trail (row_of body.stmts) entered.position))
            (λ v m. row_ending (reads r v) scope trail (row_of (body_stmts body)) flow.position m)
            (row_after r.after d scope (row_of body.stmts) entered.position)
            (row_after r.after d scope (row_of (body_stmts body)) flow.position) from.terms now.terms (Some flow) g
            from.ends
            now.ends
            (λ v m.
            (λ i. followed_by (row_ending (reads r v) scope trail (row_of locals) flow.position m)
            (behind (at i) (λ j. row_ending (reads r v) scope trail (row_of body.stmts) j)))
            ∙ both_ending (reads r v) scope trail locals body.stmts flow.position m)
            ((λ i. option_and_then (λ j. row_after r.after d scope (row_of body.stmts) j) (at i))
            ∙ after_both r.after d scope locals body.stmts flow.position)
            (continues_then w.tables number (λ v. row_ending (reads r v) scope trail (row_of locals) flow.position)
            (λ v. row_ending (reads r v) scope trail (row_of body.stmts) entered.position)
            (row_after r.after d scope (row_of locals) flow.position)
            (row_after r.after d scope (row_of body.stmts) entered.position) from.terms mid.terms now.terms (Some flow)
            (Some entered) g from.ends mid.ends now.ends a.goes b.goes);
        leaves = λ i none.
            let here : Bool = row_writes r.after (r.writes i) d scope i (row_of locals) flow.position in
            let behind : Option ℕ → Bool =
            λ o. option_map_or (λ j. row_writes r.after (r.writes i) d scope i (row_of body.stmts) j) o false in
            let parts : (here || behind (row_after r.after d scope (row_of locals) flow.position)) ≡ false =
            sym (both_write r.after (r.writes i) d scope i locals body.stmts flow.position) ∙ none in
            leaves_then i (Some flow) (Some entered) g from.ends mid.ends now.ends
            (a.leaves i (or_left here (behind (row_after r.after d scope (row_of locals) flow.position)) parts))
            (b.leaves i
            (ap behind at ∙ or_right here (behind (row_after r.after d scope (row_of locals) flow.position)) parts));
      }

  pub body_stops : (from now : Course) (flow : FlowTerms) →
      RowLeads w f (row_of (local_stmts body.locals)) from now flow None → BodyLeads w f body from now flow None
  body_stops from now flow one d p has are trail is =
      let r : Readers = readers_at f.depth w.first d in
      let scope : Scope = scope_of f.reader.at in
      let number : Place → List Place → Option ℕ = λ at calls. Some (location_number d p at calls) in
      let locals : List StmtTree = local_stmts body.locals in
      let a = one d p has are trail is in
      let at : None ≡ row_after r.after d scope (row_of locals) flow.position = a.goes.position in
      record {
        goes =
            continues_so w.tables number
            (λ v m. followed_by (row_ending (reads r v) scope trail (row_of locals) flow.position m) (λ _. blocked))
            (λ v m. row_ending (reads r v) scope trail (row_of (body_stmts body)) flow.position m) None
            (row_after r.after d scope (row_of (body_stmts body)) flow.position) from.terms now.terms (Some flow) None
            from.ends now.ends
            (λ v m.
            (λ i. followed_by (row_ending (reads r v) scope trail (row_of locals) flow.position m)
            (behind (at i) (λ j. row_ending (reads r v) scope trail (row_of body.stmts) j)))
            ∙ both_ending (reads r v) scope trail locals body.stmts flow.position m)
            ((λ i. option_and_then (λ j. row_after r.after d scope (row_of body.stmts) j) (at i))
            ∙ after_both r.after d scope locals body.stmts flow.position)
            (continues_nowhere w.tables number (λ v. row_ending (reads r v) scope trail (row_of locals) flow.position)
            (λ v _. blocked) (row_after r.after d scope (row_of locals) flow.position) from.terms now.terms (Some flow)
            from.ends now.ends a.goes);
        leaves = λ i none.
            a.leaves i
            (or_left (row_writes r.after (r.writes i) d scope i (row_of locals) flow.position)
            (option_map_or (λ j. row_writes r.after (r.writes i) d scope i (row_of body.stmts) j)
            (row_after r.after d scope (row_of locals) flow.position) false)
            (sym (both_write r.after (r.writes i) d scope i locals body.stmts flow.position) ∙ none));
      }
