-- Where runs are led through the bodies of a design: what the walk knows, in which body it stands, and where it leads.
use Rattle.std.specs.Prelude.{◌≡◌, ◌≤◌, ◌+◌, ℕ, Bool, Option, None, Some, List, MatchOption, length}
use Rattle.tm_base.specs.declared.place.Place.{Place}
use Rattle.tm_syntax.specs.declared.tree.TaskDef.{TaskDef}
use Rattle.tm_syntax.specs.Tree.{StmtTree, StmtRow, BlockRow, BodyTree, row_of}
use Rattle.tm_syntax.specs.Tree.View.{body_tree}
use Rattle.tm_syntax.specs.Scopes.Parts.{body_stmts}
use Rattle.tm_syntax.specs.Design.{DesignTree}
use Rattle.tm_syntax.specs.Design.Locations.{location_number}
use Rattle.tm_scope.specs.Cells.{CellTables, HasCells, scope_of}
use Rattle.tm_scope.specs.declared.cells.site_body.SiteBody.{SiteBody}
use Rattle.tm_term.specs.Table.{IsSound}
use Rattle.tm_sem.specs.Run.{Ending}
use Rattle.tm_sem.specs.Value.{Memory}
use Rattle.tm_design.specs.Parameters.{task_at}
use Rattle.tm_design.specs.Settled.{AreSettled}
use Rattle.tm_design.specs.Values.{HasParameters}
use Rattle.tm_locations.specs.Locations.{AreLocations, IsTrail, LocationTable}
use Rattle.tm_flat.specs.BitRun.{body_ending, row_ending, block_ending}
use Rattle.tm_flat.specs.Fitting.{BodyFits, RowFits, StmtFits}
use Rattle.tm_flat.specs.Inputs.{room}
use Rattle.tm_flat.specs.Positions.{body_after, row_after, blocks_after, stmt_after}
use Rattle.tm_flat.specs.Writes.{blocks_write, body_writes, row_writes, stmt_writes}
use Rattle.tm_design.specs.StepCells.{AreApart}
use Rattle.tm_flat_stmts.specs.Flows.{AreEnds, FlowTerms, IsFlow, LeadsOn}
use Rattle.tm_flat_stmts.specs.Statements.{Readers, reads, stmt_piece}
use Rattle.tm_flat_stmts.specs.Choices.{AreChoiceBits, choice_bit}
use Rattle.tm_flat_bodies.specs.declared.course.Course.{Course}
use Rattle.tm_flat_bodies.specs.declared.stand.Stand.{Stand}
use Rattle.tm_flat_bodies.specs.Asked.{RowIsTyped, StmtIsTyped}

-- what a walk knows: the tables of cells, those of the locations of a process, and the number of the first input that
-- is a bit of choices
pub record WalkTables : Type 0 where
  pub tables : CellTables
  pub locations : LocationTable
  pub first : ℕ

-- what is asked of it: its cells are settled, the bodies of its tasks have types, and some design has its locations
pub record AreWalkable (w : WalkTables) : Type 0 where
  pub settled : (d : DesignTree) → HasCells w.tables d → AreSettled d
  pub parameters : (d : DesignTree) → HasCells w.tables d → HasParameters d
  pub apart : AreApart w.tables
  pub bodies : (at : SiteBody) (task : TaskDef) → task_at (record { tables = w.tables; at = at }) ≡ Some task →
      RowIsTyped (record { tables = w.tables; at = at }) (row_of (body_stmts (body_tree task.body)))
  pub design : DesignTree
  pub process : ℕ
  pub cells : HasCells w.tables design
  pub are : AreLocations w.locations design process

-- a number stands for a trail, and none where no location is reached by it
abbrev pub IsTrailOf : LocationTable → Option ℕ → List Place → Type 0
IsTrailOf l (Some n) trail = IsTrail l.trails n trail
IsTrailOf l None trail = (n : ℕ) → ¬ IsTrail l.trails n trail

-- a body of an instance of the design, which some trail has reached
pub record IsStand (w : WalkTables) (f : Stand) : Type 0 where
  pub walkable : AreWalkable w
  pub tables : f.reader.tables ≡ w.tables
  pub calls : List Place
  pub trail : IsTrailOf w.locations f.trail calls

-- what has been made where a run stands: there are bits enough for its choices, and an end for each location
pub record IsStanding (w : WalkTables) (now : Course) (flow : FlowTerms) : Type 0 where
  pub sound : IsSound now.terms
  pub bits : AreChoiceBits now.terms w.first 0 room
  pub stands : IsFlow w.tables now.terms flow
  pub ended : AreEnds w.tables now.terms now.ends
  pub count : length now.ends.stops ≡ length w.locations.rows + 2

-- what runs know where calls nest at most so deep
abbrev pub readers_at : ℕ → ℕ → DesignTree → Readers
readers_at depth first d = record {
  design = d;
  first = first;
  after = body_after depth d;
  ending = λ v. body_ending depth d (choice_bit first v);
  writes = body_writes depth d;
}

-- a piece of a body leads on, in each design of the tables that has these locations, whatever trail led to the body.
-- The first function is how the piece ends that begins at a position, the second one where a run goes on behind it, and
-- the third one whether it may assign a state variable
abbrev pub LeadsAt : WalkTables → Stand → (Readers → List Place → ℕ → List ℕ → Memory → Ending) →
    (Readers → ℕ → Option ℕ) → (Readers → ℕ → ℕ → Bool) → Course → Course → FlowTerms → Option FlowTerms → Type 0
LeadsAt w f piece to writes from now flow g =
    (d : DesignTree) (p : ℕ) → HasCells w.tables d → AreLocations w.locations d p → (trail : List Place) →
    IsTrailOf w.locations f.trail trail →
    LeadsOn w.tables (λ at calls. Some (location_number d p at calls))
    (piece (readers_at f.depth w.first d) trail flow.position) (to (readers_at f.depth w.first d) flow.position)
    (writes (readers_at f.depth w.first d) flow.position) from.terms now.terms (Some flow) from.ends g now.ends

-- a statement
abbrev pub StmtLeads : WalkTables → Stand → StmtTree → Course → Course → FlowTerms → Option FlowTerms → Type 0
StmtLeads w f s =
    LeadsAt w f (λ r trail. stmt_piece r (scope_of f.reader.at) trail s)
    (λ r. stmt_after r.after r.design (scope_of f.reader.at) s)
    (λ r k i. stmt_writes r.after (r.writes i) r.design (scope_of f.reader.at) i s k)

-- a row
abbrev pub RowLeads : WalkTables → Stand → StmtRow → Course → Course → FlowTerms → Option FlowTerms → Type 0
RowLeads w f row =
    LeadsAt w f (λ r trail k v. row_ending (reads r v) (scope_of f.reader.at) trail row k)
    (λ r. row_after r.after r.design (scope_of f.reader.at) row)
    (λ r k i. row_writes r.after (r.writes i) r.design (scope_of f.reader.at) i row k)

-- alternatives, behind the number that a choice has
abbrev pub BlocksLead : WalkTables → Stand → BlockRow → (List ℕ → ℕ) → Course → Course → FlowTerms →
    Option FlowTerms → Type 0
BlocksLead w f blocks number =
    LeadsAt w f (λ r trail k v. block_ending (reads r v) (scope_of f.reader.at) trail blocks (number v) k)
    (λ r. blocks_after r.after r.design (scope_of f.reader.at) blocks)
    (λ r k i. blocks_write r.after (r.writes i) r.design (scope_of f.reader.at) i blocks k)

-- a body: that of a task is the one that `body_ending` of one more level is
abbrev pub BodyLeads : WalkTables → Stand → BodyTree → Course → Course → FlowTerms → Option FlowTerms → Type 0
BodyLeads w f body = RowLeads w f (row_of (body_stmts body))

-- what holds in each design of the tables that has these locations
abbrev pub InEach : WalkTables → (DesignTree → Type 0) → Type 0
InEach w P = (d : DesignTree) (p : ℕ) → HasCells w.tables d → AreLocations w.locations d p → P d

-- a statement that may be walked where a run stands: it has its types, and its choices have bits
pub record StmtWalks (w : WalkTables) (f : Stand) (s : StmtTree) (now : Course) (flow : FlowTerms) : Type 0 where
  pub stand : IsStand w f
  pub typed : StmtIsTyped f.reader s
  pub fits : InEach w (λ d.
      StmtFits room (body_after f.depth d) (BodyFits room f.depth d) d (scope_of f.reader.at) s flow.position)
  pub within : InEach w (λ d.
      MatchOption (stmt_after (body_after f.depth d) d (scope_of f.reader.at) s flow.position) (Unit {0})
      (λ i. i ≤ room))
  pub standing : IsStanding w now flow

-- a row that may be
pub record RowWalks (w : WalkTables) (f : Stand) (row : StmtRow) (now : Course) (flow : FlowTerms) : Type 0 where
  pub stand : IsStand w f
  pub typed : RowIsTyped f.reader row
  pub fits : InEach w (λ d.
      RowFits room (body_after f.depth d) (BodyFits room f.depth d) d (scope_of f.reader.at) row flow.position)
  pub standing : IsStanding w now flow

-- a body that may be
abbrev pub BodyWalks : WalkTables → Stand → BodyTree → Course → FlowTerms → Type 0
BodyWalks w f body = RowWalks w f (row_of (body_stmts body))
