-- Branches and loops.
use Rattle.std.proofs.Common.{◌≡◌, ℕ, false, Option, None, Some, List, ◌||◌, refl, sym, ◌∙◌, subst}
use Rattle.std.specs.Prelude.{if◌then◌else◌}
use Rattle.tm_base.specs.declared.place.Place.{Place}
use Rattle.tm_syntax.specs.Tree.{ExprTree, StmtRow, branch, forever, repeat}
use Rattle.tm_syntax.specs.Design.Locations.{location_number}
use Rattle.tm_syntax.specs.Design.Scope.{Scope}
use Rattle.tm_scope.specs.Cells.{CellTables, ScopedCells, scope_of}
use Rattle.tm_design.proofs.Contexts.{some_cells, some_design}
use Rattle.tm_term.proofs.Valued.{Extends-trans}
use Rattle.tm_sem.specs.Value.{holds_in, overruns}
use Rattle.tm_sem.specs.Run.{blocked, failed, finished}
use Rattle.tm_flat.specs.BitRun.{followed_by, row_ending}
use Rattle.tm_flat.specs.Fitting.{BodyFits, RowFits}
use Rattle.tm_flat.specs.Inputs.{room}
use Rattle.tm_flat.specs.Positions.{body_after, later, row_after}
use Rattle.tm_flat.specs.Writes.{row_writes}
use Rattle.tm_flat_stmts.specs.Flows.{Continues, EndTerms, FlowTerms, IsFlow, LeadsOn}
use Rattle.tm_flat_stmts.specs.Statements.{Readers, reads}
use Rattle.tm_flat_stmts.proofs.Flowing.{ends_along, flow_along, second_flow}
use Rattle.tm_flat_stmts.proofs.Leaving.{leaves_cut, leaves_memory, or_left, or_right}
use Rattle.tm_flat_stmts.specs.declared.branches.Branches.{Branches}
use Rattle.tm_flat_stmts.specs.Parted.{Parts}
use Rattle.tm_flat_stmts.proofs.Parting.{parts_joined, parts_leave}
use Rattle.tm_flat_bodies.specs.declared.course.Course.{Course}
use Rattle.tm_flat_bodies.specs.declared.stand.Stand.{Stand}
use Rattle.tm_flat_bodies.specs.Asked.{RowIsTyped}
use Rattle.tm_flat_bodies.specs.Inner.Passing.{JoinsFlows}
use Rattle.tm_flat_bodies.specs.Walks.{AreWalkable, InEach, IsStand, IsStanding, RowLeads, RowWalks, StmtLeads, StmtWalks, WalkTables, readers_at}
use Rattle.tm_flat_bodies.proofs.Cutting.{continues_cut}
use Rattle.tm_flat_bodies.proofs.Standing.{bits_along, goes_nowhere, stands_beside}

-- what was parted, over the tables of the walk
over_tables : (s : ScopedCells) (x : CellTables) → s.tables ≡ x →
    s ≡ record { tables = x; at = s.at }
over_tables s x same i = record { tables = same i; at = s.at }

module _ (w : WalkTables) (f : Stand) (e : ExprTree) (from parted : Course) (flow : FlowTerms) (parts : Branches)
    (tables : f.reader.tables ≡ w.tables)
    (told : Parts f.reader e from.terms parted.terms flow from.ends parted.ends parts) where
  abbrev here : ScopedCells
  here = record { tables = w.tables; at = f.reader.at }

  over : Parts here e from.terms parted.terms flow from.ends parted.ends parts
  over =
      subst (λ s. Parts s e from.terms parted.terms flow from.ends parted.ends parts)
      (over_tables f.reader w.tables tables) told

  module _ (first second : StmtRow) (one two now : Course) (left right g : Option FlowTerms)
      (goes : RowLeads w f first parted one parts.first left) (other : RowLeads w f second one two parts.second right)
      (joins : JoinsFlows two now left right g) where
    pub branch_leads : StmtLeads w f (branch e first second) from now flow g
    branch_leads d p has are trail is =
        let r : Readers = readers_at f.depth w.first d in
        let scope : Scope = scope_of f.reader.at in
        let number : Place → List Place → Option ℕ = λ at calls. Some (location_number d p at calls) in
        let a = subst (λ i. LeadsOn w.tables number (λ v. row_ending (reads r v) scope trail first i)
        (row_after r.after d scope first i) (λ j. row_writes r.after (r.writes j) d scope j first i) parted.terms
        one.terms (Some parts.first) parted.ends left one.ends) told.first_position (goes d p has are trail is) in
        let b = subst (λ i. LeadsOn w.tables number (λ v. row_ending (reads r v) scope trail second i)
        (row_after r.after d scope second i) (λ j. row_writes r.after (r.writes j) d scope j second i) one.terms
        two.terms (Some parts.second) one.ends right two.ends) told.second_position (other d p has are trail is) in
        subst (λ (ends : EndTerms). LeadsOn w.tables number
        (λ v m. if overruns d scope m e || false
        then failed
        else (if holds_in d scope m e
        then row_ending (reads r v) scope trail first flow.position m
        else row_ending (reads r v) scope trail second flow.position m))
        (later (row_after r.after d scope first flow.position) (row_after r.after d scope second flow.position))
        (λ i. row_writes r.after (r.writes i) d scope i first flow.position
        || row_writes r.after (r.writes i) d scope i second flow.position) from.terms now.terms (Some flow) from.ends g
        ends) (sym joins.ends) (record {
          goes =
              parts_joined here e from.terms parted.terms one.terms two.terms now.terms flow from.ends parted.ends
              one.ends
              two.ends parts over d has number (λ v. row_ending (reads r v) scope trail first flow.position)
              (λ v. row_ending (reads r v) scope trail second flow.position)
              (row_after r.after d scope first flow.position) (row_after r.after d scope second flow.position) left
              right g
              a.goes b.goes joins.join;
          leaves = λ i none.
              parts_leave here e from.terms parted.terms one.terms two.terms now.terms flow from.ends parted.ends
              one.ends
              two.ends parts over d has number (λ v. row_ending (reads r v) scope trail first flow.position)
              (λ v. row_ending (reads r v) scope trail second flow.position)
              (row_after r.after d scope first flow.position) (row_after r.after d scope second flow.position) left
              right g
              a.goes b.goes joins.join i
              (a.leaves i
              (or_left (row_writes r.after (r.writes i) d scope i first flow.position)
              (row_writes r.after (r.writes i) d scope i second flow.position) none))
              (b.leaves i
              (or_right (row_writes r.after (r.writes i) d scope i first flow.position)
              (row_writes r.after (r.writes i) d scope i second flow.position) none));
        })

  module _ (body : StmtRow) (now : Course) (left : Option FlowTerms)
      (goes : RowLeads w f body parted now parts.first left) where
    pub repeat_leads : (at : Place) → StmtLeads w f (repeat at e body) from now flow (Some parts.second)
    repeat_leads at d p has are trail is =
        let r : Readers = readers_at f.depth w.first d in
        let scope : Scope = scope_of f.reader.at in
        let number : Place → List Place → Option ℕ = λ at calls. Some (location_number d p at calls) in
        let led = subst (λ i. LeadsOn w.tables number (λ v. row_ending (reads r v) scope trail body i)
        (row_after r.after d scope body i) (λ j. row_writes r.after (r.writes j) d scope j body i) parted.terms
        now.terms (Some parts.first) parted.ends left now.ends) told.first_position (goes d p has are trail is) in
        let a = led.goes in
        let stays = subst (λ i. Continues w.tables number (λ v m. finished m) (Some i) now.terms now.terms
        (Some parts.second) now.ends (Some parts.second) now.ends) told.second_position
        (goes_nowhere w.tables number now.terms parts.second now.ends a.sound
        (flow_along w.tables parted.terms now.terms parts.second a.grown over.second_flow) a.ends) in
        let cut = continues_cut w.tables number (λ v. row_ending (reads r v) scope trail body flow.position)
        (row_after r.after d scope body flow.position) parted.terms now.terms (Some parts.first) left parted.ends
        now.ends a in
        let last = second_flow now.terms (Some parts.second) a.sound in
        record {
          goes =
              parts_joined here e from.terms parted.terms now.terms now.terms now.terms flow from.ends parted.ends
              now.ends now.ends parts over d has number
              (λ v m. followed_by (row_ending (reads r v) scope trail body flow.position m) (λ _. blocked))
              (λ v m. finished m) None (Some flow.position) None (Some parts.second) (Some parts.second) cut stays last;
          leaves = λ i none.
              parts_leave here e from.terms parted.terms now.terms now.terms now.terms flow from.ends parted.ends
              now.ends now.ends parts over d has number
              (λ v m. followed_by (row_ending (reads r v) scope trail body flow.position m) (λ _. blocked))
              (λ v m. finished m) None (Some flow.position) None (Some parts.second) (Some parts.second) cut stays
              last i
              (leaves_cut i (Some parts.first) left parted.ends now.ends (led.leaves i none))
              (leaves_memory i parts.second parts.second now.ends now.ends refl refl);
        }

pub forever_leads : (w : WalkTables) (f : Stand) (body : StmtRow) (from now : Course) (flow : FlowTerms)
    (left : Option FlowTerms) → RowLeads w f body from now flow left → (at : Place) →
    StmtLeads w f (forever at body) from now flow None
forever_leads w f body from now flow left goes at d p has are trail is =
    let r : Readers = readers_at f.depth w.first d in
    let scope : Scope = scope_of f.reader.at in
    let led = goes d p has are trail is in
    record {
      goes =
          continues_cut w.tables (λ at calls. Some (location_number d p at calls))
          (λ v. row_ending (reads r v) scope trail body flow.position) (row_after r.after d scope body flow.position)
          from.terms now.terms (Some flow) left from.ends now.ends led.goes;
      leaves = λ i none. leaves_cut i (Some flow) left from.ends now.ends (led.leaves i none);
    }

-- ---- what may be walked within
module _ (w : WalkTables) (f : Stand) (e : ExprTree) (now : Course) (flow : FlowTerms) where
  parted_standing : (parted : Course) (parts : Branches) → f.reader.tables ≡ w.tables → IsStanding w now flow →
      Parts f.reader e now.terms parted.terms flow now.ends parted.ends parts → IsStanding w parted parts.first
  parted_standing parted parts tables standing told =
      let over = subst (λ s. Parts s e now.terms parted.terms flow now.ends parted.ends parts)
      (over_tables f.reader w.tables tables) told in
      let asked = over.asks.goes (some_design w.tables) (some_cells w.tables) (λ at calls. None) in
      record {
        sound = over.sound;
        bits = bits_along now.terms parted.terms w.first room
            (Extends-trans now.terms over.table parted.terms asked.grown over.grown) standing.bits;
        stands = over.first_flow;
        ended = ends_along w.tables over.table parted.terms parted.ends over.grown asked.ends;
        count = asked.count ∙ standing.count;
      }

  module _ (parted : Course) (parts : Branches) (stand : IsStand w f) (standing : IsStanding w now flow)
      (told : Parts f.reader e now.terms parted.terms flow now.ends parted.ends parts) where
    -- where the condition holds
    pub first_walks : (row : StmtRow) → RowIsTyped f.reader row →
        InEach w (λ d.
        RowFits room (body_after f.depth d) (BodyFits room f.depth d) d (scope_of f.reader.at) row flow.position) →
        RowWalks w f row parted parts.first
    first_walks row typed fits = record {
      stand = stand;
      typed = typed;
      fits = λ d p has are.
          subst (RowFits room (body_after f.depth d) (BodyFits room f.depth d) d (scope_of f.reader.at) row)
          (sym told.first_position) (fits d p has are);
      standing = parted_standing parted parts stand.tables standing told;
    }

    -- and where it does not, behind what was done where it holds
    pub second_walks : AreWalkable w → (first : StmtRow) (one : Course) (left : Option FlowTerms) →
        RowLeads w f first parted one parts.first left → (row : StmtRow) → RowIsTyped f.reader row →
        InEach w (λ d.
        RowFits room (body_after f.depth d) (BodyFits room f.depth d) d (scope_of f.reader.at) row flow.position) →
        RowWalks w f row one parts.second
    second_walks walkable first one left goes row typed fits = record {
      stand = stand;
      typed = typed;
      fits = λ d p has are.
          subst (RowFits room (body_after f.depth d) (BodyFits room f.depth d) d (scope_of f.reader.at) row)
          (sym told.second_position) (fits d p has are);
      standing = stands_beside w parted one parts.first parts.second
          (goes walkable.design walkable.process walkable.cells walkable.are stand.calls stand.trail).goes
          (parted_standing parted parts stand.tables standing told)
          (subst (λ x. IsFlow x parted.terms parts.second) stand.tables told.second_flow);
    }

-- the body of a `forever` may be walked
pub forever_walks : (w : WalkTables) (f : Stand) (at : Place) (body : StmtRow) (now : Course) (flow : FlowTerms) →
    StmtWalks w f (forever at body) now flow → RowWalks w f body now flow
forever_walks w f at body now flow walks = record {
  stand = walks.stand;
  typed = walks.typed;
  fits = λ d p has are. (walks.fits d p has are).1;
  standing = walks.standing;
}
