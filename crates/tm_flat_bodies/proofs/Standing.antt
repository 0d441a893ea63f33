-- Where runs stand behind what was led through.
use Rattle.std.proofs.Common.{◌≡◌, ℕ, ◌+◌, ◌≤◌, ◌<◌, Option, Some, List, slice_get, refl, sym, ap, ◌∙◌, subst, arith}
use Rattle.tm_base.specs.declared.place.Place.{Place}
use Rattle.tm_syntax.specs.declared.design.Ty.{Ty}
use Rattle.tm_syntax.specs.declared.tree.Ident.{Ident}
use Rattle.tm_syntax.specs.Tree.{ExprTree, StmtTree, assign, star}
use Rattle.tm_syntax.specs.Design.{DesignTree}
use Rattle.tm_syntax.specs.Design.Locations.{location_number}
use Rattle.tm_syntax.specs.Design.Scope.{Scope}
use Rattle.tm_scope.specs.Cells.{CellTables, HasCells, scope_of}
use Rattle.tm_term.specs.Table.{Table, IsSound}
use Rattle.tm_term.specs.Value.{Extends}
use Rattle.tm_sem.specs.Value.{Memory}
use Rattle.tm_sem.specs.Run.{Ending, finished}
use Rattle.tm_design.specs.Values.{HasParameters}
use Rattle.tm_flat.specs.Inputs.{room}
use Rattle.tm_flat.specs.Positions.{stmt_after, target_bits}
use Rattle.tm_flat.specs.Writes.{stmt_writes}
use Rattle.tm_design.specs.StepCells.{AreApart}
use Rattle.tm_flat_exprs.specs.Valued.{bits_in}
use Rattle.tm_flat_stmts.specs.Flows.{AreEnds, Continues, EndTerms, FlowTerms, IsFlow, Leads, LeadsOn}
use Rattle.tm_flat_stmts.specs.Statements.{AreSettledCells, LeadsThrough, Readers, stmt_piece}
use Rattle.tm_flat_stmts.specs.Targets.{HasTargetAt}
use Rattle.tm_flat_stmts.proofs.Flowing.{flow_along}
use Rattle.tm_flat_stmts.proofs.Pieces.{goes_on_after}
use Rattle.tm_flat_stmts.specs.Choices.{AreChoiceBits}
use Rattle.tm_flat_stmts.proofs.Choosing.{bits_told}
use Rattle.tm_flat_bodies.specs.declared.course.Course.{Course}
use Rattle.tm_flat_bodies.specs.declared.stand.Stand.{Stand}
use Rattle.tm_flat_bodies.specs.Walks.{AreWalkable, IsStand, IsStanding, StmtLeads, StmtWalks, WalkTables, readers_at}

-- ---- bits of choices
pub bits_along : (t n : Table) (first width : ℕ) → Extends t n → AreChoiceBits t first 0 width →
    AreChoiceBits n first 0 width
bits_along t n first width grown bits = record {
  small = bits.small;
  bits = λ i below. ap (λ xs. slice_get xs (first + 0 + i)) grown.inputs ∙ bits.bits i below;
}

pub bits_within : (t : Table) (first most k width : ℕ) → AreChoiceBits t first 0 most → k + width ≤ most →
    AreChoiceBits t first k width
bits_within t first most k width bits inside = record {
  small = omega (arith, bits.small, inside);
  bits = λ i below.
      let there : k + i < most = omega (arith, below, inside) in
      let same : first + k + i ≡ first + 0 + (k + i) = omega arith in
      ap (slice_get t.inputs) same ∙ bits.bits (k + i) there;
}

-- ---- where a run stands
pub stands_on : (w : WalkTables) (from now : Course) (flow h : FlowTerms)
    {number : Place → List Place → Option ℕ} {piece : List ℕ → Memory → Ending} {to : Option ℕ} →
    Continues w.tables number piece to from.terms now.terms (Some flow) from.ends (Some h) now.ends →
    IsStanding w from flow → IsStanding w now h
stands_on w from now flow h one standing = record {
  sound = one.sound;
  bits = bits_along from.terms now.terms w.first room one.grown standing.bits;
  stands = one.flow;
  ended = one.ends;
  count = one.count ∙ standing.count;
}

-- another flow of the earlier table stands there, too
pub stands_beside : (w : WalkTables) (from now : Course) (flow other : FlowTerms) {f g : Option FlowTerms}
    {number : Place → List Place → Option ℕ} {piece : List ℕ → Memory → Ending} {to : Option ℕ} →
    Continues w.tables number piece to from.terms now.terms f from.ends g now.ends →
    IsStanding w from flow → IsFlow w.tables from.terms other → IsStanding w now other
stands_beside w from now flow other one standing is = record {
  sound = one.sound;
  bits = bits_along from.terms now.terms w.first room one.grown standing.bits;
  stands = flow_along w.tables from.terms now.terms other one.grown is;
  ended = one.ends;
  count = one.count ∙ standing.count;
}

-- nothing is done
pub goes_nowhere : (x : CellTables) (number : Place → List Place → Option ℕ) (t : Table) (f : FlowTerms)
    (ends : EndTerms) → IsSound t → IsFlow x t f → AreEnds x t ends →
    Continues x number (λ v m. finished m) (Some f.position) t t (Some f) ends (Some f) ends
goes_nowhere x number t f ends sound flow are =
    goes_on_after x number (λ v m. m) t f f ends sound flow are refl refl (λ u more v inputs m on keeps. keeps)

-- ---- flows that go on at another position
leads_from : (x : CellTables) (u : Table) (v : List ℕ) (number : Place → List Place → Option ℕ)
    (piece : Memory → Ending) (f : FlowTerms) (k : ℕ) (g : Option FlowTerms) (before after : EndTerms) →
    Leads x u v number piece (Some (record { guard = f.guard; memory = f.memory; position = k })) before g after →
    Leads x u v number piece (Some f) before g after
leads_from x u v number piece f k g before after led = record {
  goes = led.goes;
  memory = led.memory;
  ends = led.ends;
  stays = led.stays;
  same = led.same;
}

-- what is led through from a flow at another position is from this one
pub continues_at : (x : CellTables) (number : Place → List Place → Option ℕ) (piece : List ℕ → Memory → Ending)
    (to : Option ℕ) (t n : Table) (f : FlowTerms) (k : ℕ) (g : Option FlowTerms) (before after : EndTerms) →
    Continues x number piece to t n (Some (record { guard = f.guard; memory = f.memory; position = k })) before g
    after →
    Continues x number piece to t n (Some f) before g after
continues_at x number piece to t n f k g before after one = record {
  grown = one.grown;
  sound = one.sound;
  flow = one.flow;
  ends = one.ends;
  count = one.count;
  position = one.position;
  leads = λ u more v inputs. leads_from x u v number (piece v) f k g before after (one.leads u more v inputs);
}

-- ---- as a body of an instance sees it
module _ (w : WalkTables) (f : Stand) (stand : IsStand w f) where
  pub cells_here : (d : DesignTree) → HasCells f.reader.tables d → HasCells w.tables d
  cells_here d has = subst (λ (x : CellTables). HasCells x d) stand.tables has

  pub settled_here : AreWalkable w → AreSettledCells f.reader
  settled_here walkable d has = walkable.settled d (cells_here d has)

  pub parameters_here : AreWalkable w → (d : DesignTree) → HasCells f.reader.tables d → HasParameters d
  parameters_here walkable d has = walkable.parameters d (cells_here d has)

  pub apart_here : AreWalkable w → AreApart f.reader.tables
  apart_here walkable = subst AreApart (sym stand.tables) walkable.apart

  pub flow_here : (t : Table) (g : FlowTerms) → IsFlow w.tables t g → IsFlow f.reader.tables t g
  flow_here t g is = subst (λ (x : CellTables). IsFlow x t g) (sym stand.tables) is

  pub ends_here : (t : Table) (ends : EndTerms) → AreEnds w.tables t ends → AreEnds f.reader.tables t ends
  ends_here t ends are = subst (λ (x : CellTables). AreEnds x t ends) (sym stand.tables) are

  -- a statement that leads through a body leads on in the walk
  pub through_leads : (s : StmtTree) (from now : Course) (flow : FlowTerms) (g : Option FlowTerms) →
      LeadsThrough f.reader w.first s from.terms now.terms flow from.ends g now.ends → StmtLeads w f s from now flow g
  through_leads s from now flow g through d p has are trail is =
      let r : Readers = readers_at f.depth w.first d in
      let scope : Scope = scope_of f.reader.at in
      let number : Place → List Place → Option ℕ = λ at calls. Some (location_number d p at calls) in
      subst (λ (x : CellTables). LeadsOn x number (stmt_piece r scope trail s flow.position)
      (stmt_after r.after r.design scope s flow.position)
      (λ i. stmt_writes r.after (r.writes i) r.design scope i s flow.position) from.terms now.terms (Some flow)
      from.ends
      g now.ends) stand.tables
      (through r (subst (λ (x : CellTables). HasCells x d) (sym stand.tables) has) refl trail number)

  -- the bits of a choice that is assigned are there
  pub star_bits : AreWalkable w → (ty : Ty) (names : List Ident) (index : Option ExprTree) (at : Place) (now : Course)
      (flow : FlowTerms) → StmtWalks w f (assign names index (star at)) now flow → HasTargetAt f.reader ty names →
      AreChoiceBits now.terms w.first flow.position (bits_in f.reader ty)
  star_bits walkable ty names index at now flow walks target =
      let d : DesignTree = walkable.design in
      let has : HasCells f.reader.tables d =
      subst (λ (x : CellTables). HasCells x d) (sym stand.tables) walkable.cells in
      let inside : flow.position + target_bits d (scope_of f.reader.at) names ≤ room =
      walks.within d walkable.process walkable.cells walkable.are in
      bits_within now.terms w.first room flow.position (bits_in f.reader ty) walks.standing.bits
      (subst (λ n. flow.position + n ≤ room) (bits_told f.reader ty names target d has) inside)
