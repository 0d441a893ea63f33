-- Where the targets are to which calls return.
use Rattle.std.proofs.Common.{◌≡◌, ℕ, ◌^◌, ◌≤◌, Bool, true, false, Option, None, Some, List, [], ◌∷◌, refl, sym, ap, ◌∙◌, subst}
use Rattle.std.specs.Prelude.{nat_lt, if◌then◌else◌}
use Rattle.std.proofs.lemmas.Option.{none-some}
use Rattle.tm_base.specs.declared.place.Place.{Place}
use Rattle.tm_syntax.specs.declared.tree.Ident.{Ident}
use Rattle.tm_syntax.specs.declared.design.Ty.{Ty}
use Rattle.tm_syntax.specs.Tree.{ExprTree, element}
use Rattle.tm_syntax.specs.Design.{DesignTree}
use Rattle.tm_syntax.specs.Design.Scope.{Scope}
use Rattle.tm_syntax.specs.Design.Cells.{Cell, cell, cell_type}
use Rattle.tm_scope.specs.Cells.{CellTables, HasCells, ScopedCells, scope_of}
use Rattle.tm_term.specs.Table.{IsSound, Table}
use Rattle.tm_term.specs.Value.{AreInputs, Extends, value_of}
use Rattle.tm_term.proofs.Valued.{Extends-trans}
use Rattle.tm_sem.specs.Value.{Memory, overruns}
use Rattle.tm_sem.specs.Run.{Ending}
use Rattle.tm_flat_exprs.specs.Kept.{Keeps}
use Rattle.tm_flat_stmts.specs.declared.operands.Operand.{Operand}
use Rattle.tm_flat_stmts.specs.Flows.{AreEnds, Continues, EndTerms, FlowKeeps, FlowTerms, IsFlow, Leads, TellsEnd, has_finished, is_on}
use Rattle.tm_flat_stmts.specs.Statements.{AreSettledCells, Asks, AsksOne}
use Rattle.tm_flat_stmts.specs.Targets.{HasTargetAt}
use Rattle.tm_flat_stmts.proofs.Assigning.{target_has_type}
use Rattle.tm_flat_stmts.proofs.Leading.{continues_from}
use Rattle.tm_flat_stmts.proofs.Leaving.{or_left}
use Rattle.tm_flat_stmts.proofs.Valuing.{asks_none, operands_grown}
use Rattle.tm_flat_stmts.specs.declared.places.TargetPlace.{TargetPlace}
use Rattle.tm_flat_stmts.specs.declared.places.TargetPlace.TheVariants.{Whole, Number, Found}
use Rattle.tm_flat_stmts.specs.Places.{FindsPlace, IsPlace, place_cell}
use Rattle.tm_flat_stmts.proofs.IntoElements.{elements_typed}
use Rattle.tm_flat_bodies.specs.declared.course.Course.{Course}
use Rattle.tm_flat_bodies.specs.Inner.Aimed.{Aims}

-- ---- pieces that do the same where a run stands
leads_where : (x : CellTables) (u : Table) (v : List ℕ) (number : Place → List Place → Option ℕ)
    (piece other : Memory → Ending) (f g : Option FlowTerms) (before after : EndTerms) →
    ((m : Memory) → is_on u v f ≡ true → FlowKeeps x u v f m → piece m ≡ other m) →
    Leads x u v number piece f before g after → Leads x u v number other f before g after
leads_where x u v number piece other f g before after alike one = record {
  goes = λ m on keeps. one.goes m on keeps ∙ ap has_finished (alike m on keeps);
  memory = λ m n on keeps is. one.memory m n on keeps (alike m on keeps ∙ is);
  ends = λ m on keeps quiet.
      subst (λ e. TellsEnd x u v number e after) (alike m on keeps) (one.ends m on keeps quiet);
  stays = one.stays;
  same = one.same;
}

pub continues_where : (x : CellTables) (number : Place → List Place → Option ℕ)
    (piece other : List ℕ → Memory → Ending) (to stands : Option ℕ) (t n : Table) (f : FlowTerms)
    (g : Option FlowTerms) (before after : EndTerms) →
    ((u : Table) → Extends n u → (v : List ℕ) → AreInputs u v → (m : Memory) → is_on u v (Some f) ≡ true →
    Keeps x u v f.memory m → piece v m ≡ other v m) → to ≡ stands →
    Continues x number piece to t n (Some f) before g after →
    Continues x number other stands t n (Some f) before g after
continues_where x number piece other to stands t n f g before after alike there one = record {
  grown = one.grown;
  sound = one.sound;
  flow = one.flow;
  ends = one.ends;
  count = one.count;
  position = one.position ∙ there;
  leads = λ u more v inputs.
      leads_where x u v number (piece v) (other v) (Some f) g before after (alike u more v inputs)
      (one.leads u more v inputs);
}

-- ---- places as terms are added
pub place_along : (t u : Table) (v : List ℕ) (d : DesignTree) (scope : Scope) (names : List Ident)
    (place : TargetPlace) → IsPlace t place → Extends t u →
    place_cell u v d scope names place ≡ place_cell t v d scope names place
place_along t u v d scope names Whole known grown = refl
place_along t u v d scope names (Number n) known grown = refl
place_along t u v d scope names (Found id count) known grown =
    ap (λ x. if nat_lt x count then cell d scope names (Some x) else None) (grown.values v id known.0)

pub place_known : (t n : Table) (place : TargetPlace) → Extends t n → IsPlace t place → IsPlace n place
place_known t n Whole grown known = tt
place_known t n (Number k) grown known = tt
place_known t n (Found id count) grown known =
    (grown.known id known.0, subst (λ w. count ≤ 2 ^ w) (sym (grown.widths id known.0)) known.1)

-- the cell of a place has the type of the target
pub place_typed : (s : ScopedCells) (ty : Ty) (names : List Ident) → AreSettledCells s → HasTargetAt s ty names →
    (t : Table) (v : List ℕ) (d : DesignTree) → HasCells s.tables d → (place : TargetPlace) (c : Cell) →
    place_cell t v d (scope_of s.at) names place ≡ Some c → cell_type d c ≡ Some ty
place_typed s ty names settled target t v d has Whole c found =
    target_has_type s ty names settled target d has c found
place_typed s ty names settled target t v d has (Number n) c found =
    elements_typed s ty names n settled target d has c found
place_typed s ty names settled target t v d has (Found id count) c found =
    by (nat_lt (value_of t v id) count) found
  where
    by : (b : Bool) → (if b then cell d (scope_of s.at) names (Some (value_of t v id)) else None) ≡ Some c →
        cell_type d c ≡ Some ty
    by true is = elements_typed s ty names (value_of t v id) settled target d has c is
    by false is = absurd (none-some c is)

-- ---- a target was found
asks_from : (s : ScopedCells) (es : List ExprTree) (t p n : Table) (f : FlowTerms) (before : EndTerms) (g : FlowTerms)
    (after : EndTerms) → Extends t p → Asks s es p n f before g after → Asks s es t n f before g after
asks_from s es t p n f before g after earlier asks = record {
  memory = asks.memory;
  stops = asks.stops;
  goes = λ d has number.
      let one = asks.goes d has number in
      continues_from s.tables number _ (Some f.position) t p n (Some f) (Some g) before after earlier one;
}

pub aims_whole : (s : ScopedCells) (names : List Ident) (from : Course) (f : FlowTerms) → IsSound from.terms →
    IsFlow s.tables from.terms f → AreEnds s.tables from.terms from.ends →
    Aims s names None from from f (record { flow = f; place = Whole })
aims_whole s names from f sound flow ends = record {
  asks = asks_none s from.terms f from.ends sound flow ends;
  known = tt;
  is = λ u more v inputs d has m keeps safe. refl;
  writes = λ d has i none. none;
}

pub aims_element : (s : ScopedCells) (ty : Ty) (names : List Ident) (index : ExprTree) (from now : Course) (p : Table)
    (f : FlowTerms) (place : TargetPlace) (x : Operand) →
    FindsPlace s f.memory names index from.terms p place →
    AsksOne s ty (element names index) p now.terms f from.ends now.ends x →
    Aims s names (Some index) from now f (record { flow = x.flow; place = place })
aims_element s ty names index from now p f place x found within =
    let grown : Extends p now.terms =
    operands_grown s (element names index ∷ []) p now.terms f from.ends x.flow now.ends within.asks in
    record {
      asks =
          asks_from s (element names index ∷ []) from.terms p now.terms f from.ends x.flow now.ends found.grown
          within.asks;
      known = place_known p now.terms place grown found.known;
      is = λ u more v inputs d has m keeps safe.
          found.is u (Extends-trans p now.terms u grown more) v inputs d has m keeps
          (or_left (overruns d (scope_of s.at) m (element names index)) false safe);
      writes = found.writes;
    }
