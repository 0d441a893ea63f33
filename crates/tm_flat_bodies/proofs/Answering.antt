-- What a called body returns is put into a target.
use Rattle.std.proofs.Common.{◌≡◌, ℕ, Bool, true, false, Option, None, Some, List, [], ◌∷◌, ◌||◌, refl, sym, ap, ◌∙◌, subst}
use Rattle.std.specs.Prelude.{if◌then◌else◌}
use Rattle.std.specs.Option.{option_map_or}
use Rattle.tm_base.specs.declared.place.Place.{Place}
use Rattle.tm_syntax.specs.declared.design.Ty.{Ty}
use Rattle.tm_syntax.specs.declared.tree.Ident.{Ident}
use Rattle.tm_syntax.specs.Tree.{ExprTree}
use Rattle.tm_syntax.specs.Design.{DesignTree}
use Rattle.tm_syntax.specs.Design.Cells.{Called, Cell}
use Rattle.tm_syntax.specs.Design.Scope.{Scope}
use Rattle.tm_scope.specs.Cells.{CellTables, HasCells, ScopedCells, scope_of}
use Rattle.tm_scope.specs.declared.cells.site_body.SiteBody.{SiteBody}
use Rattle.tm_term.specs.Table.{Table, IsSound}
use Rattle.tm_term.specs.Value.{Extends, value_of}
use Rattle.tm_term.proofs.Valued.{Extends-trans}
use Rattle.tm_sem.specs.Value.{Memory, overruns, value}
use Rattle.tm_sem.specs.Run.{Ending, asked_by, failed, finished, put_in}
use Rattle.tm_flat.specs.BitRun.{delivers, returns}
use Rattle.tm_flat.specs.Steps.{IsTerm}
use Rattle.tm_flat_exprs.specs.Kept.{Keeps}
use Rattle.tm_flat_exprs.proofs.Later.{term_along}
use Rattle.tm_flat_stmts.specs.declared.operands.Operand.{Operand}
use Rattle.tm_flat_stmts.specs.Flows.{AreEnds, EndTerms, FlowTerms, IsFlow, LeadsOn}
use Rattle.tm_flat_stmts.specs.Statements.{AreSettledCells, AsksOne}
use Rattle.tm_flat_stmts.specs.Targets.{HasTargetAt}
use Rattle.tm_flat_stmts.proofs.Assigning.{same_put}
use Rattle.tm_flat_stmts.proofs.Flowing.{ends_along}
use Rattle.tm_flat_stmts.proofs.Leading.{continues_from, continues_so}
use Rattle.tm_flat_stmts.proofs.Leaving.{leaves_asked, leaves_memory, leaves_stops, leaves_then}
use Rattle.tm_flat_stmts.proofs.Pieces.{goes_on_after}
use Rattle.tm_flat_stmts.proofs.Valuing.{behind_operands, operands_ends, operands_flow, operands_grown, operands_position}
use Rattle.tm_flat_stmts.specs.declared.places.TargetPlace.{TargetPlace}
use Rattle.tm_flat_stmts.specs.Places.{IsPlace, PutsPlace, place_cell, place_writes}
use Rattle.tm_flat_bodies.proofs.Aiming.{place_along, place_typed}
use Rattle.tm_flat_bodies.proofs.Standing.{goes_nowhere}

-- nothing is returned
pub none_returned : (x : CellTables) (t : Table) (f : FlowTerms) (ends : EndTerms) → IsSound t → IsFlow x t f →
    AreEnds x t ends → (d : DesignTree) (o : List ℕ → Option Cell) (writes : ℕ → Bool) (c : Called) →
    c.body.answer ≡ None → (number : Place → List Place → Option ℕ) →
    LeadsOn x number (λ v. returns d (o v) c) (Some f.position) writes t t (Some f) ends (Some f) ends
none_returned x t f ends sound flow are d o writes c none number = record {
  goes =
      continues_so x number (λ v m. finished m) (λ v. returns d (o v) c) (Some f.position) (Some f.position) t t
      (Some f)
      (Some f) ends ends
      (λ v m. sym (ap (λ (a : Option ExprTree). option_map_or (λ e. delivers d (o v) c.scope e m) a (finished m)) none))
      refl (goes_nowhere x number t f ends sound flow are);
  leaves = λ i unwritten. leaves_memory i f f ends ends refl refl;
}

or_none : (b : Bool) (e : Ending) → (if b || false then failed else e) ≡ (if b then failed else e)
or_none true e = refl
or_none false e = refl

module _ (x : CellTables) (here there : SiteBody) (names : List Ident) (ty : Ty) (e : ExprTree) (place : TargetPlace)
    (t p q : Table) (f g : FlowTerms) (before mid : EndTerms) (found : Operand)
    (settled : AreSettledCells (record { tables = x; at = here }))
    (target : HasTargetAt (record { tables = x; at = here }) ty names) (known : IsPlace t place)
    (asks : AsksOne (record { tables = x; at = there }) ty e t p f before mid found)
    (puts : PutsPlace (record { tables = x; at = here }) names place found.value p q found.flow g) where
  abbrev outer : ScopedCells
  outer = record { tables = x; at = here }

  abbrev inner : ScopedCells
  inner = record { tables = x; at = there }

  flow : IsFlow x p found.flow
  flow = operands_flow inner (e ∷ []) t p f before found.flow mid asks.asks

  after_flow : IsFlow x q g
  after_flow = record {
    guard = subst (IsTerm q 1) (sym puts.guard) (term_along p q 1 found.flow.guard puts.grown flow.guard);
    memory = puts.memory;
  }

  pub one_returned : (d : DesignTree) → HasCells x d → (c : Called) → c.scope ≡ scope_of there →
      c.body.answer ≡ Some e → (number : Place → List Place → Option ℕ) →
      LeadsOn x number (λ v. returns d (place_cell t v d (scope_of here) names place) c) (Some f.position)
      (λ i. place_writes d (scope_of here) i names place) t q (Some f) before (Some g) mid
  one_returned d has c scope is number = record {
    goes =
        let o : List ℕ → Option Cell = λ v. place_cell t v d (scope_of here) names place in
        let at : Scope = scope_of there in
        let after : List ℕ → Memory → Memory = λ v m. put_in m (o v) (value d at m (asked_by d (o v)) e) in
        let grown : Extends t p = operands_grown inner (e ∷ []) t p f before found.flow mid asks.asks in
        continues_so x number (λ v m. if overruns d at m e || false then failed else finished (after v m))
        (λ v. returns d (o v) c) (Some f.position) (Some f.position) t q (Some f) (Some g) before mid
        (λ v m. or_none (overruns d at m e) (finished (after v m))
        ∙ (λ i. delivers d (o v) (sym scope i) e m)
        ∙ sym (ap (λ (a : Option ExprTree). option_map_or (λ e. delivers d (o v) c.scope e m) a (finished m)) is)) refl
        (behind_operands inner (e ∷ []) t p f before found.flow mid asks.asks d has number
        (λ v m. finished (after v m)) (Some f.position) q (Some g) mid
        (continues_so x number (λ v m. finished (after v m)) (λ v m. finished (after v m)) (Some found.flow.position)
        (Some f.position) p q (Some found.flow) (Some g) mid mid (λ v m. refl)
        (operands_position inner (e ∷ []) t p f before found.flow mid asks.asks)
        (continues_from x number (λ v m. finished (after v m)) (Some found.flow.position) p q q (Some found.flow)
        (Some g) mid mid puts.grown
        (goes_on_after x number after q found.flow g mid puts.sound after_flow
        (ends_along x p q mid puts.grown (operands_ends inner (e ∷ []) t p f before found.flow mid asks.asks))
        puts.guard
        puts.position
        (λ u more v inputs m on keeps.
        let later : Extends p u = Extends-trans p q u puts.grown more in
        let kept : Keeps x u v f.memory m = subst (λ k. Keeps x u v k m) asks.asks.memory keeps in
        subst (Keeps x u v g.memory)
        (ap (λ a. put_in m a (value_of u v found.value))
        (place_along t u v d (scope_of here) names place known (Extends-trans t p u grown later))
        ∙ ap (put_in m (o v)) (asks.value.means u later v inputs d has m kept)
        ∙ same_put d at m e ty (o v) (place_typed outer ty names settled target t v d has place))
        (puts.keeps u more v inputs d has m keeps))))));
    leaves = λ i none.
        leaves_then i (Some f) (Some found.flow) (Some g) before mid mid
        (leaves_asked i inner (e ∷ []) t p f before found.flow mid asks.asks)
        (leaves_stops i found.flow (Some g) mid mid (λ had is. puts.leaves d has i had none is) refl);
  }
