-- Assignments to targets without an index.
use Rattle.std.proofs.Common.{◌≡◌, ℕ, false, Option, None, Some, List, [], ◌∷◌, refl, sym, ap, ◌∙◌, subst}
use Rattle.std.specs.Prelude.{unwrap_or}
use Rattle.std.specs.Option.{option_and_then, option_map, option_map_or}
use Rattle.std.proofs.lemmas.Option.{none-some, same_Some}
use Rattle.tm_syntax.specs.declared.tree.Ident.{Ident}
use Rattle.tm_syntax.specs.declared.design.Ty.{Ty}
use Rattle.tm_syntax.specs.declared.design.Ty.TheVariants as types
use Rattle.tm_syntax.specs.Tree.{ExprTree, assign, path, plain}
use Rattle.tm_syntax.specs.Scopes.Context.{Context}
use Rattle.tm_syntax.specs.Scopes.Types.{constant_type, either_type, named_type, own_type}
use Rattle.tm_syntax.specs.Design.{DesignTree}
use Rattle.tm_syntax.specs.Design.Scope.{Scope, context}
use Rattle.tm_syntax.specs.Design.Cells.{Cell, cell, cell_type}
use Rattle.tm_scope.specs.Cells.{HasCells, IsCellNumber, ScopedCells, cell_at, scope_of}
use Rattle.tm_scope.specs.Types.{ty_of}
use Rattle.tm_scope.specs.declared.cells.site_body.CellNumber.{CellNumber}
use Rattle.tm_scope.specs.declared.cells.site_body.SiteBody.{SiteBody}
use Rattle.tm_scope.specs.declared.types.ExprType.{ExprType}
use Rattle.tm_scope.specs.declared.types.ExprType.TheVariants as written
use Rattle.tm_term.specs.declared.term.TermId.{TermId}
use Rattle.tm_term.specs.Table.{Table}
use Rattle.tm_term.specs.Value.{value_of}
use Rattle.tm_sem.specs.Run.{asked_by, finished, put_in}
use Rattle.tm_sem.specs.Value.{Memory, put, value}
use Rattle.tm_flat.specs.Steps.{IsTerm}
use Rattle.tm_flat.specs.Writes.{is_variable}
use Rattle.tm_design.proofs.Contexts.{context_is, some_cells, some_design}
use Rattle.tm_flat_exprs.specs.Kept.{Keeps, type_at}
use Rattle.tm_design.specs.StepCells.{AreApart}
use Rattle.tm_flat_exprs.specs.Valued.{CellHasType}
use Rattle.tm_flat_exprs.proofs.Reading.{Tells, number_type}
use Rattle.tm_flat_stmts.specs.declared.operands.Operand.{Operand}
use Rattle.tm_flat_stmts.specs.Flows.{EndTerms, FlowTerms, IsFlow, PutsAt}
use Rattle.tm_flat_stmts.specs.Statements.{AreSettledCells, AsksOne, LeadsThrough}
use Rattle.tm_flat_stmts.specs.Targets.{HasTargetAt, Puts}
use Rattle.tm_flat_stmts.proofs.Leading.{continues_so}
use Rattle.tm_flat_stmts.proofs.Leaving.{leaves_asked, leaves_stops, leaves_then, or_left}
use Rattle.tm_flat_stmts.proofs.Valuing.{behind_operands, operands_ends, operands_flow, operands_position, operands_sound}
use Rattle.tm_flat_stmts.proofs.Pieces.{goes_on_after}

-- ---- types
pub own_of_name : (c : Context) (names : List Ident) (ty : Ty) → named_type c names ≡ Some ty →
    own_type c (path names) ≡ Some ty
own_of_name c names ty named = ap (λ o. either_type o (constant_type c.spec names)) named

pub target_has_type : (s : ScopedCells) (ty : Ty) (names : List Ident) → AreSettledCells s → HasTargetAt s ty names →
    CellHasType s names None ty
target_has_type s ty names settled target d has c found =
    (settled d has).variables (scope_of s.at) target.context names ty c
    (context_is s target.context target.stands d has) (own_of_name target.context names ty target.named) found

pub type_told : (s : ScopedCells) (ty : Ty) (names : List Ident) (o : Option ExprType) →
    ((d : DesignTree) → HasCells s.tables d →
    option_map ty_of o ≡ option_and_then (λ c. named_type c names) (context d (scope_of s.at))) →
    HasTargetAt s ty names → ty_of (unwrap_or o written.Bool) ≡ ty
type_told s ty names o told target =
    by o
    (told (some_design s.tables) (some_cells s.tables)
    ∙ ap (option_and_then (λ c. named_type c names))
    (context_is s target.context target.stands (some_design s.tables) (some_cells s.tables))
    ∙ target.named)
  where
    by : (o : Option ExprType) → option_map ty_of o ≡ Some ty → ty_of (unwrap_or o written.Bool) ≡ ty
    by None is = absurd (none-some ty is)
    by (Some t) is = same_Some (ty_of t) ty is

-- ---- a term is put into what a path means
module _ (s : ScopedCells) (names : List Ident) (index : Option ℕ) (id : TermId) (f : FlowTerms) where
  pub put_there : (at : SiteBody) (number : CellNumber) (g : FlowTerms) → at ≡ s.at →
      IsCellNumber s.tables s.at (Some number) → Tells s names index (Some number) → PutsAt at number id f g →
      Puts s names index id f g
  put_there at number g same there tells puts = record {
    guard = puts.guard;
    position = puts.position;
    memory = λ t ty memory typed term.
        puts.memory s.tables t ty memory
        (subst (λ a. type_at s.tables a number ≡ Some ty) (sym same)
        (number_type s f.memory ty names index number typed there tells)) term;
    keeps = λ apart u v d has m keeps.
        subst (λ o. Keeps s.tables u v g.memory (put_in m o (value_of u v id))) (sym there.1 ∙ tells d has)
        (puts.keeps s.tables apart u v m there.0 keeps
        (subst (λ a. cell_at s.tables a number ≡ Some there.0) (sym same) there.1));
    leaves = λ d has i had none is.
        puts.leaves s.tables there.0 (subst (λ a. cell_at s.tables a number ≡ Some there.0) (sym same) there.1) i had
        (ap (λ o. option_map_or (is_variable i) o false) (sym there.1 ∙ tells d has) ∙ none) is;
  }

  pub put_nowhere : Tells s names index None → Puts s names index id f f
  put_nowhere tells = record {
    guard = refl;
    position = refl;
    memory = λ t ty memory typed term. memory;
    keeps = λ apart u v d has m keeps.
        subst (λ o. Keeps s.tables u v f.memory (put_in m o (value_of u v id))) (tells d has) keeps;
    leaves = λ d has i had none is. is;
  }

-- ---- a value is assigned
-- the type that a target asks for is that of its path
pub same_put : (d : DesignTree) (at : Scope) (m : Memory) (e : ExprTree) (ty : Ty) (o : Option Cell) →
    ((c : Cell) → o ≡ Some c → cell_type d c ≡ Some ty) →
    put_in m o (value d at m ty e) ≡ put_in m o (value d at m (asked_by d o) e)
same_put d at m e ty None typed = refl
same_put d at m e ty (Some c) typed =
    ap (λ a. put m c (value d at m a e)) (sym (ap (λ o. unwrap_or o types.Bool) (typed c refl)))

module _ (s : ScopedCells) (names : List Ident) (ty : Ty) (e : ExprTree) (t p : Table) (f g : FlowTerms)
    (before mid : EndTerms) (x : Operand) (settled : AreSettledCells s) (apart : AreApart s.tables)
    (target : HasTargetAt s ty names) (asks : AsksOne s ty e t p f before mid x)
    (puts : Puts s names None x.value x.flow g) where
  flow : IsFlow s.tables p x.flow
  flow = operands_flow s (e ∷ []) t p f before x.flow mid asks.asks

  after_flow : IsFlow s.tables p g
  after_flow = record {
    guard = subst (IsTerm p 1) (sym puts.guard) flow.guard;
    memory = puts.memory p ty flow.memory (target_has_type s ty names settled target) asks.value.term;
  }

  pub assigned_so : (first : ℕ) → LeadsThrough s first (assign names None (plain e)) t p f before (Some g) mid
  assigned_so first r has here trail number = record {
    goes =
        let at = scope_of s.at in
        let o : Option Cell = cell r.design at names None in
        let after : Memory → Memory = λ m. put_in m o (value r.design at m (asked_by r.design o) e) in
        behind_operands s (e ∷ []) t p f before x.flow mid asks.asks r.design has number (λ v m. finished (after m))
        (Some f.position) p (Some g) mid
        (continues_so s.tables number (λ v m. finished (after m)) (λ v m. finished (after m)) (Some x.flow.position)
        (Some f.position) p p (Some x.flow) (Some g) mid mid (λ v m. refl)
        (operands_position s (e ∷ []) t p f before x.flow mid asks.asks)
        (goes_on_after s.tables number (λ v m. after m) p x.flow g mid
        (operands_sound s (e ∷ []) t p f before x.flow mid asks.asks) after_flow
        (operands_ends s (e ∷ []) t p f before x.flow mid asks.asks) puts.guard puts.position
        (λ u more v inputs m on keeps.
        subst (Keeps s.tables u v g.memory)
        (ap (put_in m o)
        (asks.value.means u more v inputs r.design has m (subst (λ k. Keeps s.tables u v k m) asks.asks.memory keeps))
        ∙ same_put r.design at m e ty o (target_has_type s ty names settled target r.design has))
        (puts.keeps apart u v r.design has m keeps))));
    leaves = λ i none.
        leaves_then i (Some f) (Some x.flow) (Some g) before mid mid
        (leaves_asked i s (e ∷ []) t p f before x.flow mid asks.asks)
        (leaves_stops i x.flow (Some g) mid mid
        (λ id is. puts.leaves r.design has i id
        (or_left (option_map_or (is_variable i) (cell r.design (scope_of s.at) names None) false) false none) is) refl);
  }
