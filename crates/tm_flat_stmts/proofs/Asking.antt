-- Statements that ask for a condition.
use Rattle.std.proofs.Common.{◌≡◌, ℕ, ◌==◌, Bool, true, false, Some, List, [], ◌∷◌, refl, ap, ◌∙◌, subst}
use Rattle.std.specs.Prelude.{not, if◌then◌else◌}
use Rattle.tm_base.specs.declared.place.Place.{Place}
use Rattle.tm_base.specs.Arithmetic.{bit, is_nonzero}
use Rattle.tm_syntax.specs.declared.design.Ty.TheVariants as types
use Rattle.tm_syntax.specs.Tree.{ExprTree, assert, assume}
use Rattle.tm_syntax.specs.Design.{DesignTree}
use Rattle.tm_scope.specs.Cells.{HasCells, ScopedCells, scope_of}
use Rattle.tm_term.specs.declared.term.TermId.{TermId}
use Rattle.tm_term.specs.Table.{Table}
use Rattle.tm_term.specs.Value.{AreInputs, value_of, Extends}
use Rattle.tm_term.proofs.Valued.{Extends-trans}
use Rattle.tm_sem.specs.Run.{failed, finished, blocked}
use Rattle.tm_sem.specs.Value.{Memory, holds_in}
use Rattle.tm_flat_exprs.specs.Kept.{Keeps}
use Rattle.tm_flat_exprs.specs.Made.{Makes, truth_at}
use Rattle.tm_flat_stmts.specs.declared.operands.Operand.{Operand}
use Rattle.tm_flat_stmts.specs.Flows.{AreEnds, EndTerms, Fails, FlowTerms, IsFlow, Narrows}
use Rattle.tm_flat_stmts.specs.Statements.{AsksOne, LeadsThrough}
use Rattle.tm_flat_stmts.proofs.Flowing.{denied_bit, ends_along, flow_along}
use Rattle.tm_flat_stmts.proofs.Leading.{continues_from, continues_so}
use Rattle.tm_flat_stmts.proofs.Leaving.{leaves_asked, leaves_memory, leaves_then}
use Rattle.tm_flat_stmts.proofs.Valuing.{behind_operands, operands_ends, operands_flow, operands_position}
use Rattle.tm_flat_stmts.proofs.Pieces.{fails_or_goes_on, goes_on_where}

module _ (s : ScopedCells) (e : ExprTree) (t p : Table) (f : FlowTerms) (before mid : EndTerms) (x : Operand)
    (tests : AsksOne s types.Bool e t p f before mid x) where
  -- the term of a condition is 1 where it holds
  pub holds : (u : Table) → Extends p u → (v : List ℕ) → AreInputs u v → (d : DesignTree) → HasCells s.tables d →
      (m : Memory) → Keeps s.tables u v x.flow.memory m →
      is_nonzero (value_of u v x.value) ≡ holds_in d (scope_of s.at) m e
  holds u more v inputs d has m keeps =
      ap is_nonzero
      (tests.value.means u more v inputs d has m (subst (λ k. Keeps s.tables u v k m) tests.asks.memory keeps))

  pub tested_flow : IsFlow s.tables p x.flow
  tested_flow = operands_flow s (e ∷ []) t p f before x.flow mid tests.asks

  pub tested_ends : AreEnds s.tables p mid
  tested_ends = operands_ends s (e ∷ []) t p f before x.flow mid tests.asks

  pub same_position : Some x.flow.position ≡ Some f.position
  same_position = operands_position s (e ∷ []) t p f before x.flow mid tests.asks

  pub assumed_so : (at : Place) (first : ℕ) (n : Table) (g : FlowTerms) →
      Narrows p n x.flow g (λ u v. is_nonzero (value_of u v x.value)) →
      LeadsThrough s first (assume at e) t n f before (Some g) mid
  assumed_so at first n g narrow r has here trail number = record {
    goes =
        behind_operands s (e ∷ []) t p f before x.flow mid tests.asks r.design has number
        (λ v m. if holds_in r.design (scope_of s.at) m e then finished m else blocked) (Some f.position) n (Some g) mid
        (continues_so s.tables number
        (λ v m. if holds_in r.design (scope_of s.at) m e then finished m else blocked)
        (λ v m. if holds_in r.design (scope_of s.at) m e then finished m else blocked)
        (Some x.flow.position) (Some f.position) p n (Some x.flow) (Some g) mid mid (λ v m. refl) same_position
        (goes_on_where s.tables number (λ v m. holds_in r.design (scope_of s.at) m e) p n x.flow g mid
        (λ u v. is_nonzero (value_of u v x.value)) narrow
        (λ u more v inputs m on keeps.
        holds u (Extends-trans p n u narrow.grown more) v inputs r.design has m keeps) tested_flow tested_ends));
    leaves = λ i none.
        leaves_then i (Some f) (Some x.flow) (Some g) before mid mid
        (leaves_asked i s (e ∷ []) t p f before x.flow mid tests.asks)
        (leaves_memory i x.flow g mid mid narrow.memory refl);
  }

  flipped : (b : Bool) (m : Memory) →
      (if not b then failed else finished m) ≡ (if b then finished m else failed)
  flipped true m = refl
  flipped false m = refl

  twice_denied : (b : Bool) → b ≡ not (not b)
  twice_denied true = refl
  twice_denied false = refl

  pub asserted_so : (at : Place) (first : ℕ) (q l n : Table) (g : FlowTerms) (fails : TermId) (after : EndTerms) →
      Makes p q 1 fails (λ u v. bit (value_of u v x.value == 0)) →
      Fails q l x.flow (λ u v. truth_at u v (Some fails)) mid after →
      Narrows l n x.flow g (λ u v. is_nonzero (value_of u v x.value)) →
      LeadsThrough s first (assert at e) t n f before (Some g) after
  asserted_so at first q l n g fails after denial told narrow r has here trail number =
      let late : Extends q n = Extends-trans q l n told.grown narrow.grown in
      record {
        goes =
            behind_operands s (e ∷ []) t p f before x.flow mid tests.asks r.design has number
            (λ v m. if holds_in r.design (scope_of s.at) m e then finished m else failed) (Some f.position) n (Some g)
            after
            (continues_so s.tables number
            (λ v m. if not (holds_in r.design (scope_of s.at) m e) then failed else finished m)
            (λ v m. if holds_in r.design (scope_of s.at) m e then finished m else failed)
            (Some x.flow.position) (Some f.position) p n (Some x.flow) (Some g) mid after
            (λ v m. flipped (holds_in r.design (scope_of s.at) m e) m) same_position
            (continues_from s.tables number
            (λ v m. if not (holds_in r.design (scope_of s.at) m e) then failed else finished m) (Some x.flow.position)
            p q n
            (Some x.flow) (Some g) mid after denial.grown
            (fails_or_goes_on s.tables number (λ v m. not (holds_in r.design (scope_of s.at) m e)) q l n x.flow g mid
            after
            (λ u v. truth_at u v (Some fails)) (λ u v. is_nonzero (value_of u v x.value))
            (flow_along s.tables p q x.flow denial.grown tested_flow)
            (ends_along s.tables p q mid denial.grown tested_ends)
            told narrow
            (λ u more v inputs m on keeps.
            ap is_nonzero (denial.value u (Extends-trans q n u late more) v inputs)
            ∙ denied_bit (value_of u v x.value == 0)
            ∙ ap not (holds u (Extends-trans p q u denial.grown (Extends-trans q n u late more)) v inputs r.design has m
            keeps))
            (λ u more v inputs m on keeps.
            holds u (Extends-trans p q u denial.grown (Extends-trans q n u late more)) v inputs r.design has m keeps
            ∙ twice_denied (holds_in r.design (scope_of s.at) m e)))));
        leaves = λ i none.
            leaves_then i (Some f) (Some x.flow) (Some g) before mid after
            (leaves_asked i s (e ∷ []) t p f before x.flow mid tests.asks)
            (leaves_memory i x.flow g mid after narrow.memory told.stops);
      }
