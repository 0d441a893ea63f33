-- The terms of truths that stand in a body of an instance.
use Rattle.std.proofs.Common.{◌≡◌, ℕ, zero, suc, ◌^◌, ◌<◌, ◌==◌, Option, None, Some, length, take, refl, sym, ap, ◌∙◌, subst, arith}
use Rattle.std.specs.Prelude.{IfNone, IfSome, not}
use Rattle.std.specs.Option.{option_map}
use Rattle.tm_base.specs.Arithmetic.{bit}
use Rattle.tm_syntax.specs.declared.design.Design.{Design}
use Rattle.tm_syntax.specs.declared.design.Ty.TheVariants as types
use Rattle.tm_syntax.specs.Tree.{ExprTree}
use Rattle.tm_syntax.specs.Design.{DesignTree}
use Rattle.tm_syntax.specs.Design.Atoms.{resolved}
use Rattle.tm_syntax.specs.Design.Scope.{site}
use Rattle.tm_syntax.specs.Design.View.{design_tree}
use Rattle.tm_scope.specs.Cells.{CellTables, HasCells, ScopedCells, scope_of}
use Rattle.tm_scope.specs.declared.cells.site_body.SiteBody.{SiteBody}
use Rattle.tm_design.specs.Typed.{HasTypeAt, context_at}
use Rattle.tm_design.proofs.Contexts.{context_here, of_site}
use Rattle.tm_term.specs.Table.{Table}
use Rattle.tm_term.specs.Value.{value_of}
use Rattle.tm_term.proofs.Valued.{Extends-trans}
use Rattle.tm_sem.specs.Value.{plain_memory}
use Rattle.tm_flat_exprs.specs.declared.valued.Valued.{Valued}
use Rattle.tm_flat_exprs.specs.Kept.{KeptTerms}
use Rattle.tm_flat_exprs.specs.Made.{Makes}
use Rattle.tm_flat_exprs.specs.Tables.{cells_of}
use Rattle.tm_flat_exprs.specs.Valued.{Finds, IsReady}
use Rattle.tm_flat_exprs.proofs.Later.{below_later}
use Rattle.tm_flat_states.specs.Conditions.{HasInputs}
use Rattle.tm_flat_states.specs.Markable.{IsMarkable}
use Rattle.tm_flat_states.proofs.StatedTerms.{no_scope, own_cells, scope_found}
use Rattle.tm_flat_pool.specs.Inner.Holding.{body_of, held}
use Rattle.tm_flat_pool.specs.Inner.Marks.{variable_in}

itself : (x : ℕ) → x < 2 ^ 1 → bit (not (x == 0)) ≡ x
itself zero below = refl
itself (suc zero) below = refl
itself (suc (suc x)) below = absurd (omega arith)

pub ready_in : (s : ScopedCells) (d : Design) (at : SiteBody) (t : Table) (k : KeptTerms) → s ≡ body_of d at →
    IsMarkable d → HasInputs (cells_of d) t k → IsReady s t k
ready_in s d at t k same markable has = subst (λ w. IsReady w t k) (sym same) (record {
  settled = markable.settled;
  sound = has.sound;
  kept = has.kept;
})

pub holds_made : (s : ScopedCells) (d : Design) (at : SiteBody) (t n : Table) (k : KeptTerms) (e : ExprTree)
    (found : Valued) →
    s ≡ body_of d at → HasInputs (cells_of d) t k → Finds s k types.Bool e t n found →
    Makes t n 1 found.value (λ u v. bit (held (design_tree d) (scope_of at) v e))
holds_made s d at t n k e found same has finds = by (subst (λ w. Finds w k types.Bool e t n found) same finds)
  where
    by : Finds (body_of d at) k types.Bool e t n found →
        Makes t n 1 found.value (λ u v. bit (held (design_tree d) (scope_of at) v e))
    by finds = record {
      grown = finds.grown;
      sound = finds.ready.sound;
      term = finds.value;
      value = λ u more v are.
          let is = (finds.means u more v are).value (record {
            design = design_tree d;
            memory = plain_memory (take (length d.vars.items) v);
            cells = own_cells d;
            keeps = has.keeps u (Extends-trans t n u finds.grown more) v are;
          }) in
          let below = below_later n u v 1 found.value finds.ready.sound finds.value more are in
          sym (ap (λ x. bit (not (x == 0))) is ∙ itself (value_of u v found.value) below);
    }

-- ---- the reader of a body
-- an expression that has a type stands in an instance of the design
pub has_site : (d : Design) (at : SiteBody) (e : ExprTree) → HasTypeAt (body_of d at) types.Bool e →
    site (design_tree d) at.instance ≡ None → ⊥
has_site d at e h none =
    let s = body_of d at in
    let missing : context_at s ≡ None =
    sym (context_here s (design_tree d) (own_cells d)) ∙ ap (option_map (of_site (design_tree d) s)) none in
    let there = h.stands in cc

-- what was found is the body of the instance
pub reader_found : (d : Design) (at : SiteBody) (e : ExprTree) (found : Option ScopedCells) →
    IfSome found (λ r. r ≡ body_of d at) → IfNone found (site (design_tree d) at.instance ≡ None) →
    HasTypeAt (body_of d at) types.Bool e → found ≡ Some (body_of d at)
reader_found d at e None some none typed = absurd (has_site d at e typed none)
reader_found d at e (Some r) some none typed = ap Some some

-- the scope that was found of a body in which a truth stands
pub scope_there : (d : Design) (x : CellTables) → x ≡ cells_of d → (at : SiteBody) (r : Option ScopedCells) →
    ((e : DesignTree) → HasCells x e → r ≡ option_map (λ _. record { tables = x; at = at }) (site e at.instance)) →
    (e : ExprTree) → HasTypeAt (body_of d at) types.Bool e → r ≡ Some (body_of d at)
scope_there d x same at r told e typed = by r refl
  where
    by : (o : Option ScopedCells) → r ≡ o → r ≡ Some (body_of d at)
    by None is = absurd (has_site d at e typed (no_scope d x same at r told is))
    by (Some scope) is = is ∙ ap Some (scope_found d x same at r told scope is)

-- what an expression is by the tables of a body, it is in the design
pub variable_here : (s : ScopedCells) (d : Design) (at : SiteBody) (e : ExprTree) (v : Option ℕ) → s ≡ body_of d at →
    ((t : DesignTree) → HasCells s.tables t → v ≡ variable_in (resolved t (scope_of s.at) e)) →
    v ≡ variable_in (resolved (design_tree d) (scope_of at) e)
variable_here s d at e v same told =
    subst (λ (w : ScopedCells).
    (t : DesignTree) → HasCells w.tables t → v ≡ variable_in (resolved t (scope_of w.at) e)) same told (design_tree d)
    (own_cells d)
