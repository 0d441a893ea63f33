-- The bodies that a machine finds of its design.
use Rattle.std.proofs.Common.{◌≡◌, ℕ, Bool, true, slice_get, Option, None, Some, List, refl, sym, ap, ◌∙◌, subst}
use Rattle.std.specs.Option.{option_map, option_map_or}
use Rattle.tm_syntax.specs.declared.design.Design.{Design}
use Rattle.tm_syntax.specs.declared.design.Item.{Item}
use Rattle.tm_syntax.specs.Tree.{ExprTree}
use Rattle.tm_syntax.specs.Scopes.Context.{outside}
use Rattle.tm_syntax.specs.Design.View.{design_tree}
use Rattle.tm_syntax.specs.Design.Scope.{Scope, site}
use Rattle.tm_scope.specs.Cells.{ScopedCells}
use Rattle.tm_scope.specs.declared.cells.site_body.SiteBody.{SiteBody}
use Rattle.tm_scope.specs.declared.context.BodyName.TheVariants.{Outside}
use Rattle.tm_sem.specs.Play.{goal_expr, goal_holds}
use Rattle.tm_sem.specs.State.{StateData}
use Rattle.tm_sem.specs.Step.{memory_of}
use Rattle.tm_sem.specs.Value.{plain_memory, holds_in}
use Rattle.tm_plain_exprs.specs.Kept.{Kept, Keeps}
use Rattle.tm_plain_bodies.specs.Tables.{body_of, tables_of}
use Rattle.tm_plain_exprs.specs.Valued.{Holds}
use Rattle.tm_plain_bodies.proofs.Found.{own_cells}

-- what is found by the tables of a design is found by those of the same one
pub found_by : (d e : Design) (at : SiteBody) (r : Option ScopedCells) → e ≡ d →
    r ≡ option_map (λ _. body_of e at) (site (design_tree e) at.instance) →
    r ≡ option_map (λ _. body_of d at) (site (design_tree d) at.instance)
found_by d e at r same is =
    subst (λ (d : Design). r ≡ option_map (λ _. body_of d at) (site (design_tree d) at.instance)) same is

-- a condition that stands outside of all bodies, over the values of a state
pub holds_at : (d : Design) (instance : ℕ) (values : List ℕ) (k : Kept) (e : ExprTree) (truth : Bool) →
    Keeps (tables_of d) k (plain_memory values) →
    Holds (body_of d (record { instance = instance; body = Outside })) k e truth →
    truth ≡ holds_in (design_tree d) (record { instance = instance; body = outside }) (plain_memory values) e
holds_at d instance values k e truth keeps h =
    sym (h.holds (record {
      design = design_tree d;
      memory = plain_memory values;
      cells = own_cells d;
      keeps = keeps;
    }))

module _ (d : Design) (s : StateData) (g : ℕ) (item : Item) (here : slice_get d.goals.items g ≡ Some item) where
  abbrev place_of : Item → Scope
  place_of i = record { instance = i.instance; body = outside }

  abbrev truth_of : Item → Option ExprTree → Bool
  truth_of i o = option_map_or (holds_in (design_tree d) (place_of i) (memory_of s)) o true

  at_item : (o : Option ExprTree) → goal_expr (design_tree d) item ≡ o →
      truth_of item o ≡ goal_holds (design_tree d) s g
  at_item o is =
      sym (ap (λ found. option_map_or (λ i. truth_of i (goal_expr (design_tree d) i)) found true) here
      ∙ ap (truth_of item) is)

  -- a goal without an expression holds
  pub goal_without : None ≡ goal_expr (design_tree d) item → true ≡ goal_holds (design_tree d) s g
  goal_without none = at_item None (sym none)

  -- another one holds where its expression does
  pub goal_with : (e : ExprTree) (truth : Bool) → Some e ≡ goal_expr (design_tree d) item →
      truth ≡ holds_in (design_tree d) (place_of item) (memory_of s) e → truth ≡ goal_holds (design_tree d) s g
  goal_with e truth is holds = holds ∙ at_item (Some e) (sym is)

-- what is found where there is an instance
pub there : {A B : Type 0} (o : Option A) (x : B) (r : Option B) → r ≡ option_map (λ _. x) o → (o ≡ None → ⊥) →
    r ≡ Some x
there None x r is some = absurd (some refl)
there (Some a) x r is some = is

-- one thing alone is found
pub one_found : {A : Type 0} (o : Option A) (x y : A) → o ≡ Some x → o ≡ Some y → x ≡ y
one_found o x y is found = let both : Some x ≡ Some y = sym is ∙ found in cc
