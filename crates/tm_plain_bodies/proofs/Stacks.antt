-- What is owed for a stack, as it grows and shrinks, and where a run stands that does all of it.
use Rattle.std.proofs.Common.{◌≡◌, ◌<◌, Option, None, Some, Result, Ok, Err, List, [], ◌∷◌, ◌++◌, map, sym, ap, ◌∙◌, subst, arith}
use Rattle.std.specs.Prelude.{IsErrAnd}
use Rattle.std.specs.List.{AllByRecursion}
use Rattle.std.specs.Option.{option_map}
use Rattle.std.proofs.lemmas.List.{reverse-append}
use Rattle.std.proofs.lemmas.Option.{none-some}
use Rattle.tm_syntax.specs.declared.design.Design.{Design}
use Rattle.tm_syntax.specs.Scopes.Context.{Context}
use Rattle.tm_syntax.specs.Design.View.{design_tree}
use Rattle.tm_syntax.specs.Design.Scope.{Site, site}
use Rattle.tm_scope.specs.Cells.{ScopedCells, scope_of}
use Rattle.tm_scope.specs.declared.cells.site_body.SiteBody.{SiteBody}
use Rattle.tm_design.specs.Typed.{context_at}
use Rattle.tm_design.proofs.Contexts.{context_is}
use Rattle.tm_plain_bodies.specs.declared.course.Course.{Course}
use Rattle.tm_plain_bodies.specs.declared.halt.Halt.{Halt}
use Rattle.tm_plain_bodies.specs.declared.todo.Todo.{Todo}
use Rattle.tm_plain_bodies.specs.Inner.Owed.{Comes, Fits, IsRow, Owed, owed, seen}
use Rattle.tm_plain_bodies.specs.Inner.Steps.{Finishes, GoesOver, Stepped, Steps}
use Rattle.tm_plain_bodies.specs.Inner.Weights.{weight}
use Rattle.tm_plain_bodies.specs.Tables.{body_of, tables_of}
use Rattle.tm_plain_bodies.proofs.Found.{own_cells}
use Rattle.tm_plain_bodies.proofs.GoingOver.{over_halts, over_self, over_then, rows_asked, rows_done, rows_halt, rows_never}
use Rattle.tm_design.proofs.Found.{no_source}

-- the last item of a stack comes next
pub owed_next : (new old : List Todo) (t : Todo) → new ≡ old ++ t ∷ [] → owed new ≡ seen t ∷ owed old
owed_next new old t is = ap owed is ∙ ap (map seen) (reverse-append old (t ∷ []))

-- where a text stands a body is found
pub body_there : (d : Design) (at : SiteBody) (found : Option ScopedCells) →
    found ≡ option_map (λ _. body_of d at) (site (design_tree d) at.instance) → found ≡ None → (c : Context) →
    context_at (body_of d at) ≡ Some c → ⊥
body_there d at found is none c stands =
    let nowhere = no_source (λ (s : Site). body_of d at) (site (design_tree d) at.instance) found is none in
    none-some c
    (sym (ap (option_map (λ (s : Site). record {
      spec = (design_tree d).spec;
      template = s.template;
      body = (scope_of at).body;
    })) nowhere) ∙ context_is (body_of d at) c stands (design_tree d) (own_cells d))

-- so far a run has gone over what was left up to what is left now, which may be done, and no loop's body is at its end
pub record OverSoFar (d : Design) (start left : List Owed) (from now : Course) : Type 0 where
  pub over : GoesOver (tables_of d) start left from now
  pub fits : AllByRecursion (Fits d) left
  pub never : Comes d left → ⊥

pub so_far_begins : (d : Design) (ts : List Owed) (c : Course) → AllByRecursion IsRow ts →
    AllByRecursion (Fits d) ts → OverSoFar d ts ts c c
so_far_begins d ts c rows fits = record {
  over = over_self (tables_of d) ts c;
  fits = fits;
  never = rows_never d ts rows;
}

module _ (d : Design) (start left : List Owed) (from now : Course) (so : OverSoFar d start left from now) (next : Owed)
    (others : List Owed) (is : left ≡ next ∷ others) where
  here : OverSoFar d start (next ∷ others) from now
  here = subst (λ ts. OverSoFar d start ts from now) is so

  pub next_fits : Fits d next
  next_fits = here.fits.0

  pub next_goes : Comes d (next ∷ others) → ⊥
  next_goes = here.never

  pub so_far_steps : (new : List Owed) (to : Course) → Stepped d (next ∷ others) new now to →
      OverSoFar d start new from to
  so_far_steps new to step = record {
    over = over_then (tables_of d) start (next ∷ others) new from now to here.over step.over;
    fits = step.fits here.fits;
    never = λ comes. here.never (step.comes comes);
  }

  -- a run halts in a step
  pub step_halts : {A : Type 0} (rows : AllByRecursion IsRow start) (new : List Owed) (to : Course)
      (r : Result A Halt) (h : Halt) → IsErrAnd r (λ y. y ≡ h) →
      Steps {A = Owed} d (next ∷ others) new now to (Err h) → Finishes d start from to r
  step_halts rows new to (Ok done) h handed halts = absurd handed
  step_halts rows new to (Err y) h handed halts =
      subst (λ h. Finishes {A = Owed} d start from to (Err h)) (sym handed)
      (rows_halt (tables_of d) start rows from to h
      (over_halts (tables_of d) start (next ∷ others) from now to here.over
      (λ e. rows_asked (tables_of d) start rows e) h halts))

-- nothing is left
pub all_finished : (d : Design) (start left : List Owed) (from now : Course) → AllByRecursion IsRow start →
    OverSoFar d start left from now → left ≡ [] → Finishes {A = List Owed} d start from now (Ok start)
all_finished d start left from now rows so none =
    rows_done (tables_of d) start rows from now
    (subst (λ ts. GoesOver (tables_of d) start ts from now) none so.over)

-- a step makes what is left lighter
pub next_lighter : (d : Design) (left : List Owed) (next : Owed) (others : List Owed) → left ≡ next ∷ others →
    (new : List Owed) (now to : Course) → Stepped d (next ∷ others) new now to → weight d new < weight d left
next_lighter d left next others is new now to step =
    let same = ap (weight d) is in
    let less = step.lighter in omega (arith, same, less)
