-- The number of the location at which runs have arrived, as a term.
use Rattle.std.proofs.Common.{◌≡◌, ℕ, ◌<◌, List, sym, ap, ◌∙◌, subst}
use Rattle.tm_base.specs.Arithmetic.{choice}
use Rattle.tm_scope.specs.Cells.{CellTables}
use Rattle.tm_term.specs.declared.term.Term.TheVariants.{Const, Ite}
use Rattle.tm_term.specs.declared.term.TermId.{TermId}
use Rattle.tm_term.specs.Table.{Fits, Table, term_width}
use Rattle.tm_term.specs.Value.{Extends, term_value, value_of}
use Rattle.tm_term.proofs.Valued.{Extends-trans}
use Rattle.tm_flat.specs.Steps.{IsTerm}
use Rattle.tm_flat_exprs.specs.Made.{Makes}
use Rattle.tm_flat_stmts.specs.Flows.{FlowTerms, IsFlow, MakesJoin}
use Rattle.tm_flat_moves.specs.declared.arrivals.Arrived.{Arrived}
use Rattle.tm_flat_moves.specs.Arrived.{ArrivesFirst, ArrivesMore}

pub first_made : (t n : Table) (width number : ℕ) (stop : FlowTerms) (a : Arrived) →
    Makes t n (term_width t (Const width number)) a.place (λ u v. term_value u v (Const width number)) →
    a.flow ≡ stop → ArrivesFirst t n width number stop a
first_made t n width number stop a made is = record {
  grown = made.grown;
  sound = made.sound;
  flow = is;
  place = made.term;
  value = made.value;
}

module _ (t mid m : Table) (width number : ℕ) (before : Arrived) (stop flow : FlowTerms) (here : TermId)
    (x : CellTables)
    (known : IsFlow x t before.flow) (place : IsTerm t width before.place)
    (join : MakesJoin t mid before.flow stop flow)
    (constant : Makes mid m (term_width mid (Const width number)) here (λ u v. term_value u v (Const width number)))
    (guard : TermId) (guard_is : guard ≡ before.flow.guard) where
  grown : Extends t m
  grown = Extends-trans t mid m join.grown constant.grown

  -- the choice between the numbers may be made
  pub choice_fits : Fits m (Ite guard before.place here)
  choice_fits = subst (λ g. Fits m (Ite g before.place here)) (sym guard_is) (
    grown.known before.flow.guard known.guard.0,
    grown.widths before.flow.guard known.guard.0 ∙ known.guard.1,
    (
      grown.known before.place place.0,
      constant.term.0,
      grown.widths before.place place.0 ∙ place.1 ∙ sym constant.term.1,
    ),
  )

  pub more_made : (n : Table) (a : Arrived) → a.flow ≡ flow →
      Makes m n (term_width m (Ite guard before.place here)) a.place
      (λ u v. term_value u v (Ite guard before.place here)) →
      ArrivesMore t n width number before stop a
  more_made n a is made = record {
    mid = mid;
    join = subst (MakesJoin t mid before.flow stop) (sym is) join;
    later = Extends-trans mid m n constant.grown made.grown;
    sound = made.sound;
    place = (made.term.0, made.term.1 ∙ grown.widths before.place place.0 ∙ place.1);
    value = λ u more v are.
        made.value u more v are
        ∙ (λ i. choice (value_of u v (guard_is i)) (value_of u v before.place)
        (constant.value u (Extends-trans m n u made.grown more) v are i));
  }
