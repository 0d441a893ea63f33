-- What is led through leaves state variables alone that it does not write.
use Rattle.std.proofs.Common.{◌≡◌, ◌≢◌, ◌⊎◌, inl, inr, ℕ, Bool, true, false, Option, None, Some, List, ◌||◌, refl, sym, ap, ◌∙◌, subst, arith, true≢false}
use Rattle.std.specs.Prelude.{IfSome, nat_eq, slice_get}
use Rattle.std.proofs.lemmas.Bool.Decides.{nat_tests}
use Rattle.std.proofs.lemmas.Option.{same_Some}
use Rattle.tm_syntax.specs.Tree.{ExprTree}
use Rattle.tm_syntax.specs.Design.Cells.{Cell, in_state}
use Rattle.tm_scope.specs.Cells.{CellTables, ScopedCells, cell_at}
use Rattle.tm_scope.specs.declared.cells.site_body.CellNumber.{CellNumber}
use Rattle.tm_scope.specs.declared.cells.site_body.CellNumber.TheVariants.{State, Step}
use Rattle.tm_scope.specs.declared.cells.site_body.SiteBody.{SiteBody}
use Rattle.tm_term.specs.declared.term.TermId.{TermId}
use Rattle.tm_term.specs.Table.{Table}
use Rattle.tm_flat.specs.Writes.{is_variable}
use Rattle.tm_flat_exprs.specs.Kept.{KeptTerms}
use Rattle.tm_flat_exprs.specs.Merged.{values_after}
use Rattle.tm_flat_stmts.specs.Flows.{EndTerms, FlowTerms, HasTerm, Leaves, Stops, StopsHave, stop_of}
use Rattle.tm_flat_stmts.specs.Statements.{Asks}
use Rattle.tm_flat_stmts.proofs.Pieces.{equal_so, one_or_other}
use Rattle.tm_flat_stmts.proofs.Stopping.{get_other}

-- of two parts neither writes where both together do not
pub or_left : (a b : Bool) → (a || b) ≡ false → a ≡ false
or_left true b none = none
or_left false b none = refl

pub or_right : (a b : Bool) → (a || b) ≡ false → b ≡ false
or_right true b none = absurd (true≢false none)
or_right false b none = none

module _ (i : ℕ) where
  -- ---- one piece behind the other
  pub leaves_then : (f mid g : Option FlowTerms) (before between after : EndTerms) → Leaves i f before mid between →
      Leaves i mid between g after → Leaves i f before g after
  leaves_then f mid g before between after one two = record {
    flow = λ id has. two.flow id (one.flow id has);
    stops = λ id has are. two.stops id (one.flow id has) (one.stops id has are);
  }

  -- the flow behind a piece is dropped
  pub leaves_cut : (f g : Option FlowTerms) (before after : EndTerms) → Leaves i f before g after →
      Leaves i f before None after
  leaves_cut f g before after one = record { flow = λ id has. tt; stops = one.stops }

  -- ---- nothing stops
  pub leaves_stops : (f : FlowTerms) (g : Option FlowTerms) (before after : EndTerms) →
      ((id : TermId) → HasTerm i id f → IfSome g (HasTerm i id)) → after.stops ≡ before.stops →
      Leaves i (Some f) before g after
  leaves_stops f g before after keep same = record {
    flow = keep;
    stops = λ id has are n.
        subst (λ (s : List (Option FlowTerms)). IfSome (stop_of (record { stops = s; failed = before.failed }) n)
        (HasTerm i id)) (sym same) (are n);
  }

  -- and the memory is as it was
  pub leaves_memory : (f g : FlowTerms) (before after : EndTerms) → g.memory ≡ f.memory →
      after.stops ≡ before.stops → Leaves i (Some f) before (Some g) after
  leaves_memory f g before after memory same =
      leaves_stops f (Some g) before after
      (λ id has. subst (λ (k : KeptTerms). slice_get k.values i ≡ Some id) (sym memory) has) same

  pub leaves_asked : (s : ScopedCells) (es : List ExprTree) (t n : Table) (f : FlowTerms) (before : EndTerms)
      (g : FlowTerms) (after : EndTerms) → Asks s es t n f before g after → Leaves i (Some f) before (Some g) after
  leaves_asked s es t n f before g after asks = leaves_memory f g before after asks.memory asks.stops

  -- ---- runs stop
  pub leaves_stop : (t n : Table) (number : ℕ) (f : FlowTerms) (before after : EndTerms) →
      Stops t n number f before after → Leaves i (Some f) before None after
  leaves_stop t n number f before after told = record {
    flow = λ id has. tt;
    stops = λ id has are k. by id has are k (one_or_other k number);
  }
    where
      by : (id : TermId) → HasTerm i id f → StopsHave i id before → (k : ℕ) → (k ≡ number) ⊎ (k ≢ number) →
          IfSome (stop_of after k) (HasTerm i id)
      by id has are k (inl same) =
          subst (λ j. IfSome (stop_of after j) (HasTerm i id)) (sym same) (told.same i id (are number) has)
      by id has are k (inr other) = subst (λ o. IfSome o (HasTerm i id)) (sym (told.others k other)) (are k)

  -- ---- a term is put into a cell
  other_number : (k : ℕ) → nat_eq i k ≡ false → i ≢ k
  other_number k apart same = absurd (true≢false (sym (equal_so i k same) ∙ apart))

  pub leaves_put : (x : CellTables) (at : SiteBody) (number : CellNumber) (id : TermId) (values : List TermId)
      (c : Cell) → cell_at x at number ≡ Some c → (had : TermId) → is_variable i c ≡ false →
      slice_get values i ≡ Some had → slice_get (values_after values number id) i ≡ Some had
  leaves_put x at (State k) id values c there had none has =
      get_other values k i id (other_number k (ap (is_variable i) (same_Some (in_state k) c there) ∙ none)) ∙ has
  leaves_put x at (Step slot) id values c there had none has = has
