-- Runs that have stopped, made one flow, location by location.
use Rattle.std.proofs.Common.{◌≡◌, ◌≢◌, ◌⊎◌, inl, inr, ℕ, ◌+◌, ◌<◌, ◌^◌, ◌==◌, Bool, true, false, Option, None, Some, List, ◌||◌, length, get_or, slice_get, refl, sym, ap, ◌∙◌, subst, arith, true≢false}
use Rattle.std.specs.Prelude.{IfSome, if◌then◌else◌}
use Rattle.std.specs.Option.{option_and_then}
use Rattle.std.proofs.lemmas.Option.{slice_get_read}
use Rattle.tm_base.specs.Arithmetic.{choice, is_nonzero}
use Rattle.tm_scope.specs.Cells.{CellTables}
use Rattle.tm_term.specs.declared.term.TermId.{TermId}
use Rattle.tm_term.specs.Table.{Table, IsSound}
use Rattle.tm_term.specs.Value.{AreInputs, value_of, Extends}
use Rattle.tm_term.proofs.Valued.{Extends-trans}
use Rattle.tm_sem.specs.Value.{Memory}
use Rattle.tm_flat.specs.Steps.{IsTerm}
use Rattle.tm_flat_exprs.proofs.Later.{Extends-refl, term_along}
use Rattle.tm_flat_stmts.specs.Flows.{AreEnds, EndTerms, FlowKeeps, FlowTerms, HasTerm, IsFlow, Joins, StopsHave, is_on, stop_of}
use Rattle.tm_flat_stmts.proofs.Flowing.{flow_along}
use Rattle.tm_flat_moves.specs.declared.arrivals.Arrived.{Arrived}
use Rattle.tm_flat_moves.specs.Arrived.{Arrives, ArrivesFirst, ArrivesMore, ArrivesOn, StandsAlone, StandsAt, flow_of}

-- a number below the next one is below this one or is this one
below_next : (k n : ℕ) → k < n + 1 → (k < n) ⊎ (k ≡ n)
below_next k n below = by (order k n below)
  where
    order : (k n : ℕ) → k < n + 1 → (k < n) ⊎ (n ≡ k)
    order k n below = grind arith

    by : (k < n) ⊎ (n ≡ k) → (k < n) ⊎ (k ≡ n)
    by (inl less) = inl less
    by (inr same) = inr (sym same)

-- nothing has arrived yet
pub arrives_none : (x : CellTables) (t : Table) (width : ℕ) (ends : EndTerms) → IsSound t →
    Arrives x t t width ends 0 None
arrives_none x t width ends sound = record {
  grown = Extends-refl t;
  sound = sound;
  flow = tt;
  place = tt;
  on = λ u more v inputs k below alone m keeps. absurd (omega arith);
  off = λ u more v inputs none. refl;
  same = λ i id have. tt;
}

module _ (x : CellTables) (t n : Table) (width number : ℕ) (ends : EndTerms) where
  -- at one more location no run has stopped
  pub arrives_past : (a : Option Arrived) → Arrives x t n width ends number a → stop_of ends number ≡ None →
      Arrives x t n width ends (number + 1) a
  arrives_past a so_far none = record {
    grown = so_far.grown;
    sound = so_far.sound;
    flow = so_far.flow;
    place = so_far.place;
    on = λ u more v inputs k below alone m keeps.
        so_far.on u more v inputs k (before u v k below alone) alone m keeps;
    off = λ u more v inputs off. so_far.off u more v inputs (λ k below. off k (omega arith));
    same = so_far.same;
  }
    where
      before : (u : Table) (v : List ℕ) (k : ℕ) → k < number + 1 → StandsAlone u v ends k → k < number
      before u v k below alone = by (below_next k number below)
        where
          by : (k < number) ⊎ (k ≡ number) → k < number
          by (inl less) = less
          by (inr same) =
              absurd (true≢false (sym alone.here ∙ ap (λ j. is_on u v (stop_of ends j)) same ∙ ap (is_on u v) none))

  module _ (m : Table) (stop : FlowTerms) (there : stop_of ends number ≡ Some stop) (first : IsFlow x t stop) where
    stop_stands : (u : Table) (v : List ℕ) → is_on u v (stop_of ends number) ≡ is_on u v (Some stop)
    stop_stands u v = ap (is_on u v) there

    stop_keeps : (u : Table) (v : List ℕ) (k : ℕ) (memory : Memory) → k ≡ number →
        FlowKeeps x u v (stop_of ends k) memory → FlowKeeps x u v (Some stop) memory
    stop_keeps u v k memory same keeps =
        subst (λ o. FlowKeeps x u v o memory) (ap (stop_of ends) same ∙ there) keeps

    stop_has : (i : ℕ) (id : TermId) → StopsHave i id ends → HasTerm i id stop
    stop_has i id have = subst (λ o. IfSome o (HasTerm i id)) there (have number)

    -- where a run stands at this location none stands at those before
    off_before : (u : Table) (v : List ℕ) (k : ℕ) → k ≡ number → StandsAlone u v ends k → (j : ℕ) → j < number →
        is_on u v (stop_of ends j) ≡ false
    off_before u v k same alone j below =
        alone.others j (λ equal. absurd (let both = equal ∙ same in omega (arith, both, below)))

    -- the first location at which runs have stopped
    pub arrives_first : (a : Arrived) → Arrives x t n width ends number None → ArrivesFirst n m width number stop a →
        Arrives x t m width ends (number + 1) (Some a)
    arrives_first a so_far made = record {
      grown = Extends-trans t n m so_far.grown made.grown;
      sound = made.sound;
      flow = subst (IsFlow x m) (sym made.flow)
          (flow_along x t m stop (Extends-trans t n m so_far.grown made.grown) first);
      place = made.place;
      on = λ u more v inputs k below alone memory keeps.
          on u more v inputs k alone memory keeps (below_next k number below);
      off = λ u more v inputs none.
          ap (λ (f : FlowTerms). is_on u v (Some f)) made.flow ∙ sym (stop_stands u v) ∙ none number (omega arith);
      same = λ i id have. subst (HasTerm i id) (sym made.flow) (stop_has i id have);
    }
      where
        on : (u : Table) → Extends m u → (v : List ℕ) → AreInputs u v → (k : ℕ) → StandsAlone u v ends k →
            (memory : Memory) → FlowKeeps x u v (stop_of ends k) memory → (k < number) ⊎ (k ≡ number) →
            StandsAt x u v (Some a) k memory
        on u more v inputs k alone memory keeps (inl less) =
            let nowhere = so_far.on u (Extends-trans n m u made.grown more) v inputs k less alone memory keeps in
            absurd (true≢false (sym nowhere.on))
        on u more v inputs k alone memory keeps (inr same) = record {
          on = ap (λ (f : FlowTerms). is_on u v (Some f)) made.flow ∙ sym (stop_stands u v)
              ∙ ap (λ j. is_on u v (stop_of ends j)) (sym same) ∙ alone.here;
          keeps = subst (λ (f : FlowTerms). FlowKeeps x u v (Some f) memory) (sym made.flow)
              (stop_keeps u v k memory same keeps);
          place = made.value u more v inputs ∙ sym same;
        }

    -- one more of them
    pub arrives_more : (before a : Arrived) → Arrives x t n width ends number (Some before) →
        ArrivesMore n m width number before stop a → Arrives x t m width ends (number + 1) (Some a)
    arrives_more before a so_far made = record {
      grown = all;
      sound = made.sound;
      flow = flow_along x made.mid m a.flow made.later
          (made.join.flow x so_far.flow (flow_along x t n stop so_far.grown first));
      place = made.place;
      on = λ u more v inputs k below alone memory keeps.
          on u more v inputs k alone memory keeps (below_next k number below);
      off = λ u more v inputs none.
          (joins u more v inputs).on
          ∙ ap (λ b. b || is_on u v (Some stop))
          (so_far.off u (old u more) v inputs (λ k below. none k (omega arith)))
          ∙ sym (stop_stands u v) ∙ none number (omega arith);
      same = λ i id have. made.join.same i id (so_far.same i id have) (stop_has i id have);
    }
      where
        grown : Extends n m
        grown = Extends-trans n made.mid m made.join.grown made.later

        all : Extends t m
        all = Extends-trans t n m so_far.grown grown

        old : (u : Table) → Extends m u → Extends n u
        old u more = Extends-trans n m u grown more

        joins : (u : Table) → Extends m u → (v : List ℕ) → AreInputs u v →
            Joins x u v (Some before.flow) (Some stop) (Some a.flow)
        joins u more v inputs = made.join.joins x u (Extends-trans made.mid m u made.later more) v inputs

        chosen : (g b c k : ℕ) → is_nonzero g ≡ true → b ≡ k → choice g b c ≡ k
        chosen g b c k on is = ap (λ (q : Bool). if q then b else c) on ∙ is

        other : (g b c k : ℕ) → is_nonzero g ≡ false → c ≡ k → choice g b c ≡ k
        other g b c k off is = ap (λ (q : Bool). if q then b else c) off ∙ is

        on : (u : Table) → Extends m u → (v : List ℕ) → AreInputs u v → (k : ℕ) → StandsAlone u v ends k →
            (memory : Memory) → FlowKeeps x u v (stop_of ends k) memory → (k < number) ⊎ (k ≡ number) →
            StandsAt x u v (Some a) k memory
        on u more v inputs k alone memory keeps (inl less) =
            let stands = so_far.on u (old u more) v inputs k less alone memory keeps in
            record {
              on = (joins u more v inputs).on ∙ ap (λ b. b || is_on u v (Some stop)) stands.on;
              keeps = (joins u more v inputs).first memory stands.on stands.keeps;
              place = made.value u more v inputs
                  ∙ chosen (value_of u v before.flow.guard) (value_of u v before.place) number k stands.on stands.place;
            }
        on u more v inputs k alone memory keeps (inr same) =
            let off : is_on u v (Some before.flow) ≡ false =
            so_far.off u (old u more) v inputs (off_before u v k same alone) in
            let here : is_on u v (Some stop) ≡ true =
            sym (stop_stands u v) ∙ ap (λ j. is_on u v (stop_of ends j)) (sym same) ∙ alone.here in
            record {
              on = (joins u more v inputs).on ∙ ap (λ b. b || is_on u v (Some stop)) off ∙ here;
              keeps = (joins u more v inputs).second memory off here (stop_keeps u v k memory same keeps);
              place = made.value u more v inputs
                  ∙ other (value_of u v before.flow.guard) (value_of u v before.place) number k off (sym same);
            }

-- one more location, whatever has stopped there
pub arrives_on : (x : CellTables) (t n m : Table) (width number : ℕ) (ends : EndTerms) (before a : Option Arrived)
    (stop : Option FlowTerms) → stop_of ends number ≡ stop → IfSome stop (IsFlow x t) →
    Arrives x t n width ends number before → ArrivesOn n m width number before stop a →
    Arrives x t m width ends (number + 1) a
arrives_on x t n m width number ends before a None none known so_far made =
    subst (λ (u : Table). Arrives x t u width ends (number + 1) a) (sym made.0)
    (subst (Arrives x t n width ends (number + 1)) (sym made.1)
    (arrives_past x t n width number ends before so_far none))
arrives_on x t n m width number ends None None (Some stop) there known so_far made = absurd made
arrives_on x t n m width number ends None (Some a) (Some stop) there known so_far made =
    arrives_first x t n width number ends m stop there known a so_far made
arrives_on x t n m width number ends (Some before) None (Some stop) there known so_far made = absurd made
arrives_on x t n m width number ends (Some before) (Some a) (Some stop) there known so_far made =
    arrives_more x t n width number ends m stop there known before a so_far made

-- what is read of a list of stops is the flow of the location
pub stop_read : (ends : EndTerms) (stops : List (Option FlowTerms)) (number : ℕ) (stop : Option FlowTerms) →
    stops ≡ ends.stops → number < length stops → stop ≡ get_or stops number stop → stop_of ends number ≡ stop
stop_read ends stops number stop same below is =
    (λ j. option_and_then (λ (f : Option FlowTerms). f) (slice_get (sym same j) number))
    ∙ ap (option_and_then (λ (f : Option FlowTerms). f)) (slice_get_read stops (length stops) number stop refl below is)
