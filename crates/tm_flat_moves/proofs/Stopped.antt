-- How the runs of a step have ended.
use Rattle.std.proofs.Common.{◌≡◌, ◌≢◌, ◌⊎◌, inl, inr, ℕ, zero, suc, ◌+◌, ◌<◌, ◌≤◌, ◌||◌, Bool, true, false, Option, None, Some, List, length, take, slice_get, refl, sym, ap, ◌∙◌, subst, arith, true≢false}
use Rattle.std.specs.Prelude.{IfSome, nat_eq, not}
use Rattle.std.specs.List.{position_or_len}
use Rattle.std.specs.Option.{option_map_or}
use Rattle.std.proofs.lemmas.Bool.Decides.{nat_tests}
use Rattle.std.proofs.lemmas.List.Sums.{prefix_len-le-length}
use Rattle.tm_base.specs.declared.place.Place.{Place}
use Rattle.tm_syntax.specs.Design.{DesignTree}
use Rattle.tm_syntax.specs.Design.Locations.{end_number, is_location_at, location_number, locations}
use Rattle.tm_scope.specs.Cells.{CellTables}
use Rattle.tm_term.specs.declared.term.TermId.{TermId}
use Rattle.tm_term.specs.Table.{Table, IsSound}
use Rattle.tm_term.specs.Value.{AreInputs, Extends}
use Rattle.tm_term.proofs.Valued.{Extends-trans}
use Rattle.tm_locations.specs.Locations.{AreLocations}
use Rattle.tm_sem.specs.Run.{Ending, stopped, finished, failed, blocked}
use Rattle.tm_sem.specs.Value.{Memory}
use Rattle.tm_flat.specs.Steps.{IsInput}
use Rattle.tm_flat_exprs.specs.Made.{IsTruth, truth_at}
use Rattle.tm_flat_exprs.proofs.Later.{Extends-refl, truth_along}
use Rattle.tm_flat_stmts.specs.Flows.{AreEnds, EndTerms, FlowKeeps, FlowTerms, HasTerm, IsFlow, Joins, Stops, StopsHave, TellsEnd, has_failed, has_finished, is_on, stop_of}
use Rattle.tm_flat_stmts.proofs.Flowing.{ends_along, flow_along_if_there}
use Rattle.tm_flat_stmts.proofs.Leading.{or_false}
use Rattle.tm_flat_stmts.proofs.Pieces.{one_or_other}
use Rattle.tm_flat_moves.specs.Arrived.{TellsArrival, arrival}
use Rattle.tm_flat_moves.specs.Ended.{EndsBehind}

-- a location has a number up to that of the end
pub number_within : (d : DesignTree) (p : ℕ) (at : Place) (trail : List Place) →
    location_number d p at trail ≤ end_number d p
number_within d p at trail =
    let low : position_or_len (is_location_at at trail) (locations d p) ≤ length (locations d p) =
    prefix_len-le-length (λ x. not (is_location_at at trail x)) (locations d p) in omega (arith, low)

itself : (k : ℕ) → nat_eq k k ≡ true
itself k = grind (arith, nat_tests)

apart : (j k : ℕ) → j ≢ k → nat_eq j k ≡ false
apart j k other = by (nat_eq j k) refl
  where
    by : (b : Bool) → nat_eq j k ≡ b → nat_eq j k ≡ false
    by false is = is
    by true is = absurd (other (grind (arith, nat_tests)))

-- ---- what is made of ends where the runs that come to the end stop, too, if some may
pub record Behind (x : CellTables) (t n : Table) (last : ℕ) (left : Option FlowTerms) (before after : EndTerms) :
    Type 0 where
  pub grown : Extends t n
  pub sound : IsSound n
  pub ends : AreEnds x n after
  pub count : length after.stops ≡ length before.stops
  pub failed : after.failed ≡ before.failed
  pub others : (k : ℕ) → k ≢ last → stop_of after k ≡ stop_of before k
  pub on : (u : Table) → Extends n u → (v : List ℕ) → AreInputs u v →
      is_on u v (stop_of after last) ≡ (is_on u v (stop_of before last) || is_on u v left)
  pub first : (u : Table) → Extends n u → (v : List ℕ) → AreInputs u v → (m : Memory) →
      is_on u v (stop_of before last) ≡ true → FlowKeeps x u v (stop_of before last) m →
      FlowKeeps x u v (stop_of after last) m
  pub second : (u : Table) → Extends n u → (v : List ℕ) → AreInputs u v → (m : Memory) →
      is_on u v (stop_of before last) ≡ false → is_on u v left ≡ true → FlowKeeps x u v left m →
      FlowKeeps x u v (stop_of after last) m
  pub has : (i : ℕ) (id : TermId) → StopsHave i id before → IfSome left (HasTerm i id) → StopsHave i id after

-- no run comes to the end
pub behind_none : (x : CellTables) (t n : Table) (last : ℕ) (before after : EndTerms) → IsSound t →
    AreEnds x t before → EndsBehind t n last None before after → Behind x t n last None before after
behind_none x t n last before after sound known behind =
    subst (λ (u : Table). Behind x t u last None before after) (sym behind.0)
    (subst (Behind x t t last None before) (sym behind.1) (record {
      grown = Extends-refl t;
      sound = sound;
      ends = known;
      count = refl;
      failed = refl;
      others = λ k other. refl;
      on = λ u more v are. sym (or_false (is_on u v (stop_of before last)));
      first = λ u more v are m on keeps. keeps;
      second = λ u more v are m off on keeps. absurd (true≢false (sym on));
      has = λ i id have none. have;
    }))

module _ (x : CellTables) (t n : Table) (last : ℕ) (f : FlowTerms) (before after : EndTerms)
    (known : AreEnds x t before) (flow : IsFlow x t f) (told : Stops t n last f before after) where
  stop_known : (k : ℕ) → (k ≡ last) ⊎ (k ≢ last) → IfSome (stop_of after k) (IsFlow x n)
  stop_known k (inl same) =
      subst (λ j. IfSome (stop_of after j) (IsFlow x n)) (sym same) (told.flow x (known.stops last) flow)
  stop_known k (inr other) =
      subst (λ o. IfSome o (IsFlow x n)) (sym (told.others k other))
      (flow_along_if_there x t n (stop_of before k) told.grown (known.stops k))

  stop_has : (i : ℕ) (id : TermId) → StopsHave i id before → HasTerm i id f → (k : ℕ) → (k ≡ last) ⊎ (k ≢ last) →
      IfSome (stop_of after k) (HasTerm i id)
  stop_has i id have has k (inl same) =
      subst (λ j. IfSome (stop_of after j) (HasTerm i id)) (sym same) (told.same i id (have last) has)
  stop_has i id have has k (inr other) = subst (λ o. IfSome o (HasTerm i id)) (sym (told.others k other)) (have k)

  pub behind_some : Behind x t n last (Some f) before after
  behind_some = record {
    grown = told.grown;
    sound = told.sound;
    ends = record {
      stops = λ k. stop_known k (one_or_other k last);
      failed = subst (λ o. IsTruth n o) (sym told.failed) (truth_along t n before.failed told.grown known.failed);
    };
    count = told.count;
    failed = told.failed;
    others = told.others;
    on = λ u more v are. (told.joins x u more v are).on;
    first = λ u more v are. (told.joins x u more v are).first;
    second = λ u more v are. (told.joins x u more v are).second;
    has = λ i id have has k. stop_has i id have has k (one_or_other k last);
  }

pub ends_behind : (x : CellTables) (t n : Table) (last : ℕ) (left : Option FlowTerms) (before after : EndTerms) →
    IsSound t → AreEnds x t before → IfSome left (IsFlow x t) → EndsBehind t n last left before after →
    Behind x t n last left before after
ends_behind x t n last None before after sound known flow behind =
    behind_none x t n last before after sound known behind
ends_behind x t n last (Some f) before after sound known flow behind =
    behind_some x t n last f before after known flow behind

-- ---- where a run has arrived
module _ (d : DesignTree) (p : ℕ) (x : CellTables) (t n : Table) (left : Option FlowTerms) (before after : EndTerms)
    (rows : ℕ) (many : rows + 1 ≡ end_number d p) (long : length before.stops ≡ rows + 2)
    (behind : Behind x t n (end_number d p) left before after) (u : Table) (more : Extends n u) (v : List ℕ)
    (are : AreInputs u v) where
  abbrev number : Place → List Place → Option ℕ
  number at calls = Some (location_number d p at calls)

  abbrev last : ℕ
  last = end_number d p

  abbrev arrives_at : Ending → ℕ → Bool
  arrives_at e k = option_map_or (λ (a : ℕ × Memory). nat_eq k a.0) (arrival d p e) false

  -- at other locations ends tell what they told
  off_end : (e : Ending) → TellsEnd x u v number e before → (k : ℕ) → k ≢ last →
      is_on u v (stop_of after k) ≡ is_on u v (stop_of before k)
  off_end e told k other = ap (is_on u v) (behind.others k other)

  stops_so : (e : Ending) → TellsEnd x u v number e before → is_on u v left ≡ has_finished e → (k : ℕ) →
      (k ≡ last) ⊎ (k ≢ last) → is_on u v (stop_of after k) ≡ arrives_at e k
  stops_so (stopped at trail m) told here k (inl same) =
      ap (λ j. is_on u v (stop_of after j)) same ∙ behind.on u more v are
      ∙ (λ i. told.stops last i || here i) ∙ or_false (nat_eq last (location_number d p at trail))
      ∙ ap (λ j. nat_eq j (location_number d p at trail)) (sym same)
  stops_so (stopped at trail m) told here k (inr other) = off_end (stopped at trail m) told k other ∙ told.stops k
  stops_so (finished m) told here k (inl same) =
      ap (λ j. is_on u v (stop_of after j)) same ∙ behind.on u more v are
      ∙ (λ i. told.stops last i || here i) ∙ sym (itself last) ∙ ap (λ j. nat_eq j last) (sym same)
  stops_so (finished m) told here k (inr other) =
      off_end (finished m) told k other ∙ told.stops k ∙ sym (apart k last other)
  stops_so failed told here k (inl same) =
      ap (λ j. is_on u v (stop_of after j)) same ∙ behind.on u more v are ∙ (λ i. told.stops last i || here i)
  stops_so failed told here k (inr other) = off_end failed told k other ∙ told.stops k
  stops_so blocked told here k (inl same) =
      ap (λ j. is_on u v (stop_of after j)) same ∙ behind.on u more v are ∙ (λ i. told.stops last i || here i)
  stops_so blocked told here k (inr other) = off_end blocked told k other ∙ told.stops k

  -- the memory with which a run has stopped, or come to the end
  stop_keeps : (k : ℕ) (m : Memory) → is_on u v (stop_of before k) ≡ true → FlowKeeps x u v (stop_of before k) m →
      (k ≡ last) ⊎ (k ≢ last) → FlowKeeps x u v (stop_of after k) m
  stop_keeps k m on keeps (inl same) =
      subst (λ j. FlowKeeps x u v (stop_of after j) m) (sym same)
      (behind.first u more v are m (ap (λ j. is_on u v (stop_of before j)) (sym same) ∙ on)
      (subst (λ j. FlowKeeps x u v (stop_of before j) m) same keeps))
  stop_keeps k m on keeps (inr other) = subst (λ o. FlowKeeps x u v o m) (sym (behind.others k other)) keeps

  memory_so : (e : Ending) → TellsEnd x u v number e before → is_on u v left ≡ has_finished e →
      ((m : Memory) → e ≡ finished m → FlowKeeps x u v left m) → (k : ℕ) (m : Memory) →
      arrival d p e ≡ Some (k, m) → FlowKeeps x u v (stop_of after k) m
  memory_so (stopped at trail o) told here kept k m is =
      let number_is : location_number d p at trail ≡ k = ap
      (λ (a : Option (ℕ × Memory)). option_map_or (λ (a : ℕ × Memory). a.0) a 0) is in
      let memory_is : o ≡ m = ap (λ (a : Option (ℕ × Memory)). option_map_or (λ (a : ℕ × Memory). a.1) a o) is in
      let at_number = location_number d p at trail in
      subst (λ j. FlowKeeps x u v (stop_of after j) m) number_is
      (subst (FlowKeeps x u v (stop_of after at_number)) memory_is
      (stop_keeps at_number o (told.stops at_number ∙ itself at_number) (told.memory at_number at trail o refl refl)
      (one_or_other at_number last)))
  memory_so (finished o) told here kept k m is =
      let number_is : last ≡ k = ap (λ (a : Option (ℕ × Memory)). option_map_or (λ (a : ℕ × Memory). a.0) a 0) is in
      let memory_is : o ≡ m = ap (λ (a : Option (ℕ × Memory)). option_map_or (λ (a : ℕ × Memory). a.1) a o) is in
      subst (λ j. FlowKeeps x u v (stop_of after j) m) number_is
      (subst (FlowKeeps x u v (stop_of after last)) memory_is
      (behind.second u more v are o (told.stops last) here (kept o refl)))
  memory_so failed told here kept k m is = absurd (cc)
  memory_so blocked told here kept k m is = absurd (cc)

  within_so : (e : Ending) (k : ℕ) (m : Memory) → arrival d p e ≡ Some (k, m) → k < length after.stops
  within_so (stopped at trail o) k m is =
      let number_is : location_number d p at trail ≡ k = ap
      (λ (a : Option (ℕ × Memory)). option_map_or (λ (a : ℕ × Memory). a.0) a 0) is in
      let low = number_within d p at trail in
      let count = behind.count in omega (arith, number_is, low, count, long, many)
  within_so (finished o) k m is =
      let number_is : last ≡ k = ap (λ (a : Option (ℕ × Memory)). option_map_or (λ (a : ℕ × Memory). a.0) a 0) is in
      let count = behind.count in omega (arith, number_is, count, long, many)
  within_so failed k m is = absurd (cc)
  within_so blocked k m is = absurd (cc)

  pub tells_arrival : (e : Ending) → TellsEnd x u v number e before → is_on u v left ≡ has_finished e →
      ((m : Memory) → e ≡ finished m → FlowKeeps x u v left m) →
      TellsArrival x u v (arrival d p e) (has_failed e) after
  tells_arrival e told here kept = record {
    stops = λ k. stops_so e told here k (one_or_other k last);
    memory = λ k m is. memory_so e told here kept k m is;
    within = λ k m is. within_so e k m is;
    failure = ap (truth_at u v) behind.failed ∙ told.fails;
  }
