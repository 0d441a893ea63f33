-- Runs that stop at the location of a number.
use Rattle.std.proofs.Common.{◌≡◌, ◌≢◌, ◌⊎◌, inl, inr, ℕ, zero, suc, ◌+◌, ◌<◌, Option, None, Some, List, [], ◌∷◌, ◌++◌, length, length-append, length-set, refl, sym, ap, ◌∙◌, subst, arith}
use Rattle.std.specs.Prelude.{◌==◌, ◌&&◌, ◌||◌, IfSome, not, slice_get, slice_index_or, slice_set}
use Rattle.std.specs.Option.{option_and_then}
use Rattle.tm_scope.proofs.Entries.{at-push}
use Rattle.tm_term.specs.declared.term.TermId.{TermId}
use Rattle.tm_term.specs.Table.{Table}
use Rattle.tm_term.specs.Value.{value_of}
use Rattle.tm_flat_exprs.specs.Made.{IsTruth, MakesTruth, truth_at}
use Rattle.tm_flat_exprs.proofs.Later.{or_made}
use Rattle.tm_flat_stmts.specs.Flows.{EndTerms, Fails, FlowTerms, HasTerm, IsFlow, Joins, MakesJoinIfThere, Stops, stop_of}

-- what stands in a list behind one that was set, and at its place
pub get_other : {X : Type 0} (xs : List X) (n k : ℕ) (y : X) → k ≢ n → slice_get (slice_set xs n y) k ≡ slice_get xs k
get_other [] n k y other = refl
get_other (x ∷ xs) zero zero y other = absurd (other refl)
get_other (x ∷ xs) zero (suc k) y other = refl
get_other (x ∷ xs) (suc n) zero y other = refl
get_other (x ∷ xs) (suc n) (suc k) y other = get_other xs n k y (λ same. other (ap suc same))

get_same : {X : Type 0} (xs : List X) (n : ℕ) (y : X) → n < length xs → slice_get (slice_set xs n y) n ≡ Some y
get_same [] n y below = absurd (omega (arith, below))
get_same (x ∷ xs) zero y below = refl
get_same (x ∷ xs) (suc n) y below = get_same xs n y (omega (arith, below))

read_at : {X : Type 0} (xs : List X) (n : ℕ) (x : X) → n < length xs → x ≡ slice_index_or xs n x →
    slice_get xs n ≡ Some x
read_at [] n x below is = absurd (omega (arith, below))
read_at (y ∷ xs) zero x below is = ap Some (sym is)
read_at (y ∷ xs) (suc n) x below is = read_at xs n x (omega (arith, below)) is

-- what is taken from its place
pub stop_taken : (ends : EndTerms) (n : ℕ) (taken there : Option FlowTerms) → n < length ends.stops → taken ≡ there →
    there ≡ slice_index_or ends.stops n there → stop_of ends n ≡ taken
stop_taken ends n taken there below same is =
    ap (option_and_then (λ f. f)) (read_at ends.stops n there below is) ∙ sym same

-- ---- no run has stopped
pub record NoneStopped (count : ℕ) (stops : List (Option FlowTerms)) : Type 0 where
  pub long : length stops ≡ count
  pub none : (n : ℕ) → option_and_then (λ f. f) (slice_get stops n) ≡ None

pub none_stopped : NoneStopped 0 []
none_stopped = record { long = refl; none = λ n. refl }

pub none_more : (count : ℕ) (stops : List (Option FlowTerms)) → NoneStopped count stops →
    NoneStopped (count + 1) (stops ++ None ∷ [])
none_more count stops so_far = record {
  long = omega (arith, length-append stops (None ∷ []), so_far.long);
  none = λ n. by n (slice_get (stops ++ None ∷ []) n) refl;
}
  where
    either : (n : ℕ) (f : Option FlowTerms) → (slice_get stops n ≡ Some f) ⊎ ((n ≡ length stops) × (None ≡ f)) →
        f ≡ None
    either n f (inl old) = sym (ap (option_and_then (λ f. f)) old) ∙ so_far.none n
    either n f (inr new) = sym new.1

    by : (n : ℕ) (o : Option (Option FlowTerms)) → slice_get (stops ++ None ∷ []) n ≡ o →
        option_and_then (λ f. f) (slice_get (stops ++ None ∷ []) n) ≡ None
    by n None is = ap (option_and_then (λ f. f)) is
    by n (Some f) is = ap (option_and_then (λ f. f)) is ∙ either n f (at-push stops None n f is)

-- ---- the runs of a flow stop
pub stopped_flow : (t n : Table) (number : ℕ) (f : FlowTerms) (before after : EndTerms) (joined : Option FlowTerms) →
    number < length before.stops → MakesJoinIfThere t n (stop_of before number) (Some f) joined →
    after.failed ≡ before.failed → after.stops ≡ slice_set (slice_set before.stops number None) number joined →
    Stops t n number f before after
stopped_flow t n number f before after joined below join failed stops =
    let within : number < length (slice_set before.stops number None) =
    omega (arith, below, length-set before.stops number None) in
    let here : stop_of after number ≡ joined =
    ap (λ xs. option_and_then (λ f. f) (slice_get xs number)) stops
    ∙ ap (option_and_then (λ f. f)) (get_same (slice_set before.stops number None) number joined within) in
    record {
      grown = join.grown;
      sound = join.sound;
      failed = failed;
      count = omega (
        arith,
        ap length stops,
        length-set (slice_set before.stops number None) number joined,
        length-set before.stops number None,
      );
      others = λ k other.
          ap (λ xs. option_and_then (λ f. f) (slice_get xs k)) stops
          ∙ ap (option_and_then (λ f. f))
          (get_other (slice_set before.stops number None) number k joined other
          ∙ get_other before.stops number k None other);
      flow = λ x one two. subst (λ o. IfSome o (IsFlow x n)) (sym here) (join.flow x one two);
      same = λ i id one two. subst (λ o. IfSome o (HasTerm i id)) (sym here) (join.same i id one two);
      joins = λ x u more v are.
          subst (λ o. Joins x u v (stop_of before number) (Some f) o) (sym here) (join.joins x u more v are);
    }

-- ---- the runs of a flow fail at which a truth holds
pub failed_flow : (t m n : Table) (f : FlowTerms) (before after : EndTerms) (truth fails failed : Option TermId) →
    MakesTruth t m fails (λ u v. not (value_of u v f.guard == 0) && truth_at u v truth) →
    MakesTruth m n failed (λ u v. truth_at u v before.failed || truth_at u v fails) → after.failed ≡ failed →
    after.stops ≡ before.stops → Fails t n f (λ u v. truth_at u v truth) before after
failed_flow t m n f before after truth fails failed made both is stops =
    let all = or_made t m n before.failed fails failed
    (λ u v. not (value_of u v f.guard == 0) && truth_at u v truth) made both in
    record {
      grown = all.grown;
      sound = all.sound;
      failed = subst (λ (o : Option TermId). IsTruth n o) (sym is) all.term;
      stops = stops;
      fails = λ u more v are. ap (truth_at u v) is ∙ all.truth u more v are;
    }
