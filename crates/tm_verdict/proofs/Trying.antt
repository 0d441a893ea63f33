-- Parts that are tried one behind the other.
use Rattle.std.proofs.Common.{◌≡◌, ℕ, suc, ◌+◌, ◌-◌, ◌<◌, ◌≤◌, List, [], ◌∷◌, ◌++◌, refl, sym, ap, ◌∙◌, subst, arith}
use Rattle.std.specs.List.{flat_map, range_with_len}
use Rattle.std.proofs.lemmas.List.{append_assoc}
use Rattle.tm_sem.specs.State.{StateData}
use Rattle.tm_verdict.specs.declared.verdict.Verdict.{Verdict}
use Rattle.tm_verdict.specs.declared.verdict.Verdict.TheVariants.{Accepted, Refused}
use Rattle.tm_verdict.specs.Tried.{AreTried, AreTriedTo, Meaning, parts_of}
use Rattle.tm_verdict.proofs.Listed.{all_join}

module _ {Part : Type 0} (m : Meaning Part) where
  -- one part that is refused
  pub refused_alone : (part : Part) (condition goal : ℕ) (s : StateData) → condition ≡ m.condition part →
      goal ≡ m.goal part → m.reports part s → AreTried m (part ∷ []) (Refused condition goal s)
  refused_alone part condition goal s number of_goal reported = record {
    before = [];
    part = part;
    behind = [];
    parts = refl;
    passed = tt;
    number = number;
    of_goal = of_goal;
    reported = reported;
  }

  -- ---- one behind the other
  -- where the first ones pass, the others decide
  pub tried_then : (xs ys : List Part) (v : Verdict) → AreTried m xs Accepted → AreTried m ys v →
      AreTried m (xs ++ ys) v
  tried_then xs ys Accepted first second = all_join m.passes xs ys first second
  tried_then xs ys (Refused condition goal s) first second = record {
    before = xs ++ second.before;
    part = second.part;
    behind = second.behind;
    parts = ap (λ zs. xs ++ zs) second.parts ∙ sym (append_assoc xs second.before (second.part ∷ second.behind));
    passed = all_join m.passes xs second.before first second.passed;
    number = second.number;
    of_goal = second.of_goal;
    reported = second.reported;
  }

  -- where one of the first ones is refused, the others are not tried
  pub refused_stop : (xs ys : List Part) (condition goal : ℕ) (s : StateData) →
      AreTried m xs (Refused condition goal s) → AreTried m (xs ++ ys) (Refused condition goal s)
  refused_stop xs ys condition goal s first = record {
    before = first.before;
    part = first.part;
    behind = first.behind ++ ys;
    parts = ap (λ zs. zs ++ ys) first.parts ∙ append_assoc first.before (first.part ∷ first.behind) ys;
    passed = first.passed;
    number = first.number;
    of_goal = first.of_goal;
    reported = first.reported;
  }

  pub tried_stop : (xs ys : List Part) (v : Verdict) → (v ≡ Accepted → ⊥) → AreTried m xs v → AreTried m (xs ++ ys) v
  tried_stop xs ys Accepted other first = absurd (other refl)
  tried_stop xs ys (Refused condition goal s) other first = refused_stop xs ys condition goal s first

  -- ---- in a loop
  module _ (at : ℕ → List Part) (count : ℕ) where
    pub tried_none : AreTriedTo m at count 0
    tried_none = record {
      rest = λ v tried.
          let all : count - 0 ≡ count = omega arith in
          subst (λ (n : ℕ). AreTried m (flat_map at (range_with_len 0 n)) v) all tried;
    }

    one_first : (done : ℕ) → done < count →
        flat_map at (range_with_len done (count - done))
        ≡ at done ++ flat_map at (range_with_len (done + 1) (count - (done + 1)))
    one_first done below =
        let more : count - done ≡ suc (count - (done + 1)) = omega arith in
        ap (λ n. flat_map at (range_with_len done n)) more

    -- the parts at a place pass
    pub tried_more : (done : ℕ) → done < count → AreTriedTo m at count done → AreTried m (at done) Accepted →
        AreTriedTo m at count (done + 1)
    tried_more done below so_far passed = record {
      rest = λ v tried.
          so_far.rest v
          (subst (λ (parts : List Part). AreTried m parts v) (sym (one_first done below))
          (tried_then (at done) (flat_map at (range_with_len (done + 1) (count - (done + 1)))) v passed tried));
    }

    -- one of them is refused
    pub tried_stops : (done : ℕ) (v : Verdict) → done < count → (v ≡ Accepted → ⊥) → AreTriedTo m at count done →
        AreTried m (at done) v → AreTried m (parts_of at count) v
    tried_stops done v below other so_far refused =
        so_far.rest v
        (subst (λ (parts : List Part). AreTried m parts v) (sym (one_first done below))
        (tried_stop (at done) (flat_map at (range_with_len (done + 1) (count - (done + 1)))) v other refused))

    pub refused_stops : (done condition goal : ℕ) (s : StateData) → done < count → AreTriedTo m at count done →
        AreTried m (at done) (Refused condition goal s) → AreTried m (parts_of at count) (Refused condition goal s)
    refused_stops done condition goal s below so_far refused =
        tried_stops done (Refused condition goal s) below (λ same. cc) so_far refused

    -- all of them pass
    pub tried_all : (done : ℕ) → count ≤ done → AreTriedTo m at count done → AreTried m (parts_of at count) Accepted
    tried_all done past so_far =
        let none : count - done ≡ 0 = omega arith in
        so_far.rest Accepted
        (subst (λ (n : ℕ). AreTried m (flat_map at (range_with_len done n)) Accepted) (sym none) tt)
