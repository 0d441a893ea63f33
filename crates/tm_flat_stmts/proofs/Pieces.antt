-- What a single piece of the text makes of a flow and of ends.
use Rattle.std.proofs.Common.{◌≡◌, ◌≢◌, ◌⊎◌, inl, inr, ℕ, Bool, true, false, Option, None, Some, List, length, ◌&&◌, ◌||◌, refl, sym, ap, ◌∙◌, subst, arith, true≢false}
use Rattle.std.specs.Prelude.{IfSome, nat_eq, not, if◌then◌else◌}
use Rattle.std.specs.Option.{option_map_or}
use Rattle.std.proofs.lemmas.Bool.Decides.{nat_tests}
use Rattle.std.proofs.lemmas.Option.{same_Some}
use Rattle.tm_base.specs.declared.place.Place.{Place}
use Rattle.tm_scope.specs.Cells.{CellTables}
use Rattle.tm_term.specs.declared.term.TermId.{TermId}
use Rattle.tm_term.specs.Table.{Table, IsSound}
use Rattle.tm_term.specs.Value.{AreInputs, Extends}
use Rattle.tm_term.proofs.Valued.{Extends-trans}
use Rattle.tm_sem.specs.Value.{Memory}
use Rattle.tm_sem.specs.Run.{stopped, finished, failed, blocked}
use Rattle.tm_flat_exprs.specs.Kept.{Keeps}
use Rattle.tm_flat_exprs.specs.Made.{IsTruth, truth_at}
use Rattle.tm_flat_exprs.specs.Merged.{IsMemory}
use Rattle.tm_flat_exprs.proofs.Later.{Extends-refl, truth_along}
use Rattle.tm_flat_stmts.specs.Flows.{FlowTerms, EndTerms, AreEnds, Continues, Fails, FlowKeeps, HaveNotEnded, IsFlow, Leads, Narrows, Stops, TellsEnd, TellsSame, has_finished, has_stopped, is_on, stop_of}
use Rattle.tm_flat_stmts.proofs.Flowing.{ends_along, flow_along, memory_along}
use Rattle.tm_flat_stmts.proofs.Leading.{or_false}

pub and_first : (a b : Bool) → a ≡ true → (a && b) ≡ b
and_first true b e = refl
and_first false b e = absurd (true≢false (sym e))

pub and_none : (a b : Bool) → a ≡ false → (a && b) ≡ false
and_none true b e = absurd (true≢false e)
and_none false b e = refl

pub or_none : (a b : Bool) → b ≡ false → (a || b) ≡ a
or_none a true e = absurd (true≢false e)
or_none a false e = or_false a

-- where ends are as they were, they tell the same
pub same_ends : (x : CellTables) (u : Table) (v : List ℕ) (ends : EndTerms) → TellsSame x u v ends ends
same_ends x u v ends = record { stops = λ n. refl; memory = λ n m on keeps. keeps; fails = refl }

-- a flow that was narrowed has the memory of the one of which it was made
module _ (x : CellTables) (t n : Table) (f g : FlowTerms) (goes : Table → List ℕ → Bool)
    (narrow : Narrows t n f g goes) where
  pub kept_narrowed : (u : Table) (v : List ℕ) (m : Memory) → Keeps x u v f.memory m → Keeps x u v g.memory m
  kept_narrowed u v m keeps = subst (λ k. Keeps x u v k m) (sym narrow.memory) keeps

  pub is_narrowed : IsFlow x t f → IsFlow x n g
  is_narrowed flow = record {
    guard = narrow.guard;
    memory = subst (IsMemory x n) (sym narrow.memory) (memory_along x t n f.memory narrow.grown flow.memory);
  }

-- ---- a run goes on where a test holds
module _ (x : CellTables) (number : Place → List Place → Option ℕ) (test : List ℕ → Memory → Bool) (t n : Table)
    (f g : FlowTerms) (ends : EndTerms) (goes : Table → List ℕ → Bool) (narrow : Narrows t n f g goes)
    (tells : (u : Table) → Extends n u → (v : List ℕ) → AreInputs u v → (m : Memory) →
    is_on u v (Some f) ≡ true → Keeps x u v f.memory m → goes u v ≡ test v m) where
  module _ (u : Table) (more : Extends n u) (v : List ℕ) (inputs : AreInputs u v) where
    stands : (m : Memory) → is_on u v (Some f) ≡ true → Keeps x u v f.memory m → is_on u v (Some g) ≡ test v m
    stands m on keeps =
        narrow.on u more v inputs
        ∙ and_first (is_on u v (Some f)) (goes u v) on
        ∙ tells u more v inputs m on keeps

    has_gone : (b : Bool) (m : Memory) → b ≡ has_finished (if b then finished m else blocked)
    has_gone true m = refl
    has_gone false m = refl

    kept_on : (b : Bool) (m k : Memory) → (if b then finished m else blocked) ≡ finished k →
        Keeps x u v f.memory m → Keeps x u v g.memory k
    kept_on true m k is keeps =
        let same : m ≡ k = cc in
        subst (Keeps x u v g.memory) same (kept_narrowed x t n f g goes narrow u v m keeps)
    kept_on false m k is keeps = absurd (cc)

    not_ended : (b : Bool) (m : Memory) → HaveNotEnded u v ends →
        TellsEnd x u v number (if b then finished m else blocked) ends
    not_ended true m quiet = record {
      stops = quiet.stops;
      memory = λ k at trail o is at_k. absurd (cc);
      fails = quiet.fails;
    }
    not_ended false m quiet = record {
      stops = quiet.stops;
      memory = λ k at trail o is at_k. absurd (cc);
      fails = quiet.fails;
    }

    pub leads_on : Leads x u v number (λ m. if test v m then finished m else blocked) (Some f) ends (Some g) ends
    leads_on = record {
      goes = λ m on keeps. stands m on keeps ∙ has_gone (test v m) m;
      memory = λ m k on keeps is. kept_on (test v m) m k is keeps;
      ends = λ m on keeps quiet. not_ended (test v m) m quiet;
      stays = λ off. narrow.on u more v inputs ∙ and_none (is_on u v (Some f)) (goes u v) off;
      same = λ off. same_ends x u v ends;
    }

  pub goes_on_where : IsFlow x t f → AreEnds x t ends →
      Continues x number (λ v m. if test v m then finished m else blocked) (Some f.position) t n (Some f) ends (Some g)
      ends
  goes_on_where flow are = record {
    grown = narrow.grown;
    sound = narrow.sound;
    flow = is_narrowed x t n f g goes narrow flow;
    ends = ends_along x t n ends narrow.grown are;
    count = refl;
    position = ap (λ k. Some k) narrow.position;
    leads = leads_on;
  }

-- ---- a run fails where a test holds, and goes on where it does not
module _ (x : CellTables) (number : Place → List Place → Option ℕ) (test : List ℕ → Memory → Bool) (t m n : Table)
    (f g : FlowTerms) (before after : EndTerms) (fails goes : Table → List ℕ → Bool) (flow : IsFlow x t f)
    (are : AreEnds x t before) (told : Fails t m f fails before after) (narrow : Narrows m n f g goes)
    (fails_so : (u : Table) → Extends n u → (v : List ℕ) → AreInputs u v → (o : Memory) →
    is_on u v (Some f) ≡ true → Keeps x u v f.memory o → fails u v ≡ test v o)
    (goes_so : (u : Table) → Extends n u → (v : List ℕ) → AreInputs u v → (o : Memory) →
    is_on u v (Some f) ≡ true → Keeps x u v f.memory o → goes u v ≡ not (test v o)) where
  module _ (u : Table) (more : Extends n u) (v : List ℕ) (inputs : AreInputs u v) where
    has_gone_on : (b : Bool) (o : Memory) → not b ≡ has_finished (if b then failed else finished o)
    has_gone_on true o = refl
    has_gone_on false o = refl

    kept_gone : (b : Bool) (o k : Memory) → (if b then failed else finished o) ≡ finished k →
        Keeps x u v f.memory o → Keeps x u v g.memory k
    kept_gone true o k is keeps = absurd (cc)
    kept_gone false o k is keeps =
        let same : o ≡ k = cc in
        subst (Keeps x u v g.memory) same (kept_narrowed x m n f g goes narrow u v o keeps)

    truth : truth_at u v after.failed ≡ (truth_at u v before.failed || is_on u v (Some f) && fails u v)
    truth = told.fails u (Extends-trans m n u narrow.grown more) v inputs

    stop_same : (k : ℕ) → stop_of after k ≡ stop_of before k
    stop_same k = ap (λ s. stop_of (record { stops = s; failed = before.failed }) k) told.stops

    ended : (b : Bool) (o : Memory) → HaveNotEnded u v before → truth_at u v after.failed ≡ b →
        TellsEnd x u v number (if b then failed else finished o) after
    ended true o quiet is = record {
      stops = λ k. ap (is_on u v) (stop_same k) ∙ quiet.stops k;
      memory = λ k at trail p e at_k. absurd (cc);
      fails = is;
    }
    ended false o quiet is = record {
      stops = λ k. ap (is_on u v) (stop_same k) ∙ quiet.stops k;
      memory = λ k at trail p e at_k. absurd (cc);
      fails = is;
    }

    leads_or_fails : Leads x u v number (λ o. if test v o then failed else finished o) (Some f) before (Some g) after
    leads_or_fails = record {
      goes = λ o on keeps.
          narrow.on u more v inputs
          ∙ and_first (is_on u v (Some f)) (goes u v) on
          ∙ goes_so u more v inputs o on keeps
          ∙ has_gone_on (test v o) o;
      memory = λ o k on keeps is. kept_gone (test v o) o k is keeps;
      ends = λ o on keeps quiet.
          ended (test v o) o quiet
          (truth
          ∙ ap (λ b. b || is_on u v (Some f) && fails u v) quiet.fails
          ∙ and_first (is_on u v (Some f)) (fails u v) on
          ∙ fails_so u more v inputs o on keeps);
      stays = λ off. narrow.on u more v inputs ∙ and_none (is_on u v (Some f)) (goes u v) off;
      same = λ off. record {
        stops = λ k. ap (is_on u v) (stop_same k);
        memory = λ k o on keeps. subst (λ s. FlowKeeps x u v s o) (sym (stop_same k)) keeps;
        fails = truth
            ∙ or_none (truth_at u v before.failed) (is_on u v (Some f) && fails u v)
            (and_none (is_on u v (Some f)) (fails u v) off);
      };
    }

  pub fails_or_goes_on : Continues x number (λ v o. if test v o then failed else finished o) (Some f.position) t n
      (Some f) before (Some g) after
  fails_or_goes_on =
      let whole : Extends t n = Extends-trans t m n told.grown narrow.grown in
      record {
        grown = whole;
        sound = narrow.sound;
        flow = is_narrowed x m n f g goes narrow (flow_along x t m f told.grown flow);
        ends = record {
          stops = λ k.
              subst (λ s. IfSome s (IsFlow x n))
              (sym (ap (λ s. stop_of (record { stops = s; failed = before.failed }) k) told.stops))
              ((ends_along x t n before whole are).stops k);
          failed = truth_along m n after.failed narrow.grown told.failed;
        };
        count = ap length told.stops;
        position = ap (λ k. Some k) narrow.position;
        leads = leads_or_fails;
      }

-- ---- a run stops at a location
pub one_or_other : (k n : ℕ) → (k ≡ n) ⊎ (k ≢ n)
one_or_other k n = by (nat_eq k n) refl
  where
    by : (b : Bool) → nat_eq k n ≡ b → (k ≡ n) ⊎ (k ≢ n)
    by true e = inl (grind (arith, nat_tests))
    by false e = inr (λ same. absurd (grind (arith, nat_tests)))

pub equal_so : (k n : ℕ) → k ≡ n → nat_eq k n ≡ true
equal_so k n same = grind (arith, nat_tests)

apart_so : (k n : ℕ) → k ≢ n → nat_eq k n ≡ false
apart_so k n other = by (nat_eq k n) refl
  where
    by : (b : Bool) → nat_eq k n ≡ b → nat_eq k n ≡ false
    by true e =
        let same : k ≡ n = grind (arith, nat_tests) in
        absurd (other same)
    by false e = e

module _ (x : CellTables) (number : Place → List Place → Option ℕ) (at : Place) (trail : List Place) (stop : ℕ)
    (t n : Table) (f : FlowTerms) (before after : EndTerms) (numbered : number at trail ≡ Some stop)
    (flow : IsFlow x t f)
    (are : AreEnds x t before) (told : Stops t n stop f before after) where
  module _ (u : Table) (more : Extends n u) (v : List ℕ) (inputs : AreInputs u v) where
    stop_is : (k : ℕ) (o : Memory) → HaveNotEnded u v before → is_on u v (Some f) ≡ true →
        is_on u v (stop_of after k) ≡ has_stopped number k (stopped at trail o)
    stop_is k o quiet on = by (one_or_other k stop)
      where
        found : has_stopped number k (stopped at trail o) ≡ nat_eq k stop
        found = ap (λ s. option_map_or (nat_eq k) s false) numbered

        by : (k ≡ stop) ⊎ (k ≢ stop) → is_on u v (stop_of after k) ≡ has_stopped number k (stopped at trail o)
        by (inl same) =
            ap (λ j. is_on u v (stop_of after j)) same
            ∙ (told.joins x u more v inputs).on
            ∙ ap (λ b. b || is_on u v (Some f)) (quiet.stops stop)
            ∙ on
            ∙ sym (equal_so k stop same)
            ∙ sym found
        by (inr other) =
            ap (is_on u v) (told.others k other) ∙ quiet.stops k ∙ sym (apart_so k stop other) ∙ sym found

    kept_there : (k : ℕ) (place : Place) (calls : List Place) (o p : Memory) → HaveNotEnded u v before →
        is_on u v (Some f) ≡ true → Keeps x u v f.memory o → stopped at trail o ≡ stopped place calls p →
        number place calls ≡ Some k → FlowKeeps x u v (stop_of after k) p
    kept_there k place calls o p quiet on keeps is there =
        let places : at ≡ place = cc in
        let trails : trail ≡ calls = cc in
        let memories : o ≡ p = cc in
        let same : stop ≡ k =
        same_Some stop k (sym numbered ∙ (λ i. number (places i) (trails i)) ∙ there) in
        subst (λ j. FlowKeeps x u v (stop_of after j) p) same
        ((told.joins x u more v inputs).second p (quiet.stops stop) on
        (subst (Keeps x u v f.memory) memories keeps))

    stays_same : (k : ℕ) → is_on u v (Some f) ≡ false → is_on u v (stop_of after k) ≡ is_on u v (stop_of before k)
    stays_same k off = by (one_or_other k stop)
      where
        by : (k ≡ stop) ⊎ (k ≢ stop) → is_on u v (stop_of after k) ≡ is_on u v (stop_of before k)
        by (inl same) =
            ap (λ j. is_on u v (stop_of after j)) same
            ∙ (told.joins x u more v inputs).on
            ∙ or_none (is_on u v (stop_of before stop)) (is_on u v (Some f)) off
            ∙ ap (λ j. is_on u v (stop_of before j)) (sym same)
        by (inr other) = ap (is_on u v) (told.others k other)

    stays_kept : (k : ℕ) (o : Memory) → is_on u v (stop_of before k) ≡ true → FlowKeeps x u v (stop_of before k) o →
        FlowKeeps x u v (stop_of after k) o
    stays_kept k o on keeps = by (one_or_other k stop)
      where
        by : (k ≡ stop) ⊎ (k ≢ stop) → FlowKeeps x u v (stop_of after k) o
        by (inl same) =
            subst (λ j. FlowKeeps x u v (stop_of after j) o) (sym same)
            ((told.joins x u more v inputs).first o (ap (λ j. is_on u v (stop_of before j)) (sym same) ∙ on)
            (subst (λ j. FlowKeeps x u v (stop_of before j) o) same keeps))
        by (inr other) = subst (λ s. FlowKeeps x u v s o) (sym (told.others k other)) keeps

    leads_to_stop : Leads x u v number (stopped at trail) (Some f) before None after
    leads_to_stop = record {
      goes = λ o on keeps. refl;
      memory = λ o k on keeps is. absurd (cc);
      ends = λ o on keeps quiet. record {
        stops = λ k. stop_is k o quiet on;
        memory = λ k place calls p is there. kept_there k place calls o p quiet on keeps is there;
        fails = ap (truth_at u v) told.failed ∙ quiet.fails;
      };
      stays = λ off. refl;
      same = λ off. record {
        stops = λ k. stays_same k off;
        memory = stays_kept;
        fails = ap (truth_at u v) told.failed;
      };
    }

  pub stops_there : Continues x number (λ v. stopped at trail) None t n (Some f) before None after
  stops_there = record {
    grown = told.grown;
    sound = told.sound;
    flow = tt;
    ends = record {
      stops = λ k. by k (one_or_other k stop);
      failed = subst (λ (o : Option TermId). IsTruth n o) (sym told.failed)
          (ends_along x t n before told.grown are).failed;
    };
    count = told.count;
    position = refl;
    leads = leads_to_stop;
  }
    where
      by : (k : ℕ) → (k ≡ stop) ⊎ (k ≢ stop) → IfSome (stop_of after k) (IsFlow x n)
      by k (inl same) =
          subst (λ j. IfSome (stop_of after j) (IsFlow x n)) (sym same)
          (told.flow x (are.stops stop) flow)
      by k (inr other) =
          subst (λ s. IfSome s (IsFlow x n)) (sym (told.others k other))
          ((ends_along x t n before told.grown are).stops k)

-- ---- something is put into the memory
module _ (x : CellTables) (number : Place → List Place → Option ℕ) (after_put : List ℕ → Memory → Memory) (t : Table)
    (f g : FlowTerms) (ends : EndTerms) (sound : IsSound t) (flow : IsFlow x t g) (are : AreEnds x t ends)
    (guard : g.guard ≡ f.guard) (position : g.position ≡ f.position)
    (puts : (u : Table) → Extends t u → (v : List ℕ) → AreInputs u v → (m : Memory) → is_on u v (Some f) ≡ true →
    Keeps x u v f.memory m → Keeps x u v g.memory (after_put v m)) where
  pub goes_on_after : Continues x number (λ v m. finished (after_put v m)) (Some f.position) t t (Some f) ends (Some g)
      ends
  goes_on_after = record {
    grown = Extends-refl t;
    sound = sound;
    flow = flow;
    ends = are;
    count = refl;
    position = ap (λ k. Some k) position;
    leads = λ u more v inputs. record {
      goes = λ m on keeps. stands u v ∙ on;
      memory = λ m k on keeps is.
          let same : after_put v m ≡ k = cc in
          subst (Keeps x u v g.memory) same (puts u more v inputs m on keeps);
      ends = λ m on keeps quiet. record {
        stops = quiet.stops;
        memory = λ k at trail o is at_k. absurd (cc);
        fails = quiet.fails;
      };
      stays = λ off. stands u v ∙ off;
      same = λ off. same_ends x u v ends;
    };
  }
    where
      stands : (u : Table) (v : List ℕ) → is_on u v (Some g) ≡ is_on u v (Some f)
      stands u v = ap (λ id. is_on u v (Some (record { guard = id; memory = f.memory; position = f.position }))) guard
