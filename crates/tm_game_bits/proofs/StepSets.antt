-- What the calls of a step make, from the calls that they make.
use Rattle.std.proofs.Common.{◌≡◌, ◌⊎◌, true, ◌&&◌, ◌||◌, sym, ap, subst, ◌∙◌}
use Rattle.tm_dd.specs.declared.node.NodeId.{NodeId}
use Rattle.tm_dd.specs.NodeId.{complement}
use Rattle.tm_dd.specs.Reduced.{Extends}
use Rattle.tm_dd.specs.Table.{Table, Knows, means}
use Rattle.tm_dd.proofs.CallerLaws.{Extends-trans}
use Rattle.tm_ddops.specs.Manager.{IsFunction}
use Rattle.tm_ddops.specs.Operation.{substituted}
use Rattle.tm_ddops.specs.Quantified.{AgreeElsewhere, IsExists}
use Rattle.tm_game_bits.specs.declared.step.StepDiagrams.{StepDiagrams}
use Rattle.tm_game_bits.specs.Functions.{Assignment, Function, StepFunctions, after, leading_at}
use Rattle.tm_game_bits.specs.Forcing.{IsAllowed, IsGood, IsGoodForSome, Keeps, Leads, WithChoices}
use Rattle.tm_game_bits.specs.Diagrams.{IsSetOf, KnowsStep, changes_of, step_of}
use Rattle.tm_game_bits.proofs.Extended.{IsSetOf-Extends, Knows-Extends, after-changes_of, means-Extends, step_of-Extends}
use Rattle.tm_game_bits.proofs.Leading.{keeps_unless, leading, leads_at, never_both}
use Rattle.tm_game_bits.proofs.Sets.{IsSetOf-and, IsSetOf-exists, IsSetOf-means, IsSetOf-not, IsSetOf-or, IsSetOf-same, turned}

-- a composition, a union and a meet are where the step errs or leads into the set
pub leading_is : (s t u w : Table) → Extends s t → Extends t u → Extends u w → (step : StepDiagrams) →
    KnowsStep s step → (into lands ends id : NodeId) → Knows s into →
    IsFunction t lands (λ v. means t into (substituted t step.next.items v)) →
    IsFunction u ends (λ v. means u step.error v || means u lands v) →
    IsFunction w id (λ v. means w step.legal v && means w ends v) →
    IsFunction w id (leading_at (step_of s step) (means s into))
leading_is s t u w a b c step known into lands ends id into_known in_t in_u in_w = record {
  known = in_w.known;
  meaning = λ v.
      let to_u = Extends-trans s t u a b in
      let to_w = Extends-trans s u w to_u c in
      let legal = to_w.same_meaning step.legal known.legal v in
      let fails = to_u.same_meaning step.error known.error v in
      let moved : after (changes_of s step.next.items) v ≡ substituted t step.next.items v =
      ap (λ (f : StepFunctions). after f.next v) (sym (step_of-Extends s t a step known))
      ∙ after-changes_of t step.next.items v in
      let landed : means u lands v ≡ means s into (after (changes_of s step.next.items) v) =
      b.same_meaning lands in_t.known v ∙ in_t.meaning v
      ∙ a.same_meaning into into_known (substituted t step.next.items v) ∙ ap (means s into) (sym moved) in
      let ended = c.same_meaning ends in_u.known v ∙ in_u.meaning v ∙ (λ i. fails i || landed i) in
      in_w.meaning v ∙ (λ i. legal i && ended i);
}

-- for some choices
pub leads_is : (t u : Table) → Extends t u → (step : StepFunctions) (into : Function) (f id : NodeId) →
    IsFunction t f (leading_at step into) → IsExists u step.choices f id → IsSetOf u (Leads step into) id
leads_is t u e step into f id is some =
    let there : IsSetOf u (λ w. leading_at step into w ≡ true) f = record {
      known = Knows-Extends t u e f is.known;
      only = λ v h. sym (is.meaning v) ∙ sym (e.same_meaning f is.known v) ∙ h;
      all = λ v h. e.same_meaning f is.known v ∙ is.meaning v ∙ h;
    } in
    IsSetOf-same u (λ v. (w : Assignment) × WithChoices step v w × (leading_at step into w ≡ true)) (Leads step into) id
    (λ v h. leads_at step into v h.0 h.1 h.2) (λ v h. leading step into v h)
    (IsSetOf-exists u (λ w. leading_at step into w ≡ true) step.choices f id there some)

-- for no choices, where the other set is the complement
pub keeps_is : (s t : Table) (step : StepFunctions) (set leaves : NodeId) →
    IsSetOf t (Leads step (means s (complement set))) leaves → IsSetOf t (Keeps step (means s set)) (complement leaves)
keeps_is s t step set leaves is =
    IsSetOf-same t (λ v. ¬ Leads step (means s (complement set)) v) (Keeps step (means s set)) (complement leaves)
    (λ v not_so. keeps_unless (means s set) (means s (complement set)) (turned s set) step v not_so)
    (λ v keeps. never_both (means s set) (means s (complement set)) (turned s set) step v keeps)
    (IsSetOf-not t (Leads step (means s (complement set))) leaves is)

-- where the driver can be picked, and some choices have an outcome
pub allowed_is : (s t u : Table) → Extends s t → Extends t u → (step : StepDiagrams) → KnowsStep s step →
    (turn outcomes id : NodeId) → Knows s turn → IsExists t step.choices.items step.legal outcomes →
    IsFunction u id (λ v. means u turn v && means u outcomes v) →
    IsSetOf u (IsAllowed (means s turn) (step_of s step)) id
allowed_is s t u a b step known turn outcomes id turn_known some is =
    let legal = IsSetOf-Extends s t a (λ v. means s step.legal v ≡ true) step.legal
    (IsSetOf-means s step.legal known.legal) in
    let there = IsSetOf-exists t (λ v. means s step.legal v ≡ true) step.choices.items step.legal outcomes legal some in
    let Outcomes : Assignment → Type 0 = λ v. (w : Assignment) × AgreeElsewhere step.choices.items v w
    × (means s step.legal w ≡ true) in
    let turns = IsSetOf-Extends s u (Extends-trans s t u a b) (λ v. means s turn v ≡ true) turn
    (IsSetOf-means s turn turn_known) in
    IsSetOf-same u (λ v. (means s turn v ≡ true) × Outcomes v) (IsAllowed (means s turn) (step_of s step)) id
    (λ v h. record { at_turn = h.0; some = h.1 }) (λ v h. (h.at_turn, h.some))
    (IsSetOf-and u (λ v. means s turn v ≡ true) Outcomes turn outcomes id turns
    (IsSetOf-Extends t u b Outcomes outcomes there) is)

-- both
pub good_is : (s t u w : Table) → Extends s t → Extends t u → Extends u w → (step : StepDiagrams) → KnowsStep s step →
    (turn set allowed keeps id : NodeId) → Knows s set →
    IsSetOf t (IsAllowed (means s turn) (step_of s step)) allowed →
    IsSetOf u (Keeps (step_of t step) (means t set)) keeps →
    IsFunction w id (λ v. means w allowed v && means w keeps v) →
    IsSetOf w (IsGood (means s turn) (means s set) (step_of s step)) id
good_is s t u w a b c step known turn set allowed keeps id set_known in_t in_u is =
    let Allowed = IsAllowed (means s turn) (step_of s step) in
    let Kept = Keeps (step_of s step) (means s set) in
    let same_step = subst (λ (f : StepFunctions). IsSetOf u (Keeps f (means t set)) keeps)
    (step_of-Extends s t a step known) in_u in
    let same = subst (λ (f : Function). IsSetOf u (Keeps (step_of s step) f) keeps) (means-Extends s t a set set_known)
    same_step in
    IsSetOf-same w (λ v. Allowed v × Kept v) (IsGood (means s turn) (means s set) (step_of s step)) id
    (λ v h. record { allowed = h.0; keeps = h.1 }) (λ v h. (h.allowed, h.keeps))
    (IsSetOf-and w Allowed Kept allowed keeps id
    (IsSetOf-Extends t w (Extends-trans t u w b c) Allowed allowed in_t)
    (IsSetOf-Extends u w c Kept keeps same) is)

-- for some arguments
pub good_for_some_is : (t u : Table) → Extends t u → (turn within : Function) (step : StepFunctions)
    (good id : NodeId) → IsSetOf t (IsGood turn within step) good → IsExists u step.arguments good id →
    IsSetOf u (λ v. IsGoodForSome turn within v step) id
good_for_some_is t u e turn within step good id is some =
    IsSetOf-exists u (IsGood turn within step) step.arguments good id
    (IsSetOf-Extends t u e (IsGood turn within step) good is) some

module _ (s t u : Table) (a : Extends s t) (b : Extends t u) (P : Assignment → Type 0) (f g id : NodeId)
    (known : Knows s f) (is : IsSetOf t P g) where
  -- a diagram of before, or a set
  pub or_is : IsFunction u id (λ v. means u f v || means u g v) → IsSetOf u (λ v. (means s f v ≡ true) ⊎ P v) id
  or_is made =
      IsSetOf-or u (λ v. means s f v ≡ true) P f g id
      (IsSetOf-Extends s u (Extends-trans s t u a b) (λ v. means s f v ≡ true) f (IsSetOf-means s f known))
      (IsSetOf-Extends t u b P g is) made

  -- a diagram of before, and a set
  pub and_is : IsFunction u id (λ v. means u f v && means u g v) → IsSetOf u (λ v. (means s f v ≡ true) × P v) id
  and_is made =
      IsSetOf-and u (λ v. means s f v ≡ true) P f g id
      (IsSetOf-Extends s u (Extends-trans s t u a b) (λ v. means s f v ≡ true) f (IsSetOf-means s f known))
      (IsSetOf-Extends t u b P g is) made
