-- A certificate of a driver of which a part fails is none.
use Rattle.std.proofs.Common.{◌⊎◌, inl, inr, ℕ, ◌∷◌, sym, ◌∙◌, subst, true≢false, arith}
use Rattle.std.specs.List.{AllByRecursion}
use Rattle.tm_syntax.specs.Design.{DesignTree}
use Rattle.tm_sem.specs.declared.state.Move.{Move}
use Rattle.tm_sem.specs.State.{StateData}
use Rattle.tm_sem.specs.Step.{IsAllowed}
use Rattle.tm_sem.specs.Forcing.{Keeps, Leads, errs, lands}
use Rattle.tm_sem.specs.Certificates.{DriverSets, IsIn, MeetsDriver}
use Rattle.tm_verdict.specs.Driver.{DriverPart, IsOut, IsRefused, IsReported, Passes, adds_state, begins_within, falls_when_fair, is_answered, is_calm, is_ranked, lies_within, never_rises}
use Rattle.tm_verdict.proofs.Listed.{all_second}
use Rattle.tm_verdict.proofs.DriverParts.{parts_pass}

module _ (d : DesignTree) (answers : StateData → ℕ → Move → Type 0) (c : DriverSets) where
  in_and_out : (s : StateData) → IsIn d c.region s → IsOut c s → ⊥
  in_and_out s within out = true≢false (sym within.1 ∙ out)

  -- what keeps within the region does not lead out of it
  keeps_and_leaves : (s : StateData) (move : Move) → Keeps d (IsIn d c.region) s move → Leads d (IsOut c) s move → ⊥
  keeps_and_leaves s move keeps (errs choices step) = keeps.no_error choices step
  keeps_and_leaves s move keeps (lands choices t step out) = in_and_out t (keeps.ends_within choices t step) out

  answer_fails : (s : StateData) (move : Move) → IsAllowed d s move × Keeps d (IsIn d c.region) s move →
      (¬ IsAllowed d s move) ⊎ Leads d (IsOut c) s move → ⊥
  answer_fails s move good (inl forbidden) = forbidden good.0
  answer_fails s move good (inr leaves) = keeps_and_leaves s move good.1 leaves

  -- a part that fails does not pass
  pub fails_and_passes : (part : DriverPart) (s : StateData) → IsReported d answers c part s →
      Passes d answers c part → ⊥
  fails_and_passes (lies_within goal k) s r passes =
      in_and_out s (passes r.here.0 r.here.1 r.here.2 r.here.3 s r.here.4) r.here.5
  fails_and_passes (adds_state goal k) s r passes = r.2 (passes r.0 r.1)
  fails_and_passes begins_within s r passes = in_and_out s (passes s r.here.0) r.here.1
  fails_and_passes (is_ranked goal) s r passes =
      let most = passes s r.here.0 r.here.1 r.here.2 in
      let more = r.here.3 in
      absurd (omega arith)
  fails_and_passes is_calm s r passes =
      keeps_and_leaves s r.here.0 (passes s r.here.1 r.here.0 r.here.2) r.here.3
  fails_and_passes (is_answered goal) s r passes =
      answer_fails s r.here.0 (passes s r.here.0 r.here.1 r.here.2 r.here.3) r.here.4
  fails_and_passes (never_rises goal) s r passes =
      let most = passes s r.here.0 r.here.1 r.here.2 r.here.3 r.here.4 r.here.5 r.here.6 r.here.7 r.here.8 in
      let more = r.here.9 in
      absurd (omega arith)
  fails_and_passes (falls_when_fair goal) s r passes =
      let less = passes s r.here.0 r.here.1 r.here.2 r.here.3 r.here.4 r.here.5 r.here.6 r.here.7 r.here.8 r.here.9 in
      let no_less = r.here.10 in
      absurd (omega arith)

  pub refused_is_none : (condition goal : ℕ) (s : StateData) → IsRefused d answers c condition goal s →
      ¬ MeetsDriver d answers c
  refused_is_none condition goal s r meets =
      let all = subst (AllByRecursion (Passes d answers c)) r.parts (parts_pass d answers c meets.goals meets) in
      fails_and_passes r.part s r.reported (all_second (Passes d answers c) r.before (r.part ∷ r.behind) all).0
