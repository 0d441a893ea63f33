-- A part of a driver's certificate fails exactly where it is found to.
use Rattle.std.proofs.Common.{◌≡◌, ℕ, ◌+◌, ◌<◌, ◌⊎◌, inl, inr, Bool, true, false, List, length, refl, sym, ◌∙◌, subst, arith, true≢false}
use Rattle.std.specs.List.{position_or_len}
use Rattle.std.proofs.lemmas.Option.{slice_get_within}
use Rattle.tm_syntax.specs.Design.{DesignTree}
use Rattle.tm_sem.specs.declared.state.Move.{Move}
use Rattle.tm_sem.specs.declared.state.Outcome.TheVariants.{Next}
use Rattle.tm_sem.specs.State.{StateData}
use Rattle.tm_sem.specs.Step.{IsAllowed, IsState, Step, is_driver_move}
use Rattle.tm_sem.specs.Forcing.{IsCalm, Keeps, Leads, errs, lands}
use Rattle.tm_sem.specs.Certificates.{DriverSets, IsIn, IsMade, RankedSet, rank}
use Rattle.tm_sem.proofs.Turns.{at_turn}
use Rattle.tm_verdict.proofs.Deciding.{allowed_or_not, calm_or_leads, keeps_or_leads}
use Rattle.tm_verdict.specs.Driver.{DriverPart, FailsAt, Passes, adds_state, begins_within, falls_when_fair, is_answered, is_calm, is_ranked, lies_within, never_rises}
use Rattle.tm_verdict.specs.Found.{AnswerKeeps, IsFound, MayLeave, RestsOn, within_rank}
use Rattle.tm_verdict.specs.Regular.{IsDriver, IsRegular}
use Rattle.tm_verdict.proofs.Ranks.{high_rank, low_rank, of_rank, rank_is}

module _ (d : DesignTree) (regular : IsRegular d) (answers : StateData → ℕ → Move → Type 0) (driver : IsDriver answers)
    (c : DriverSets) where
  -- what stays in a set does not lead out of it
  never_both : (set : StateData → Bool) (s : StateData) (move : Move) → Keeps d (λ t. set t ≡ true) s move →
      Leads d (λ t. set t ≡ false) s move → ⊥
  never_both set s move keeps (errs choices step) = keeps.no_error choices step
  never_both set s move keeps (lands choices t step out) =
      true≢false (sym (keeps.ends_within choices t step) ∙ out)

  -- an answer that is not good is not allowed, or leads out
  answer_leads : (set : StateData → Bool) (goal : ℕ) (s : StateData) → ¬ AnswerKeeps d answers set goal s →
      (move : Move) × answers s goal move × ((¬ IsAllowed d s move) ⊎ Leads d (λ t. set t ≡ false) s move)
  answer_leads set goal s bad =
      let reply = driver.total s goal in (
        reply.0,
        reply.1,
        by reply.0 reply.1 (allowed_or_not d regular.room s reply.0) (keeps_or_leads d regular.room s reply.0 set),
      )
    where
      by : (move : Move) → answers s goal move → IsAllowed d s move ⊎ (¬ IsAllowed d s move) →
          Keeps d (λ t. set t ≡ true) s move ⊎ Leads d (λ t. set t ≡ false) s move →
          (¬ IsAllowed d s move) ⊎ Leads d (λ t. set t ≡ false) s move
      by move given (inr forbidden) leaves = inl forbidden
      by move given (inl allowed) (inr leads) = inr leads
      by move given (inl allowed) (inl keeps) =
          absurd (bad (λ other also.
          let same = driver.one s goal move other given also in
          subst (λ (m : Move). IsAllowed d s m × Keeps d (λ t. set t ≡ true) s m) (sym same) (allowed, keeps)))

  -- an answer that is not allowed, or leads out, is not good
  answer_bad : (set : StateData → Bool) (goal : ℕ) (s : StateData) (move : Move) → answers s goal move →
      (¬ IsAllowed d s move) ⊎ Leads d (λ t. set t ≡ false) s move → ¬ AnswerKeeps d answers set goal s
  answer_bad set goal s move given (inl forbidden) keeps = forbidden (keeps move given).0
  answer_bad set goal s move given (inr leads) keeps = never_both set s move (keeps move given).1 leads

  -- a step out of a set, where no step errs
  record StepsOut (set : StateData → Bool) (goal : ℕ) (s : StateData) : Type 0 where
    pub move : Move
    pub choices : List ℕ
    pub next : StateData
    pub made : IsMade answers goal s move
    pub step : Step d s move choices (Next next)
    pub out : set next ≡ false

  steps_out : (set : StateData → Bool) (goal : ℕ) (s : StateData) → Passes d answers c is_calm →
      Passes d answers c (is_answered goal) → IsIn d c.region s → MayLeave d answers set goal s → StepsOut set goal s
  steps_out set goal s calm answered here (inl stirs) = by (calm_or_leads d regular.room s set)
    where
      out_of : (move : Move) → is_driver_move move ≡ false → Leads d (λ t. set t ≡ false) s move → StepsOut set goal s
      out_of move others (errs choices step) = absurd ((calm s here move others).no_error choices step)
      out_of move others (lands choices t step out) =
          record { move = move; choices = choices; next = t; made = inl others; step = step; out = out }

      by : IsCalm d (λ t. set t ≡ true) s
          ⊎ ((move : Move) × (is_driver_move move ≡ false) × Leads d (λ t. set t ≡ false) s move) →
          StepsOut set goal s
      by (inl rests) = absurd (stirs rests)
      by (inr (move, others, leads)) = out_of move others leads
  steps_out set goal s calm answered here (inr bad) =
      let found = answer_leads set goal s bad.1 in
      by found.0 found.1 found.2
    where
      out_of : (move : Move) → answers s goal move → Leads d (λ t. set t ≡ false) s move → StepsOut set goal s
      out_of move given (errs choices step) =
          absurd ((answered s move here bad.0 given).1.no_error choices step)
      out_of move given (lands choices t step out) =
          record { move = move; choices = choices; next = t; made = inr given; step = step; out = out }

      by : (move : Move) → answers s goal move → (¬ IsAllowed d s move) ⊎ Leads d (λ t. set t ≡ false) s move →
          StepsOut set goal s
      by move given (inl forbidden) = absurd (forbidden (answered s move here bad.0 given).0)
      by move given (inr leads) = out_of move given leads

  -- where a step is made out of a set, not every step stays in it
  leaves_by : (set : StateData → Bool) (goal : ℕ) (s t : StateData) (move : Move) (choices : List ℕ) →
      IsMade answers goal s move → Step d s move choices (Next t) → (set t ≡ true → ⊥) → MayLeave d answers set goal s
  leaves_by set goal s t move choices (inl others) step out =
      inl (λ calm. out ((calm move others).ends_within choices t step))
  leaves_by set goal s t move choices (inr given) step out =
      inr (
        at_turn d s choices (Next t) (λ none. cc) move (driver.drives s goal move given) step,
        λ keeps. out ((keeps move given).1.ends_within choices t step),
      )

  -- ---- found, so it fails
  pub fails : (part : DriverPart) → RestsOn d answers c part → (s : StateData) → IsState d s →
      IsFound d answers c part s → FailsAt d answers c part s
  fails (lies_within goal k) rests s valid (ranked, r, are, is, within, out) =
      (ranked, r, are, is, (valid, within), out)
  fails (adds_state goal k) rests s valid found = found
  fails begins_within rests s valid found = found
  fails (is_ranked goal) rests s valid (ranked, are, here, outside) =
      (ranked, (valid, here), are, high_rank ranked (length ranked) s (omega arith) outside)
  fails is_calm rests s valid (here, stirs) = by (calm_or_leads d regular.room s c.region)
    where
      by : IsCalm d (λ t. c.region t ≡ true) s
          ⊎ ((move : Move) × (is_driver_move move ≡ false) × Leads d (λ t. c.region t ≡ false) s move) →
          FailsAt d answers c is_calm s
      by (inl rests) = absurd (stirs rests)
      by (inr (move, others, leads)) = (move, (valid, here), others, leads)
  fails (is_answered goal) rests s valid (here, turn, bad) =
      let found = answer_leads c.region goal s bad in
      (found.0, (valid, here), turn, found.1, found.2)
  fails (never_rises goal) rests s valid (ranked, k, are, few, awaits, of, leaves) =
      let out = steps_out (within_rank ranked (1 + k)) goal s rests.0 rests.1 (valid, awaits.here) leaves in
      let own = rank_is ranked k s few of in
      let higher = high_rank ranked (1 + k) out.next (omega arith) out.out in (
        out.next,
        ranked,
        out.move,
        out.choices,
        (valid, awaits.here),
        are,
        awaits.fails,
        out.made,
        out.step,
        omega arith,
      )
  fails (falls_when_fair goal) rests s valid (ranked, k, r, are, is, awaits, of, fair, leaves) =
      let few = slice_get_within ranked k r is in
      let out = steps_out (within_rank ranked k) goal s rests.0 rests.1 (valid, awaits.here) leaves in
      let own = rank_is ranked k s few of in
      let higher = high_rank ranked k out.next (omega arith) out.out in (
        out.next,
        ranked,
        out.move,
        out.choices,
        (valid, awaits.here),
        are,
        awaits.fails,
        (k, r, own, is, fair),
        out.made,
        out.step,
        omega arith,
      )

  -- ---- it fails, so it is found
  no_higher : (ranked : List RankedSet) (k : ℕ) (t : StateData) → k < rank ranked t →
      within_rank ranked k t ≡ true → ⊥
  no_higher ranked k t higher within = let low = low_rank ranked k t within in absurd (omega arith)

  outside_all : (ranked : List RankedSet) (s : StateData) → length ranked < rank ranked s →
      within_rank ranked (length ranked) s ≡ false
  outside_all ranked s high = by (within_rank ranked (length ranked) s) refl
    where
      by : (b : Bool) → within_rank ranked (length ranked) s ≡ b → within_rank ranked (length ranked) s ≡ false
      by false is = is
      by true is = absurd (no_higher ranked (length ranked) s high is)

  pub found : (part : DriverPart) → RestsOn d answers c part → (s : StateData) → FailsAt d answers c part s →
      IsState d s × IsFound d answers c part s
  found (lies_within goal k) rests s (ranked, r, are, is, within, out) = (within.0, (ranked, r, are, is, within.1, out))
  found (adds_state goal k) rests s fails = absurd fails
  found begins_within rests s fails = (regular.initial s fails.0, fails)
  found (is_ranked goal) rests s (ranked, here, are, high) =
      (here.0, (ranked, are, here.1, outside_all ranked s high))
  found is_calm rests s (move, here, others, leads) =
      (here.0, (here.1, λ calm. never_both c.region s move (calm move others) leads))
  found (is_answered goal) rests s (move, here, turn, given, bad) =
      (here.0, (here.1, turn, answer_bad c.region goal s move given bad))
  found (never_rises goal) rests s (t, ranked, move, choices, here, are, unmet, made, step, higher) =
      let k = position_or_len (λ (r : RankedSet). r.set s) ranked in
      let most = rests.2 s ranked here are in
      let few : k < length ranked = omega arith in (
        here.0,
        (
          ranked,
          k,
          are,
          few,
          record { here = here.1; fails = unmet },
          of_rank ranked k s few refl,
          leaves_by (within_rank ranked (1 + k)) goal s t move choices made step (no_higher ranked (1 + k) t higher),
        ),
      )
  found (falls_when_fair goal) rests s
      (t, ranked, move, choices, here, are, unmet, (k, r, own, is, fair), made, step, no_less) =
      let few = slice_get_within ranked k r is in (
        here.0,
        (
          ranked,
          k,
          r,
          are,
          is,
          record { here = here.1; fails = unmet },
          of_rank ranked k s few own,
          fair,
          leaves_by (within_rank ranked k) goal s t move choices made step (no_higher ranked k t (omega arith)),
        ),
      )
