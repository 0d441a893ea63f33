-- A text of choices has one end.
use Rattle.std.proofs.Common.{◌≡◌, ◌≢◌, ℕ, zero, suc, ◌+◌, ◌<◌, false, inl, inr, ⊎_elim, Some, List, [], ◌∷◌, length}
use Rattle.std.proofs.Common.{refl, sym, ap, subst, ◌∙◌, arith}
use Rattle.std.specs.Prelude.{IsTrue, slice_get}
use Rattle.std.proofs.lemmas.Bool.{cases_order}
use Rattle.tm_syntax.specs.Design.{DesignTree}
use Rattle.tm_sem.specs.State.{StateData}
use Rattle.tm_sem.specs.declared.state.Move.{Move}
use Rattle.tm_sem.specs.declared.state.Outcome.{Outcome}
use Rattle.tm_sem.specs.declared.state.Outcome.TheVariants as outcomes
use Rattle.tm_sem.specs.Step.{is_driver_turn, is_driver_move, Step, IsAllowed}
use Rattle.tm_sem.specs.First.{IsFirst}
use Rattle.tm_sem.specs.Play.{Entry, StepsAlong, pending_at}
use Rattle.tm_sem.proofs.Determined.{one_outcome, one_first}
use Rattle.tm_cir.specs.Tree.{BlockTree}
use Rattle.tm_cir.specs.Answer.{AnswersFrom, goes_first, goes_second, calls, leaves, idles}
use Rattle.tm_cir.proofs.Determined.{one_answer}
use Rattle.tm_play.specs.declared.input.script.Actor.{Actor}
use Rattle.tm_play.specs.declared.input.script.Actor.TheVariants.{Stutter, Process, Driver}
use Rattle.tm_play.specs.declared.ending.StopWhy.{StopWhy}
use Rattle.tm_play.specs.declared.ending.StopWhy.TheVariants.{Error, Forbidden, Illegal}
use Rattle.tm_play.specs.declared.ending.PlayEnd.{PlayEnd}
use Rattle.tm_play.specs.declared.ending.PlayEnd.TheVariants.{Stopped}
use Rattle.tm_play.specs.Script.{TurnData, ScriptData}
use Rattle.tm_play.specs.Played.{IsMoveOf, Follows, state_after, goal_after, play_text, Reaches, Stops, Ends, plays}
use Rattle.tm_play.specs.Played.{stops, begins_badly}

-- the blocks answer with a move of the driver
answers_driver : (bs : List BlockTree) (s : StateData) (g : ℕ) {at : ℕ} {m : Move} → AnswersFrom bs s g at m →
    IsTrue (is_driver_move m)
answers_driver bs s g (goes_first at so rest) = answers_driver bs s g rest
answers_driver bs s g (goes_second at so rest) = answers_driver bs s g rest
answers_driver bs s g (calls at) = refl
answers_driver bs s g (leaves at) = refl
answers_driver bs s g (idles at) = refl

module _ (d : DesignTree) (bs : List BlockTree) where
  -- an actor has one move
  one_move : (actor : Actor) (s : StateData) (g : ℕ) (m n : Move) → IsMoveOf d bs s g actor m →
      IsMoveOf d bs s g actor n → m ≡ n
  one_move Stutter s g m n p q = p ∙ sym q
  one_move (Process k) s g m n p q = p ∙ sym q
  one_move Driver s g m n p q = one_answer bs s g m n p.1 q.1

  -- a driver that cannot be picked has no move
  no_move : (actor : Actor) (s : StateData) (g : ℕ) (m : Move) → actor ≡ Driver → is_driver_turn d s ≡ false →
      IsMoveOf d bs s g actor m → ⊥
  no_move Stutter s g m is none moved = cc
  no_move (Process k) s g m is none moved = cc
  no_move Driver s g m is none moved = let picked = moved.0 in cc

  -- a driver's answer with an outcome is allowed
  allowed_move : (actor : Actor) (s : StateData) (g : ℕ) (m : Move) (choices : List ℕ) (o : Outcome) → actor ≡ Driver →
      IsMoveOf d bs s g actor m →
      Step d s m choices o → o ≢ outcomes.NoOutcome → IsAllowed d s m
  allowed_move Stutter s g m choices o is moved step some = cc
  allowed_move (Process k) s g m choices o is moved step some = cc
  allowed_move Driver s g m choices o is moved step some = (answers_driver bs s g moved.1, choices, o, step, some)

  -- a step has one outcome
  same_outcome : (t : TurnData) (s : StateData) (g : ℕ) (m n : Move) (a b : Outcome) → IsMoveOf d bs s g t.actor m →
      IsMoveOf d bs s g t.actor n →
      Step d s m t.choices a → Step d s n t.choices b → a ≡ b
  same_outcome t s g m n a b p q step other =
      one_outcome d s n t.choices a b (subst (λ (x : Move). Step d s x t.choices a) (one_move t.actor s g m n p q) step)
      other

  -- a driver's answer that is not allowed has no outcome
  never_allowed : (t : TurnData) (s : StateData) (g : ℕ) (m n : Move) (o : Outcome) → t.actor ≡ Driver →
      IsMoveOf d bs s g t.actor m → ¬ (IsAllowed d s m) →
      IsMoveOf d bs s g t.actor n → Step d s n t.choices o → o ≢ outcomes.NoOutcome → ⊥
  never_allowed t s g m n o is p never q step some =
      never (subst (IsAllowed d s) (one_move t.actor s g n m q p)
      (allowed_move t.actor s g n t.choices o is q step some))

  -- a step that stops the play leads to no state
  stops_nowhere : (t : TurnData) (s : StateData) (g : ℕ) (why : StopWhy) (m : Move) (next : StateData) →
      Stops d bs s g t why → IsMoveOf d bs s g t.actor m →
      Step d s m t.choices (outcomes.Next next) → ⊥
  stops_nowhere t s g Error m next stop moved step =
      let same : outcomes.Error ≡ outcomes.Next next =
      same_outcome t s g stop.0 m outcomes.Error (outcomes.Next next) stop.1 moved stop.2 step in cc
  stops_nowhere t s g Forbidden m next stop moved step =
      never_allowed t s g stop.0 m (outcomes.Next next) stop.1 stop.2 stop.3 moved step (λ same. cc)
  stops_nowhere t s g Illegal m next (inl none) moved step = no_move t.actor s g m none.0 none.1 moved
  stops_nowhere t s g Illegal m next (inr stop) moved step =
      let same : outcomes.NoOutcome ≡ outcomes.Next next =
      same_outcome t s g stop.0 m outcomes.NoOutcome (outcomes.Next next) stop.1 moved stop.2 step in cc

  -- an error is no illegal step
  error_illegal : (t : TurnData) (s : StateData) (g : ℕ) → Stops d bs s g t Error → Stops d bs s g t Illegal → ⊥
  error_illegal t s g stop (inl none) = no_move t.actor s g stop.0 none.0 none.1 stop.1
  error_illegal t s g stop (inr other) =
      let same : outcomes.Error ≡ outcomes.NoOutcome =
      same_outcome t s g stop.0 other.0 outcomes.Error outcomes.NoOutcome stop.1 other.1 stop.2 other.2 in cc

  error_forbidden : (t : TurnData) (s : StateData) (g : ℕ) → Stops d bs s g t Error → Stops d bs s g t Forbidden → ⊥
  error_forbidden t s g stop other =
      never_allowed t s g other.0 stop.0 outcomes.Error other.1 other.2 other.3 stop.1 stop.2 (λ same. cc)

  forbidden_illegal : (t : TurnData) (s : StateData) (g : ℕ) → Stops d bs s g t Forbidden → Stops d bs s g t Illegal → ⊥
  forbidden_illegal t s g stop (inl none) = no_move t.actor s g stop.0 none.0 none.1 stop.2
  forbidden_illegal t s g stop (inr other) =
      stop.3 (subst (IsAllowed d s) (one_move t.actor s g other.0 stop.0 other.1 stop.2) (other.3 stop.1))

  -- a step stops the play for one cause
  one_why : (t : TurnData) (s : StateData) (g : ℕ) (one other : StopWhy) → Stops d bs s g t one →
      Stops d bs s g t other → one ≡ other
  one_why t s g Error Error p q = refl
  one_why t s g Error Forbidden p q = absurd (error_forbidden t s g p q)
  one_why t s g Error Illegal p q = absurd (error_illegal t s g p q)
  one_why t s g Forbidden Error p q = absurd (error_forbidden t s g q p)
  one_why t s g Forbidden Forbidden p q = refl
  one_why t s g Forbidden Illegal p q = absurd (forbidden_illegal t s g p q)
  one_why t s g Illegal Error p q = absurd (error_illegal t s g q p)
  one_why t s g Illegal Forbidden p q = absurd (forbidden_illegal t s g q p)
  one_why t s g Illegal Illegal p q = refl

  -- the first entry of a play is what its step gives
  one_entry : (t : TurnData) (s : StateData) (g : ℕ) (e f : Entry) → IsMoveOf d bs s g t.actor e.move →
      e.choices ≡ t.choices → Step d s e.move e.choices (outcomes.Next e.state) →
      IsMoveOf d bs s g t.actor f.move → f.choices ≡ t.choices → Step d s f.move f.choices (outcomes.Next f.state) →
      e ≡ f
  one_entry t s g e f p e_is step q f_is other =
      let moves : e.move ≡ f.move = one_move t.actor s g e.move f.move p q in
      let here : Step d s e.move t.choices (outcomes.Next e.state) =
      subst (λ (cs : List ℕ). Step d s e.move cs (outcomes.Next e.state)) e_is step in
      let there : Step d s f.move t.choices (outcomes.Next f.state) =
      subst (λ (cs : List ℕ). Step d s f.move cs (outcomes.Next f.state)) f_is other in
      let outcome : outcomes.Next e.state ≡ outcomes.Next f.state =
      same_outcome t s g e.move f.move (outcomes.Next e.state) (outcomes.Next f.state) p q here there in
      let states : e.state ≡ f.state = cc in
      ap (λ (m : Move). record e { move = m }) moves
      ∙ ap (λ (cs : List ℕ). record { move = f.move; choices = cs; state = e.state }) (e_is ∙ sym f_is)
      ∙ ap (λ (x : StateData). record { move = f.move; choices = f.choices; state = x }) states

  -- plays of as many steps are one
  one_way : (s : StateData) (g : ℕ) (ts : List TurnData) (es fs : List Entry) → StepsAlong d s es →
      Follows d bs s g ts es → StepsAlong d s fs → Follows d bs s g ts fs →
      length es ≡ length fs → es ≡ fs
  one_way s g ts [] [] steps follows others goes same = refl
  one_way s g ts [] (f ∷ fs) steps follows others goes same = absurd (omega arith)
  one_way s g ts (e ∷ es) [] steps follows others goes same = absurd (omega arith)
  one_way s g [] (e ∷ es) (f ∷ fs) steps follows others goes same = elim follows [ ]
  one_way s g (t ∷ ts) (e ∷ es) (f ∷ fs) steps follows others goes same =
      let first : e ≡ f = one_entry t s g e f follows.0 follows.1 steps.0 goes.0 goes.1 others.0 in
      let states : f.state ≡ e.state = ap (λ (x : Entry). x.state) (sym first) in
      let behind : StepsAlong d e.state fs = subst (λ (x : StateData). StepsAlong d x fs) states others.1 in
      let after : Follows d bs e.state (pending_at d g e.state) ts fs =
      subst (λ (x : StateData). Follows d bs x (pending_at d g x) ts fs) states goes.2 in
      let rest : es ≡ fs = one_way e.state (pending_at d g e.state) ts es fs steps.1 follows.2 behind after
      (omega arith) in
      cc

  -- from the last state of a play, a step with a next state
  pub record LeadsOn (s : StateData) (g : ℕ) (t : TurnData) : Type 0 where
    pub move : Move
    pub next : StateData
    pub moved : IsMoveOf d bs s g t.actor move
    pub step : Step d s move t.choices (outcomes.Next next)

  -- a play goes on as a longer one does
  leads_on : (s : StateData) (g : ℕ) (ts : List TurnData) (es fs : List Entry) (t : TurnData) → StepsAlong d s es →
      Follows d bs s g ts es → StepsAlong d s fs → Follows d bs s g ts fs →
      length es < length fs → slice_get ts (length es) ≡ Some t → LeadsOn (state_after s es) (goal_after d g es) t
  leads_on s g ts es [] t steps follows others goes below at = absurd (omega arith)
  leads_on s g [] es (f ∷ fs) t steps follows others goes below at = elim goes [ ]
  leads_on s g (x ∷ ts) [] (f ∷ fs) t steps follows others goes below at =
      let is : t ≡ x = cc in
      rw is (record {
        move = f.move;
        next = f.state;
        moved = goes.0;
        step =
            subst (λ (cs : List ℕ). Step d s f.move cs (outcomes.Next f.state)) goes.1 others.0;
      })
  leads_on s g (x ∷ ts) (e ∷ es) (f ∷ fs) t steps follows others goes below at =
      let first : e ≡ f = one_entry x s g e f follows.0 follows.1 steps.0 goes.0 goes.1 others.0 in
      let states : f.state ≡ e.state = ap (λ (y : Entry). y.state) (sym first) in
      let behind : StepsAlong d e.state fs = subst (λ (y : StateData). StepsAlong d y fs) states others.1 in
      let after : Follows d bs e.state (pending_at d g e.state) ts fs =
      subst (λ (y : StateData). Follows d bs y (pending_at d g y) ts fs) states goes.2 in
      leads_on e.state (pending_at d g e.state) ts es fs t steps.1 follows.2 behind after (omega arith) at

  module _ (c : ScriptData) where
    -- what two plays of as many steps share
    pub record AreOne (s : StateData) (g : ℕ) (text : List ℕ) (s2 : StateData) (g2 : ℕ) (text2 : List ℕ) : Type 0 where
      pub state : s ≡ s2
      pub goal : g ≡ g2
      pub lines : text ≡ text2

    -- choices lead to one state after so many steps
    one_reach : (n k : ℕ) (s s2 : StateData) (g g2 : ℕ) (text text2 : List ℕ) → Reaches d bs c n s g text →
        Reaches d bs c k s2 g2 text2 → n ≡ k → AreOne s g text s2 g2 text2
    one_reach n k s s2 g g2 text text2 p q same =
        let first : q.first ≡ p.first = one_first d c.start q.first p.first q.play.start p.play.start in
        let steps : StepsAlong d p.first q.entries =
        subst (λ (x : StateData). StepsAlong d x q.entries) first q.play.play.steps in
        let follows : Follows d bs p.first (pending_at d 0 p.first) c.turns q.entries =
        subst (λ (x : StateData). Follows d bs x (pending_at d 0 x) c.turns q.entries) first q.play.follows in
        let entries : p.entries ≡ q.entries =
        one_way p.first (pending_at d 0 p.first) c.turns p.entries q.entries p.play.play.steps p.play.follows steps
        follows (p.count ∙ same ∙ sym q.count) in
        record {
          state = sym p.state ∙ ap (state_after p.first) entries
              ∙ ap (λ (x : StateData). state_after x q.entries) (sym first) ∙ q.state;
          goal = sym p.goal ∙ ap (goal_after d (pending_at d 0 p.first)) entries
              ∙ ap (λ (x : StateData). goal_after d (pending_at d 0 x) q.entries) (sym first) ∙ q.goal;
          lines = sym p.lines ∙ ap (play_text d p.first) entries
              ∙ ap (λ (x : StateData). play_text d x q.entries) (sym first) ∙ q.lines;
        }

    -- a play that stops has no longer one
    no_longer : (n k : ℕ) (s s2 : StateData) (g g2 : ℕ) (text text2 : List ℕ) (t : TurnData) (why : StopWhy) →
        Reaches d bs c n s g text → slice_get c.turns n ≡ Some t → Stops d bs s g t why →
        Reaches d bs c k s2 g2 text2 → n < k → ⊥
    no_longer n k s s2 g g2 text text2 t why p at stop q below =
        let first : q.first ≡ p.first = one_first d c.start q.first p.first q.play.start p.play.start in
        let steps : StepsAlong d p.first q.entries =
        subst (λ (x : StateData). StepsAlong d x q.entries) first q.play.play.steps in
        let follows : Follows d bs p.first (pending_at d 0 p.first) c.turns q.entries =
        subst (λ (x : StateData). Follows d bs x (pending_at d 0 x) c.turns q.entries) first q.play.follows in
        let shorter : length p.entries < length q.entries = omega (arith, p.count, q.count) in
        let there : slice_get c.turns (length p.entries) ≡ Some t = ap (slice_get c.turns) p.count ∙ at in
        let on = leads_on p.first (pending_at d 0 p.first) c.turns p.entries q.entries t p.play.play.steps
        p.play.follows steps follows shorter there in
        let here : IsMoveOf d bs (state_after p.first p.entries) g t.actor on.move =
        subst (λ (x : ℕ). IsMoveOf d bs (state_after p.first p.entries) x t.actor on.move) p.goal on.moved in
        let moved : IsMoveOf d bs s g t.actor on.move =
        subst (λ (x : StateData). IsMoveOf d bs x g t.actor on.move) p.state here in
        stops_nowhere t s g why on.move on.next stop moved
        (subst (λ (x : StateData). Step d x on.move t.choices (outcomes.Next on.next)) p.state on.step)

    -- the place of an item is below the end
    below_end : {A : Type 0} (xs : List A) (n : ℕ) (x : A) → slice_get xs n ≡ Some x → n < length xs
    below_end [] n x at = cc
    below_end (y ∷ ys) zero x at = omega arith
    below_end (y ∷ ys) (suc n) x at = let rest = below_end ys n x at in omega arith

    -- two stops are one
    one_stop : (n k : ℕ) (s s2 : StateData) (g g2 : ℕ) (text text2 : List ℕ) (t t2 : TurnData) (one other : StopWhy) →
        Reaches d bs c n s g text → slice_get c.turns n ≡ Some t → Stops d bs s g t one →
        Reaches d bs c k s2 g2 text2 → slice_get c.turns k ≡ Some t2 → Stops d bs s2 g2 t2 other → n ≡ k →
        (text ≡ text2) × (Stopped (n + 1) one ≡ Stopped (k + 1) other)
    one_stop n k s s2 g g2 text text2 t t2 one other p at stop q there stop2 same =
        let both = one_reach n k s s2 g g2 text text2 p q same in
        let turns : Some t2 ≡ Some t = sym there ∙ ap (slice_get c.turns) (sym same) ∙ at in
        let turn : t2 ≡ t = cc in
        let of_turn : Stops d bs s2 g2 t other = subst (λ (x : TurnData). Stops d bs s2 g2 x other) turn stop2 in
        let of_goal : Stops d bs s2 g t other = subst (λ (x : ℕ). Stops d bs s2 x t other) (sym both.goal) of_turn in
        let moved : Stops d bs s g t other =
        subst (λ (x : StateData). Stops d bs x g t other) (sym both.state) of_goal in (
          both.lines,
          ap (λ (x : ℕ). Stopped (x + 1) one) same
              ∙ ap (Stopped (k + 1)) (one_why t s g one other stop moved),
        )

    -- a play is no first state that is wanting
    no_start : (n : ℕ) (s : StateData) (g : ℕ) (text : List ℕ) → Reaches d bs c n s g text →
        ((x : StateData) → ¬ (IsFirst d c.start x)) → ⊥
    no_start n s g text p none = none p.first p.play.start

    -- a text of choices has one end
    pub one_end : (text other_text : List ℕ) (end other : PlayEnd) → Ends d bs c text end →
        Ends d bs c other_text other → (text ≡ other_text) × (end ≡ other)
    one_end text other_text end other (plays {s = s} {g = g} p) (plays {s = s2} {g = g2} q) =
        ((one_reach (length c.turns) (length c.turns) s s2 g g2 text other_text p q refl).lines, refl)
    one_end text other_text end other (plays {s = s} {g = g} p)
        (stops {n = n} {s = s2} {g = g2} {t = t} {why = why} q at stop) =
        absurd (no_longer n (length c.turns) s2 s g2 g other_text text t why q at stop p (below_end c.turns n t at))
    one_end text other_text end other (plays {s = s} {g = g} p) (begins_badly none) =
        absurd (no_start (length c.turns) s g text p none)
    one_end text other_text end other (stops {n = n} {s = s2} {g = g2} {t = t} {why = why} q at stop)
        (plays {s = s} {g = g} p) =
        absurd (no_longer n (length c.turns) s2 s g2 g text other_text t why q at stop p (below_end c.turns n t at))
    one_end text other_text end other (stops {n = n} {s = s} {g = g} {t = t} {why = why} p at stop)
        (stops {n = k} {s = s2} {g = g2} {t = t2} {why = why2} q there stop2) =
        ⊎_elim (λ same. one_stop n k s s2 g g2 text other_text t t2 why why2 p at stop q there stop2 same)
        (⊎_elim (λ below. absurd (no_longer n k s s2 g g2 text other_text t why p at stop q below))
        (λ below. absurd (no_longer k n s2 s g2 g other_text text t2 why2 q there stop2 p below)))
        (cases_order n k)
    one_end text other_text end other (stops {n = n} {s = s} {g = g} p at stop) (begins_badly none) =
        absurd (no_start n s g text p none)
    one_end text other_text end other (begins_badly none) (plays {s = s} {g = g} p) =
        absurd (no_start (length c.turns) s g other_text p none)
    one_end text other_text end other (begins_badly none) (stops {n = n} {s = s} {g = g} p at stop) =
        absurd (no_start n s g other_text p none)
    one_end text other_text end other (begins_badly none) (begins_badly others) = (refl, refl)
