-- Plays grow at their end.
use Rattle.std.proofs.Common.{◌≡◌, ℕ, ◌+◌, None, Some, List, [], ◌∷◌, ◌++◌, length, refl, sym, ap, ◌∙◌, arith}
use Rattle.std.proofs.Common.{append_assoc, length-append}
use Rattle.std.specs.Prelude.{slice_get}
use Rattle.std.proofs.lemmas.List.{append-nil}
use Rattle.tm_syntax.specs.Design.{DesignTree}
use Rattle.tm_sem.specs.State.{StateData}
use Rattle.tm_sem.specs.declared.state.Move.{Move}
use Rattle.tm_sem.specs.declared.state.Outcome.TheVariants.{Next}
use Rattle.tm_sem.specs.Step.{IsInitial, Step}
use Rattle.tm_sem.specs.Play.{Entry, StepsAlong, pending_at}
use Rattle.tm_cir.specs.Tree.{BlockTree}
use Rattle.tm_sem.specs.First.{IsFirst}
use Rattle.tm_play.specs.Script.{TurnData, ScriptData}
use Rattle.tm_play.specs.Report.{state_line}
use Rattle.tm_play.specs.Played.{IsMoveOf, Follows, state_after, goal_after, entry_lines, Reaches}

module _ (d : DesignTree) where
  steps_push : (s : StateData) (es : List Entry) (e : Entry) → StepsAlong d s es →
      Step d (state_after s es) e.move e.choices (Next e.state) → StepsAlong d s (es ++ e ∷ [])
  steps_push s [] e steps step = (step, tt)
  steps_push s (x ∷ es) e steps step = (steps.0, steps_push x.state es e steps.1 step)

  state_push : (s : StateData) (es : List Entry) (e : Entry) → state_after s (es ++ e ∷ []) ≡ e.state
  state_push s [] e = refl
  state_push s (x ∷ es) e = state_push x.state es e

  goal_push : (g : ℕ) (es : List Entry) (e : Entry) →
      goal_after d g (es ++ e ∷ []) ≡ pending_at d (goal_after d g es) e.state
  goal_push g [] e = refl
  goal_push g (x ∷ es) e = goal_push (pending_at d g x.state) es e

  follows_push : (bs : List BlockTree) (s : StateData) (g : ℕ) (ts : List TurnData) (es : List Entry) (t : TurnData)
      (e : Entry) →
      Follows d bs s g ts es → slice_get ts (length es) ≡ Some t →
      IsMoveOf d bs (state_after s es) (goal_after d g es) t.actor e.move → e.choices ≡ t.choices →
      Follows d bs s g ts (es ++ e ∷ [])
  follows_push bs s g [] [] t e follows at moved same = cc
  follows_push bs s g (x ∷ ts) [] t e follows at moved same =
      let is : t ≡ x = cc in rw (sym is) (moved, same, tt)
  follows_push bs s g [] (y ∷ es) t e follows at moved same = elim follows [ ]
  follows_push bs s g (x ∷ ts) (y ∷ es) t e follows at moved same =
      (follows.0, follows.1, follows_push bs y.state (pending_at d g y.state) ts es t e follows.2 at moved same)

  lines_push : (n g : ℕ) (es : List Entry) (e : Entry) →
      entry_lines d n g (es ++ e ∷ []) ≡ entry_lines d n g es
      ++ state_line d (n + length es) (Some e.move) e.state (pending_at d (goal_after d g es) e.state)
  lines_push n g [] e =
      append-nil (state_line d n (Some e.move) e.state (pending_at d g e.state))
      ∙ ap (λ k. state_line d k (Some e.move) e.state (pending_at d g e.state)) (omega arith)
  lines_push n g (x ∷ es) e =
      ap (λ lines. state_line d n (Some x.move) x.state (pending_at d g x.state) ++ lines)
      (lines_push (n + 1) (pending_at d g x.state) es e)
      ∙ sym (append_assoc (state_line d n (Some x.move) x.state (pending_at d g x.state))
      (entry_lines d (n + 1) (pending_at d g x.state) es) _)
      ∙ ap (λ k. (state_line d n (Some x.move) x.state (pending_at d g x.state)
      ++ entry_lines d (n + 1) (pending_at d g x.state) es)
      ++ state_line d k (Some e.move) e.state (pending_at d (goal_after d (pending_at d g x.state) es) e.state))
      (omega arith)

  -- a play begins at an initial state
  pub reaches_first : (bs : List BlockTree) (c : ScriptData) (s : StateData) (g : ℕ) → IsFirst d c.start s →
      IsInitial d s → g ≡ pending_at d 0 s →
      Reaches d bs c 0 s g (state_line d 0 None s g)
  reaches_first bs c s g first initial pending = record {
    first = s;
    entries = [];
    play = record { start = first; play = record { initial = initial; steps = tt }; follows = tt };
    count = refl;
    state = refl;
    goal = sym pending;
    lines = append-nil (state_line d 0 None s (pending_at d 0 s)) ∙ ap (state_line d 0 None s) (sym pending);
  }

  -- a play goes on by the move of its next step
  pub reaches_next : (bs : List BlockTree) (c : ScriptData) (n : ℕ) (s : StateData) (g : ℕ) (text : List ℕ)
      (t : TurnData) (m : Move) (next : StateData) (h : ℕ) →
      Reaches d bs c n s g text → slice_get c.turns n ≡ Some t → IsMoveOf d bs s g t.actor m →
      Step d s m t.choices (Next next) → h ≡ pending_at d g next →
      Reaches d bs c (n + 1) next h (text ++ state_line d (n + 1) (Some m) next h)
  reaches_next bs c n s g text t m next h r at moved step pending =
      let e : Entry = record { move = m; choices = t.choices; state = next } in
      let start = pending_at d 0 r.first in
      let here : IsMoveOf d bs (state_after r.first r.entries) (goal_after d (pending_at d 0 r.first) r.entries) t.actor
      m = rw (r.state, r.goal) moved in
      let stepped : Step d (state_after r.first r.entries) m t.choices (Next next) = rw r.state step in
      let there : slice_get c.turns (length r.entries) ≡ Some t = ap (slice_get c.turns) r.count ∙ at in
      record {
        first = r.first;
        entries = r.entries ++ e ∷ [];
        play = record {
          start = r.play.start;
          play = record {
            initial = r.play.play.initial;
            steps =
                steps_push r.first r.entries e r.play.play.steps stepped;
          };
          follows = follows_push bs r.first (pending_at d 0 r.first) c.turns r.entries t e r.play.follows there here
              refl;
        };
        count = omega (arith, length-append r.entries (e ∷ []), r.count);
        state = state_push r.first r.entries e;
        goal = goal_push (pending_at d 0 r.first) r.entries e ∙ ap (λ k. pending_at d k next) r.goal ∙ sym pending;
        lines =
            ap (λ lines. state_line d 0 None r.first (pending_at d 0 r.first) ++ lines)
            (lines_push 1 (pending_at d 0 r.first) r.entries e)
            ∙ sym (append_assoc (state_line d 0 None r.first (pending_at d 0 r.first))
            (entry_lines d 1 (pending_at d 0 r.first) r.entries) _)
            ∙ ap (λ lines. lines ++ state_line d (1 + length r.entries) (Some m) next
            (pending_at d (goal_after d (pending_at d 0 r.first) r.entries) next)) r.lines
            ∙ ap (λ k. text ++ state_line d k (Some m) next
            (pending_at d (goal_after d (pending_at d 0 r.first) r.entries) next)) (omega (arith, r.count))
            ∙ ap (λ k. text ++ state_line d (n + 1) (Some m) next k)
            (ap (λ k. pending_at d k next) r.goal ∙ sym pending);
      }
