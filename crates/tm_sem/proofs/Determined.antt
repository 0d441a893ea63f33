-- A run has one ending, so a move with given choices has one outcome.
use Rattle.std.proofs.Common.{◌≡◌, ℕ, Option, None, Some, List, ◌++◌, sym, ap, ◌∙◌, subst}
use Rattle.std.specs.Prelude.{MatchOption}
use Rattle.tm_syntax.specs.Design.{DesignTree}
use Rattle.tm_sem.specs.declared.state.Move.{Move}
use Rattle.tm_sem.specs.declared.state.Outcome.{Outcome}
use Rattle.tm_sem.specs.declared.state.Outcome.TheVariants.{NoOutcome}
use Rattle.tm_sem.specs.State.{StateData}
use Rattle.tm_sem.specs.Value.{Memory}
use Rattle.tm_sem.specs.Run.{Ending, goes_on, comes_to, Run, none_left, ends, goes}
use Rattle.tm_syntax.specs.Design.Work.{WorkItem}
use Rattle.tm_sem.specs.First.{IsFirst}
use Rattle.tm_sem.specs.Step.{Work, work, outcome_of, Comes, Step}

-- two runs of the same items from the same memory with the same choices have one ending
pub one_ending : {d : DesignTree} {items : List WorkItem} {m : Memory} {cs : List ℕ} {a b : Ending} →
    Run d items m cs a → Run d items m cs b → a ≡ b
one_ending (none_left p) (none_left q) = p ∙ sym q
one_ending (ends {e = a} p) (ends {e = b} q) = let same : comes_to a ≡ comes_to b = sym p ∙ q in cc
one_ending (ends {e = a} p) (goes {front = f} {n = n} {ds = ds} q r) = let same : comes_to a ≡ goes_on f n ds =
    sym p ∙ q in cc
one_ending (goes {front = f} {n = n} {ds = ds} p r) (ends {e = b} q) = let same : goes_on f n ds ≡ comes_to b =
    sym p ∙ q in cc
one_ending {d} (goes {others = rest} {front = f} {n = n} {ds = ds} p r)
    (goes {front = g} {n = k} {ds = es} {e = b} q s) =
    let same : goes_on f n ds ≡ goes_on g k es = sym p ∙ q in
    let front : g ≡ f = cc in
    let memory : k ≡ n = cc in
    let choices : es ≡ ds = cc in
    one_ending r (subst (λ (x : List WorkItem). Run d (x ++ rest) n ds b) front
    (subst (λ (x : Memory). Run d (g ++ rest) x ds b) memory
    (subst (λ (x : List ℕ). Run d (g ++ rest) k x b) choices s)))

-- a move with given choices has one outcome
pub one_outcome : (d : DesignTree) (s : StateData) (move : Move) (choices : List ℕ) (a b : Outcome) →
    Step d s move choices a → Step d s move choices b → a ≡ b
one_outcome d s move choices a b = of_work (work d s move)
  where
    of_work : (w : Option Work) → MatchOption w (a ≡ NoOutcome) (λ w. Comes d s w choices a) →
        MatchOption w (b ≡ NoOutcome) (λ w. Comes d s w choices b) → a ≡ b
    of_work None p q = p ∙ sym q
    of_work (Some w) p q = p.outcome ∙ ap (outcome_of d s w) (one_ending p.run q.run) ∙ sym q.outcome

-- choices give one state to begin with
pub one_first : (d : DesignTree) (choices : List ℕ) (s t : StateData) → IsFirst d choices s → IsFirst d choices t →
    s ≡ t
one_first d choices s t p q =
    let values : s.values ≡ t.values = let same : Some s.values ≡ Some t.values = sym p.values ∙ q.values in cc in
    ap (λ (vs : List ℕ). record s { values = vs }) values
    ∙ ap (λ (ps : List ℕ). record { values = t.values; places = ps; last = s.last }) (p.places ∙ sym q.places)
    ∙ ap (λ (n : ℕ). record { values = t.values; places = t.places; last = n }) (p.last ∙ sym q.last)
