-- Steps of a walk: what waits leads to a goal, one thing after the other.
use Rattle.std.proofs.Common.{◌≡◌, ℕ, ◌+◌, ◌<◌, Option, Some, Result, Ok, Err, List, [], ◌∷◌, ◌++◌, refl, sym, ap, ◌∙◌, subst, arith}
use Rattle.std.specs.Prelude.{IfOk}
use Rattle.std.proofs.lemmas.List.{append_assoc}
use Rattle.tm_syntax.specs.Tree.{StmtTree}
use Rattle.tm_syntax.specs.Design.{DesignTree}
use Rattle.tm_scope.specs.Cells.{HasCells}
use Rattle.tm_flat_stmts.specs.Flows.{FlowTerms}
use Rattle.tm_flat_bodies.specs.declared.course.Course.{Course}
use Rattle.tm_flat_bodies.specs.declared.stand.Stand.{Stand}
use Rattle.tm_flat_bodies.specs.declared.waiting.Row.{Row}
use Rattle.tm_flat_bodies.specs.declared.waiting.Spot.TheVariants.{Start}
use Rattle.tm_flat_bodies.specs.declared.waiting.Todo.{Todo}
use Rattle.tm_flat_bodies.specs.declared.waiting.Todo.TheVariants as todo
use Rattle.tm_flat_bodies.specs.Inner.Places.{row_tree}
use Rattle.tm_flat_bodies.specs.Inner.Waiting.{Asks, Does, LeadsTo, RowGoal, StepsTo, StmtGoal}
use Rattle.tm_flat_bodies.specs.Inner.Weights.{stmt_most, todo_weight, weights}
use Rattle.tm_flat_bodies.specs.Walks.{RowWalks, StmtLeads, WalkTables}
use Rattle.tm_flat_bodies.proofs.Weights.{weights-append}

-- what holds of an answer that is there leads to something else
pub if_ok : {A E : Type 0} {P Q : A → Type 0} (r : Result A E) → ((x : A) → P x → Q x) → IfOk r P → IfOk r Q
if_ok (Ok x) more holds = more x holds
if_ok (Err e) more holds = tt

module _ (w : WalkTables) (start : Stand) where
  -- what leads to a goal from which other things lead on
  leads_then : (us vs : List Todo) (now : Course) (here : Option FlowTerms)
      (middle goal : Course → Option FlowTerms → Type 0) → LeadsTo w start us now here middle →
      ((end : Course) (g : Option FlowTerms) → middle end g → LeadsTo w start vs end g goal) →
      LeadsTo w start (us ++ vs) now here goal
  leads_then [] vs now here middle goal leads more = more now here leads
  leads_then (u ∷ us) vs now here middle goal leads more = (
    leads.0,
    λ end g did. leads_then us vs end g middle goal (leads.1 end g did) more,
  )

  -- a goal that is met at once
  pub at_once : (goal : Course → Option FlowTerms → Type 0) (most : DesignTree → ℕ) (before after : List Todo)
      (now : Course) (here : Option FlowTerms) → after ≡ before → ((d : DesignTree) → 0 < most d) → goal now here →
      StepsTo w start goal most before after now here
  at_once goal most before after now here same some is = record {
    front = [];
    waits = same;
    leads = is;
    fewer = λ d has. some d;
  }

  -- a walk begins with one row
  pub begins : (waits : List Todo) (row : Row) (now : Course) (flow : FlowTerms) →
      waits ≡ todo.Row Start row ∷ [] → RowWalks w start (row_tree row) now flow →
      LeadsTo w start waits now (Some flow) (RowGoal w start (row_tree row) now flow)
  begins waits row now flow is walks =
      subst (λ (ts : List Todo). LeadsTo w start ts now (Some flow) (RowGoal w start (row_tree row) now flow))
      (sym is) (
        record { there = tt; walks = walks },
        λ end g did. did,
      )

  module _ (before rest : List Todo) (t : Todo) (now : Course) (here : Option FlowTerms)
      (goal : Course → Option FlowTerms → Type 0) (is : before ≡ t ∷ rest)
      (leads : LeadsTo w start before now here goal) where
    so : LeadsTo w start (t ∷ rest) now here goal
    so = subst (λ (ts : List Todo). LeadsTo w start ts now here goal) is leads

    -- what is next has what it asks for
    pub next_asks : Asks w start t now here
    next_asks = so.0

    module _ (after : List Todo) (end : Course) (g : Option FlowTerms)
        (step : StepsTo w start (Does w start t now here) (λ d. todo_weight d w start t) rest after end g) where
      -- behind a step all leads on
      pub stepped : LeadsTo w start after end g goal
      stepped =
          subst (λ (ts : List Todo). LeadsTo w start ts end g goal) (sym step.waits)
          (leads_then step.front rest end g (Does w start t now here) goal step.leads so.1)

      -- and fewer steps are left
      pub fewer_left : (d : DesignTree) → HasCells w.tables d → weights d w start after < weights d w start before
      fewer_left d has =
          let whole = ap (weights d w start) is in
          let parts = ap (weights d w start) step.waits ∙ weights-append d w start step.front rest in
          let less = step.fewer d has in
          omega (arith, whole, parts, less)

  -- behind all that waits the goal is met
  pub all_done : (waits : List Todo) (now : Course) (here : Option FlowTerms)
      (goal : Course → Option FlowTerms → Type 0) → waits ≡ [] → LeadsTo w start waits now here goal → goal now here
  all_done waits now here goal none leads = subst (λ (ts : List Todo). LeadsTo w start ts now here goal) none leads

  -- a step that left one thing for later behind what it went on with
  module _ (goal whole : Course → Option FlowTerms → Type 0) (most all : DesignTree → ℕ) (t : Todo)
      (before middle after : List Todo) (now : Course) (here : Option FlowTerms) (left : middle ≡ t ∷ before)
      (step : StepsTo w start goal most middle after now here)
      (more : (end : Course) (g : Option FlowTerms) → goal end g → LeadsTo w start (t ∷ []) end g whole)
      (room : (d : DesignTree) (n : ℕ) → n < most d → n + todo_weight d w start t < all d) where
    pub left_for_later : StepsTo w start whole all before after now here
    left_for_later = record {
      front = step.front ++ t ∷ [];
      waits = step.waits ∙ ap (λ (ts : List Todo). step.front ++ ts) left
          ∙ sym (append_assoc step.front (t ∷ []) before);
      leads = leads_then step.front (t ∷ []) now here goal whole step.leads more;
      fewer = λ d has.
          let parts = weights-append d w start step.front (t ∷ []) in
          let less = room d (weights d w start step.front) (step.fewer d has) in
          omega (arith, parts, less);
    }

-- a statement that holds no others is led through at once
pub led_at_once : {E : Type 0} (w : WalkTables) (start f : Stand) (s : StmtTree) (from now : Course) (flow : FlowTerms)
    (before : List Todo) (r : Result (Option FlowTerms) E) → IfOk r (StmtLeads w f s from now flow) →
    IfOk r (StepsTo w start (StmtGoal w f s from flow) (λ d. stmt_most d f s) before before now)
led_at_once w start f s from now flow before (Ok g) leads =
    at_once w start (StmtGoal w f s from flow) (λ d. stmt_most d f s) before before now g refl (λ d. omega arith) leads
led_at_once w start f s from now flow before (Err e) leads = tt

-- so is something that waits and leaves nothing behind it
pub done_at_once : {E : Type 0} (w : WalkTables) (start : Stand) (t : Todo) (from now : Course)
    (here : Option FlowTerms) (before : List Todo) (r : Result (Option FlowTerms) E) →
    ((d : DesignTree) → 0 < todo_weight d w start t) → IfOk r (Does w start t from here now) →
    IfOk r (StepsTo w start (Does w start t from here) (λ d. todo_weight d w start t) before before now)
done_at_once w start t from now here before (Ok g) some did =
    at_once w start (Does w start t from here) (λ d. todo_weight d w start t) before before now g refl some did
done_at_once w start t from now here before (Err e) some did = tt
