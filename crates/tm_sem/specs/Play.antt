-- Goals and plays (Piterman, Pnueli and Sa'ar 2006, with this project's own turn rule).
use Rattle.std.specs.Prelude.{ℕ, ◌+◌, Bool, true, Option, List, [], ◌∷◌, length, nat_lt, slice_get, if◌then◌else◌}
use Rattle.std.specs.Option.{option_map, option_and_then, option_map_or}
use Rattle.std.specs.List.{fold}
use Rattle.tm_syntax.specs.declared.design.Item.{Item}
use Rattle.tm_syntax.specs.Tree.{ExprTree, NamedTree}
use Rattle.tm_syntax.specs.Scopes.Context.{outside}
use Rattle.tm_syntax.specs.Design.{DesignTree}
use Rattle.tm_syntax.specs.Design.Scope.{site}
use Rattle.tm_sem.specs.declared.state.Move.{Move}
use Rattle.tm_sem.specs.declared.state.Move.TheVariants.{Stutter}
use Rattle.tm_sem.specs.declared.state.Outcome.TheVariants.{Next}
use Rattle.tm_sem.specs.State.{StateData}
use Rattle.tm_sem.specs.Value.{holds_in}
use Rattle.tm_sem.specs.Step.{memory_of, IsInitial, Step}

-- the expression of a goal; the one that a design without goals gets has none
abbrev pub goal_expr : DesignTree → Item → Option ExprTree
goal_expr d item =
    option_and_then
    (λ k.
    option_and_then (λ at. option_map (λ (g : NamedTree). g.expr) (slice_get at.template.goals k))
    (site d item.instance))
    item.index

-- whether the goal of this number holds; one without an expression always does
abbrev pub goal_holds : DesignTree → StateData → ℕ → Bool
goal_holds d s g =
    option_map_or
    (λ item.
    option_map_or (holds_in d (record { instance = item.instance; body = outside }) (memory_of s))
    (goal_expr d item) true)
    (slice_get d.goals g) true

-- the goal after this one, in a circle
abbrev pub next_goal : DesignTree → ℕ → ℕ
next_goal d g = if nat_lt (g + 1) (length d.goals) then g + 1 else 0

-- the goal that is pending at a state, given the one that was pending before it
abbrev pub pending_at : DesignTree → ℕ → StateData → ℕ
pending_at d g s = if goal_holds d s g then next_goal d g else g

-- the goal that is pending at the last of a list of states: goal 0 is before the first one
abbrev pub pending : DesignTree → List StateData → ℕ
pending d states = fold (pending_at d) 0 states

-- a step of a play: who moved and how, with which choices, and where it led
pub record Entry : Type 0 where
  pub move : Move
  pub choices : List ℕ
  pub state : StateData

-- each entry is a step from the state before it
abbrev pub StepsAlong : DesignTree → StateData → List Entry → Type 0
StepsAlong d s [] = Unit {0}
StepsAlong d s (e ∷ es) = Step d s e.move e.choices (Next e.state) × StepsAlong d e.state es

-- the last state of a play
abbrev pub last_state : StateData → List Entry → StateData
last_state s [] = s
last_state s (e ∷ es) = last_state e.state es

-- a step in which time passes
abbrev pub stutter : StateData → Entry
stutter s = record { move = Stutter; choices = []; state = record s { last = 0 } }

-- a play: an initial state and steps from it
pub record IsPlay (d : DesignTree) (first : StateData) (entries : List Entry) : Type 0 where
  pub initial : IsInitial d first
  pub steps : StepsAlong d first entries
