-- Fairness conditions, and the rounds of a stretch of states: the environment owes that each condition holds again and
-- again (Piterman, Pnueli and Sa'ar 2006; which conditions there are is this project's own choice).
use Rattle.std.specs.Prelude.{◌≡◌, ℕ, suc, ◌+◌, ◌<◌, false, true, Bool, Option, Some, List, [], ◌∷◌, ◌++◌, map, not, length, slice_get, IsTrue, ◌⊎◌}
use Rattle.std.specs.Option.{option_map, option_and_then, option_map_or}
use Rattle.std.specs.List.{filter, range_with_len}
use Rattle.tm_syntax.specs.declared.design.Item.{Item}
use Rattle.tm_syntax.specs.Tree.{ExprTree, NamedTree}
use Rattle.tm_syntax.specs.Scopes.Context.{outside}
use Rattle.tm_syntax.specs.Design.{DesignTree}
use Rattle.tm_syntax.specs.Design.Scope.{site}
use Rattle.tm_syntax.specs.Design.Locations.{Thread, thread}
use Rattle.tm_sem.specs.State.{StateData}
use Rattle.tm_sem.specs.Value.{holds_in}
use Rattle.tm_sem.specs.Step.{memory_of, is_driver_turn, IsEnabled}

-- a fairness condition: the driver's, a process's, or a declared one
pub data Condition : Type 0 where
  of_driver : Condition
  of_process : ℕ → Condition
  of_text : Item → Condition

-- whether a process is owed its turns: it is not lazy
abbrev pub is_owed : DesignTree → ℕ → Bool
is_owed d p = option_map_or (λ (t : Thread). not t.process.lazy) (thread d p) false

-- the processes that are owed their turns, in order
abbrev pub owed : DesignTree → List ℕ
owed d = filter (is_owed d) (range_with_len 0 (length d.processes))

-- the conditions of a design in order: the driver's, those of the processes that are not lazy, and the declared ones
abbrev pub conditions : DesignTree → List Condition
conditions d = of_driver ∷ map of_process (owed d) ++ map of_text d.fairs

-- the expression of a declared condition
abbrev pub fair_expr : DesignTree → Item → Option ExprTree
fair_expr d item =
    option_and_then
    (λ k. option_and_then (λ at. option_map (λ (f : NamedTree). f.expr) (slice_get at.template.fairs k))
    (site d item.instance)) item.index

-- whether a declared condition holds
abbrev pub fair_holds : DesignTree → StateData → Item → Bool
fair_holds d s item =
    option_map_or (holds_in d (record { instance = item.instance; body = outside }) (memory_of s)) (fair_expr d item)
    true

-- a condition holds at a state: its actor moved last, or has nothing to do there; a declared one by its expression
abbrev pub IsMet : DesignTree → StateData → Condition → Type 0
IsMet d s of_driver = (s.last ≡ 1) ⊎ (is_driver_turn d s ≡ false)
IsMet d s (of_process p) = (s.last ≡ 2 + p) ⊎ (¬ IsEnabled d s p)
IsMet d s (of_text item) = IsTrue (fair_holds d s item)

-- the fairness condition of this number holds at a state
abbrev pub IsFair : DesignTree → StateData → ℕ → Type 0
IsFair d s i = (c : Condition) × (slice_get (conditions d) i ≡ Some c) × IsMet d s c

-- each fairness condition holds at a state or does not: needed where a number is to be found from it
abbrev pub IsFairOrNot : DesignTree → StateData → Type 0
IsFairOrNot d s = (i : ℕ) → IsFair d s i ⊎ (¬ IsFair d s i)

-- a condition holds at some state of a list
abbrev pub IsMetAmong : DesignTree → List StateData → ℕ → Type 0
IsMetAmong d states i =
    (before after : List StateData) × (s : StateData) × (states ≡ before ++ s ∷ after) × IsFair d s i

-- each fairness condition holds at some state of the list
abbrev pub IsCovered : DesignTree → List StateData → Type 0
IsCovered d states = (i : ℕ) → i < length (conditions d) → IsMetAmong d states i

-- the rounds of a stretch: one ends at the first state by which each condition has held at some state since it began
pub data Rounds (d : DesignTree) : ℕ → List StateData → Type 0 where
  unfinished : {stretch : List StateData} → ¬ IsCovered d stretch → Rounds d 0 stretch
  round : {n : ℕ} (front : List StateData) (last : StateData) {rest : List StateData} →
      ¬ IsCovered d front → IsCovered d (front ++ last ∷ []) → Rounds d n rest →
      Rounds d (suc n) (front ++ last ∷ rest)

-- a stretch has this many rounds or more: so many parts, one behind the other, each of which meets every condition
pub data HasRounds (d : DesignTree) : ℕ → List StateData → Type 0 where
  no_round : (stretch : List StateData) → HasRounds d 0 stretch
  one_more : {n : ℕ} {front : List StateData} (part : List StateData) →
      HasRounds d n front → IsCovered d part → HasRounds d (suc n) (front ++ part)
