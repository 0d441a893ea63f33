-- Where the parts of an environment's certificate are found to fail, in terms of predecessors of sets.
use Rattle.std.specs.Prelude.{◌≡◌, ℕ, ◌+◌, ◌<◌, ◌⊎◌, Bool, true, false, Some, List, length, take, slice_get}
use Rattle.std.specs.List.{list_any}
use Rattle.tm_syntax.specs.Design.{DesignTree}
use Rattle.tm_sem.specs.State.{StateData}
use Rattle.tm_sem.specs.Play.{goal_holds}
use Rattle.tm_sem.specs.Fairness.{IsFair}
use Rattle.tm_sem.specs.Forcing.{Forced}
use Rattle.tm_sem.specs.Certificates.{Level, either, level_before, set_before}
use Rattle.tm_verdict.specs.Environment.{IsChain, IsLevel, LevelPart, Passes, begins_lost, grows, has_new, holds_before, is_chain, is_forced_on, is_forced_within, is_in_chain, lies_in, waits_or_falls}

-- the environment forces an error or a state of a set
abbrev pub IsForced : DesignTree → (StateData → Bool) → StateData → Type 0
IsForced d set s = Forced d (λ t. set t ≡ true) s

-- a state is in the set of an index of a chain, and in none before
pub record IsAtPlace (chain : List (StateData → Bool)) (x : ℕ) (s : StateData) : Type 0 where
  pub below : x < length chain
  pub within : list_any (λ (set : StateData → Bool). set s) (take (1 + x) chain) ≡ true
  pub not_before : list_any (λ (set : StateData → Bool). set s) (take x chain) ≡ false

-- a state of a level that is not in the level before
abbrev pub IsAdded : List Level → ℕ → Level → StateData → Type 0
IsAdded levels k l s = (l.set s ≡ true) × (level_before levels k s ≡ false)

-- the states into which a new state at an index of a chain is to be forced
abbrev pub lower_at : List Level → ℕ → List (StateData → Bool) → ℕ → StateData → Bool
lower_at levels k chain x = either (set_before chain x) (level_before levels k)

-- a valid state at which a part is found to fail; a part that names no state fails at none
abbrev pub IsFound : DesignTree → List Level → LevelPart → StateData → Type 0
IsFound d levels (holds_before k) s =
    (l : Level) × IsLevel levels k l × (level_before levels k s ≡ true) × (l.set s ≡ false)
IsFound d levels (has_new k) s = ⊥
IsFound d levels (is_chain k i) s = ⊥
IsFound d levels (grows k i x) s =
    (l : Level) × (chain : List (StateData → Bool)) × (set : StateData → Bool) × IsLevel levels k l
    × IsChain l i chain × (slice_get chain x ≡ Some set) × (set_before chain x s ≡ true) × (set s ≡ false)
IsFound d levels (lies_in k i x) s =
    (l : Level) × (chain : List (StateData → Bool)) × (set : StateData → Bool) × IsLevel levels k l
    × IsChain l i chain × (slice_get chain x ≡ Some set) × (set s ≡ true) × (l.set s ≡ false)
IsFound d levels begins_lost s = ⊥
IsFound d levels (is_forced_on k) s =
    (l : Level) × IsLevel levels k l × IsAdded levels k l s × (goal_holds d s l.goal ≡ true)
    × (¬ IsForced d (level_before levels k) s)
IsFound d levels (is_in_chain k i) s =
    (l : Level) × (chain : List (StateData → Bool)) × IsLevel levels k l × IsChain l i chain × IsAdded levels k l s
    × (list_any (λ (set : StateData → Bool). set s) chain ≡ false)
IsFound d levels (is_forced_within k) s =
    (l : Level) × IsLevel levels k l × IsAdded levels k l s × (¬ IsForced d l.set s)
IsFound d levels (waits_or_falls k i) s =
    (l : Level) × (chain : List (StateData → Bool)) × (x : ℕ) × IsLevel levels k l × IsChain l i chain
    × IsAdded levels k l s × IsAtPlace chain x s × (¬ IsFair d s i) × (¬ IsForced d (lower_at levels k chain x) s)

-- the parts that have to pass before this one is tried
abbrev pub RestsOn : DesignTree → List Level → LevelPart → Type 0
RestsOn d levels (waits_or_falls k i) = Passes d levels (is_in_chain k i)
RestsOn d levels _ = Unit {0}

-- it is decided whether a state is as a part asks
abbrev pub IsDecided : DesignTree → List Level → LevelPart → StateData → Type 0
IsDecided d levels (is_forced_on k) s =
    IsForced d (level_before levels k) s ⊎ (¬ IsForced d (level_before levels k) s)
IsDecided d levels (is_forced_within k) s =
    (l : Level) → IsLevel levels k l → IsForced d l.set s ⊎ (¬ IsForced d l.set s)
IsDecided d levels (waits_or_falls k i) s =
    (l : Level) (chain : List (StateData → Bool)) (x : ℕ) → IsLevel levels k l → IsChain l i chain →
    IsAtPlace chain x s →
    (IsFair d s i ⊎ IsForced d (lower_at levels k chain x) s)
    ⊎ (¬ (IsFair d s i ⊎ IsForced d (lower_at levels k chain x) s))
IsDecided d levels _ s = Unit {0}

-- a part names the states at which it fails
abbrev pub NamesStates : LevelPart → Type 0
NamesStates (has_new k) = ⊥
NamesStates (is_chain k i) = ⊥
NamesStates begins_lost = ⊥
NamesStates _ = Unit {0}
