-- States that do not fall in a chain.
use Rattle.std.specs.Prelude.{◌≡◌, ◌⊎◌, ℕ, ◌<◌, Bool, true, List}
use Rattle.tm_verdict.specs.Levels.{IsAtPlace, IsForced}
use Rattle.tm_sem.specs.Certificates.{either, set_before}
use Rattle.tm_sem.specs.State.{StateData}
use Rattle.tm_syntax.specs.Design.{DesignTree}

-- the states into which those at an index of a chain are to be forced: the set before, or the ones below
abbrev pub lower_than : List (StateData → Bool) → (StateData → Bool) → ℕ → StateData → Bool
lower_than chain below x = either (set_before chain x) below

-- a state of a set has a place in a chain from which it cannot be forced lower
abbrev pub IsStuckIn : DesignTree → List (StateData → Bool) → (StateData → Bool) → (StateData → Bool) → StateData →
    Type 0
IsStuckIn d chain unmet below s =
    (x : ℕ) × (unmet s ≡ true) × IsAtPlace chain x s × (¬ IsForced d (lower_than chain below x) s)

-- it is decided whether a state can be forced lower than an index of a chain
abbrev pub IsSettled : DesignTree → List (StateData → Bool) → (StateData → Bool) → ℕ → StateData → Type 0
IsSettled d chain below x s =
    IsForced d (lower_than chain below x) s ⊎ (¬ IsForced d (lower_than chain below x) s)

-- so has it one before an index
abbrev pub IsStuckBelow : DesignTree → List (StateData → Bool) → (StateData → Bool) → (StateData → Bool) → ℕ →
    StateData → Type 0
IsStuckBelow d chain unmet below count s =
    (x : ℕ) × (x < count) × (unmet s ≡ true) × IsAtPlace chain x s × (¬ IsForced d (lower_than chain below x) s)
