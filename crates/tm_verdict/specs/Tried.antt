-- What is known once parts of conditions were tried in order.
use Rattle.std.specs.Prelude.{◌≡◌, ℕ, ◌-◌, List, ◌∷◌, ◌++◌}
use Rattle.std.specs.List.{AllByRecursion, flat_map, range_with_len}
use Rattle.tm_sem.specs.State.{StateData}
use Rattle.tm_verdict.specs.declared.verdict.Verdict.{Verdict}
use Rattle.tm_verdict.specs.declared.verdict.Verdict.TheVariants.{Accepted, Refused}

-- what parts mean: what one asks, and where it fails, the numbers of its condition and goal, and the states reported
pub record Meaning (Part : Type 0) : Type 1 where
  pub passes : Part → Type 0
  pub condition : Part → ℕ
  pub goal : Part → ℕ
  pub reports : Part → StateData → Type 0

-- one of some parts is the first that does not pass, and is reported so
pub record IsRefusedAmong {Part : Type 0} (m : Meaning Part) (tried : List Part) (condition goal : ℕ)
    (s : StateData) : Type 0 where
  pub before : List Part
  pub part : Part
  pub behind : List Part
  pub parts : tried ≡ before ++ part ∷ behind
  pub passed : AllByRecursion m.passes before
  pub number : condition ≡ m.condition part
  pub of_goal : goal ≡ m.goal part
  pub reported : m.reports part s

-- all of some parts pass, or the first that does not is refused; of lists of parts one behind the other this composes
abbrev pub AreTried : {Part : Type 0} → Meaning Part → List Part → Verdict → Type 0
AreTried m tried Accepted = AllByRecursion m.passes tried
AreTried m tried (Refused condition goal s) = IsRefusedAmong m tried condition goal s

-- the parts at all of some places
abbrev pub parts_of : {Part : Type 0} → (ℕ → List Part) → ℕ → List Part
parts_of at count = flat_map at (range_with_len 0 count)

-- what the parts at the places from one on come to, the parts at all places come to
pub record AreTriedTo {Part : Type 0} (m : Meaning Part) (at : ℕ → List Part) (count done : ℕ) : Type 0 where
  pub rest : (v : Verdict) → AreTried m (flat_map at (range_with_len done (count - done))) v →
      AreTried m (parts_of at count) v
