-- Tracked predicates that are no state bits, and the levels of a state that are quantified.
-- d a design, g its game, s diagrams, count says how many levels are of a state; free marks those whose bits are no
-- tracked predicates, and gone those that are quantified.
use Rattle.std.specs.Prelude.{◌≡◌, ◌⊎◌, ℕ, ◌+◌, ◌<◌, ◌≤◌, true, false, Bool, List, All, Contains, length}
use Rattle.tm_abs.specs.declared.atoms.Atom.{Atom}
use Rattle.tm_abs.specs.Inner.Reading.{IsPoolFunction, ReadsOnly, Tells, TellsOne, bit_at}
use Rattle.tm_dd.specs.declared.node.NodeId.{NodeId}
use Rattle.tm_dd.specs.Table.{Table, Knows, means}
use Rattle.tm_ddops.specs.Quantified.{is_marked_level}
use Rattle.tm_flat_pool.specs.Predicates.{Predicate}
use Rattle.tm_game.specs.Game.{GameData}
use Rattle.tm_game_bits.specs.Functions.{Function}
use Rattle.tm_syntax.specs.Design.{DesignTree}

-- what an atom tells: its level, where it holds, and the levels that this reads
abbrev pub data_of : Atom → ℕ × NodeId × List ℕ
data_of a = (a.level, a.holds, a.reads.items)

-- an atom's level lies behind those of all inputs and is there, its diagram is known, and it reads the levels of the
-- list alone, which are levels of inputs
pub record IsAtom (count : ℕ) (s : Table) (a : Atom) : Type 0 where
  pub behind : count + 128 ≤ a.level
  pub there : a.level < s.levels
  pub known : Knows s a.holds
  pub reads : ReadsOnly s a.holds a.reads.items
  pub inputs : (k : ℕ) → Contains a.reads.items k → k < count + 128

-- a level of a state is not free: its bit is a tracked predicate
abbrev pub IsKept : List Bool → ℕ → Type 0
IsKept free k = (k < length free) × (is_marked_level free k ≡ false)

-- a function is the value of a kept level, or the meaning of an atom
abbrev pub IsShown : Table → List Bool → List Atom → Function → Type 0
IsShown s free atoms f =
    ((k : ℕ) × IsKept free k × (f ≡ bit_at k)) ⊎ ((a : Atom) × Contains atoms a × (f ≡ means s a.holds))

-- an atom's level is that of the number of its predicate, counted from the last level
abbrev pub IsNumbered : DesignTree → GameData → Table → Atom → Type 0
IsNumbered d g s a = (k : ℕ) × (a.level + 1 + k ≡ s.levels) × IsPoolFunction d g k (means s a.holds)

-- each kept level has the value of one of the predicates, each atom is one of them, and stands at the level of its
-- number; and each predicate is shown so
pub record AreTracked (d : DesignTree) (g : GameData) (s : Table) (predicates : List Predicate) (free : List Bool)
    (atoms : List Atom) : Type 0 where
  pub bits : (k : ℕ) → IsKept free k → TellsOne d g.order predicates (bit_at k)
  pub known : All (λ (a : Atom). Knows s a.holds) atoms
  pub told : All (λ (a : Atom). TellsOne d g.order predicates (means s a.holds)) atoms
  pub numbered : All (IsNumbered d g s) atoms
  pub each : (p : Predicate) → Contains predicates p →
      (f : Function) × IsShown s free atoms f × Tells d g.order f p

-- atoms of one level have one meaning
abbrev pub AreApart : Table → List Atom → Type 0
AreApart s atoms =
    (a b : Atom) → Contains atoms a → Contains atoms b → a.level ≡ b.level → means s a.holds ≡ means s b.holds

-- a free level that is read is quantified
abbrev pub ReadsWithin : List Bool → List Bool → List ℕ → Type 0
ReadsWithin free gone reads =
    (k : ℕ) → Contains reads k → is_marked_level free k ≡ true → is_marked_level gone k ≡ true

-- no level that is read is quantified
abbrev pub ReadsNone : List Bool → List ℕ → Type 0
ReadsNone gone reads = (k : ℕ) → Contains reads k → ¬ (is_marked_level gone k ≡ true)
