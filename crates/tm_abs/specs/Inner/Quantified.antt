-- The upper part of a set by diagrams: each atom's level stands for it, the marked levels of a state are quantified,
-- and the atoms are put back.
-- v and w are values of levels, f and id functions of them, told the atoms.
use Rattle.std.specs.Prelude.{◌≡◌, ℕ, ◌<◌, Bool, true, List, Contains}
use Rattle.tm_abs.specs.declared.atoms.Atom.{Atom}
use Rattle.tm_dd.specs.declared.node.NodeId.{NodeId}
use Rattle.tm_dd.specs.Table.{Table, Knows, means}
use Rattle.tm_ddops.specs.Quantified.{AgreeElsewhere, is_marked_level}
use Rattle.tm_game_bits.specs.Functions.{Assignment, Function}

-- values of levels differ at marked levels alone
abbrev pub AgreeUnmarked : List Bool → Assignment → Assignment → Type 0
AgreeUnmarked gone v w = (k : ℕ) → ¬ (is_marked_level gone k ≡ true) → w k ≡ v k

-- an id is true exactly where f is, and a level has the value of another function, for some values of some levels
pub record IsPutTo (s : Table) (level : ℕ) (holds : Function) (ends : List ℕ) (f : Function) (id : NodeId) :
    Type 0 where
  pub known : Knows s id
  pub some : (v : Assignment) → means s id v ≡ true →
      (w : Assignment) × AgreeElsewhere ends v w × (f w ≡ true) × (w level ≡ holds w)
  pub enough : (v w : Assignment) → AgreeElsewhere ends v w → f w ≡ true → w level ≡ holds w → means s id v ≡ true

-- each atom's level has the atom's value
abbrev pub Relates : Table → List Atom → Assignment → Type 0
Relates s told w = (a : Atom) → Contains told a → w a.level ≡ means s a.holds w

-- an id is true exactly where f is true, and each atom's level has the atom's value, for some values of the marked
-- levels
pub record IsQuantified (s : Table) (gone : List Bool) (told : List Atom) (f : Function) (id : NodeId) : Type 0 where
  pub known : Knows s id
  pub some : (v : Assignment) → means s id v ≡ true →
      (w : Assignment) × AgreeUnmarked gone v w × Relates s told w × (f w ≡ true)
  pub enough : (v w : Assignment) → AgreeUnmarked gone v w → Relates s told w → f w ≡ true → means s id v ≡ true

-- an id is true at values of levels of a state exactly where f is at some of those that differ at marked levels alone,
-- and at which each atom has the same value
pub record IsReached (s : Table) (gone : List Bool) (told : List Atom) (count : ℕ) (f : Function) (id : NodeId) :
    Type 0 where
  pub known : Knows s id
  pub some : (v : Assignment) → means s id v ≡ true → (w : Assignment) × (f w ≡ true) ×
      ((k : ℕ) → k < count → ¬ (is_marked_level gone k ≡ true) → w k ≡ v k) ×
      ((a : Atom) → Contains told a → means s a.holds w ≡ means s a.holds v)
  pub enough : (v w : Assignment) → f w ≡ true → AgreeUnmarked gone v w →
      ((a : Atom) → Contains told a → means s a.holds w ≡ means s a.holds v) → means s id v ≡ true
