-- A function where levels have the least values for which it is true.
use Rattle.std.specs.Prelude.{◌≡◌, ℕ, Bool, true, false, List, map}
use Rattle.tm_dd.specs.declared.node.NodeId.{NodeId}
use Rattle.tm_dd.specs.declared.node.TheConstants.{FALSE}
use Rattle.tm_dd.specs.Table.{Table, Knows, means}
use Rattle.tm_sem.specs.StateBits.{comes_before}

-- an id is a part of f in which a level has the least value that it has in f, and all of that part
pub record IsCleared (s : Table) (f : NodeId) (level : ℕ) (id : NodeId) : Type 0 where
  pub known : Knows s id
  pub within : (v : ℕ → Bool) → means s id v ≡ true → means s f v ≡ true
  pub empty : id ≡ FALSE → f ≡ FALSE
  pub least : (v w : ℕ → Bool) → means s id v ≡ true → means s f w ≡ true → w level ≡ false → v level ≡ false
  pub whole : (v w : ℕ → Bool) → means s id v ≡ true → means s f w ≡ true → w level ≡ v level → means s id w ≡ true

-- an id is a part of f in which some levels, of which the first decides, have the least values that they have in f, and
-- all of that part
pub record IsNarrowed (s : Table) (f : NodeId) (levels : List ℕ) (id : NodeId) : Type 0 where
  pub known : Knows s id
  pub within : (v : ℕ → Bool) → means s id v ≡ true → means s f v ≡ true
  pub empty : id ≡ FALSE → f ≡ FALSE
  pub least : (v w : ℕ → Bool) → means s id v ≡ true → means s f w ≡ true →
      comes_before (map w levels) (map v levels) ≡ false
  pub whole : (v w : ℕ → Bool) → means s id v ≡ true → means s f w ≡ true → map w levels ≡ map v levels →
      means s id w ≡ true
