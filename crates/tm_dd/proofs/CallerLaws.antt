-- What a caller cites of ids and stores. With `laws` on its functions, by `#[tactic(auto,
-- using(tm_dd::proofs::CallerLaws::laws))]`, it mostly cites nothing.
pub use Rattle.tm_dd.proofs.Extended.{Extends-refl, Extends-trans}
pub use Rattle.tm_dd.proofs.Meaning.{means-FALSE, means-TRUE, means-complement, level_of-complement}
pub use Rattle.tm_dd.proofs.NodeIdLemmas.{same_number, complement-complement}
pub use Rattle.tm_dd.proofs.Ranks.{RanksRise-Extends, RanksRise-numbers, depth_of-Extends, number_rises, rank_of-Extends, rank_of-number, rank_of-same}
use Rattle.std.proofs.Common.{◌≡◌, ◌≤◌, ap, arith}
use Rattle.tm_dd.specs.declared.node.NodeId.{NodeId}
use Rattle.tm_dd.specs.NodeId.{complement, IsConstant}
use Rattle.tm_dd.specs.Reduced.{IsReduced}
use Rattle.tm_dd.specs.Table.{Table, Knows, depth_of, level_of, means, rank_of}
use Rattle.tm_dd.proofs.Meaning.{level_of-constant}
use Rattle.tm_dd.proofs.NodeIdLemmas.{position_of-complement}
use Rattle.tm_dd.proofs.Ranks.{depth_of-constant, rank_of-within}

-- the complement of a known id is known
pub Knows-complement : (s : Table) (id : NodeId) → Knows s id → Knows s (complement id)
Knows-complement s id known = omega (arith, known, position_of-complement id)

-- a constant stands below all levels
pub level_of-IsConstant : (s : Table) (id : NodeId) → IsConstant id → level_of s id ≡ s.levels
level_of-IsConstant s id constant = level_of-constant s id (omega (arith, constant))

-- and so of depths
pub depth_of-IsConstant : (s : Table) → IsReduced s → (id : NodeId) → IsConstant id → depth_of s id ≡ s.levels
depth_of-IsConstant s reduced id constant = depth_of-constant s reduced.ranks id (omega (arith, constant))

pub depth_of-within : (s : Table) → IsReduced s → (id : NodeId) → depth_of s id ≤ s.levels
depth_of-within s reduced id = rank_of-within s reduced.ranks (level_of s id)

pub depth_of-complement : (s : Table) (id : NodeId) → depth_of s (complement id) ≡ depth_of s id
depth_of-complement s id = ap (rank_of s) (level_of-complement s id)

-- the laws of constants and complements, for `grind` and `simp`
pub ruleset laws = (
  means-FALSE,
  means-TRUE,
  means-complement,
  level_of-complement,
  level_of-IsConstant,
  complement-complement,
)
