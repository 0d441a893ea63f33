-- What is made of a design before its game is.
-- d a design, t the table of terms, f the guarded updates.
use Rattle.std.specs.Prelude.{◌≡◌}
use Rattle.std.specs.List.{AllZip}
use Rattle.tm_flat.specs.Flat.{FlatTerms}
use Rattle.tm_flat_pool.specs.PoolTerms.{IsPredicateTerm}
use Rattle.tm_flat_pool.specs.Predicates.{pool}
use Rattle.tm_game.specs.Start.{CanStart}
use Rattle.tm_syntax.specs.Design.{DesignTree}
use Rattle.tm_syntax.specs.Design.Atoms.{first_atoms}
use Rattle.tm_term.specs.Table.{Table}

-- guarded updates of a design that a game is made from, with the pool of the design
pub record AreUpdates (d : DesignTree) (t : Table) (f : FlatTerms) : Type 0 where
  pub start : CanStart d t f
  pub predicates : AllZip (IsPredicateTerm t d) (pool d) f.pool
  pub first : f.first ≡ first_atoms d
