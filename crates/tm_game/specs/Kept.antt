-- The sets of states that a game keeps.
use Rattle.std.specs.Prelude.{◌≡◌, true, List}
use Rattle.tm_dd.specs.declared.node.NodeId.{NodeId}
use Rattle.tm_dd.specs.Table.{Table, means}
use Rattle.tm_flat.specs.Flat.{FlatTerms}
use Rattle.tm_game_bits.specs.Diagrams.{IsSetOf}
use Rattle.tm_game_steps.specs.Sets.{AreSets, IsAlwaysOneIn, IsOneIn}
use Rattle.tm_game_steps.specs.Setting.{Setting}

-- ids are the sets of goals and fairness conditions, of initial states, and of valid states at which the driver can be
-- picked
pub record AreKept (x : Setting) (f : FlatTerms) (s : Table) (valid picked : NodeId) (goals fairs : List NodeId)
    (initial turn : NodeId) : Type 0 where
  pub goals_are : AreSets s (IsOneIn x (means s valid)) f.goals goals
  pub fairs_are : AreSets s (IsAlwaysOneIn x (means s valid)) f.fairs fairs
  pub initial_is : IsSetOf s (IsOneIn x (means s valid) f.initial) initial
  pub turn_is : IsSetOf s (λ v. (means s valid v ≡ true) × (means s picked v ≡ true)) turn
