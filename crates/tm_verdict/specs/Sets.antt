-- The sets of states that the ids of a certificate tell: diagrams over the bits of states (Bryant 1986).
use Rattle.std.specs.Prelude.{ℕ, Bool, true, false, List, [], ◌∷◌, ◌++◌, map, fold, length, slice_index_or, if◌then◌else◌}
use Rattle.tm_syntax.specs.Design.{DesignTree}
use Rattle.tm_sem.specs.State.{StateData}
use Rattle.tm_sem.specs.StateBits.{state_bits}
use Rattle.tm_sem.specs.Certificates.{DriverSets, Level, RankedSet}
use Rattle.tm_cert.specs.declared.cert.Entry.{Entry}
use Rattle.tm_cert.specs.declared.cert.Rank.{Rank}
use Rattle.tm_cert.specs.Cert.{DriverData, EnvData, LevelData}

-- an entry has the value of `hi` where the bit of its level is 1, and that of `lo` where it is 0
abbrev pub entry_value : (ℕ → Bool) → List Bool → Entry → Bool
entry_value bits earlier e = slice_index_or earlier (if bits e.level then e.hi else e.lo) false

-- the values of all ids in order: of 0, which is false, of 1, which is true, and then of each entry
unfoldable pub values_of : List Entry → (ℕ → Bool) → List Bool
values_of nodes bits = fold (λ earlier e. earlier ++ entry_value bits earlier e ∷ []) (false ∷ true ∷ []) nodes

-- whether an id holds at these bits of the levels
unfoldable pub id_holds : List Entry → ℕ → (ℕ → Bool) → Bool
id_holds nodes id bits = slice_index_or (values_of nodes bits) id false

-- the bit of a level at a state: the one whose place the order has for the level
abbrev pub bit_at : DesignTree → List ℕ → StateData → ℕ → Bool
bit_at d order s level = slice_index_or (state_bits d s) (slice_index_or order level (length order)) false

-- the set that an id tells, as a test of states
abbrev pub set_of : DesignTree → List ℕ → List Entry → ℕ → StateData → Bool
set_of d order nodes id s = id_holds nodes id (bit_at d order s)

-- a ranked region
abbrev pub ranked_set : DesignTree → List ℕ → List Entry → Rank → RankedSet
ranked_set d order nodes r = record { fair = r.fair; set = set_of d order nodes r.set }

-- the sets of a driver's certificate
abbrev pub driver_sets : DesignTree → DriverData → DriverSets
driver_sets d c = record {
  region = set_of d c.order c.nodes c.region;
  goals = map (map (ranked_set d c.order c.nodes)) c.goals;
}

-- a level of an environment's certificate
abbrev pub level_sets : DesignTree → List ℕ → List Entry → LevelData → Level
level_sets d order nodes l = record {
  goal = l.goal;
  set = set_of d order nodes l.set;
  chains = map (map (set_of d order nodes)) l.chains;
}

-- the levels of an environment's certificate
abbrev pub levels_of : DesignTree → EnvData → List Level
levels_of d c = map (level_sets d c.order c.nodes) c.levels
