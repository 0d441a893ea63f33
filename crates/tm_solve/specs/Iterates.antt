-- The iterates of a solution as sets of states.
use Rattle.std.specs.Prelude.{◌≡◌, List, [], ◌∷◌, map}
use Rattle.tm_dd.specs.declared.node.NodeId.{NodeId}
use Rattle.tm_sem.specs.Certificates.{RankedSet, DriverSets, Level}
use Rattle.tm_solve.specs.declared.iterates.Iterates.{Iterates}
use Rattle.tm_solve.specs.declared.iterates.Ranking.{Ranking}
use Rattle.tm_solve.specs.declared.iterates.RankSet.{RankSet}
use Rattle.tm_solve.specs.declared.iterates.LevelSet.{LevelSet}
use Rattle.tm_solve.specs.declared.iterates.Chain.{Chain}
use Rattle.tm_solve.specs.Sets.{StateSet}
use Rattle.tm_solve.specs.Ids.{Ids}

-- the sets of a chain
abbrev pub chain_sets : Ids → Chain → List StateSet
chain_sets ids c = map ids.means c.sets.items

-- a ranked set
abbrev pub ranked_set : Ids → RankSet → RankedSet
ranked_set ids r = record { fair = r.fair; set = ids.means r.set }

-- the ranked sets of a goal
abbrev pub ranked_sets : Ids → Ranking → List RankedSet
ranked_sets ids r = map (ranked_set ids) r.sets.items

-- a level
abbrev pub level_of : Ids → LevelSet → Level
level_of ids l = record { goal = l.goal; set = ids.means l.set; chains = map (chain_sets ids) l.chains.items }

-- the region and the ranked sets of a solution
abbrev pub driver_sets : Ids → Iterates → DriverSets
driver_sets ids it = record { region = ids.means it.region; goals = map (ranked_sets ids) it.ranks.items }

-- the levels of a solution
abbrev pub levels_of : Ids → Iterates → List Level
levels_of ids it = map (level_of ids) it.levels.items

-- something holds of each item of a list
abbrev pub Each : {A : Type 0} → (A → Type 0) → List A → Type 0
Each P [] = Unit {0}
Each P (x ∷ xs) = P x × Each P xs

-- each id of a chain is known
abbrev pub KnowsChain : Ids → Chain → Type 0
KnowsChain ids c = Each ids.knows c.sets.items

-- each id of ranked sets is known
abbrev pub KnowsRanks : Ids → List RankSet → Type 0
KnowsRanks ids rs = Each (λ (r : RankSet). ids.knows r.set) rs

-- each id of a level is known
abbrev pub KnowsLevel : Ids → LevelSet → Type 0
KnowsLevel ids l = ids.knows l.set × Each (KnowsChain ids) l.chains.items

-- each id of a solution is known
pub record KnowsAll (ids : Ids) (it : Iterates) : Type 0 where
  pub region : ids.knows it.region
  pub ranks : Each (λ (r : Ranking). KnowsRanks ids r.sets.items) it.ranks.items
  pub levels : Each (KnowsLevel ids) it.levels.items

-- the id of the last ranked set, or another id where there is none
abbrev pub last_id : NodeId → List RankSet → NodeId
last_id id [] = id
last_id id (r ∷ rs) = last_id r.set rs

-- the last ranked set of each goal that has any is the region, by its id
abbrev pub EndAt : NodeId → List Ranking → Type 0
EndAt id rankings = Each (λ (r : Ranking). last_id id r.sets.items ≡ id) rankings
