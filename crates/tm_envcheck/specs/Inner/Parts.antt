-- The parts of the conditions that are tried of a level and of a chain.
use Rattle.std.specs.Prelude.{ℕ, List, [], ◌∷◌, ◌++◌}
use Rattle.std.specs.List.{flat_map}
use Rattle.tm_envcheck.specs.declared.chains.ChainCondition.{ChainCondition}
use Rattle.tm_envcheck.specs.declared.chains.ChainCondition.TheVariants.{Shaped, Holding, Waiting}
use Rattle.tm_envcheck.specs.declared.conditions.LevelCondition.{LevelCondition}
use Rattle.tm_envcheck.specs.declared.conditions.LevelCondition.TheVariants.{Shape, ForcedOn, InChains, ForcedWithin, WaitsOrFalls}
use Rattle.tm_sem.specs.Certificates.{Level}
use Rattle.tm_syntax.specs.Design.{DesignTree}
use Rattle.tm_verdict.specs.Environment.{LevelPart, Passes, chain_parts, chain_places, is_forced_on, is_forced_within, is_in_chain, level_places, shape_parts, waits_or_falls}

-- the parts of a condition that speak of a chain
abbrev pub chain_parts_at : ChainCondition → List Level → ℕ → ℕ → List LevelPart
chain_parts_at Shaped levels k i = chain_parts levels k i
chain_parts_at Holding levels k i = is_in_chain k i ∷ []
chain_parts_at Waiting levels k i = waits_or_falls k i ∷ []

-- the parts of a condition that speak of a level
abbrev pub parts_at : LevelCondition → List Level → ℕ → List LevelPart
parts_at Shape levels k = shape_parts levels k
parts_at ForcedOn levels k = is_forced_on k ∷ []
parts_at InChains levels k = flat_map (chain_parts_at Holding levels k) (chain_places levels k)
parts_at ForcedWithin levels k = is_forced_within k ∷ []
parts_at WaitsOrFalls levels k = flat_map (chain_parts_at Waiting levels k) (chain_places levels k)

-- the parts of the conditions on what is forced
abbrev pub step_parts : List Level → List LevelPart
step_parts levels =
    flat_map (parts_at ForcedOn levels) (level_places levels)
    ++ (flat_map (parts_at InChains levels) (level_places levels)
    ++ (flat_map (parts_at ForcedWithin levels) (level_places levels)
    ++ flat_map (parts_at WaitsOrFalls levels) (level_places levels)))

-- what has to pass before a condition is tried of a chain: where it waits, that the chain holds every new state
abbrev pub RestsOnChain : DesignTree → List Level → ChainCondition → ℕ → ℕ → Type 0
RestsOnChain d levels Waiting k i = Passes d levels (is_in_chain k i)
RestsOnChain d levels _ k i = Unit {0}

-- and of a level
abbrev pub Rests : DesignTree → List Level → LevelCondition → ℕ → Type 0
Rests d levels WaitsOrFalls k = (i : ℕ) → Passes d levels (is_in_chain k i)
Rests d levels _ k = Unit {0}
