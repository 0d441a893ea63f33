-- The diagrams of chains and of a level, from those of all ids.
use Rattle.std.proofs.Common.{◌≡◌, ℕ, zero, suc, ◌<◌, ◌&&◌, not, List, [], ◌∷◌, Some, Vec, Global, length, map, refl, sym, ap, ◌∙◌, subst}
use Rattle.std.specs.Prelude.{All, slice_get}
use Rattle.std.proofs.lemmas.List.{length-map}
use Rattle.std.proofs.lemmas.List.Elements.{All-cons, All-head, All-nil, All-tail}
use Rattle.std.proofs.lemmas.Option.{slice_get-get_or}
use Rattle.tm_cert.specs.Cert.{EnvData, LevelData}
use Rattle.tm_cert.specs.Nodes.{ids_of}
use Rattle.tm_dd.specs.declared.node.NodeId.{NodeId}
use Rattle.tm_dd.specs.declared.node.TheConstants.{FALSE}
use Rattle.tm_dd.specs.Table.{means}
use Rattle.tm_envcheck.specs.declared.levels.LevelDiagrams.{LevelDiagrams}
use Rattle.tm_envcheck.specs.Inner.Loaded.{IsLoadedLevel, chain_at, id_at}
use Rattle.tm_envcheck.specs.Inner.Over.{AreSets, IsLevelOver, chains_in}
use Rattle.tm_game_bits.specs.Functions.{Assignment}
use Rattle.tm_game.specs.Game.{GameData, Grows, IsSet}
use Rattle.tm_verdict.specs.Fitting.{AreNodes, FitsEnvironment, FitsLevel}

-- chains in memory, as lists
pub chains_seen : (ids : List NodeId) (chains : List (Vec ℕ Global)) →
    map (λ (c : Vec ℕ Global). chain_at ids c.items) chains
    ≡ map (chain_at ids) (map (λ (c : Vec ℕ Global). c.items) chains)
chains_seen ids [] = refl
chains_seen ids (c ∷ chains) = ap (λ rest. chain_at ids c.items ∷ rest) (chains_seen ids chains)

pub ids_seen : (count : ℕ) (chains : List (Vec ℕ Global)) →
    All (All (λ (set : ℕ). set < count)) (map (λ (c : Vec ℕ Global). c.items) chains) →
    All (λ (c : Vec ℕ Global). All (λ (set : ℕ). set < count) c.items) chains
ids_seen count [] all = All-nil (λ (c : Vec ℕ Global). All (λ (set : ℕ). set < count) c.items)
ids_seen count (c ∷ chains) all =
    All-cons (λ (d : Vec ℕ Global). All (λ (set : ℕ). set < count) d.items) c chains
    (All-head (All (λ (set : ℕ). set < count)) c.items (map (λ (d : Vec ℕ Global). d.items) chains) all)
    (ids_seen count chains
    (All-tail (All (λ (set : ℕ). set < count)) c.items (map (λ (d : Vec ℕ Global). d.items) chains) all))

-- a level is loaded as its model says
pub loaded_seen : (ids : List NodeId) (seen level : LevelData) (l : LevelDiagrams) → seen ≡ level → l.goal ≡ seen.goal →
    l.set ≡ id_at ids seen.set → chains_in l ≡ map (chain_at ids) seen.chains → IsLoadedLevel ids level l
loaded_seen ids seen level l same goal set chains =
    subst (λ (one : LevelData). IsLoadedLevel ids one l) same (record { goal = goal; set = set; chains = chains })

-- ---- what is loaded consists of sets of states
module _ (g : GameData) (ids : List NodeId) (are : AreSets g ids) where
  id_in : (k : ℕ) → k < length ids → IsSet g (id_at ids k)
  id_in k below = are k (id_at ids k) (slice_get-get_or ids k FALSE below)

  chain_sets : (chain : List ℕ) → All (λ (set : ℕ). set < length ids) chain → AreSets g (chain_at ids chain)
  chain_sets [] all x id there = absurd (cc)
  chain_sets (k ∷ chain) all zero id there =
      let same : id_at ids k ≡ id = cc in
      subst (IsSet g) same (id_in k (All-head (λ (set : ℕ). set < length ids) k chain all))
  chain_sets (k ∷ chain) all (suc x) id there =
      chain_sets chain (All-tail (λ (set : ℕ). set < length ids) k chain all) x id there

  chains_sets : (chains : List (List ℕ)) → All (All (λ (set : ℕ). set < length ids)) chains → (i : ℕ)
      (chain : List NodeId) → slice_get (map (chain_at ids) chains) i ≡ Some chain → AreSets g chain
  chains_sets [] all i chain there = absurd (cc)
  chains_sets (c ∷ chains) all zero chain there =
      let same : chain_at ids c ≡ chain = cc in
      subst (AreSets g) same (chain_sets c (All-head (All (λ (set : ℕ). set < length ids)) c chains all))
  chains_sets (c ∷ chains) all (suc i) chain there =
      chains_sets chains (All-tail (All (λ (set : ℕ). set < length ids)) c chains all) i chain there

  pub level_over : (level : LevelData) → FitsLevel (length g.goals) (length g.fairs) (length ids) level →
      (l : LevelDiagrams) → IsLoadedLevel ids level l → IsSet g l.before → IsSet g l.added →
      ((v : Assignment) → means g.diagrams.table l.added v
      ≡ (means g.diagrams.table l.set v && not (means g.diagrams.table l.before v))) → IsLevelOver g l
  level_over level fits l is before added added_is = record {
    goal = subst (λ (n : ℕ). n < length g.goals) (sym is.goal) fits.goal;
    set = subst (IsSet g) (sym is.set) (id_in level.set fits.set);
    before = before;
    added = added;
    added_is = added_is;
    fairs = ap length is.chains ∙ length-map level.chains (chain_at ids) ∙ fits.count;
    chains = λ i chain there.
        chains_sets level.chains fits.chains i chain
        (sym (ap (λ (cs : List (List NodeId)). slice_get cs i) is.chains) ∙ there);
  }

-- ---- what fits a game still does where it has grown
module _ (g h : GameData) (grows : Grows g h) where
  pub level_fits : (ids : ℕ) (level : LevelData) → FitsLevel (length g.goals) (length g.fairs) ids level →
      FitsLevel (length h.goals) (length h.fairs) ids level
  level_fits ids level =
      subst (λ (n : ℕ). FitsLevel (length g.goals) (length g.fairs) ids level → FitsLevel n (length h.fairs) ids level)
      (ap length (sym grows.goals))
      (subst (λ (n : ℕ). FitsLevel (length g.goals) (length g.fairs) ids level → FitsLevel (length g.goals) n ids level)
      (ap length (sym grows.fairs)) (λ fits. fits))

  module _ (c : EnvData) (fits : FitsEnvironment (length g.order) (length g.goals) (length g.fairs) c) where
    pub nodes_fit : AreNodes (length h.order) c.nodes
    nodes_fit = subst (λ (n : ℕ). AreNodes n c.nodes) (ap length (sym grows.order)) fits.nodes

    pub levels_fit : (ids : List NodeId) → length ids ≡ ids_of c.nodes →
        All (FitsLevel (length h.goals) (length h.fairs) (length ids)) c.levels
    levels_fit ids count =
        subst (λ (n : ℕ). All (FitsLevel (length h.goals) (length h.fairs) n) c.levels) (sym count)
        (subst (λ (n : ℕ). All (FitsLevel n (length h.fairs) (ids_of c.nodes)) c.levels) (ap length (sym grows.goals))
        (subst (λ (n : ℕ). All (FitsLevel (length g.goals) n (ids_of c.nodes)) c.levels) (ap length (sym grows.fairs))
        fits.levels))
