-- The diagrams that are loaded tell the levels of their certificate.
use Rattle.std.proofs.Common.{◌≡◌, ℕ, zero, suc, ◌<◌, List, [], ◌∷◌, Some, length, map, get_or, refl, sym, ap, ◌∙◌, arith}
use Rattle.std.specs.Prelude.{All, slice_get}
use Rattle.std.specs.Option.{option_map, option_map_or}
use Rattle.std.proofs.lemmas.List.{length-map}
use Rattle.std.proofs.lemmas.List.Elements.{All-get_or, All-head, All-tail}
use Rattle.std.proofs.lemmas.Option.{slice_get-get_or, slice_get-map, slice_get_within}
use Rattle.tm_game_bits.specs.AssignedStates.{assignment_of}
use Rattle.tm_cert.specs.Cert.{EnvData, LevelData}
use Rattle.tm_cert.specs.declared.cert.Entry.{Entry}
use Rattle.tm_dd.specs.declared.node.NodeId.{NodeId}
use Rattle.tm_dd.specs.declared.node.TheConstants.{FALSE}
use Rattle.tm_dd.specs.Table.{means}
use Rattle.tm_envcheck.specs.declared.levels.LevelDiagrams.{LevelDiagrams}
use Rattle.tm_envcheck.specs.Inner.Loaded.{AreLoadedLevels, IsLoadedLevel, before_at, chain_at, id_at}
use Rattle.tm_envcheck.specs.Inner.Over.{AreSets}
use Rattle.tm_envcheck.specs.Inner.Told.{TellLevels, chain_told, level_told}
use Rattle.tm_game.specs.Game.{GameData, Grows}
use Rattle.tm_game.specs.Least.{test_of}
use Rattle.tm_game.proofs.Growing.{means_kept}
use Rattle.tm_game.proofs.MadeSets.{false_test}
use Rattle.tm_verdict.specs.Loaded.{AreLoaded}
use Rattle.tm_sem.specs.Certificates.{Level, level_before, nowhere}
use Rattle.tm_verdict.specs.Fitting.{AreNodes, FitsLevel}
use Rattle.tm_verdict.specs.Sets.{level_sets, levels_of, set_of}
use Rattle.tm_verdict.proofs.Values.{reads_levels}
use Rattle.tm_syntax.specs.Design.{DesignTree}

-- each loaded id is a set of states
pub loaded_sets : (g : GameData) (nodes : List Entry) (ids : List NodeId) → AreNodes (length g.order) nodes →
    AreLoaded g.diagrams.table nodes ids → AreSets g ids
loaded_sets g nodes ids nodes_are loaded x id there =
    let is = loaded.each x id there in
    record {
      known = is.known;
      reads = λ v w same.
          is.meaning v ∙ reads_levels (length g.order) x nodes v w nodes_are same ∙ sym (is.meaning w);
    }

module _ (d : DesignTree) (g h : GameData) (grows : Grows g h) (c : EnvData) (ids : List NodeId)
    (order : c.order ≡ g.order) (nodes_are : AreNodes (length g.order) c.nodes)
    (loaded : AreLoaded g.diagrams.table c.nodes ids) where
  -- an id that is loaded tells the set of its number
  id_told : (k : ℕ) → k < length ids → set_of d c.order c.nodes k ≡ test_of d h (id_at ids k)
  id_told k below =
      let at = slice_get-get_or ids k FALSE below in
      let is = loaded.each k (id_at ids k) at in
      let kept = means_kept g h grows (id_at ids k) is.known in
      λ i s.
      (sym (is.meaning (assignment_of d c.order s))
      ∙ (λ j. sym kept j (assignment_of d c.order s))
      ∙ (λ j. means h.diagrams.table (id_at ids k) (assignment_of d ((order ∙ sym grows.order) j) s))) i

  chain_loaded : (chain : List ℕ) → All (λ (set : ℕ). set < length ids) chain →
      map (set_of d c.order c.nodes) chain ≡ chain_told d h (chain_at ids chain)
  chain_loaded [] all = refl
  chain_loaded (k ∷ chain) all =
      let first = id_told k (All-head (λ (set : ℕ). set < length ids) k chain all) in
      let rest = chain_loaded chain (All-tail (λ (set : ℕ). set < length ids) k chain all) in
      λ i. first i ∷ rest i

  chains_loaded : (chains : List (List ℕ)) → All (All (λ (set : ℕ). set < length ids)) chains →
      map (map (set_of d c.order c.nodes)) chains ≡ map (chain_told d h) (map (chain_at ids) chains)
  chains_loaded [] all = refl
  chains_loaded (chain ∷ chains) all =
      let first = chain_loaded chain (All-head (All (λ (set : ℕ). set < length ids)) chain chains all) in
      let rest = chains_loaded chains (All-tail (All (λ (set : ℕ). set < length ids)) chain chains all) in
      λ i. first i ∷ rest i

  level_loaded : (goals fairs : ℕ) (level : LevelData) (l : LevelDiagrams) → FitsLevel goals fairs (length ids) level →
      IsLoadedLevel ids level l → level_sets d c.order c.nodes level ≡ level_told d h l
  level_loaded goals fairs level l fits is =
      let goal = sym is.goal in
      let set = id_told level.set fits.set ∙ ap (test_of d h) (sym is.set) in
      let chains = chains_loaded level.chains fits.chains ∙ ap (map (chain_told d h)) (sym is.chains) in
      λ i. record { goal = goal i; set = set i; chains = chains i }

  module _ (goals fairs : ℕ) (fits : All (FitsLevel goals fairs (length ids)) c.levels)
      (told : List LevelDiagrams) (are : AreLoadedLevels ids c.levels told) where
    here_told : (k : ℕ) (l : LevelDiagrams) → slice_get told k ≡ Some l →
        slice_get (levels_of d c) k ≡ Some (level_told d h l)
    here_told k l there =
        let below : k < length c.levels =
        (let within = slice_get_within told k l there in omega (arith, are.count)) in
        let none : LevelData = record { goal = 0; set = 0; chains = [] } in
        let at : slice_get c.levels k ≡ Some (get_or c.levels k none) = slice_get-get_or c.levels k none below in
        slice_get-map (level_sets d c.order c.nodes) c.levels k
        ∙ ap (option_map (level_sets d c.order c.nodes)) at
        ∙ ap Some
        (level_loaded goals fairs (get_or c.levels k none) l (All-get_or (FitsLevel goals fairs (length ids)) c.levels
        k none below fits) (are.each k (get_or c.levels k none) l at there))

    before_told : (k : ℕ) (l : LevelDiagrams) → slice_get told k ≡ Some l →
        level_before (levels_of d c) k ≡ test_of d h (before_at told k)
    before_told zero l there = sym (false_test d h)
    before_told (suc k) l there =
        let below : k < length told =
        (let within = slice_get_within told (suc k) l there in omega (arith)) in
        let earlier = get_or told k l in
        let at : slice_get told k ≡ Some (get_or told k l) = slice_get-get_or told k l below in
        ap (λ o. option_map_or (λ (m : Level). m.set) o nowhere) (here_told k (get_or told k l) at)
        ∙ ap (test_of d h)
        (sym (ap (λ o. option_map_or (λ (m : LevelDiagrams). m.set) o FALSE) at))

    pub levels_told : TellLevels d h (levels_of d c) told
    levels_told = record {
      count = are.count ∙ sym (length-map c.levels (level_sets d c.order c.nodes));
      each = λ k l there. record {
        here = here_told k l there;
        before = before_told k l there ∙ ap (test_of d h) (sym (are.before k l there));
      };
    }
