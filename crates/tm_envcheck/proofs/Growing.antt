-- What is left of diagrams, and of what they tell, where a game has grown.
use Rattle.std.proofs.Common.{◌≡◌, ℕ, suc, ◌<◌, ◌&&◌, not, List, [], ◌∷◌, Some, length, map, refl, sym, ap, ◌∙◌, subst}
use Rattle.std.specs.Prelude.{slice_get}
use Rattle.tm_game_bits.specs.AssignedStates.{assignment_of}
use Rattle.tm_dd.specs.declared.node.NodeId.{NodeId}
use Rattle.tm_dd.specs.Table.{means}
use Rattle.tm_envcheck.specs.declared.levels.LevelDiagrams.{LevelDiagrams}
use Rattle.tm_envcheck.specs.Inner.Over.{AreLevelsOver, AreSets, IsLevelOver, IsReady, chains_in}
use Rattle.tm_envcheck.specs.Inner.Told.{TellLevels, TellsLevel, TellsSet, chain_told, level_told}
use Rattle.tm_envcheck.specs.Verdict.{CanCheck}
use Rattle.tm_game_bits.specs.Functions.{Assignment}
use Rattle.tm_game.specs.Game.{GameData, Grows, IsSet}
use Rattle.tm_game.specs.Least.{test_of}
use Rattle.tm_game.proofs.Growing.{means_kept, of_kept, order_kept, set_kept}
use Rattle.tm_sem.specs.Certificates.{Level}
use Rattle.tm_syntax.specs.Design.{DesignTree}

module _ (g h : GameData) (grows : Grows g h) where
  pub ready_kept : IsReady g → IsReady h
  ready_kept is = record {
    design = (is.design.0, of_kept g h grows is.design.0 is.design.1);
    order = order_kept g h grows is.order;
  }

  pub can_kept : (d : DesignTree) → CanCheck d g → CanCheck d h
  can_kept d can = record { of = of_kept g h grows d can.of; regular = can.regular; begins = can.begins }

  -- ---- sets
  pub means_at : (id : NodeId) → IsSet g id → (v : Assignment) →
      means h.diagrams.table id v ≡ means g.diagrams.table id v
  means_at id is v = λ i. means_kept g h grows id is.known i v

  pub sets_kept : (ids : List NodeId) → AreSets g ids → AreSets h ids
  sets_kept ids are = λ x id there. set_kept g h grows id (are x id there)

  pub test_kept : (d : DesignTree) (id : NodeId) → IsSet g id → test_of d h id ≡ test_of d g id
  test_kept d id is = λ i s. means_kept g h grows id is.known i (assignment_of d (grows.order i) s)

  -- ---- chains
  later_sets : (id : NodeId) (ids : List NodeId) → AreSets g (id ∷ ids) → AreSets g ids
  later_sets id ids are = λ x other there. are (suc x) other there

  pub chain_kept : (d : DesignTree) (ids : List NodeId) → AreSets g ids → chain_told d h ids ≡ chain_told d g ids
  chain_kept d [] are = refl
  chain_kept d (id ∷ ids) are =
      let first = test_kept d id (are 0 id refl) in
      let rest = chain_kept d ids (later_sets id ids are) in
      λ i. first i ∷ rest i

  chains_kept : (d : DesignTree) (chains : List (List NodeId)) →
      ((i : ℕ) (chain : List NodeId) → slice_get chains i ≡ Some chain → AreSets g chain) →
      map (chain_told d h) chains ≡ map (chain_told d g) chains
  chains_kept d [] each = refl
  chains_kept d (chain ∷ chains) each =
      let first = chain_kept d chain (each 0 chain refl) in
      let rest = chains_kept d chains (λ i other there. each (suc i) other there) in
      λ i. first i ∷ rest i

  -- ---- levels
  pub over_kept : (l : LevelDiagrams) → IsLevelOver g l → IsLevelOver h l
  over_kept l is = record {
    goal = subst (λ (ids : List NodeId). l.goal < length ids) (sym grows.goals) is.goal;
    set = set_kept g h grows l.set is.set;
    before = set_kept g h grows l.before is.before;
    added = set_kept g h grows l.added is.added;
    added_is = λ v.
        means_at l.added is.added v
        ∙ is.added_is v
        ∙ (λ i. sym (means_at l.set is.set v) i && not (sym (means_at l.before is.before v) i));
    fairs = is.fairs ∙ ap length (sym grows.fairs);
    chains = λ i chain there. sets_kept chain (is.chains i chain there);
  }

  pub overs_kept : (levels : List LevelDiagrams) → AreLevelsOver g levels → AreLevelsOver h levels
  overs_kept levels are = λ k l there. over_kept l (are k l there)

  level_kept : (d : DesignTree) (l : LevelDiagrams) → IsLevelOver g l → level_told d h l ≡ level_told d g l
  level_kept d l is =
      let set = test_kept d l.set is.set in
      let chains = chains_kept d (chains_in l) is.chains in
      λ i. record { goal = l.goal; set = set i; chains = chains i }

  pub told_kept : (d : DesignTree) (of : List Level) (k : ℕ) (l : LevelDiagrams) → IsLevelOver g l →
      TellsLevel d g of k l → TellsLevel d h of k l
  told_kept d of k l is tells = record {
    here = tells.here ∙ ap Some (sym (level_kept d l is));
    before = tells.before ∙ sym (test_kept d l.before is.before);
  }

  pub tell_kept : (d : DesignTree) (of : List Level) (levels : List LevelDiagrams) → AreLevelsOver g levels →
      TellLevels d g of levels → TellLevels d h of levels
  tell_kept d of levels are tell = record {
    count = tell.count;
    each = λ k l there. told_kept d of k l (are k l there) (tell.each k l there);
  }

  pub set_told_kept : (d : DesignTree) (of : List Level) (k i x : ℕ) (before set : NodeId) → IsSet g before →
      IsSet g set → TellsSet d g of k i x before set → TellsSet d h of k i x before set
  set_told_kept d of k i x before set is also tells = record {
    level = tells.level;
    chain = tells.chain;
    of_level = tells.of_level;
    of_chain = tells.of_chain;
    here = tells.here ∙ ap Some (sym (test_kept d set also));
    lower = tells.lower ∙ sym (test_kept d before is);
  }
