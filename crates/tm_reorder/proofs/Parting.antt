-- Parts of a certificate, one behind the other.
use Rattle.std.proofs.Common.{◌≡◌, ℕ, List, Result, Ok, Err, length, slice_get, Some}
use Rattle.std.specs.Prelude.{IfOk}
use Rattle.tm_cert.specs.declared.cert.Entry.{Entry}
use Rattle.tm_cert.specs.declared.cert.Rank.{Rank}
use Rattle.tm_cert.specs.Cert.{LevelData}
use Rattle.tm_dd.specs.declared.node.NodeId.{NodeId}
use Rattle.tm_dd.specs.Table.{Table}
use Rattle.tm_numbering.specs.Numbers.{AreNumbered, IsOver, Numbers, Stay}
use Rattle.tm_numbering.proofs.Growth.{number_later}
use Rattle.tm_numbering.proofs.Pairs.{pairs_weaker}
use Rattle.tm_reorder.specs.Inner.Parts.{AreEntries, ChainStands, ChainsStand, GoalsStand, LevelStands, Places, RankStands, RanksStand, Stands}

-- the number of the diagram of an old one
pub placed : {E : Type 0} (r : Result ℕ E) (s : Table) (ids old new : List NodeId) (was nodes : List Entry) (set : ℕ)
    (id : NodeId) → slice_get ids set ≡ Some id → IsOver s s.levels id → AreEntries s old was →
    IfOk r (λ n. (bits : ℕ) → IsOver s bits id → AreNumbered s bits old was → Numbers s bits id old new nodes n) →
    IfOk r (λ n. Places s old new nodes (Stands ids new set n))
placed (Ok n) s ids old new was nodes set id at over entries numbers =
    let it = numbers s.levels over entries in
    record { numbered = it.numbered; stay = it.stay; part = (id, at, it.number) }
placed (Err e) s ids old new was nodes set id at over entries numbers = tt

-- what stands, stands while entries are added
module _ (ids kept later : List NodeId) (stay : Stay kept later) where
  pub stands_later : (old n : ℕ) → Stands ids kept old n → Stands ids later old n
  stands_later old n s = (s.0, s.1, number_later kept later s.0 n stay s.2)

  pub rank_later : (r q : Rank) → RankStands ids kept r q → RankStands ids later r q
  rank_later r q s = (s.0, stands_later r.set q.set s.1)

  pub ranks_later : (olds news : List Rank) → RanksStand ids kept olds news → RanksStand ids later olds news
  ranks_later olds news are =
      pairs_weaker (RankStands ids kept) (RankStands ids later) olds news (length olds) rank_later are

  pub goals_later : (olds news : List (List Rank)) → GoalsStand ids kept olds news → GoalsStand ids later olds news
  goals_later olds news are =
      pairs_weaker (RanksStand ids kept) (RanksStand ids later) olds news (length olds) ranks_later are

  pub chain_later : (olds news : List ℕ) → ChainStands ids kept olds news → ChainStands ids later olds news
  chain_later olds news are =
      pairs_weaker (Stands ids kept) (Stands ids later) olds news (length olds) stands_later are

  pub chains_later : (olds news : List (List ℕ)) → ChainsStand ids kept olds news → ChainsStand ids later olds news
  chains_later olds news are =
      pairs_weaker (ChainStands ids kept) (ChainStands ids later) olds news (length olds) chain_later are

  pub level_later : (l m : LevelData) → LevelStands ids kept l m → LevelStands ids later l m
  level_later l m s = record {
    goal = s.goal;
    set = stands_later l.set m.set s.set;
    chains = chains_later l.chains m.chains s.chains;
  }
