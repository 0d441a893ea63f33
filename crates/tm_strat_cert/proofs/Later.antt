-- Parts of a certificate while more sets are numbered: each keeps its number.
use Rattle.std.proofs.Common.{◌≡◌, ℕ, zero, suc, Ok, Err, Result, List, [], ◌∷◌, length, slice_get, Some, sym, subst}
use Rattle.std.specs.Prelude.{IfOk}
use Rattle.std.proofs.lemmas.Option.{none-some, same_Some}
use Rattle.tm_cert.specs.declared.cert.Entry.{Entry}
use Rattle.tm_cert.specs.declared.cert.Rank.{Rank}
use Rattle.tm_cert.specs.Cert.{LevelData}
use Rattle.tm_dd.specs.declared.node.NodeId.{NodeId}
use Rattle.tm_dd.specs.Table.{Table}
use Rattle.tm_game.specs.Game.{GameData, IsSet}
use Rattle.tm_numbering.specs.Numbers.{AreNumbered, HasNumber, IsOver, Numbers, Stay}
use Rattle.tm_numbering.specs.Parts.{Goes}
use Rattle.tm_numbering.proofs.Growth.{number_later, numbers_go}
use Rattle.tm_numbering.proofs.Pairs.{pairs_weaker}
use Rattle.tm_solve.specs.declared.iterates.Chain.{Chain}
use Rattle.tm_solve.specs.declared.iterates.LevelSet.{LevelSet}
use Rattle.tm_solve.specs.declared.iterates.RankSet.{RankSet}
use Rattle.tm_solve.specs.declared.iterates.Ranking.{Ranking}
use Rattle.tm_solve.specs.Iterates.{Each}
use Rattle.tm_strat_cert.specs.Inner.Placed.{ChainsPlaced, IsNumbering, LevelPlaced, Places, RankPlaced, RanksPlaced, SetsPlaced}

-- what holds of each item holds of the one at a position
pub each_at : {A : Type 0} (P : A → Type 0) (xs : List A) (k : ℕ) (x : A) → Each P xs → slice_get xs k ≡ Some x → P x
each_at P [] k x each at = absurd (none-some x at)
each_at P (y ∷ xs) zero x each at = subst P (same_Some y x at) each.0
each_at P (y ∷ xs) (suc k) x each at = each_at P xs k x each.1 at

-- ---- one set
-- a set reads the levels of a state alone
pub set_over : (g : GameData) (s : Table) (id : NodeId) → s ≡ g.diagrams.table → IsSet g id →
    IsOver s (length g.order) id
set_over g s id same is =
    subst (λ (t : Table). IsOver t (length g.order) id) (sym same) (record { known = is.known; reads = is.reads })

pub numbered_in : (g : GameData) (s : Table) (kept : List NodeId) (nodes : List Entry) → s ≡ g.diagrams.table →
    IsNumbering g kept nodes → AreNumbered s (length g.order) kept nodes
numbered_in g s kept nodes same numbered =
    subst (λ (t : Table). AreNumbered t (length g.order) kept nodes) (sym same) numbered

-- its number in the store is its number in the game
pub placed_in : {E : Type 0} (g : GameData) (s : Table) (old new : List NodeId) (before nodes : List Entry)
    (id : NodeId) (result : Result ℕ E) → s ≡ g.diagrams.table → IsSet g id → IsNumbering g old before →
    IfOk result (λ n. (bits : ℕ) → IsOver s bits id → AreNumbered s bits old before →
    Numbers s bits id old new nodes n) →
    IfOk result (λ n. Places g old new nodes (HasNumber new id n))
placed_in g s old new before nodes id (Ok n) same is numbered numbers =
    subst (λ (t : Table). Goes t (length g.order) old new nodes (HasNumber new id n)) same
    (numbers_go s (length g.order) id old new nodes n
    (numbers (length g.order) (set_over g s id same is) (numbered_in g s old before same numbered)))
placed_in g s old new before nodes id (Err e) same is numbered numbers = tt

-- ---- what stands in a longer list
module _ (kept later : List NodeId) (stay : Stay kept later) where
  pub set_later : (id : NodeId) (n : ℕ) → HasNumber kept id n → HasNumber later id n
  set_later id n number = number_later kept later id n stay number

  pub rank_later : (r : RankSet) (q : Rank) → RankPlaced kept r q → RankPlaced later r q
  rank_later r q placed = (placed.0, set_later r.set q.set placed.1)

  pub ranks_later : (r : Ranking) (ranks : List Rank) → RanksPlaced kept r.sets.items ranks →
      RanksPlaced later r.sets.items ranks
  ranks_later r ranks placed =
      pairs_weaker (RankPlaced kept) (RankPlaced later) r.sets.items ranks (length r.sets.items) rank_later placed

  pub sets_later : (c : Chain) (sets : List ℕ) → SetsPlaced kept c.sets.items sets → SetsPlaced later c.sets.items sets
  sets_later c sets placed =
      pairs_weaker (HasNumber kept) (HasNumber later) c.sets.items sets (length c.sets.items) set_later placed

  pub chains_later : (chains : List Chain) (all : List (List ℕ)) → ChainsPlaced kept chains all →
      ChainsPlaced later chains all
  chains_later chains all placed =
      pairs_weaker (λ (c : Chain) (sets : List ℕ). SetsPlaced kept c.sets.items sets)
      (λ (c : Chain) (sets : List ℕ). SetsPlaced later c.sets.items sets) chains all (length chains) sets_later placed

  pub level_later : (l : LevelSet) (m : LevelData) → LevelPlaced kept l m → LevelPlaced later l m
  level_later l m placed = record {
    goal = placed.goal;
    set = set_later l.set m.set placed.set;
    chains = chains_later l.chains.items m.chains placed.chains;
  }
