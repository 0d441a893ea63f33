use Rattle.std.proofs.Common.{rules, sym}
use Rattle.tm_abs.proofs.ValidParts.{in_pool_kept, some_kept}
use Rattle.tm_game.proofs.Growing.{grows_none, grows_then, set_kept}
use Rattle.test_game.proofs.cells.parts.parts_of.Goals as goal

pub returns-in_err-set : goal.returns-in_err-set
returns-in_err-set c = some_kept _ _ c.set_of.ensures.grows c.requires.pool

pub returns-then-not-are_in_pool : goal.returns-then-not-are_in_pool
returns-then-not-are_in_pool c = some_kept _ _ c.set_of.ensures.grows c.requires.pool

pub new-requires : goal.new-requires
new-requires c =
    let game = c.set_of.new.game in
    record {
      tracked = in_pool_kept game game (grows_none game) _ _ (sym c.deref.ensures.value)
          (c.are_in_pool.ensures (search rules));
      pool = some_kept _ _ c.set_of.ensures.grows c.requires.pool;
    }

pub returns-in_err-cells : goal.returns-in_err-cells
returns-in_err-cells c =
    some_kept _ _ (grows_then _ _ _ c.set_of.ensures.grows c.new.ensures.grows) c.requires.pool

pub parts_of_set-requires : goal.parts_of_set-requires
parts_of_set-requires c = record {
  cells = c.in_ok-cells.ensures.cells;
  pool = some_kept _ _ (grows_then _ _ _ c.set_of.ensures.grows c.new.ensures.grows) c.requires.pool;
  set = set_kept _ _ c.new.ensures.grows c.in_ok-set.set c.in_ok-set.ensures.set;
}
