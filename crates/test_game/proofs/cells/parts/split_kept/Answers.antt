use Rattle.std.proofs.Common.{rules, sym}
use Rattle.tm_abs.proofs.ValidParts.{in_pool_kept, some_kept}
use Rattle.tm_game.proofs.Growing.{grows_none, set_kept}
use Rattle.test_game.proofs.cells.parts.split_kept.Goals as goal

pub new-requires : goal.new-requires
new-requires c =
    let game = c.args.game.now in
    record {
      tracked = in_pool_kept game game (grows_none game) _ _ (sym c.deref.ensures.value)
          (c.are_in_pool.ensures (search rules));
      pool = ∣ c.requires.pooled ∣₁;
    }

pub split_text-requires : goal.split_text-requires
split_text-requires c = record {
  cells = c.in_ok-cells.ensures.cells;
  pool = some_kept _ _ c.new.ensures.grows (∣ c.requires.pooled ∣₁);
  set = set_kept _ _ c.new.ensures.grows c.kept_set-set.result c.kept_set-set.ensures;
}
