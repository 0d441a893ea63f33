use Rattle.tm_abs.proofs.Kept.{cells_kept}
use Rattle.tm_abs.proofs.ValidParts.{some_kept}
use Rattle.tm_game.proofs.Growing.{grows_then, set_kept}
use Rattle.test_game.proofs.cells.parts.parts_of_set.Goals as goal

pub upper-requires : goal.upper-requires
upper-requires c =
    let first = c.lower.ensures.grows in
    record {
      cells = cells_kept _ _ first c.args.cells.now c.requires.cells;
      pool = some_kept _ _ first c.requires.pool;
      set = set_kept _ _ first c.args.set c.requires.set;
    }

pub split-requires : goal.split-requires
split-requires c =
    let both = grows_then _ _ _ c.lower.ensures.grows c.upper.ensures.grows in
    record {
      cells = cells_kept _ _ both c.args.cells.now c.requires.cells;
      pool = some_kept _ _ both c.requires.pool;
      set = set_kept _ _ both c.args.set c.requires.set;
    }

pub returns-in_err-lower : goal.returns-in_err-lower
returns-in_err-lower c = some_kept _ _ c.lower.ensures.grows c.requires.pool

pub returns-in_err-upper : goal.returns-in_err-upper
returns-in_err-upper c = some_kept _ _ (grows_then _ _ _ c.lower.ensures.grows c.upper.ensures.grows) c.requires.pool

pub returns-in_err-split : goal.returns-in_err-split
returns-in_err-split c =
    some_kept _ _ (grows_then _ _ _ (grows_then _ _ _ c.lower.ensures.grows c.upper.ensures.grows)
    c.split.ensures.grows) c.requires.pool

pub returns : goal.returns
returns c =
    some_kept _ _ (grows_then _ _ _ (grows_then _ _ _ c.lower.ensures.grows c.upper.ensures.grows)
    c.split.ensures.grows) c.requires.pool
