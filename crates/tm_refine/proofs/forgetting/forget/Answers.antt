use Rattle.tm_refine.proofs.PoolCopies.{forgets_of, only_root}
use Rattle.tm_refine.proofs.forgetting.forget.Goals as goal

pub copy_roots-copied-requires : goal.copy_roots-copied-requires
copy_roots-copied-requires c = record {
  known = λ f within.
      only_root c.args.game.now.diagrams.table c.args.set f c.requires.set.set.known within;
}

pub returns-in-Ok-clause-forgets : goal.returns-in-Ok-clause-forgets
returns-in-Ok-clause-forgets c =
    forgets_of c.args.game.now c.copy_roots-copied.new.self c.requires.can c.tell.ensures
    c.copy_roots-copied.ensures.of c.copy_roots-copied.result c.copy_roots-copied.ensures.game
    c.copy_roots-copied.ensures.refused

pub returns-in-Err-clause-forgets : goal.returns-in-Err-clause-forgets
returns-in-Err-clause-forgets c =
    forgets_of c.args.game.now c.copy_roots-copied.new.self c.requires.can c.tell.ensures
    c.copy_roots-copied.ensures.of c.copy_roots-copied.result c.copy_roots-copied.ensures.game
    c.copy_roots-copied.ensures.refused
