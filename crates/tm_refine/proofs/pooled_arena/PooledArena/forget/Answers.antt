use Rattle.tm_refine.proofs.PoolKeeps.{hint_none}
use Rattle.tm_refine.proofs.pooled_arena.PooledArena.forget.Goals as goal

pub returns-clause-value : goal.returns-clause-value
returns-clause-value c = c.in_ok-set.ensures.value

pub returns-clause-designs : goal.returns-clause-designs
returns-clause-designs c = c.forget.ensures.forgets.designs

pub returns-clause-game : goal.returns-clause-game
returns-clause-game c = c.forget.ensures.forgets.game

pub returns-in_err-set-clause-designs : goal.returns-in_err-set-clause-designs
returns-in_err-set-clause-designs c = c.forget.ensures.forgets.designs

pub returns-in_err-set-clause-game : goal.returns-in_err-set-clause-game
returns-in_err-set-clause-game c = c.forget.ensures.forgets.game

pub invariant_of-self-in-Break-1 : goal.invariant_of-self-in-Break-1
invariant_of-self-in-Break-1 c = record {
  can = c.forget.ensures.forgets.can;
  hint_known = hint_none c.forget.new.game;
  remembers = ∣ c.new.ensures c.forget.new.game ∣₁;
}

pub invariant_of-self-3 : goal.invariant_of-self-3
invariant_of-self-3 c = record {
  can = c.forget.ensures.forgets.can;
  hint_known = hint_none c.forget.new.game;
  remembers = ∣ c.new.ensures c.forget.new.game ∣₁;
}
