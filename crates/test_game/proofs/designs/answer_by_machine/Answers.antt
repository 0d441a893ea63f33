use Rattle.test_game.proofs.designs.answer_by_machine.Goals as goal

pub answer_by_game-found-requires : goal.answer_by_game-found-requires
answer_by_game-found-requires c = record {
  pooled = (_, record { of = c.in-Ok.ensures.of; pool = c.in-Ok.ensures.pool });
}
