use Rattle.test_game.proofs.cells.comparison.compare_answer.Goals as goal

pub compare-requires : goal.compare-requires
compare-requires c = record { pool = ∣ c.requires.pooled ∣₁ }
