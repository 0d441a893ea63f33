-- What a caller cites of games, steps, sets and remembered answers, when diagrams are added between two calls.
pub use Rattle.tm_game_bits.proofs.Extended.{AreAnswers-Extends, IsSetOf-Extends, KnowsGame-Extends, KnowsStep-Extends, game_of-Extends, step_of-Extends}
