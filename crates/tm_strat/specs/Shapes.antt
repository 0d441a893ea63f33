-- The shapes of a driver's moves.
use Rattle.std.specs.Prelude.{◌≡◌, ℕ, ◌+◌, ◌≤◌, List, ◌∷◌, ◌++◌, length, map}
use Rattle.std.specs.List.{range_with_len}
use Rattle.tm_game.specs.declared.moves.MoveShape.{MoveShape}
use Rattle.tm_game.specs.declared.moves.MoveShape.TheVariants.{Call, Idle, Leave}

-- to leave the first so many processes
abbrev pub leaves_of : ℕ → List MoveShape
leaves_of n = map (λ p. Leave p) (range_with_len 0 n)

-- to call the first so many tasks
abbrev pub calls_of : ℕ → List MoveShape
calls_of n = map (λ k. Call k) (range_with_len 0 n)

-- all shapes
abbrev pub all_shapes : ℕ → ℕ → List MoveShape
all_shapes processes tasks = Idle ∷ leaves_of processes ++ calls_of tasks

-- shapes are put behind others where 32 bits number all of them; there are no more in any case
pub record AreBehind (olds more news : List MoveShape) : Type 0 where
  pub few : length news ≤ 4294967295
  pub behind : length olds + length more ≤ 4294967295 → news ≡ olds ++ more
