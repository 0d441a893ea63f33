-- The values of levels where bits give those of a state and of arguments.
use Rattle.std.specs.Prelude.{ℕ, ◌-◌, Bool, List, [], ◌++◌, length, map}
use Rattle.std.specs.List.{range_with_len}
use Rattle.tm_dd.specs.Table.{assignment}

-- the levels of a state follow an order, those of arguments stand behind them, and all levels behind these are false
abbrev pub level_values : List ℕ → List Bool → List Bool → ℕ → List Bool
level_values order state arguments count =
    map (assignment state) order
    ++ (map (assignment arguments) (range_with_len 0 64)
    ++ map (assignment []) (range_with_len 0 (count - length order - 64)))
