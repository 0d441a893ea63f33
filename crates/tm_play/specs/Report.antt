-- The lines of a play. A line ends in a line feed.
use Rattle.std.specs.Prelude.{ℕ, Option, None, Some, List, [], ◌∷◌, ◌++◌, codes, slice_get}
use Rattle.std.specs.Option.{option_map_or}
use Rattle.std.specs.List.{flat_map, zip}
use Rattle.std.specs.Fmt.{decimal}
use Rattle.tm_syntax.specs.declared.design.Var.{Var}
use Rattle.tm_syntax.specs.declared.design.Item.{Item}
use Rattle.tm_syntax.specs.Design.{DesignTree}
use Rattle.tm_sem.specs.State.{StateData}
use Rattle.tm_sem.specs.declared.state.Move.{Move}
use Rattle.tm_sem.specs.declared.state.Move.TheVariants as moves
use Rattle.tm_play.specs.declared.ending.StopWhy.{StopWhy}
use Rattle.tm_play.specs.declared.ending.StopWhy.TheVariants.{Error, Forbidden, Illegal}
use Rattle.tm_play.specs.declared.ending.PlayEnd.{PlayEnd}
use Rattle.tm_play.specs.declared.ending.PlayEnd.TheVariants.{Played, Stopped}

-- `PATH=VALUE `
abbrev pub var_text : Var × ℕ → List ℕ
var_text v = v.0.path ++ codes "=" ++ decimal v.1 ++ codes " "

-- `PATH@NUMBER `
abbrev pub place_text : Item × ℕ → List ℕ
place_text p = p.0.path ++ codes "@" ++ decimal p.1 ++ codes " "

-- a state: its variables, the locations of its processes, and who moved last
abbrev pub state_text : DesignTree → StateData → List ℕ
state_text d s =
    flat_map var_text (zip d.vars s.values) ++ flat_map place_text (zip d.processes s.places)
    ++ codes "last=" ++ decimal s.last

-- the path of the item of this number
abbrev pub path_at : List Item → ℕ → List ℕ
path_at items k = option_map_or (λ i. i.path) (slice_get items k) []

-- the arguments of a call
abbrev pub args_text : List ℕ → List ℕ
args_text [] = []
args_text (a ∷ others) = decimal a ++ flat_map (λ b. codes ", " ++ decimal b) others

-- a move
abbrev pub move_text : DesignTree → Move → List ℕ
move_text d moves.Stutter = codes "stutter"
move_text d (moves.Process p) = codes "process " ++ path_at d.processes p
move_text d moves.Idle = codes "driver idle"
move_text d (moves.Leave p) = codes "driver leave " ++ path_at d.processes p
move_text d (moves.Call t args) = codes "driver call " ++ path_at d.tasks t ++ codes "(" ++ args_text args ++ codes ")"

-- how a state was reached: by a move, or as the initial one
abbrev pub reached_text : DesignTree → Option Move → List ℕ
reached_text d None = codes "start"
reached_text d (Some m) = move_text d m

-- the line of a state of a play: its number, how it was reached, itself, and its pending goal
abbrev pub state_line : DesignTree → ℕ → Option Move → StateData → ℕ → List ℕ
state_line d n m s g =
    decimal n ++ codes " " ++ reached_text d m ++ codes " " ++ state_text d s
    ++ codes " goal=" ++ decimal g ++ codes "\n"

-- why a play stops
abbrev pub why_text : StopWhy → List ℕ
why_text Error = codes "error"
why_text Forbidden = codes "forbidden"
why_text Illegal = codes "illegal"

-- the line that tells the end of a play
abbrev pub end_text : PlayEnd → List ℕ
end_text (Played n) = codes "played " ++ decimal n ++ codes "\n"
end_text (Stopped step why) = codes "stopped " ++ decimal step ++ codes " " ++ why_text why ++ codes "\n"
