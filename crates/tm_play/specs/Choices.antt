-- The readings of a text of choices: a start line, and a line for each step.
use Rattle.std.specs.Prelude.{◌≡◌, ℕ, Bool, true, false, ◌==◌, ◌||◌, not, Option}
use Rattle.std.specs.Prelude.{None, Some, Result, Ok, Err, List, [], ◌∷◌, length, filter, position, codes}
use Rattle.std.specs.Prelude.{if◌then◌else◌}
use Rattle.std.specs.Bool.{then_some}
use Rattle.std.specs.Option.{option_map, option_map_or, option_and_then}
use Rattle.std.specs.List.{slice_split, enumerate_from}
use Rattle.std.specs.Str.{bytes_eq}
use Rattle.std.specs.Str.Lines.{lines}
use Rattle.tm_syntax.specs.declared.design.Item.{Item}
use Rattle.tm_play.specs.declared.input.script.Actor.{Actor}
use Rattle.tm_play.specs.declared.input.script.Actor.TheVariants.{Stutter, Process, Driver}
use Rattle.tm_play.specs.declared.input.choices.ScriptError.{ScriptError}
use Rattle.tm_play.specs.declared.input.choices.ScriptError.TheVariants.{BadLine, Memory}
use Rattle.tm_play.specs.Numbers.{digits_after}
use Rattle.tm_play.specs.Script.{TurnData, ScriptData}

-- some digits, and no zero before others
abbrev pub is_shortest : List ℕ → Bool
is_shortest [] = false
is_shortest (d ∷ []) = true
is_shortest (d ∷ e ∷ ds) = not (d == 48)

-- a number: decimal digits without a zero before them, below 2 ^ 64
abbrev pub number_of : List ℕ → Option ℕ
number_of field = if is_shortest field then digits_after 0 field else None

-- several numbers
abbrev pub numbers_of : List (List ℕ) → Option (List ℕ)
numbers_of [] = Some []
numbers_of (field ∷ fields) = option_and_then (λ n. option_map (λ ns. n ∷ ns) (numbers_of fields)) (number_of field)

-- a space or a tab
abbrev pub separates_fields : ℕ → Bool
separates_fields b = b == 32 || b == 9

-- the fields of a line stand apart by blanks
abbrev pub fields_of : List ℕ → List (List ℕ)
fields_of line = filter (λ field. not (length field == 0)) (slice_split separates_fields line)

-- the start line: `start` and choices
abbrev pub start_of : List (List ℕ) → Option (List ℕ)
start_of [] = None
start_of (word ∷ fields) = if bytes_eq word (codes "start") then numbers_of fields else None

-- a step with choices
abbrev pub turn_with : Actor → List (List ℕ) → Option TurnData
turn_with actor fields = option_map (λ ns. record { actor = actor; choices = ns }) (numbers_of fields)

-- the number of the process of this path
abbrev pub process_number : List Item → List ℕ → Option ℕ
process_number processes path = position (λ p. bytes_eq p.path path) processes

-- a process's path and choices
abbrev pub process_turn : List Item → List (List ℕ) → Option TurnData
process_turn processes [] = None
process_turn processes (path ∷ fields) =
    option_and_then (λ p. turn_with (Process p) fields) (process_number processes path)

-- a step's line: `stutter`, `process` with a path and choices, or `driver` with choices
abbrev pub turn_of : List Item → List (List ℕ) → Option TurnData
turn_of processes [] = None
turn_of processes (word ∷ fields) =
    if bytes_eq word (codes "stutter") then then_some (length fields == 0) (record { actor = Stutter; choices = [] })
    else if bytes_eq word (codes "process") then process_turn processes fields
    else if bytes_eq word (codes "driver") then turn_with Driver fields
    else None

-- an empty line and one that begins with `#` are passed over
abbrev pub is_kept : List ℕ → Bool
is_kept [] = false
is_kept (b ∷ bs) = not (b == 35)

-- the lines that are not passed over, each with its number in the file, where the first line has this one
abbrev pub kept_lines : ℕ → List ℕ → List (ℕ × List ℕ)
kept_lines n text = filter (λ l. is_kept l.1) (enumerate_from n (lines text))

-- the value in an `Ok`, changed
abbrev pub in_ok : {A B : Type 0} → (A → B) → Result A ℕ → Result B ℕ
in_ok f (Ok x) = Ok (f x)
in_ok f (Err n) = Err n

-- the steps that lines tell, or the number of the first line that tells none
abbrev pub turns_of : List Item → List (ℕ × List ℕ) → Result (List TurnData) ℕ
turns_of processes [] = Ok []
turns_of processes (l ∷ ls) =
    option_map_or (λ t. in_ok (λ ts. t ∷ ts) (turns_of processes ls)) (turn_of processes (fields_of l.1)) (Err l.0)

-- a start line and steps, or the number of the first line that is not of its form; without a start line, 1
abbrev pub script_of : List Item → List (ℕ × List ℕ) → Result ScriptData ℕ
script_of processes [] = Err 1
script_of processes (l ∷ ls) =
    option_map_or (λ start. in_ok (λ turns. record { start = start; turns = turns }) (turns_of processes ls))
    (start_of (fields_of l.1)) (Err l.0)

-- what a text of choices says, or its first bad line
abbrev pub reading_of : List Item → List ℕ → Result ScriptData ℕ
reading_of processes text = script_of processes (kept_lines 1 text)

-- a function's answer, seen so, is what reading gives, unless memory ran out
abbrev pub GivesAs : {A B : Type 0} → (A → B) → Result A ScriptError → Result B ℕ → Type 0
GivesAs view (Ok x) reading = reading ≡ Ok (view x)
GivesAs view (Err (BadLine n)) reading = reading ≡ Err n
GivesAs view (Err Memory) reading = Unit {0}
