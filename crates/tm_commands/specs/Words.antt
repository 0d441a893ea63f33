-- The readings of a command line.
use Rattle.std.specs.Prelude.{ℕ, Bool, true, false, ◌==◌, ◌&&◌, not, nat_lt, Option, None, Some, List, [], ◌∷◌, codes}
use Rattle.std.specs.Prelude.{if◌then◌else◌, is_some}
use Rattle.std.specs.Bool.{then_some}
use Rattle.std.specs.List.{list_all}
use Rattle.std.specs.Option.{option_map, option_map_or, option_and_then}
use Rattle.std.specs.Str.{bytes_eq}
use Rattle.tm_commands.specs.declared.words.command.Command.{Command as Words}
use Rattle.tm_commands.specs.declared.words.command.Command.TheVariants as words
use Rattle.tm_play.specs.Numbers.{digits_after}

-- a command, with the names of its files; a budget says how many predicates `synth` may add
pub data Command : Type 0 where
  run : (spec driver choices : List ℕ) → Command
  synthesise : (spec out : List ℕ) (budget : Option ℕ) → Command
  check_driver : (spec driver cert : List ℕ) → Command
  check_environment : (spec cert : List ℕ) → Command
  generate : (registers : ℕ) (out : List ℕ) → Command
  migrate : (spec cert out : List ℕ) → Command
  structure : (spec driver out : List ℕ) → Command
  unstructure : (spec struct out : List ℕ) → Command

-- an option: a word that begins with `-` and is longer than that
abbrev pub is_option : List ℕ → Bool
is_option [] = false
is_option (b ∷ []) = false
is_option (b ∷ c ∷ bs) = b == 45

-- a word that is not empty
abbrev pub is_filled : List ℕ → Bool
is_filled [] = false
is_filled (b ∷ bs) = true

-- the number that a word tells, up to a greatest one: one or more decimal digits, zeros before others too
abbrev pub number_of : ℕ → List ℕ → Option ℕ
number_of most word =
    option_and_then (λ n. then_some (is_filled word && not (nat_lt most n)) n) (digits_after 0 word)

-- the most registers of a generated specification
abbrev pub most_registers : ℕ
most_registers = 12

-- the greatest budget
abbrev pub greatest_budget : ℕ
greatest_budget = 4294967295

-- what follows a first part of a word, where the word begins with that part
abbrev pub part_behind : (first word : List ℕ) → Option (List ℕ)
part_behind [] word = Some word
part_behind (b ∷ bs) [] = None
part_behind (b ∷ bs) (c ∷ cs) = if b == c then part_behind bs cs else None

-- words split: the positional ones, and the numbers of budgets
pub record Split : Type 0 where
  pub positional : List (List ℕ)
  pub budgets : List ℕ

-- words that are split, with a positional one before them, and with the number of a budget
abbrev pub with_word : List ℕ → Split → Split
with_word word s = record s { positional = word ∷ s.positional }

abbrev pub with_budget : ℕ → Split → Split
with_budget n s = record s { budgets = n ∷ s.budgets }

-- so with a word, if it is no option, and with a word that is to be the number of a budget, if it is one
abbrev pub word_before : List ℕ → Option Split → Option Split
word_before word rest = if is_option word then None else option_map (with_word word) rest

abbrev pub budget_before : List ℕ → Option Split → Option Split
budget_before word rest = option_and_then (λ n. option_map (with_budget n) rest) (number_of greatest_budget word)

-- the words behind a command, split where each of them has a reading: `--budget N` and `--budget=N` are budgets, and
-- behind the first `--`, which is no word of its own, all are positional; `waits` where the word before is `--budget`
abbrev pub split_words : (waits : Bool) → List (List ℕ) → Option Split
split_words true [] = None
split_words true (word ∷ words) = budget_before word (split_words false words)
split_words false [] = Some (record { positional = []; budgets = [] })
split_words false (word ∷ words) =
    if bytes_eq word (codes "--") then Some (record { positional = words; budgets = [] })
    else if bytes_eq word (codes "--budget") then split_words true words
    else option_map_or (λ number. budget_before number (split_words false words))
    (part_behind (codes "--budget=") word) (word_before word (split_words false words))

-- the arguments of a command: the positional words, and a budget where one is given
pub record Arguments : Type 0 where
  pub positional : List (List ℕ)
  pub budget : Option ℕ

-- these words, and this budget if there is one
abbrev pub arguments_with : List (List ℕ) → Option ℕ → Arguments
arguments_with positional budget = record { positional = positional; budget = budget }

-- the budget, where there is at most one
abbrev pub one_budget : List ℕ → Option (Option ℕ)
one_budget [] = Some None
one_budget (n ∷ []) = Some (Some n)
one_budget _ = None

-- split words as arguments, where none is empty and at most one is a budget
abbrev pub arguments_as : Split → Option Arguments
arguments_as s = option_and_then
    (λ budget. then_some (list_all is_filled s.positional) (arguments_with s.positional budget)) (one_budget s.budgets)

-- the arguments that words are, where each of these has a reading
abbrev pub arguments_of : List (List ℕ) → Option Arguments
arguments_of words = option_and_then arguments_as (split_words false words)

-- a command of three positional words
abbrev pub of_three : (List ℕ → List ℕ → List ℕ → Command) → List (List ℕ) → Option Command
of_three command (first ∷ second ∷ third ∷ []) = Some (command first second third)
of_three command _ = None

-- `synth` with its positional words, and its budget
abbrev pub synthesise_of : List (List ℕ) → Option ℕ → Option Command
synthesise_of (spec ∷ out ∷ []) budget = Some (synthesise spec out budget)
synthesise_of _ budget = None

-- `check` with its positional words
abbrev pub check_of : List (List ℕ) → Option Command
check_of (spec ∷ cert ∷ []) = Some (check_environment spec cert)
check_of (spec ∷ driver ∷ cert ∷ []) = Some (check_driver spec driver cert)
check_of _ = None

-- `gen` with its positional words
abbrev pub generate_of : List (List ℕ) → Option Command
generate_of (registers ∷ out ∷ []) = option_map (λ n. generate n out) (number_of most_registers registers)
generate_of _ = None

-- a command other than `synth`, with its positional words
abbrev pub plain_command_with : List ℕ → List (List ℕ) → Option Command
plain_command_with command words =
    if bytes_eq command (codes "run") then of_three run words
    else if bytes_eq command (codes "check") then check_of words
    else if bytes_eq command (codes "gen") then generate_of words
    else if bytes_eq command (codes "migrate") then of_three migrate words
    else if bytes_eq command (codes "structure") then of_three structure words
    else if bytes_eq command (codes "unstructure") then of_three unstructure words
    else None

-- the command that a first word begins, with its arguments: `synth` alone has a budget
abbrev pub command_with : List ℕ → Arguments → Option Command
command_with command arguments =
    if bytes_eq command (codes "synth") then synthesise_of arguments.positional arguments.budget
    else if is_some arguments.budget then None
    else plain_command_with command arguments.positional

-- the reading of the words, where they have one: the first word is the command
abbrev pub command_of : List (List ℕ) → Option Command
command_of [] = None
command_of (command ∷ words) = option_and_then (command_with command) (arguments_of words)

-- a command as the code has it
abbrev pub command_view : Words → Command
command_view (words.Run spec driver choices) = run spec.now driver.now choices.now
command_view (words.Synthesise spec out budget) = synthesise spec.now out.now budget
command_view (words.CheckDriver spec driver cert) = check_driver spec.now driver.now cert.now
command_view (words.CheckEnvironment spec cert) = check_environment spec.now cert.now
command_view (words.Generate registers out) = generate registers out.now
command_view (words.Migrate spec cert out) = migrate spec.now cert.now out.now
command_view (words.Structure spec driver out) = structure spec.now driver.now out.now
command_view (words.Unstructure spec struct out) = unstructure spec.now struct.now out.now
