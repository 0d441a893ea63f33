-- The words behind a command, as the crate `clap` splits them.
use Rattle.std.specs.Prelude.{ℕ, None, Some, true, Option, List, [], map, option_map, unwrap_or, codes}
use Rattle.std.specs.Option.{option_and_then}
use Rattle.clap.specs.Lexer.{usize_max}
use Rattle.clap.specs.Simple.{on_top}
use Rattle.clap.specs.Words.{App, Rule, first_value, found_of, matched_of, new_app, new_rule, raw_values, with_rule}
use Rattle.clap.specs.declared.builder.action.ArgAction.TheVariants.{Append, Set}
use Rattle.clap.specs.declared.builder.value_parser.ValueParser.TheVariants.{NonEmptyString}
use Rattle.clap.specs.declared.parser.matches.ArgMatches.{ArgMatches}
use Rattle.tm_commands.specs.declared.words.splitting.Arguments.{Arguments as Found}
use Rattle.tm_commands.specs.Words.{Arguments, arguments_with, greatest_budget, number_of}

-- any number of positional words, none of them empty
abbrev pub words_rule : Rule
words_rule = record (new_rule (codes "words")) {
  action = Some Append;
  range = Some (record { start_inclusive = 0; end_inclusive = usize_max });
  parser = Some NonEmptyString;
}

-- `--budget` with one value, at most once
abbrev pub budget_rule : Rule
budget_rule = record (new_rule (codes "budget")) { long = Some (codes "budget"); action = Some Set }

-- a command line of such words, with at most one budget
abbrev pub words_app : App
words_app = with_rule
    (with_rule
    (on_top
    (λ s. record s { no_binary_name = true; disable_help_flag = true; disable_version_flag = true })
    (new_app (codes "termite")))
    words_rule)
    budget_rule

-- the positional words that were found
abbrev pub words_of : ArgMatches → List (List ℕ)
words_of m = unwrap_or (option_map raw_values (matched_of (found_of m) (codes "words"))) []

-- the word that was found for the budget
abbrev pub budget_of : ArgMatches → Option (List ℕ)
budget_of m = first_value (found_of m) (codes "budget")

-- the budget that a word asks for, if there is a word and it is a number
abbrev pub asked : Option (List ℕ) → Option (Option ℕ)
asked None = Some None
asked (Some word) = option_map (λ n. Some n) (number_of greatest_budget word)

-- the arguments of a command, from what was found
abbrev pub arguments_found : (positional : List (List ℕ)) → Option (List ℕ) → Option Arguments
arguments_found positional word = option_map (arguments_with positional) (asked word)

-- the arguments of a command, as the code has them
abbrev pub arguments_view : Found → Arguments
arguments_view found = record { positional = map (λ w. w.now) found.words.items; budget = found.budget }
