-- The grammar of structured text, by cases: the tokens of actions and of the functions around them. Expressions are
-- those of the C text with jumps.
use Rattle.std.specs.Prelude.{ℕ, ◌+◌, List, [], ◌∷◌, ◌++◌}
use Rattle.tm_cir.specs.Text.Token.{Token, word, task, constant, sign, void, driver_turn, if_word, else_word, return_word, termite_leave, open_brace, close_brace, semicolon}
use Rattle.tm_cir.specs.Text.Grammar.{parenthesized, truth_tokens, argument_tokens}
use Rattle.tm_struct.specs.Tree.{ActionTree, choose, call, leave, go, idle, ProgramTree}
use Rattle.tm_struct.specs.Text.Spelling.{static_word, function}

-- tokens between braces
abbrev pub braced : List Token → List Token
braced ts = sign open_brace ∷ ts ++ sign close_brace ∷ []

-- what an action is written as
abbrev pub action_tokens : ActionTree → List Token
action_tokens (choose t a b) =
    word if_word ∷ parenthesized (truth_tokens t) ++ braced (action_tokens a)
    ++ word else_word ∷ braced (action_tokens b)
action_tokens (call k args) = task k ∷ parenthesized (argument_tokens args) ++ sign semicolon ∷ []
action_tokens (leave p) = word termite_leave ∷ parenthesized (constant p ∷ []) ++ sign semicolon ∷ []
action_tokens (go k) = function k ∷ parenthesized [] ++ sign semicolon ∷ []
action_tokens idle = word return_word ∷ sign semicolon ∷ []

-- a function without arguments, behind its name
abbrev pub body_tokens : ActionTree → List Token
body_tokens a = parenthesized (word void ∷ []) ++ braced (action_tokens a)

-- functions, of which the first has this number, and each further one the next
abbrev pub function_tokens : ℕ → List ActionTree → List Token
function_tokens k [] = []
function_tokens k (a ∷ others) =
    static_word ∷ word void ∷ function k ∷ body_tokens a ++ function_tokens (k + 1) others

-- the functions, and then `driver_turn`
abbrev pub program_tokens : ProgramTree → List Token
program_tokens p =
    function_tokens 0 p.functions ++ word void ∷ word driver_turn ∷ body_tokens p.main
