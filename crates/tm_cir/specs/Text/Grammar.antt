-- The grammar of the C text, by cases: the tokens of numbers, truth values, blocks and the one function. Each operator
-- stands with its operands between parentheses of its own, so no binding has to be known.
use Rattle.std.specs.Prelude.{ℕ, ◌+◌, List, [], ◌∷◌, ◌++◌}
use Rattle.std.specs.List.{flat_map}
use Rattle.tm_cir.specs.Tree.{NumTree, var, goal, last, complement, binary, shift, conditional, TruthTree, num, negation, compare, join, BlockTree, test, call, leave, idle}
use Rattle.tm_cir.specs.Tree as trees
use Rattle.tm_cir.specs.Text.Token.{Token, word, label, variable, location, task, constant, sign, void, driver_turn, if_word, else_word, goto, return_word, termite_leave, termite_goal, termite_last, open_parenthesis, close_parenthesis, open_brace, close_brace, colon, semicolon, comma, question, tilde, bang, arithmetic, shifting, comparing, joining}

-- tokens between parentheses
abbrev pub parenthesized : List Token → List Token
parenthesized ts = sign open_parenthesis ∷ ts ++ sign close_parenthesis ∷ []

abbrev mutual
  -- the tokens of a number
  pub num_tokens : NumTree → List Token
  num_tokens (trees.constant n) = constant n ∷ []
  num_tokens (var k) = variable k ∷ []
  num_tokens (trees.location p) = location p ∷ []
  num_tokens goal = word termite_goal ∷ []
  num_tokens last = word termite_last ∷ []
  num_tokens (complement a) = parenthesized (sign tilde ∷ num_tokens a)
  num_tokens (binary op a b) = parenthesized (num_tokens a ++ sign (arithmetic op) ∷ num_tokens b)
  num_tokens (shift op a by) = parenthesized (num_tokens a ++ sign (shifting op) ∷ constant by ∷ [])
  num_tokens (conditional t a b) =
      parenthesized (truth_tokens t ++ sign question ∷ num_tokens a ++ sign colon ∷ num_tokens b)

  -- the tokens of a truth value
  pub truth_tokens : TruthTree → List Token
  truth_tokens (num n) = num_tokens n
  truth_tokens (negation t) = parenthesized (sign bang ∷ truth_tokens t)
  truth_tokens (compare op a b) = parenthesized (num_tokens a ++ sign (comparing op) ∷ num_tokens b)
  truth_tokens (join op t u) = parenthesized (truth_tokens t ++ sign (joining op) ∷ truth_tokens u)

-- the arguments of a call, with commas between them
abbrev pub argument_tokens : List NumTree → List Token
argument_tokens [] = []
argument_tokens (a ∷ others) = num_tokens a ++ flat_map (λ b. sign comma ∷ num_tokens b) others

-- a jump to a block
abbrev pub goto_tokens : ℕ → List Token
goto_tokens k = word goto ∷ label k ∷ sign semicolon ∷ []

-- the end of a turn
abbrev pub return_tokens : List Token
return_tokens = word return_word ∷ sign semicolon ∷ []

-- what a block does
abbrev pub statement_tokens : BlockTree → List Token
statement_tokens (test t first second) =
    word if_word ∷ parenthesized (truth_tokens t) ++ goto_tokens first ++ word else_word ∷ goto_tokens second
statement_tokens (call k args) =
    task k ∷ parenthesized (argument_tokens args) ++ sign semicolon ∷ return_tokens
statement_tokens (leave p) =
    word termite_leave ∷ parenthesized (constant p ∷ []) ++ sign semicolon ∷ return_tokens
statement_tokens idle = return_tokens

-- blocks, of which the first has this label, and each further one the next label
abbrev pub block_tokens : ℕ → List BlockTree → List Token
block_tokens k [] = []
block_tokens k (b ∷ bs) = label k ∷ sign colon ∷ statement_tokens b ++ block_tokens (k + 1) bs

-- the one function
abbrev pub driver_tokens : List BlockTree → List Token
driver_tokens bs =
    word void ∷ word driver_turn ∷ parenthesized (word void ∷ []) ++ sign open_brace ∷ block_tokens 0 bs
    ++ sign close_brace ∷ []
