-- What a block does, as its reader takes it.
use Rattle.std.specs.Prelude.{◌≡◌, Option, Some, None, List, ◌++◌, ◌∷◌, All}
use Rattle.std.specs.List.{flat_map}
use Rattle.tm_cir.specs.Tree.{NumTree, BlockTree}
use Rattle.tm_cir.specs.Text.Token.{Token, word, task, sign, if_word, termite_leave, return_word, close_parenthesis, comma}
use Rattle.tm_cparse.specs.declared.statement.StatementBeginning.{StatementBeginning}
use Rattle.tm_cparse.specs.declared.statement.StatementBeginning.TheVariants as beginnings
use Rattle.tm_cir.specs.Text.Grammar.{num_tokens, statement_tokens, argument_tokens}
use Rattle.tm_cparse.specs.Written.{NumInRange, BlockInRange}

-- what a block does, of which `front` was read, and what follows it
pub record IsStatement (front : List Token) (b : BlockTree) (tokens rest : List Token) : Type 0 where
  pub in_range : BlockInRange b
  pub are : front ++ tokens ≡ statement_tokens b ++ rest

-- the arguments of a call and the parenthesis that closes, and what follows it
pub record AreArguments (args : List NumTree) (tokens rest : List Token) : Type 0 where
  pub in_range : All NumInRange args
  pub are : tokens ≡ argument_tokens args ++ sign close_parenthesis ∷ rest

-- further arguments, each behind its comma
abbrev pub more_tokens : List NumTree → List Token
more_tokens args = flat_map (λ b. sign comma ∷ num_tokens b) args

-- arguments of which the first were read, and at least one is left
pub record AreArgumentsLeft (read : List NumTree) (args : List NumTree) (tokens rest : List Token) : Type 0 where
  pub first : NumTree
  pub others : List NumTree
  pub whole : args ≡ read ++ first ∷ others
  pub first_in_range : NumInRange first
  pub in_range : All NumInRange others
  pub are : tokens ≡ num_tokens first ++ (more_tokens others ++ sign close_parenthesis ∷ rest)

-- arguments of which the first were read, where a comma or the parenthesis that closes is next
pub record AreArgumentsBehind (read : List NumTree) (args : List NumTree) (tokens rest : List Token) : Type 0 where
  pub others : List NumTree
  pub whole : args ≡ read ++ others
  pub in_range : All NumInRange others
  pub are : tokens ≡ more_tokens others ++ sign close_parenthesis ∷ rest

-- the first token of what a block does
abbrev pub first_token : StatementBeginning → Token
first_token beginnings.Test = word if_word
first_token (beginnings.Call k) = task k
first_token beginnings.Leave = word termite_leave
first_token beginnings.Idle = word return_word

-- this token, if a block may do something that begins with it
abbrev pub beginning_of : Token → Option Token
beginning_of (word if_word) = Some (word if_word)
beginning_of (word termite_leave) = Some (word termite_leave)
beginning_of (word return_word) = Some (word return_word)
beginning_of (task k) = Some (task k)
beginning_of _ = None
