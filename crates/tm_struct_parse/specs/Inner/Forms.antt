-- Actions, functions and drivers as their readers take them. A form is a relation between a tree, the tokens that
-- begin with it, and those left behind it.
use Rattle.std.specs.Prelude.{◌≡◌, ◌≢◌, ℕ, ◌≤◌, Option, None, Some, All, List, [], ◌∷◌, ◌++◌, length, take, drop}
use Rattle.tm_cir.specs.Text.Token.{Token, word, label, task, sign, void, driver_turn, if_word, else_word}
use Rattle.tm_cir.specs.Text.Token.{termite_leave, return_word, open_parenthesis, close_parenthesis}
use Rattle.tm_cir.specs.Tree.{TruthTree}
use Rattle.tm_cir.specs.Text.Grammar.{truth_tokens}
use Rattle.tm_cparse.specs.Written.{TruthInRange}
use Rattle.tm_cparse.specs.Inner.Reading.{first_of, Moves}
use Rattle.tm_struct.specs.Tree.{ActionTree}
use Rattle.tm_struct.specs.Text.Spelling.{static_word, function}
use Rattle.tm_struct.specs.Text.Grammar.{braced, action_tokens, body_tokens}
use Rattle.tm_struct_parse.specs.declared.action.Beginning.{Beginning}
use Rattle.tm_struct_parse.specs.declared.action.Beginning.TheVariants as beginnings
use Rattle.tm_struct_parse.specs.declared.program.NoProgram.{NoProgram}
use Rattle.tm_struct_parse.specs.declared.program.NoProgram.TheVariants.{At, Memory}
use Rattle.tm_struct_parse.specs.Written.{WrittenFunction, functions_tokens, WrittenProgram, written_tokens}
use Rattle.tm_struct_parse.specs.Written.{ActionInRange, FunctionInRange, AreWritten, Begins}

-- an action inside so many open `if`, of which `front` was read, and what follows it
pub record IsAction (open_ifs : ℕ) (front : List Token) (a : ActionTree) (tokens rest : List Token) : Type 0 where
  pub in_range : ActionInRange open_ifs a
  pub are : front ++ tokens ≡ action_tokens a ++ rest

-- a truth value between parentheses, and what follows it
pub record IsCondition (t : TruthTree) (tokens rest : List Token) : Type 0 where
  pub in_range : TruthInRange t
  pub are : tokens ≡ sign open_parenthesis ∷ (truth_tokens t ++ (sign close_parenthesis ∷ rest))

-- both branches of a test inside so many open `if`, and what follows them
pub record AreBranches (open_ifs : ℕ) (pair : ActionTree × ActionTree) (tokens rest : List Token) : Type 0 where
  pub first_in_range : ActionInRange open_ifs pair.0
  pub second_in_range : ActionInRange open_ifs pair.1
  pub are : tokens
      ≡ braced (action_tokens pair.0) ++ (word else_word ∷ (braced (action_tokens pair.1) ++ rest))

-- an action between braces, and what follows it
pub record IsBlock (open_ifs : ℕ) (a : ActionTree) (tokens rest : List Token) : Type 0 where
  pub in_range : ActionInRange open_ifs a
  pub are : tokens ≡ braced (action_tokens a) ++ rest

-- what stands behind the name of a function, and what follows it
pub record IsBody (a : ActionTree) (tokens rest : List Token) : Type 0 where
  pub in_range : ActionInRange 0 a
  pub are : tokens ≡ body_tokens a ++ rest

-- a function behind `static`, and what follows it
pub record IsFunction (f : WrittenFunction) (tokens rest : List Token) : Type 0 where
  pub in_range : FunctionInRange f
  pub are : tokens ≡ word void ∷ function f.number ∷ (body_tokens f.action ++ rest)

-- `driver_turn`, and what follows it
pub record IsTurn (a : ActionTree) (tokens rest : List Token) : Type 0 where
  pub in_range : ActionInRange 0 a
  pub are : tokens ≡ word void ∷ word driver_turn ∷ (body_tokens a ++ rest)

-- a driver of which the first functions were read, and what follows it
pub record IsProgram (read : List WrittenFunction) (p : WrittenProgram) (tokens rest : List Token) : Type 0 where
  pub others : List WrittenFunction
  pub whole : p.functions ≡ read ++ others
  pub functions_in_range : All FunctionInRange others
  pub main_in_range : ActionInRange 0 p.main
  pub are : tokens ≡ functions_tokens others ++ word void ∷ word driver_turn ∷ (body_tokens p.main ++ rest)

-- the first token of an action
abbrev pub first_token : Beginning → Token
first_token beginnings.Test = word if_word
first_token (beginnings.Call k) = task k
first_token beginnings.Leave = word termite_leave
first_token (beginnings.Go k) = label k
first_token beginnings.Idle = word return_word

-- this token, if an action may begin with it
abbrev pub beginning_of : Token → Option Token
beginning_of (word if_word) = Some (word if_word)
beginning_of (word termite_leave) = Some (word termite_leave)
beginning_of (word return_word) = Some (word return_word)
beginning_of (task k) = Some (task k)
beginning_of (label k) = Some (label k)
beginning_of _ = None

-- some driver begins with the tokens before this place, and none goes on with the token there, or ends where they end
pub record IsStuckAt (tokens : List Token) (place : ℕ) : Type 0 where
  pub within : place ≤ length tokens
  pub begins : Begins (take place tokens)
  pub stuck : (p : WrittenProgram) (other : List Token) → first_of other ≡ first_of (drop place tokens) →
      ¬ AreWritten (take place tokens ++ other) p

-- why the tokens are no driver; of want of memory nothing is said
abbrev pub IsNoProgram : List Token → NoProgram → Type 0
IsNoProgram tokens (At place) = IsStuckAt tokens place
IsNoProgram tokens Memory = Unit {0}

-- functions were read, behind which none follows: a driver goes on from here
pub record AreFunctions (fs : List WrittenFunction) (tokens rest : List Token) : Type 0 where
  pub moves : Moves (IsProgram []) (IsProgram fs) tokens rest
  pub ends : first_of rest ≢ Some static_word
