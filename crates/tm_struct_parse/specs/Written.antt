-- The grammar of structured text with any names: functions whose names have numbers, and items of a design, whatever
-- these are. A shift amount is below 64, and no more `if` are open than may be.
use Rattle.std.specs.Prelude.{◌≡◌, ℕ, ◌+◌, ◌<◌, All, List, [], ◌∷◌, ◌++◌}
use Rattle.tm_cir.specs.Text.Token.{Token, word, void, driver_turn}
use Rattle.tm_cparse.specs.Written.{NumInRange, TruthInRange}
use Rattle.tm_struct.specs.Tree.{ActionTree, choose, call}
use Rattle.tm_struct.specs.Fit.{most_ifs}
use Rattle.tm_struct.specs.Text.Spelling.{static_word, function}
use Rattle.tm_struct.specs.Text.Grammar.{body_tokens}

-- a function, and the number in its name
pub record WrittenFunction : Type 0 where
  pub number : ℕ
  pub action : ActionTree

-- functions, and what `driver_turn` does
pub record WrittenProgram : Type 0 where
  pub functions : List WrittenFunction
  pub main : ActionTree

-- the tokens of functions
abbrev pub functions_tokens : List WrittenFunction → List Token
functions_tokens [] = []
functions_tokens (f ∷ fs) =
    static_word ∷ word void ∷ function f.number ∷ body_tokens f.action ++ functions_tokens fs

-- the tokens of a driver
abbrev pub written_tokens : WrittenProgram → List Token
written_tokens p = functions_tokens p.functions ++ word void ∷ word driver_turn ∷ body_tokens p.main

-- each shift is by less than 64, and each `if` may be open, where so many are open around
abbrev pub ActionInRange : ℕ → ActionTree → Type 0
ActionInRange open_ifs (choose t a b) =
    (open_ifs < most_ifs) × TruthInRange t × ActionInRange (open_ifs + 1) a × ActionInRange (open_ifs + 1) b
ActionInRange open_ifs (call k args) = All NumInRange args
ActionInRange open_ifs a = Unit {0}

-- each shift in a function is by less than 64, and each `if` may be open, where none is open around the function
abbrev pub FunctionInRange : WrittenFunction → Type 0
FunctionInRange f = ActionInRange 0 f.action

-- the tokens are this driver
pub record AreWritten (tokens : List Token) (p : WrittenProgram) : Type 0 where
  pub functions_in_range : All FunctionInRange p.functions
  pub main_in_range : ActionInRange 0 p.main
  pub are : tokens ≡ written_tokens p

-- some driver, whatever it names, begins with these tokens
pub record Begins (tokens : List Token) : Type 0 where
  pub behind : List Token
  pub program : WrittenProgram
  pub written : AreWritten (tokens ++ behind) program
