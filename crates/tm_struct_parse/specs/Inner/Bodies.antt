-- What the readers of the text behind the include say of the whole text.
use Rattle.std.specs.Prelude.{◌≡◌, ℕ, ◌<◌, ◌≤◌, ◌^◌, Bool, IsTrue, All, List, [], ◌∷◌, ◌++◌, length}
use Rattle.tm_syntax.specs.Limits.{file_limit}
use Rattle.tm_syntax.specs.Design.{DesignTree}
use Rattle.tm_cparse.specs.declared.spot.Spot.{Spot}
use Rattle.tm_cparse.specs.View.{token_tree, tokens_of}
use Rattle.tm_cparse.specs.Inner.Fronts.{IsBehindInclude}
use Rattle.tm_struct.specs.Tree.{ActionTree, choose, leave, ProgramTree}
use Rattle.tm_struct_parse.specs.declared.bad.BadStructured.TheVariants.{Text}
use Rattle.tm_struct_parse.specs.declared.bad.ReadStructuredError.{ReadStructuredError}
use Rattle.tm_struct_parse.specs.declared.bad.ReadStructuredError.TheVariants.{Bad, Memory}
use Rattle.tm_struct_parse.specs.Written.{WrittenFunction, WrittenProgram, AreWritten, Begins}
use Rattle.tm_struct_parse.specs.Faults.{IsStructuredFile}
use Rattle.tm_struct_parse.specs.Answer.{IsFaultOf}

-- each text with this text behind its include, where that begins on this line, is this driver
abbrev pub IsFileBody : DesignTree → ℕ → List ℕ → ProgramTree → Type 0
IsFileBody d line body p =
    (text : List ℕ) → IsBehindInclude text body line → length text ≤ file_limit → IsStructuredFile d text p

-- each such text has this fault
abbrev pub IsFileFault : DesignTree → ℕ → List ℕ → ReadStructuredError → Type 0
IsFileFault d line body e =
    (text : List ℕ) → IsBehindInclude text body line → length text ≤ file_limit → IsFaultOf d text e

-- the line of the first token that continues no driver, or of the end where the tokens are none
pub data IsTextLine (spots : List Spot) (last : ℕ) (is_whole : Bool) : ℕ → Type 0 where
  at_token : (front others : List Spot) (s : Spot) → spots ≡ front ++ s ∷ others → Begins (tokens_of front) →
      ¬ Begins (tokens_of front ++ token_tree s.token ∷ []) → IsTextLine spots last is_whole s.line
  at_end : Begins (tokens_of spots) →
      (IsTrue is_whole → (p : WrittenProgram) → ¬ AreWritten (tokens_of spots) p) →
      IsTextLine spots last is_whole last

-- why the tokens are no driver with any names
abbrev pub IsTextFault : List Spot → ℕ → Bool → ReadStructuredError → Type 0
IsTextFault spots last is_whole (Bad (Text line)) = IsTextLine spots last is_whole line
IsTextFault spots last is_whole (Bad _) = ⊥
IsTextFault spots last is_whole Memory = Unit {0}

-- the numbers of the processes that leave have 32 bits
abbrev pub IsSmall : ActionTree → Type 0
IsSmall (choose t a b) = IsSmall a × IsSmall b
IsSmall (leave p) = p < 2 ^ 32
IsSmall a = Unit {0}

-- the numbers of the processes that leave in a function have 32 bits
abbrev pub IsSmallFunction : WrittenFunction → Type 0
IsSmallFunction f = IsSmall f.action

-- what a function does, without its name
abbrev pub action_of : WrittenFunction → ActionTree
action_of f = f.action
