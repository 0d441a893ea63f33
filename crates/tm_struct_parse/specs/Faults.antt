-- The text of a structured driver within its limits, and the first fault of a text that is none.
use Rattle.std.specs.Prelude.{◌≡◌, ◌≢◌, ℕ, ◌+◌, ◌-◌, ◌<◌, ◌≤◌, ◌^◌, ◌⊎◌, Bool, true, false, List, [], ◌∷◌, ◌++◌, length}
use Rattle.std.specs.Prelude.{if◌then◌else◌}
use Rattle.std.specs.List.{AllPass}
use Rattle.tm_syntax.specs.Tokens.{is_blank}
use Rattle.tm_syntax.specs.Limits.{file_limit}
use Rattle.tm_syntax.specs.Design.{DesignTree}
use Rattle.tm_cir.specs.Tree.{NumTree}
use Rattle.tm_cir.specs.Text.Token.{Token, word, label, task, constant, sign, void, driver_turn, termite_leave}
use Rattle.tm_cir.specs.Text.Token.{open_parenthesis}
use Rattle.tm_cir.specs.Text.Spelling.{HasInclude}
use Rattle.tm_cir.specs.Text.Grammar.{parenthesized, argument_tokens}
use Rattle.tm_cparse.specs.declared.spot.Spot.{Spot}
use Rattle.tm_cparse.specs.View.{token_tree, tokens_of}
use Rattle.tm_cparse.specs.Cut.{MayAllStand, Standing, BeginsNoBlank}
use Rattle.tm_cparse.specs.Faults.{line_after, names_item, TakesArguments}
use Rattle.tm_struct.specs.Tree.{ProgramTree}
use Rattle.tm_struct.specs.Text.{IsStructuredText}
use Rattle.tm_struct.specs.Text.Grammar.{program_tokens}
use Rattle.tm_struct_parse.specs.declared.bad.BadStructured.{BadStructured}
use Rattle.tm_struct_parse.specs.declared.bad.BadStructured.TheVariants.{TooLong, Text, UnknownName, ForwardCall}
use Rattle.tm_struct_parse.specs.Written.{WrittenProgram, AreWritten, Begins}
use Rattle.tm_struct_parse.specs.Cut.{IsCut, IsStuck}

-- the text of a structured driver: at most 16,777,216 bytes, and at most 2,048 parentheses open at once
pub record IsStructuredFile (d : DesignTree) (text : List ℕ) (p : ProgramTree) : Type 0 where
  pub short : length text ≤ file_limit
  pub is : IsStructuredText d text p
  pub shallow : MayAllStand 0 (program_tokens p)

-- the text behind the line of the include is cut into these tokens, as far as it has any
pub record IsScanned (d : DesignTree) (text : List ℕ) (spots : List Spot) (rest : List ℕ) (end : Standing) :
    Type 0 where
  pub front : List ℕ
  pub body : List ℕ
  pub whole : text ≡ front ++ body
  pub include : HasInclude text body
  pub cut : IsCut d (record { open_count = 0; line = line_after front }) body spots rest end
  pub stuck : IsStuck end rest

-- the first token that can continue no driver, whatever it names, stands on this line, or the text ends there too early
pub data HasTextFault (d : DesignTree) (text : List ℕ) : ℕ → Type 0 where
  no_include : (blanks rest : List ℕ) → AllPass is_blank blanks → text ≡ blanks ++ rest → BeginsNoBlank rest →
      ((body : List ℕ) → ¬ HasInclude text body) → HasTextFault d text (line_after blanks)
  unexpected : (front others : List Spot) (s : Spot) {rest : List ℕ} {end : Standing} →
      IsScanned d text (front ++ s ∷ others) rest end → Begins (tokens_of front) →
      ¬ Begins (tokens_of front ++ token_tree s.token ∷ []) → HasTextFault d text s.line
  stopped : {spots : List Spot} {rest : List ℕ} {end : Standing} → IsScanned d text spots rest end →
      Begins (tokens_of spots) → (rest ≡ [] → (p : WrittenProgram) → ¬ AreWritten (tokens_of spots) p) →
      HasTextFault d text end.line

-- the number of functions: those whose names stand behind `void`
abbrev pub function_count : List Token → ℕ
function_count [] = 0
function_count (word void ∷ label k ∷ ts) = 1 + function_count ts
function_count (t ∷ ts) = function_count ts

-- `void` stands last
abbrev pub EndsWithVoid : List Token → Type 0
EndsWithVoid ts = (before : List Token) × (ts ≡ before ++ word void ∷ [])

-- `driver_turn` has begun
abbrev pub has_turn : List Token → Bool
has_turn [] = false
has_turn (word driver_turn ∷ ts) = true
has_turn (t ∷ ts) = has_turn ts

-- the number of functions that may be named behind these tokens: all before the one that has begun, and all in
-- `driver_turn`
abbrev pub callable : List Token → ℕ
callable ts = if has_turn ts then function_count ts else function_count ts - 1

-- a token of a driver with so many functions names what there is not; before it stand `front`, and behind it `others`
pub data IsNameFault (d : DesignTree) (count : ℕ) (front : List Spot) (s : Spot) (others : List Spot) :
    BadStructured → Type 0 where
  unknown : names_item (token_tree s.token) ≡ true → s.known ≡ false →
      IsNameFault d count front s others (UnknownName s.line)
  no_process : (before : List Token) {p : ℕ} →
      tokens_of front ≡ before ++ word termite_leave ∷ sign open_parenthesis ∷ [] → token_tree s.token ≡ constant p →
      (length d.processes ≤ p) ⊎ (2 ^ 32 ≤ p) → IsNameFault d count front s others (UnknownName s.line)
  out_of_order : {k : ℕ} → EndsWithVoid (tokens_of front) → token_tree s.token ≡ label k →
      k ≢ function_count (tokens_of front) → IsNameFault d count front s others (Text s.line)
  beyond : {k : ℕ} → ¬ EndsWithVoid (tokens_of front) → token_tree s.token ≡ label k → count ≤ k →
      IsNameFault d count front s others (Text s.line)
  forward : {k : ℕ} → ¬ EndsWithVoid (tokens_of front) → token_tree s.token ≡ label k → k < count →
      callable (tokens_of front) ≤ k → IsNameFault d count front s others (ForwardCall s.line)
  wrong_count : {k : ℕ} (args : List NumTree) (rest : List Token) → token_tree s.token ≡ task k → s.known ≡ true →
      tokens_of others ≡ parenthesized (argument_tokens args) ++ rest → ¬ TakesArguments d k (length args) →
      IsNameFault d count front s others (Text s.line)

-- the text is a driver with any names, and this is the first of its names that is at fault
pub record HasNameFault (d : DesignTree) (text : List ℕ) (bad : BadStructured) : Type 0 where
  pub front : List Spot
  pub spot : Spot
  pub others : List Spot
  pub end : Standing
  pub program : WrittenProgram
  pub scanned : IsScanned d text (front ++ spot ∷ others) [] end
  pub written : AreWritten (tokens_of (front ++ spot ∷ others)) program
  pub is : IsNameFault d (function_count (tokens_of (front ++ spot ∷ others))) front spot others bad
  pub first : (before behind : List Spot) (s : Spot) (other : BadStructured) →
      front ++ spot ∷ others ≡ before ++ s ∷ behind → length before < length front →
      ¬ IsNameFault d (function_count (tokens_of (front ++ spot ∷ others))) before s behind other

-- the fault of a text that is no structured driver over a design
abbrev pub HasFault : DesignTree → List ℕ → BadStructured → Type 0
HasFault d text TooLong = file_limit < length text
HasFault d text (Text line) =
    (length text ≤ file_limit) × (HasTextFault d text line ⊎ HasNameFault d text (Text line))
HasFault d text (UnknownName line) = (length text ≤ file_limit) × HasNameFault d text (UnknownName line)
HasFault d text (ForwardCall line) = (length text ≤ file_limit) × HasNameFault d text (ForwardCall line)
