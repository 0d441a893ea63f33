-- The text of a driver within its limits, and the first fault of a text that is none.
use Rattle.std.specs.Prelude.{◌≡◌, ◌≢◌, ℕ, ◌+◌, ◌<◌, ◌≤◌, ◌^◌, ◌⊎◌, Bool, true, false, All, Some, List, [], ◌∷◌, ◌++◌, map, length, count_by}
use Rattle.std.specs.List.{AllPass}
use Rattle.tm_syntax.specs.declared.design.Var.{Var}
use Rattle.tm_syntax.specs.declared.design.Item.{Item}
use Rattle.tm_syntax.specs.Tokens.{is_blank, is_line_feed, IsWordLike}
use Rattle.tm_syntax.specs.declared.fault.Quantity.TheVariants as quantity
use Rattle.tm_syntax.specs.Limits.{file_limit}
use Rattle.tm_syntax.specs.Faults.Limits.{limit_of}
use Rattle.tm_syntax.specs.Design.{DesignTree}
use Rattle.tm_cir.specs.Tree.{NumTree, BlockTree}
use Rattle.tm_cir.specs.Fit.{parameter_count}
use Rattle.tm_cir.specs.Text.{IsDriverText}
use Rattle.tm_cir.specs.Text.Token.{Token, word, label, variable, location, task, constant, sign, goto, termite_leave, open_parenthesis}
use Rattle.tm_cir.specs.Text.Spelling.{name_byte, HasInclude}
use Rattle.tm_cir.specs.Text.Grammar.{parenthesized, argument_tokens, driver_tokens}
use Rattle.tm_cparse.specs.declared.bad.BadDriver.{BadDriver}
use Rattle.tm_cparse.specs.declared.bad.BadDriver.TheVariants.{TooLong, Text, UnknownName, BackwardGoto}
use Rattle.tm_cparse.specs.declared.spot.Spot.{Spot}
use Rattle.tm_cparse.specs.View.{token_tree, tokens_of}
use Rattle.tm_cparse.specs.Written.{WrittenBlock, AreWritten, Begins}
use Rattle.tm_cparse.specs.Cut.{MayAllStand, Standing, IsCut, BeginsNoBlank, IsStuck}

-- the text of a driver: at most 16,777,216 bytes, and at most 2,048 parentheses open at once
pub record IsDriverFile (d : DesignTree) (text : List ℕ) (bs : List BlockTree) : Type 0 where
  pub short : length text ≤ file_limit
  pub is : IsDriverText d text bs
  pub shallow : MayAllStand 0 (driver_tokens bs)

-- a design whose items have names in C, each a path with `_` for each dot, and a number of 32 bits
pub record HasNames (d : DesignTree) : Type 0 where
  pub vars : All (λ (v : Var). IsWordLike (map name_byte v.path)) d.vars
  pub processes : All (λ (p : Item). IsWordLike (map name_byte p.path)) d.processes
  pub tasks : All (λ (t : Item). IsWordLike (map name_byte t.path)) d.tasks
  pub few_vars : length d.vars < 2 ^ 32
  pub few_processes : length d.processes < 2 ^ 32
  pub few_tasks : length d.tasks < 2 ^ 32

-- the line behind `front`
abbrev pub line_after : List ℕ → ℕ
line_after front = 1 + count_by is_line_feed front

-- the text behind the line of the include is cut into these tokens, as far as it has any
pub record IsScanned (d : DesignTree) (text : List ℕ) (spots : List Spot) (rest : List ℕ) (end : Standing) :
    Type 0 where
  pub front : List ℕ
  pub body : List ℕ
  pub whole : text ≡ front ++ body
  pub include : HasInclude text body
  pub cut : IsCut d (record { open_count = 0; line = line_after front }) body spots rest end
  pub stuck : IsStuck end rest

-- the first token that can continue no driver, whatever it names, stands on this line, or the text ends there too early
pub data HasTextFault (d : DesignTree) (text : List ℕ) : ℕ → Type 0 where
  no_include : (blanks rest : List ℕ) → AllPass is_blank blanks → text ≡ blanks ++ rest → BeginsNoBlank rest →
      ((body : List ℕ) → ¬ HasInclude text body) → HasTextFault d text (line_after blanks)
  unexpected : (front others : List Spot) (s : Spot) {rest : List ℕ} {end : Standing} →
      IsScanned d text (front ++ s ∷ others) rest end → Begins (tokens_of front) →
      ¬ Begins (tokens_of front ++ token_tree s.token ∷ []) → HasTextFault d text s.line
  stopped : {spots : List Spot} {rest : List ℕ} {end : Standing} → IsScanned d text spots rest end →
      Begins (tokens_of spots) → (rest ≡ [] → (bs : List WrittenBlock) → ¬ AreWritten (tokens_of spots) bs) →
      HasTextFault d text end.line

-- the number of labels before blocks: those that no `goto` stands before
abbrev pub label_count : List Token → ℕ
label_count [] = 0
label_count (word goto ∷ label k ∷ ts) = label_count ts
label_count (label k ∷ ts) = 1 + label_count ts
label_count (t ∷ ts) = label_count ts

-- a `goto` stands last
abbrev pub EndsWithGoto : List Token → Type 0
EndsWithGoto ts = (before : List Token) × (ts ≡ before ++ word goto ∷ [])

-- a variable, a location of a process or a controllable task
abbrev pub names_item : Token → Bool
names_item (variable k) = true
names_item (location k) = true
names_item (task k) = true
names_item _ = false

-- so many arguments fit a controllable task
abbrev pub TakesArguments : DesignTree → ℕ → ℕ → Type 0
TakesArguments d k count = (parameter_count d k ≡ Some count) × (count ≤ limit_of quantity.Arguments)

-- a token of a driver with so many blocks names what there is not; before it stand `front`, and behind it `others`
pub data IsNameFault (d : DesignTree) (count : ℕ) (front : List Spot) (s : Spot) (others : List Spot) :
    BadDriver → Type 0 where
  unknown : names_item (token_tree s.token) ≡ true → s.known ≡ false →
      IsNameFault d count front s others (UnknownName s.line)
  no_process : (before : List Token) {p : ℕ} →
      tokens_of front ≡ before ++ word termite_leave ∷ sign open_parenthesis ∷ [] → token_tree s.token ≡ constant p →
      (length d.processes ≤ p) ⊎ (2 ^ 32 ≤ p) → IsNameFault d count front s others (UnknownName s.line)
  backward : {k : ℕ} → EndsWithGoto (tokens_of front) → token_tree s.token ≡ label k →
      k < label_count (tokens_of front) → IsNameFault d count front s others (BackwardGoto s.line)
  beyond : {k : ℕ} → EndsWithGoto (tokens_of front) → token_tree s.token ≡ label k → count ≤ k →
      IsNameFault d count front s others (Text s.line)
  out_of_order : {k : ℕ} → ¬ EndsWithGoto (tokens_of front) → token_tree s.token ≡ label k →
      k ≢ label_count (tokens_of front) → IsNameFault d count front s others (Text s.line)
  wrong_count : {k : ℕ} (args : List NumTree) (rest : List Token) → token_tree s.token ≡ task k → s.known ≡ true →
      tokens_of others ≡ parenthesized (argument_tokens args) ++ rest → ¬ TakesArguments d k (length args) →
      IsNameFault d count front s others (Text s.line)

-- the text is a driver with any names, and this is the first of its names that is at fault
pub record HasNameFault (d : DesignTree) (text : List ℕ) (bad : BadDriver) : Type 0 where
  pub front : List Spot
  pub spot : Spot
  pub others : List Spot
  pub end : Standing
  pub blocks : List WrittenBlock
  pub scanned : IsScanned d text (front ++ spot ∷ others) [] end
  pub written : AreWritten (tokens_of (front ++ spot ∷ others)) blocks
  pub is : IsNameFault d (label_count (tokens_of (front ++ spot ∷ others))) front spot others bad
  pub first : (before behind : List Spot) (s : Spot) (other : BadDriver) →
      front ++ spot ∷ others ≡ before ++ s ∷ behind → length before < length front →
      ¬ IsNameFault d (label_count (tokens_of (front ++ spot ∷ others))) before s behind other

-- the fault of a text that is no driver over a design
abbrev pub HasFault : DesignTree → List ℕ → BadDriver → Type 0
HasFault d text TooLong = file_limit < length text
HasFault d text (Text line) =
    (length text ≤ file_limit) × (HasTextFault d text line ⊎ HasNameFault d text (Text line))
HasFault d text (UnknownName line) = (length text ≤ file_limit) × HasNameFault d text (UnknownName line)
HasFault d text (BackwardGoto line) = (length text ≤ file_limit) × HasNameFault d text (BackwardGoto line)
