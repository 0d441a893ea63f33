-- What each token of a driver names, by what stands before it and behind it.
use Rattle.std.specs.Prelude.{◌≡◌, ◌≢◌, ℕ, ◌+◌, ◌^◌, ◌<◌, ◌≤◌, ◌⊎◌, Bool, true, false, List, [], ◌∷◌, ◌++◌, length, if◌then◌else◌}
use Rattle.tm_syntax.specs.Design.{DesignTree}
use Rattle.tm_cir.specs.Tree.{NumTree}
use Rattle.tm_cir.specs.Text.Token.{Token, word, label, task, constant, sign, Word, goto, termite_leave, Sign, open_parenthesis, semicolon, comma}
use Rattle.tm_cir.specs.Text.Grammar.{parenthesized, argument_tokens}
use Rattle.tm_cparse.specs.declared.bad.BadDriver.{BadDriver}
use Rattle.tm_cparse.specs.declared.bad.BadDriver.TheVariants.{Text, UnknownName, BackwardGoto}
use Rattle.tm_cparse.specs.declared.spot.Spot.{Spot}
use Rattle.tm_cparse.specs.declared.names.Before.{Before}
use Rattle.tm_cparse.specs.declared.names.Before.TheVariants.{Goto, Leave, Process, Other}
use Rattle.tm_cparse.specs.declared.names.TokenPlace.{TokenPlace}
use Rattle.tm_cparse.specs.View.{token_tree, tokens_of}
use Rattle.tm_cparse.specs.Faults.{names_item, TakesArguments}

-- tokens of the C text
abbrev pub TokenList : Type 0
TokenList = List Token

-- what stands before the token behind this word
abbrev pub before_of_word : Word → Before
before_of_word goto = Goto
before_of_word termite_leave = Leave
before_of_word w = Other

-- what stands before the token behind this sign
abbrev pub before_of_sign : Before → Sign → Before
before_of_sign Leave open_parenthesis = Process
before_of_sign before s = Other

-- what stands before the token behind any token
abbrev pub before_behind : Before → Token → Before
before_behind before (word w) = before_of_word w
before_behind before (sign s) = before_of_sign before s
before_behind before t = Other

-- the number of blocks that have begun behind a label, by what stands before it
abbrev pub labels_of_label : ℕ → Before → ℕ
labels_of_label labels Goto = labels
labels_of_label labels before = labels + 1

-- the number of blocks that have begun behind any token
abbrev pub labels_behind : ℕ → Before → Token → ℕ
labels_behind labels before (label k) = labels_of_label labels before
labels_behind labels before t = labels

-- the place behind a token, and behind several
abbrev pub place_behind : TokenPlace → Token → TokenPlace
place_behind at t = record { labels = labels_behind at.labels at.before t; before = before_behind at.before t }

-- the place behind several tokens
abbrev pub place_after : TokenPlace → List Token → TokenPlace
place_after at [] = at
place_after at (t ∷ ts) = place_after (place_behind at t) ts

-- the place of a driver's first token
abbrev pub first_place : TokenPlace
first_place = record { labels = 0; before = Other }

-- a target is a later block; any other label is the number of the block before which it stands
abbrev pub IsRightLabel : ℕ → ℕ → Before → ℕ → Type 0
IsRightLabel count labels Goto k = (labels ≤ k) × (k < count)
IsRightLabel count labels before k = k ≡ labels

-- the design has the process that leaves; its number has 32 bits
abbrev pub IsRightConstant : DesignTree → Before → ℕ → Type 0
IsRightConstant d Process p = (p < length d.processes) × (p < 2 ^ 32)
IsRightConstant d before p = Unit {0}

-- a token of a driver with so many blocks names what there is, as far as its number tells; behind it stand `others`
abbrev pub IsRight : DesignTree → ℕ → TokenPlace → Token → List Token → Type 0
IsRight d count at (label k) others = IsRightLabel count at.labels at.before k
IsRight d count at (constant p) others = IsRightConstant d at.before p
IsRight d count at (task k) others =
    (args : List NumTree) (rest : List Token) → others ≡ parenthesized (argument_tokens args) ++ rest →
    TakesArguments d k (length args)
IsRight d count at t others = Unit {0}

-- all tokens from a place on, of a driver with so many blocks, name what there is, as far as their numbers tell
abbrev pub AreRight : DesignTree → ℕ → TokenPlace → List Token → Type 0
AreRight d count at [] = Unit {0}
AreRight d count at (t ∷ ts) = IsRight d count at t ts × AreRight d count (place_behind at t) ts

-- the design has the items that the tokens name
abbrev pub AreKnown : List Spot → Type 0
AreKnown [] = Unit {0}
AreKnown (s ∷ ss) = (names_item (token_tree s.token) ≡ true → s.known ≡ true) × AreKnown ss

-- the token is at fault
pub data IsFaultAt (d : DesignTree) (count : ℕ) (at : TokenPlace) (t : Token) (known : Bool) (line : ℕ)
    (others : List Token) : BadDriver → Type 0 where
  unknown : names_item t ≡ true → known ≡ false → IsFaultAt d count at t known line others (UnknownName line)
  no_process : {p : ℕ} → at.before ≡ Process → t ≡ constant p → (length d.processes ≤ p) ⊎ (2 ^ 32 ≤ p) →
      IsFaultAt d count at t known line others (UnknownName line)
  backward : {k : ℕ} → at.before ≡ Goto → t ≡ label k → k < at.labels →
      IsFaultAt d count at t known line others (BackwardGoto line)
  beyond : {k : ℕ} → at.before ≡ Goto → t ≡ label k → count ≤ k → IsFaultAt d count at t known line others (Text line)
  out_of_order : {k : ℕ} → at.before ≢ Goto → t ≡ label k → k ≢ at.labels →
      IsFaultAt d count at t known line others (Text line)
  wrong_count : {k : ℕ} (args : List NumTree) (rest : List Token) → t ≡ task k → known ≡ true →
      others ≡ parenthesized (argument_tokens args) ++ rest → ¬ TakesArguments d k (length args) →
      IsFaultAt d count at t known line others (Text line)

-- the first token at fault from a place on
pub data IsFirstFault (d : DesignTree) (count : ℕ) : TokenPlace → List Spot → BadDriver → Type 0 where
  here : {at : TokenPlace} {s : Spot} {others : List Spot} {bad : BadDriver} →
      IsFaultAt d count at (token_tree s.token) s.known s.line (tokens_of others) bad →
      IsFirstFault d count at (s ∷ others) bad
  later : {at : TokenPlace} {s : Spot} {others : List Spot} {bad : BadDriver} →
      (names_item (token_tree s.token) ≡ true → s.known ≡ true) →
      IsRight d count at (token_tree s.token) (tokens_of others) →
      IsFirstFault d count (place_behind at (token_tree s.token)) others bad → IsFirstFault d count at (s ∷ others) bad

-- arguments stand behind each task, and then a semicolon
abbrev pub HaveArguments : List Token → Type 0
HaveArguments [] = Unit {0}
HaveArguments (task k ∷ ts) =
    ((args : List NumTree) × (rest : List Token) ×
    (ts ≡ parenthesized (argument_tokens args) ++ sign semicolon ∷ rest)) × HaveArguments ts
HaveArguments (t ∷ ts) = HaveArguments ts

-- the number of commas before the first semicolon
abbrev pub is_comma : Token → Bool
is_comma (sign comma) = true
is_comma t = false

-- whether a token is a semicolon
abbrev pub is_semicolon : Token → Bool
is_semicolon (sign semicolon) = true
is_semicolon t = false

-- the number of commas before the first semicolon
abbrev pub comma_count : List Token → ℕ
comma_count [] = 0
comma_count (t ∷ ts) =
    if is_semicolon t then 0 else (if is_comma t then 1 + comma_count ts else comma_count ts)
