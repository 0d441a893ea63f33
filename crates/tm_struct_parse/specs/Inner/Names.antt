-- What each token of a structured driver names, by what stands before it and behind it.
use Rattle.std.specs.Prelude.{◌≡◌, ◌≢◌, ℕ, ◌+◌, ◌-◌, ◌^◌, ◌<◌, ◌≤◌, ◌⊎◌, Bool, true, false, List, [], ◌∷◌, ◌++◌, length}
use Rattle.std.specs.Prelude.{if◌then◌else◌}
use Rattle.tm_syntax.specs.Design.{DesignTree}
use Rattle.tm_cir.specs.Tree.{NumTree}
use Rattle.tm_cir.specs.Text.Token.{Token, word, label, task, constant, sign, Word, void, driver_turn, termite_leave}
use Rattle.tm_cir.specs.Text.Token.{Sign, open_parenthesis}
use Rattle.tm_cir.specs.Text.Grammar.{parenthesized, argument_tokens}
use Rattle.tm_cparse.specs.declared.spot.Spot.{Spot}
use Rattle.tm_cparse.specs.View.{token_tree, tokens_of}
use Rattle.tm_cparse.specs.Faults.{names_item, TakesArguments}
use Rattle.tm_struct_parse.specs.declared.bad.BadStructured.{BadStructured}
use Rattle.tm_struct_parse.specs.declared.bad.BadStructured.TheVariants.{Text, UnknownName, ForwardCall}
use Rattle.tm_struct_parse.specs.declared.names.Before.{Before}
use Rattle.tm_struct_parse.specs.declared.names.Before.TheVariants.{Void, Leave, Process, Other}
use Rattle.tm_struct_parse.specs.declared.names.TokenPlace.{TokenPlace}

-- what stands before the token behind this word
abbrev pub before_of_word : Word → Before
before_of_word void = Void
before_of_word termite_leave = Leave
before_of_word w = Other

-- what stands before the token behind this sign
abbrev pub before_of_sign : Before → Sign → Before
before_of_sign Leave open_parenthesis = Process
before_of_sign before s = Other

-- what stands before the token behind any token
abbrev pub before_behind : Before → Token → Before
before_behind before (word w) = before_of_word w
before_behind before (sign s) = before_of_sign before s
before_behind before t = Other

-- the number of functions that have begun behind a name, by what stands before it
abbrev pub begun_behind : ℕ → Before → ℕ
begun_behind functions Void = functions + 1
begun_behind functions before = functions

-- the number of functions that have begun behind any token
abbrev pub functions_behind : TokenPlace → Token → ℕ
functions_behind at (label k) = begun_behind at.functions at.before
functions_behind at t = at.functions

-- whether `driver_turn` has begun behind a token
abbrev pub turn_behind : Bool → Token → Bool
turn_behind in_turn (word driver_turn) = true
turn_behind in_turn t = in_turn

-- the number of functions that may be named at a place: in a function those before it, in `driver_turn` all
abbrev pub callable_at : TokenPlace → ℕ
callable_at at = if at.in_turn then at.functions else at.functions - 1

-- the place behind a token
abbrev pub place_behind : TokenPlace → Token → TokenPlace
place_behind at t = record {
  functions = functions_behind at t;
  in_turn = turn_behind at.in_turn t;
  before = before_behind at.before t;
}

-- the place behind several tokens
abbrev pub place_after : TokenPlace → List Token → TokenPlace
place_after at [] = at
place_after at (t ∷ ts) = place_after (place_behind at t) ts

-- the place of a driver's first token
abbrev pub first_place : TokenPlace
first_place = record { functions = 0; in_turn = false; before = Other }

-- the name of a function that begins is the next one; any other names a function that may be named
abbrev pub IsRightName : TokenPlace → Before → ℕ → Type 0
IsRightName at Void k = k ≡ at.functions
IsRightName at before k = k < callable_at at

-- the design has the process that leaves; its number has 32 bits
abbrev pub IsRightConstant : DesignTree → Before → ℕ → Type 0
IsRightConstant d Process p = (p < length d.processes) × (p < 2 ^ 32)
IsRightConstant d before p = Unit {0}

-- a token of a driver names what there is, as far as its number tells; behind it stand `others`
abbrev pub IsRight : DesignTree → TokenPlace → Token → List Token → Type 0
IsRight d at (label k) others = IsRightName at at.before k
IsRight d at (constant p) others = IsRightConstant d at.before p
IsRight d at (task k) others =
    (args : List NumTree) (rest : List Token) → others ≡ parenthesized (argument_tokens args) ++ rest →
    TakesArguments d k (length args)
IsRight d at t others = Unit {0}

-- all tokens from a place on name what there is, as far as their numbers tell
abbrev pub AreRight : DesignTree → TokenPlace → List Token → Type 0
AreRight d at [] = Unit {0}
AreRight d at (t ∷ ts) = IsRight d at t ts × AreRight d (place_behind at t) ts

-- the token is at fault, in a driver with so many functions
pub data IsFaultAt (d : DesignTree) (count : ℕ) (at : TokenPlace) (t : Token) (known : Bool) (line : ℕ)
    (others : List Token) : BadStructured → Type 0 where
  unknown : names_item t ≡ true → known ≡ false → IsFaultAt d count at t known line others (UnknownName line)
  no_process : {p : ℕ} → at.before ≡ Process → t ≡ constant p → (length d.processes ≤ p) ⊎ (2 ^ 32 ≤ p) →
      IsFaultAt d count at t known line others (UnknownName line)
  out_of_order : {k : ℕ} → at.before ≡ Void → t ≡ label k → k ≢ at.functions →
      IsFaultAt d count at t known line others (Text line)
  beyond : {k : ℕ} → at.before ≢ Void → t ≡ label k → count ≤ k → IsFaultAt d count at t known line others (Text line)
  forward : {k : ℕ} → at.before ≢ Void → t ≡ label k → k < count → callable_at at ≤ k →
      IsFaultAt d count at t known line others (ForwardCall line)
  wrong_count : {k : ℕ} (args : List NumTree) (rest : List Token) → t ≡ task k → known ≡ true →
      others ≡ parenthesized (argument_tokens args) ++ rest → ¬ TakesArguments d k (length args) →
      IsFaultAt d count at t known line others (Text line)

-- the first token at fault from a place on
pub data IsFirstFault (d : DesignTree) (count : ℕ) : TokenPlace → List Spot → BadStructured → Type 0 where
  here : {at : TokenPlace} {s : Spot} {others : List Spot} {bad : BadStructured} →
      IsFaultAt d count at (token_tree s.token) s.known s.line (tokens_of others) bad →
      IsFirstFault d count at (s ∷ others) bad
  later : {at : TokenPlace} {s : Spot} {others : List Spot} {bad : BadStructured} →
      (names_item (token_tree s.token) ≡ true → s.known ≡ true) →
      IsRight d at (token_tree s.token) (tokens_of others) →
      IsFirstFault d count (place_behind at (token_tree s.token)) others bad → IsFirstFault d count at (s ∷ others) bad
