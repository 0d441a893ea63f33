-- How the tokens of the C text are spelled, and how a text is cut into them: by longest match, with any blanks between.
use Rattle.std.specs.Prelude.{◌≡◌, ℕ, ◌^◌, ◌<◌, ◌≤◌, true, false, Option, Some, List, [], ◌∷◌, ◌++◌, ◌==◌, map, length, codes, slice_get, if◌then◌else◌}
use Rattle.std.specs.Fmt.{decimal}
use Rattle.std.specs.Option.{option_map}
use Rattle.tm_syntax.specs.declared.design.Var.{Var}
use Rattle.tm_syntax.specs.declared.design.Item.{Item}
use Rattle.tm_syntax.specs.Tokens.{is_blank, continues_name}
use Rattle.tm_syntax.specs.Design.{DesignTree}
use Rattle.tm_cir.specs.declared.block.NumOperator.TheVariants as numbers
use Rattle.tm_base.specs.declared.shift_operator.ShiftOperator.TheVariants.{Left, Right}
use Rattle.tm_cir.specs.declared.block.Comparison.TheVariants.{Equal, NotEqual, Less, LessEqual, Greater, GreaterEqual}
use Rattle.tm_cir.specs.declared.block.Junction.TheVariants as truths
use Rattle.tm_cir.specs.Text.Token.{Word, void, driver_turn, if_word, else_word, goto, return_word, termite_leave, termite_goal, termite_last, Sign, open_parenthesis, close_parenthesis, open_brace, close_brace, colon, semicolon, comma, question, tilde, bang, arithmetic, shifting, comparing, joining, Token, word, label, variable, location, task, constant, sign}

-- the bytes of a word
abbrev pub word_text : Word → List ℕ
word_text void = codes "void"
word_text driver_turn = codes "driver_turn"
word_text if_word = codes "if"
word_text else_word = codes "else"
word_text goto = codes "goto"
word_text return_word = codes "return"
word_text termite_leave = codes "termite_leave"
word_text termite_goal = codes "termite_goal"
word_text termite_last = codes "termite_last"

-- the bytes of a sign
abbrev pub sign_text : Sign → List ℕ
sign_text open_parenthesis = codes "("
sign_text close_parenthesis = codes ")"
sign_text open_brace = codes "{"
sign_text close_brace = codes "}"
sign_text colon = codes ":"
sign_text semicolon = codes ";"
sign_text comma = codes ","
sign_text question = codes "?"
sign_text tilde = codes "~"
sign_text bang = codes "!"
sign_text (arithmetic numbers.Add) = codes "+"
sign_text (arithmetic numbers.Subtract) = codes "-"
sign_text (arithmetic numbers.And) = codes "&"
sign_text (arithmetic numbers.Or) = codes "|"
sign_text (arithmetic numbers.Xor) = codes "^"
sign_text (shifting Left) = codes "<<"
sign_text (shifting Right) = codes ">>"
sign_text (comparing Equal) = codes "=="
sign_text (comparing NotEqual) = codes "!="
sign_text (comparing Less) = codes "<"
sign_text (comparing LessEqual) = codes "<="
sign_text (comparing Greater) = codes ">"
sign_text (comparing GreaterEqual) = codes ">="
sign_text (joining truths.And) = codes "&&"
sign_text (joining truths.Or) = codes "||"

-- a dot of a path is written as `_` in a name
abbrev pub name_byte : ℕ → ℕ
name_byte b = if b == 46 then 95 else b

-- the name of an item of a design: a letter, the item's number, `_`, and its path
abbrev pub item_name : ℕ → ℕ → List ℕ → List ℕ
item_name letter number path = letter ∷ (decimal number ++ 95 ∷ map name_byte path)

-- the bytes of a token over a design, if the design has its item (118 is `v`, 112 is `p` and 116 is `t`)
abbrev pub token_text : DesignTree → Token → Option (List ℕ)
token_text d (word w) = Some (word_text w)
token_text d (label k) = Some (codes "L" ++ decimal k)
token_text d (variable k) = option_map (λ (v : Var). item_name 118 k v.path) (slice_get d.vars k)
token_text d (location k) = option_map (λ (p : Item). item_name 112 k p.path) (slice_get d.processes k)
token_text d (task k) = option_map (λ (t : Item). item_name 116 k t.path) (slice_get d.tasks k)
token_text d (constant n) = Some (decimal n ++ codes "ULL")
token_text d (sign s) = Some (sign_text s)

-- the number in a token, where it has one
abbrev pub token_number : Token → ℕ
token_number (label k) = k
token_number (variable k) = k
token_number (location k) = k
token_number (task k) = k
token_number (constant n) = n
token_number _ = 0

-- no letter, digit or `_` stands in front
abbrev pub BeginsNoWord : List ℕ → Type 0
BeginsNoWord [] = Unit {0}
BeginsNoWord (b ∷ bs) = continues_name b ≡ false

-- in front of `rest`, no sign that begins where this one does is longer
abbrev pub IsLongestSign : Sign → List ℕ → Type 0
IsLongestSign s rest =
    (longer : Sign) (after : List ℕ) → sign_text s ++ rest ≡ sign_text longer ++ after →
    length (sign_text longer) ≤ length (sign_text s)

-- a token ends in front of `rest`: a sign is the longest, and no letter, digit or `_` follows a word or a constant
abbrev pub EndsToken : Token → List ℕ → Type 0
EndsToken (sign s) rest = IsLongestSign s rest
EndsToken _ rest = BeginsNoWord rest

-- the text begins with this token, whose number has at most 64 bits, and then comes `rest`
pub record BeginsWith (d : DesignTree) (text : List ℕ) (t : Token) (rest : List ℕ) : Type 0 where
  pub bytes : List ℕ
  pub small : token_number t < 2 ^ 64
  pub spelled : token_text d t ≡ Some bytes
  pub ends : EndsToken t rest
  pub whole : text ≡ bytes ++ rest

-- the text is these tokens, with blanks before, between and behind them
pub data AreTokens (d : DesignTree) : List ℕ → List Token → Type 0 where
  no_more : AreTokens d [] []
  blank : {b : ℕ} {text : List ℕ} {ts : List Token} →
      is_blank b ≡ true → AreTokens d text ts → AreTokens d (b ∷ text) ts
  token : {t : Token} {text rest : List ℕ} {ts : List Token} →
      BeginsWith d text t rest → AreTokens d rest ts → AreTokens d text (t ∷ ts)

-- what follows the include on its line: spaces and tabs, at most one carriage return, and a line feed
pub data EndsLine : List ℕ → List ℕ → Type 0 where
  space : {text rest : List ℕ} → EndsLine text rest → EndsLine (32 ∷ text) rest
  tab : {text rest : List ℕ} → EndsLine text rest → EndsLine (9 ∷ text) rest
  carriage_return : {rest : List ℕ} → EndsLine (13 ∷ 10 ∷ rest) rest
  line_feed : {rest : List ℕ} → EndsLine (10 ∷ rest) rest

-- blanks, and what follows them
pub data SkipsBlanks : List ℕ → List ℕ → Type 0 where
  none : {rest : List ℕ} → SkipsBlanks rest rest
  skip : {b : ℕ} {text rest : List ℕ} → is_blank b ≡ true → SkipsBlanks text rest → SkipsBlanks (b ∷ text) rest

-- the include, behind any blanks, and what follows its line
pub record HasInclude (text body : List ℕ) : Type 0 where
  pub line : List ℕ
  pub include : SkipsBlanks text (codes "#include \"termite.h\"" ++ line)
  pub ends : EndsLine line body
