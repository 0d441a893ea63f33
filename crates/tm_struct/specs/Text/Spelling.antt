-- How the tokens of structured text are spelled. They are those of the C text with jumps, but that this text has the
-- word `static` in the place of `goto`, and the names of functions, `b0`, `b1` and so on, in the place of labels.
use Rattle.std.specs.Prelude.{◌≡◌, ℕ, ◌^◌, ◌<◌, true, Option, Some, List, [], ◌∷◌, ◌++◌, codes}
use Rattle.std.specs.Fmt.{decimal}
use Rattle.tm_syntax.specs.Tokens.{is_blank}
use Rattle.tm_syntax.specs.Design.{DesignTree}
use Rattle.tm_cir.specs.Text.Token.{Token, word, label, goto}
use Rattle.tm_cir.specs.Text.Spelling.{token_text, token_number, EndsToken}

-- the word `static`, where the C text with jumps has `goto`
abbrev pub static_word : Token
static_word = word goto

-- the name of a function, where the C text with jumps has a label
abbrev pub function : ℕ → Token
function k = label k

-- the bytes of a token over a design, if the design has its item
abbrev pub spelling : DesignTree → Token → Option (List ℕ)
spelling d (word goto) = Some (codes "static")
spelling d (label k) = Some (codes "b" ++ decimal k)
spelling d t = token_text d t

-- the text begins with this token, whose number has at most 64 bits, and then comes `rest`
pub record BeginsWith (d : DesignTree) (text : List ℕ) (t : Token) (rest : List ℕ) : Type 0 where
  pub bytes : List ℕ
  pub small : token_number t < 2 ^ 64
  pub spelled : spelling d t ≡ Some bytes
  pub ends : EndsToken t rest
  pub whole : text ≡ bytes ++ rest

-- the text is these tokens, with blanks before, between and behind them
pub data AreTokens (d : DesignTree) : List ℕ → List Token → Type 0 where
  no_more : AreTokens d [] []
  blank : {b : ℕ} {text : List ℕ} {ts : List Token} →
      is_blank b ≡ true → AreTokens d text ts → AreTokens d (b ∷ text) ts
  token : {t : Token} {text rest : List ℕ} {ts : List Token} →
      BeginsWith d text t rest → AreTokens d rest ts → AreTokens d text (t ∷ ts)
