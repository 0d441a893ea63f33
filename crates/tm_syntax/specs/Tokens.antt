-- The tokens of a text. The text is split into gaps and tokens, each the longest that begins where it stands (as in
-- ISO/IEC 9899:2011, 6.4, paragraph 4).
use Rattle.std.specs.Prelude.{◌≡◌, ◌≢◌, ℕ, ◌+◌, ◌<◌, ◌≤◌, Bool, IsTrue, ◌==◌, ◌||◌, not, ◌⊎◌, ⊤, Option, Some, None, List, [], ◌∷◌, ◌++◌, length, take, slice_range, count_by, codes}
use Rattle.std.specs.Char.{is_ascii_alphabetic, is_ascii_alphanumeric, is_ascii_digit, is_ascii_hexdigit}
use Rattle.std.specs.List.{AllPass, flat_map, suffix_len}
use Rattle.std.specs.Option.{option_map, option_to_list}
use Rattle.std.specs.Str.Iter.{HasSubslice}
use Rattle.tm_base.specs.declared.place.Place.{Place}
use Rattle.tm_syntax.specs.declared.token.Word.{Word}
use Rattle.tm_syntax.specs.declared.token.Word.TheVariants as word
use Rattle.tm_syntax.specs.declared.token.Sign.{Sign}
use Rattle.tm_syntax.specs.declared.token.Sign.TheVariants as sign
use Rattle.tm_syntax.specs.declared.token.TokenKind.{TokenKind}
use Rattle.tm_syntax.specs.declared.token.TokenKind.TheVariants as token
use Rattle.tm_syntax.specs.declared.token.Token.{Token}

-- the bytes of a reserved word
abbrev pub word_text : Word → List ℕ
word_text word.Typedef = codes "typedef"
word_text word.Enum = codes "enum"
word_text word.Template = codes "template"
word_text word.EndTemplate = codes "endtemplate"
word_text word.Instance = codes "instance"
word_text word.Bool = codes "bool"
word_text word.Uint = codes "uint"
word_text word.Goal = codes "goal"
word_text word.Fair = codes "fair"
word_text word.Lazy = codes "lazy"
word_text word.Process = codes "process"
word_text word.Task = codes "task"
word_text word.Controllable = codes "controllable"
word_text word.Uncontrollable = codes "uncontrollable"
word_text word.Procedure = codes "procedure"
word_text word.Void = codes "void"
word_text word.Return = codes "return"
word_text word.If = codes "if"
word_text word.Else = codes "else"
word_text word.While = codes "while"
word_text word.Forever = codes "forever"
word_text word.Choice = codes "choice"
word_text word.Or = codes "or"
word_text word.Assert = codes "assert"
word_text word.Assume = codes "assume"
word_text word.Pause = codes "pause"
word_text word.Wait = codes "wait"
word_text word.True = codes "true"
word_text word.False = codes "false"

-- the bytes of a sign
abbrev pub sign_text : Sign → List ℕ
sign_text sign.OpenBrace = codes "{"
sign_text sign.CloseBrace = codes "}"
sign_text sign.OpenParenthesis = codes "("
sign_text sign.CloseParenthesis = codes ")"
sign_text sign.OpenBracket = codes "["
sign_text sign.CloseBracket = codes "]"
sign_text sign.Semicolon = codes ";"
sign_text sign.Comma = codes ","
sign_text sign.Dot = codes "."
sign_text sign.Ellipsis = codes "..."
sign_text sign.Colon = codes ":"
sign_text sign.Question = codes "?"
sign_text sign.Assign = codes "="
sign_text sign.Equal = codes "=="
sign_text sign.NotEqual = codes "!="
sign_text sign.Less = codes "<"
sign_text sign.LessEqual = codes "<="
sign_text sign.Greater = codes ">"
sign_text sign.GreaterEqual = codes ">="
sign_text sign.ShiftLeft = codes "<<"
sign_text sign.ShiftRight = codes ">>"
sign_text sign.Plus = codes "+"
sign_text sign.Minus = codes "-"
sign_text sign.And = codes "&"
sign_text sign.AndAnd = codes "&&"
sign_text sign.Or = codes "|"
sign_text sign.OrOr = codes "||"
sign_text sign.Xor = codes "^"
sign_text sign.Tilde = codes "~"
sign_text sign.Bang = codes "!"
sign_text sign.Star = codes "*"

-- a space, a tab, a carriage return or a line feed
abbrev pub is_blank : ℕ → Bool
is_blank b = b == 32 || b == 9 || b == 13 || b == 10

-- a line feed
abbrev pub is_line_feed : ℕ → Bool
is_line_feed b = b == 10

-- a letter, or `_`
abbrev pub begins_name : ℕ → Bool
begins_name b = is_ascii_alphabetic b || b == 95

-- a letter, a digit, or `_`
abbrev pub continues_name : ℕ → Bool
continues_name b = is_ascii_alphanumeric b || b == 95

-- a name, or a reserved word
abbrev pub IsWordLike : List ℕ → Type 0
IsWordLike [] = ⊥
IsWordLike (b ∷ bs) = IsTrue (begins_name b) × AllPass continues_name bs

-- one or more decimal digits
abbrev pub IsDecimal : List ℕ → Type 0
IsDecimal bytes = (0 < length bytes) × AllPass is_ascii_digit bytes

-- `0x`, and one or more hexadecimal digits of either case
abbrev pub IsHexadecimal : List ℕ → Type 0
IsHexadecimal bytes =
    (digits : List ℕ) × (0 < length digits) × AllPass is_ascii_hexdigit digits × (bytes ≡ codes "0x" ++ digits)

-- one blank
abbrev pub IsBlank : List ℕ → Type 0
IsBlank bytes = (b : ℕ) × IsTrue (is_blank b) × (bytes ≡ b ∷ [])

-- a comment that is on one line
abbrev pub IsLineComment : List ℕ → Type 0
IsLineComment bytes = (body : List ℕ) × AllPass (λ b. not (is_line_feed b)) body × (bytes ≡ codes "//" ++ body)

-- a comment that ends at the first `*/` behind its `/*`
abbrev pub IsBlockComment : List ℕ → Type 0
IsBlockComment bytes = (body : List ℕ) × ¬ HasSubslice body (codes "*/") × (bytes ≡ codes "/*" ++ body ++ codes "*/")

-- the bytes are a token of this kind, or a gap where there is none
abbrev pub IsPiece : Option TokenKind → List ℕ → Type 0
IsPiece None bytes = IsBlank bytes ⊎ (IsLineComment bytes ⊎ IsBlockComment bytes)
IsPiece (Some token.Name) bytes = IsWordLike bytes × ((w : Word) → bytes ≢ word_text w)
IsPiece (Some token.Number) bytes = IsDecimal bytes ⊎ IsHexadecimal bytes
IsPiece (Some (token.Word w)) bytes = bytes ≡ word_text w
IsPiece (Some (token.Sign s)) bytes = bytes ≡ sign_text s

-- a piece of a text: a token of its kind, or a gap where it has none
pub record Piece : Type 0 where
  pub kind : Option TokenKind
  pub bytes : List ℕ

-- the bytes of pieces in a row
abbrev pub bytes_of : List Piece → List ℕ
bytes_of pieces = flat_map (λ p. p.bytes) pieces

-- in front of `rest`, no piece that begins where the bytes do is longer than they are
abbrev pub IsLongest : List ℕ → List ℕ → Type 0
IsLongest bytes rest =
    (kind : Option TokenKind) (longer after : List ℕ) → IsPiece kind longer →
    bytes ++ rest ≡ longer ++ after → length longer ≤ length bytes

-- pieces in a row, in front of `rest`: each is of its kind, and the longest that begins where it stands
abbrev pub ArePieces : List Piece → List ℕ → Type 0
ArePieces [] rest = ⊤
ArePieces (p ∷ ps) rest = IsPiece p.kind p.bytes × IsLongest p.bytes (bytes_of ps ++ rest) × ArePieces ps rest

-- the text is these pieces, and then `rest`
pub record Splits (text : List ℕ) (pieces : List Piece) (rest : List ℕ) : Type 0 where
  pub whole : text ≡ bytes_of pieces ++ rest
  pub each : ArePieces pieces rest

-- the place of the byte behind `front`: a line ends at a line feed, and columns count bytes
abbrev pub place_after : List ℕ → Place
place_after front = record {
  line = 1 + count_by is_line_feed front;
  column = 1 + suffix_len (λ b. not (is_line_feed b)) front;
}

-- the token that a piece behind `front` is, if it is one
abbrev pub token_behind : List ℕ → Piece → Option Token
token_behind front p =
    option_map (λ kind. record {
      kind = kind;
      start = length front;
      end = length front + length p.bytes;
      place = place_after front;
    }) p.kind

-- the tokens among pieces that stand behind `front`
abbrev pub tokens_behind : List ℕ → List Piece → List Token
tokens_behind front [] = []
tokens_behind front (p ∷ ps) = option_to_list (token_behind front p) ++ tokens_behind (front ++ p.bytes) ps

-- the tokens of a text
pub record AreTokens (text : List ℕ) (tokens : List Token) : Type 0 where
  pub pieces : List Piece
  pub split : Splits text pieces []
  pub are : tokens ≡ tokens_behind [] pieces

-- no piece begins where the bytes do
abbrev pub BeginsNothing : List ℕ → Type 0
BeginsNothing bytes = (kind : Option TokenKind) (front after : List ℕ) → IsPiece kind front → bytes ≢ front ++ after

-- the first byte of a text that begins no token and no gap stands at this place
pub record HasByteFault (text : List ℕ) (place : Place) : Type 0 where
  pub pieces : List Piece
  pub byte : ℕ
  pub rest : List ℕ
  pub split : Splits text pieces (byte ∷ rest)
  pub begins_nothing : BeginsNothing (byte ∷ rest)
  pub here : place ≡ place_after (bytes_of pieces)

-- a token stands in a text: the bytes of its span are of its kind, and its place is that of the first of them
pub record StandsIn (text : List ℕ) (t : Token) : Type 0 where
  pub within : t.end ≤ length text
  pub is : IsPiece (Some t.kind) (slice_range text t.start t.end)
  pub here : t.place ≡ place_after (take t.start text)
