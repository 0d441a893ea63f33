-- What the rules of the grammar are made of. Each relation takes the tree of a form, the tokens that begin with the
-- form, and the tokens left behind it.
--
-- Where a rule opens a level, it asks `May`: may the first of these tokens stand so deep? The grammar itself sets no
-- limit; `depth` is the number of levels that are open where a form begins.
use Rattle.std.specs.Prelude.{◌≡◌, ℕ, ◌+◌, ◌^◌, ◌==◌, Option, Some, None, List, [], ◌∷◌, ◌++◌, drop, get_or, slice_range, nat_lt, if◌then◌else◌}
use Rattle.std.specs.Str.Parse.{digits_value}
use Rattle.tm_base.specs.declared.place.Place.{Place}
use Rattle.tm_syntax.specs.declared.token.Token.{Token}
use Rattle.tm_syntax.specs.declared.token.TokenKind.{TokenKind}
use Rattle.tm_syntax.specs.declared.token.TokenKind.TheVariants as token
use Rattle.tm_syntax.specs.declared.token.Sign.{Sign}
use Rattle.tm_syntax.specs.declared.token.Sign.TheVariants as sign
use Rattle.tm_syntax.specs.declared.tree.Ident.{Ident}
use Rattle.tm_syntax.specs.declared.tree.Num.{Num}

-- a token of this kind
pub record Has (kind : TokenKind) (tokens rest : List Token) : Type 0 where
  pub first : Token
  pub whole : tokens ≡ first ∷ rest
  pub is : first.kind ≡ kind

-- a token of this kind, at this place
pub record IsMark (kind : TokenKind) (at : Place) (tokens rest : List Token) : Type 0 where
  pub first : Token
  pub whole : tokens ≡ first ∷ rest
  pub is : first.kind ≡ kind
  pub here : first.place ≡ at

-- NAME: the bytes of its token
pub record IsName (text : List ℕ) (name : Ident) (tokens rest : List Token) : Type 0 where
  pub first : Token
  pub whole : tokens ≡ first ∷ rest
  pub is : first.kind ≡ token.Name
  pub here : first.place ≡ name.place
  pub bytes : name.text ≡ slice_range text first.start first.end

-- the number that the bytes of a number write: hexadecimal behind `0x` (120 is `x`), else decimal
abbrev pub written_number : List ℕ → ℕ
written_number bytes = if get_or bytes 1 0 == 120 then digits_value 16 (drop 2 bytes) else digits_value 10 bytes

-- a number, where it is below 2^64
abbrev pub below_limit : ℕ → Option ℕ
below_limit n = if nat_lt n (2 ^ 64) then Some n else None

-- NUMBER: the number that the bytes of its token write, if it is below 2^64
pub record IsNumber (text : List ℕ) (n : Num) (tokens rest : List Token) : Type 0 where
  pub first : Token
  pub whole : tokens ≡ first ∷ rest
  pub is : first.kind ≡ token.Number
  pub here : first.place ≡ n.place
  pub value : n.value ≡ below_limit (written_number (slice_range text first.start first.end))

-- { x }: forms of one sort, one behind another
pub data AreEach {X : Type 0} (Is : X → List Token → List Token → Type 0) :
    List X → List Token → List Token → Type 0 where
  each_none : {a : List Token} → AreEach Is [] a a
  each_more : {xs : List X} {x : X} {a b c : List Token} → AreEach Is xs a b → Is x b c → AreEach Is (xs ++ x ∷ []) a c

-- x { sign x }: one form or more, with a sign between two
pub data AreParted {X : Type 0} (by : Sign) (Is : X → List Token → List Token → Type 0) :
    List X → List Token → List Token → Type 0 where
  parted_one : {x : X} {a b : List Token} → Is x a b → AreParted by Is (x ∷ []) a b
  parted_more : {xs : List X} {x : X} {a b c d : List Token} →
      AreParted by Is xs a b → Has (token.Sign by) b c → Is x c d → AreParted by Is (xs ++ x ∷ []) a d

-- [ x ]: a form, or nothing
pub data IsOptional {X : Type 0} (Is : X → List Token → List Token → Type 0) :
    Option X → List Token → List Token → Type 0 where
  optional_none : {a : List Token} → IsOptional Is None a a
  optional_some : {x : X} {a b : List Token} → Is x a b → IsOptional Is (Some x) a b

-- "(" x { "," x } ")"
pub data AreEnclosed (May : List Token → ℕ → Type 0) (depth : ℕ) {X : Type 0}
    (Is : X → List Token → List Token → Type 0) : List X → List Token → List Token → Type 0 where
  enclosed : {xs : List X} {a b c d : List Token} →
      Has (token.Sign sign.OpenParenthesis) a b → May a (depth + 1) →
      AreParted sign.Comma Is xs b c → Has (token.Sign sign.CloseParenthesis) c d →
      AreEnclosed May depth Is xs a d

-- [ "(" x { "," x } ")" ]
pub data MayBeEnclosed (May : List Token → ℕ → Type 0) (depth : ℕ) {X : Type 0}
    (Is : X → List Token → List Token → Type 0) : List X → List Token → List Token → Type 0 where
  enclosed_none : {a : List Token} → MayBeEnclosed May depth Is [] a a
  enclosed_some : {xs : List X} {a b : List Token} → AreEnclosed May depth Is xs a b → MayBeEnclosed May depth Is xs a b

-- "(" [ x { "," x } ] ")"
pub data AreArguments (May : List Token → ℕ → Type 0) (depth : ℕ) {X : Type 0}
    (Is : X → List Token → List Token → Type 0) : List X → List Token → List Token → Type 0 where
  arguments_none : {a b c : List Token} →
      Has (token.Sign sign.OpenParenthesis) a b → May a (depth + 1) →
      Has (token.Sign sign.CloseParenthesis) b c → AreArguments May depth Is [] a c
  arguments_some : {xs : List X} {a b : List Token} → AreEnclosed May depth Is xs a b → AreArguments May depth Is xs a b

-- path = NAME { "." NAME }
abbrev pub IsPath : List ℕ → List Ident → List Token → List Token → Type 0
IsPath text names = AreParted sign.Dot (IsName text) names
