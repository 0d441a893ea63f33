-- What a reader has shown of the tokens that it read.
--
-- A form is a relation between how far the limit on depths reaches, the tokens that begin with the form, and those left
-- behind it.
use Rattle.std.specs.Prelude.{◌≡◌, ℕ, ◌+◌, ◌≤◌, ◌⊎◌, Bool, true, false, IsTrue, Option, Some, None, List, [], ◌∷◌, ◌++◌, length}
use Rattle.tm_syntax.specs.declared.token.Token.{Token}
use Rattle.tm_syntax.specs.declared.token.TokenKind.{TokenKind}
use Rattle.tm_syntax.specs.declared.token.TokenKind.TheVariants as token
use Rattle.tm_syntax.specs.declared.token.Sign.{Sign}
use Rattle.tm_base.specs.declared.place.Place.{Place}
use Rattle.tm_syntax.specs.Grammar.Faults.{Anywhere, IsWithin, IsWithinAt}
use Rattle.tm_syntax.specs.Grammar.Parts.{Has, IsMark}
use Rattle.tm_parse.specs.declared.stop.Stop.{Stop}
use Rattle.tm_parse.specs.declared.stop.Stop.TheVariants.{Unexpected, TooDeep, Memory}

-- how far the limit on depths reaches: to no token, to all but so many last ones, or to the one with so many behind it
pub data Reach : Type 0 where
  nowhere : Reach
  all_but : ℕ → Reach
  only : ℕ → Reach

-- the first of these tokens may stand so deep
abbrev pub IsBound : Reach → List Token → ℕ → Type 0
IsBound nowhere tokens depth = Anywhere tokens depth
IsBound (all_but last) tokens depth = IsWithin last tokens depth
IsBound (only left) tokens depth = IsWithinAt left tokens depth

-- the limit reaches the first of these tokens
abbrev pub Binds : Reach → List Token → Type 0
Binds reach tokens = (depth : ℕ) → IsBound reach tokens depth → depth ≤ 128

-- the first token
abbrev pub first_of : List Token → Option Token
first_of [] = None
first_of (t ∷ ts) = Some t

-- the kind of the first token
abbrev pub first_kind : List Token → Option TokenKind
first_kind [] = None
first_kind (t ∷ ts) = Some t.kind

-- the form is refused at the first token of `here`: what was taken before it can be completed to the form, and no form
-- that goes on with that token ends where no token of a kind stands with which forms go on. Where the token is
-- too deep, it goes on with the form, but with no form in which it stands within the limit.
pub record IsBlocked (Is : Reach → List Token → List Token → Type 0) (Goes : Option TokenKind → Type 0) (deep : Bool)
    (tokens here : List Token) : Type 0 where
  pub front : List Token
  pub whole : tokens ≡ front ++ here
  pub more : List Token
  pub completes : (behind : List Token) → Is (all_but (length (more ++ behind))) (front ++ (more ++ behind)) behind
  pub goes_on : IsTrue deep →
      (t : Token) × (other : List Token) × (others : List Token) × (more ≡ t ∷ other) × (here ≡ t ∷ others)
  pub stuck : (reach : Reach) (other rest : List Token) → first_of other ≡ first_of here →
      (IsTrue deep → Binds reach other) → ¬ Goes (first_kind rest) → ¬ Is reach (front ++ other) rest

-- why a reader of the form stopped
abbrev pub IsRefused : (Reach → List Token → List Token → Type 0) → (Option TokenKind → Type 0) → List Token → Stop →
    Type 0
IsRefused Is Goes tokens (Unexpected here) = IsBlocked Is Goes false tokens here.now
IsRefused Is Goes tokens (TooDeep here) = IsBlocked Is Goes true tokens here.now
IsRefused Is Goes tokens Memory = Unit {0}

-- no token goes on with the form, which ends with one of its own
abbrev pub Nothing : Option TokenKind → Type 0
Nothing _ = ⊥

-- a sign goes on with the form
abbrev pub GoesBy : Sign → Option TokenKind → Type 0
GoesBy by kind = kind ≡ Some (token.Sign by)

-- a token that opens a level within the limit, where so many levels are open before it
pub record IsOpening (kind : TokenKind) (depth : ℕ) (reach : Reach) (at : Place)
    (tokens rest : List Token) : Type 0 where
  pub mark : IsMark kind at tokens rest
  pub within : IsBound reach tokens (depth + 1)

-- some form of a sort
abbrev pub AnyOf : {X : Type 0} → (Reach → X → List Token → List Token → Type 0) → Reach → List Token → List Token →
    Type 0
AnyOf {X} Is reach tokens rest = (x : X) × Is reach x tokens rest

-- a list of forms goes on by its sign, and as its last form does
abbrev pub GoesOn : Sign → (Option TokenKind → Type 0) → Option TokenKind → Type 0
GoesOn by Goes kind = GoesBy by kind ⊎ Goes kind

-- the form was read, as this tree: what was taken is the form, whatever stands behind it; and each form that begins so,
-- goes on with the same token and ends where it can go on no more, is this one and ends there
pub record Takes {X : Type 0} (Is : Reach → X → List Token → List Token → Type 0) (Goes : Option TokenKind → Type 0)
    (x : X) (tokens rest : List Token) : Type 0 where
  pub front : List Token
  pub whole : tokens ≡ front ++ rest
  pub is : (reach : Reach) (behind : List Token) → Is reach x (front ++ behind) behind
  pub sole : (reach : Reach) (y : X) (other after : List Token) → first_of other ≡ first_of rest →
      ¬ Goes (first_kind after) → Is reach y (front ++ other) after → (y ≡ x) × (after ≡ other)

-- a token of a kind, of which nothing stays in the tree
abbrev pub TheMark : TokenKind → Reach → Unit {0} → List Token → List Token → Type 0
TheMark kind reach nothing tokens rest = Has kind tokens rest
