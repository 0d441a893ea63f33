-- The faults of a text that the grammar gives: a token that continues no specification (F2), and a token that stands
-- too deep (F3). What tokens continue is said by viable prefixes (Aho, Lam, Sethi and Ullman, Compilers, 2006, section
-- 4.5).
use Rattle.std.specs.Prelude.{◌≡◌, ℕ, suc, ◌<◌, ◌≤◌, ◌⊎◌, List, [], ◌∷◌, ◌++◌, length}
use Rattle.tm_base.specs.declared.place.Place.{Place}
use Rattle.tm_syntax.specs.declared.token.Token.{Token}
use Rattle.tm_syntax.specs.Tokens.{place_after}
use Rattle.tm_syntax.specs.Tree.{SpecTree}
use Rattle.tm_syntax.specs.Grammar.Specification.{IsSpec}

-- each token may stand as deep as it likes
abbrev pub Anywhere : List Token → ℕ → Type 0
Anywhere tokens depth = Unit {0}

-- each token but the last `free` ones stands at most 128 deep: so many levels are open with it, or an operand to its
-- left is lower than that
abbrev pub IsWithin : ℕ → List Token → ℕ → Type 0
IsWithin free tokens depth = free < length tokens → depth ≤ 128

-- the token behind which so many are left stands at most 128 deep
abbrev pub IsWithinAt : ℕ → List Token → ℕ → Type 0
IsWithinAt left tokens depth = length tokens ≡ suc left → depth ≤ 128

-- the tokens of a specification within the limit
abbrev pub IsTree : List ℕ → List Token → SpecTree → Type 0
IsTree text tokens tree = IsSpec text (IsWithin 0) tree tokens []

-- some specification begins with these tokens
pub record Begins (text : List ℕ) (tokens : List Token) : Type 0 where
  pub behind : List Token
  pub tree : SpecTree
  pub spec : IsSpec text Anywhere tree (tokens ++ behind) []

-- the token behind these cannot continue any specification
pub record IsUnexpected (text : List ℕ) (front : List Token) (t : Token) : Type 0 where
  pub before : Begins text front
  pub refused : ¬ Begins text (front ++ t ∷ [])

-- the token behind these continues a specification, and stands too deep in each
pub record IsTooDeep (text : List ℕ) (front : List Token) (t : Token) : Type 0 where
  pub continues : Begins text (front ++ t ∷ [])
  pub refused : (behind : List Token) (tree : SpecTree) →
      ¬ IsSpec text (IsWithinAt (length behind)) tree (front ++ t ∷ behind) []

-- none of these tokens is at fault
abbrev pub IsFaultless : List ℕ → List Token → Type 0
IsFaultless text tokens =
    (front rest : List Token) (t : Token) → tokens ≡ front ++ t ∷ rest →
    ¬ (IsUnexpected text front t ⊎ IsTooDeep text front t)

-- F2: the first token at fault, at this place, continues no specification, or there is none and the text ends too early
pub data HasSyntaxFault (text : List ℕ) (tokens : List Token) : Place → Type 0 where
  unexpected : (front rest : List Token) (t : Token) → tokens ≡ front ++ t ∷ rest → IsFaultless text front →
      IsUnexpected text front t → HasSyntaxFault text tokens t.place
  ends_early : IsFaultless text tokens → Begins text tokens →
      ((tree : SpecTree) → ¬ IsSpec text Anywhere tree tokens []) → HasSyntaxFault text tokens (place_after text)

-- F3: the first token at fault, at this place, stands too deep
pub data HasDepthFault (text : List ℕ) (tokens : List Token) : Place → Type 0 where
  too_deep : (front rest : List Token) (t : Token) → tokens ≡ front ++ t ∷ rest → IsFaultless text front →
      IsTooDeep text front t → HasDepthFault text tokens t.place
