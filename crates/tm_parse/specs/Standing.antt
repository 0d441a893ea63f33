-- How deep a token stands in a specification without limits. A token that opens a level stands as deep as levels are
-- open with it, and an operator behind an operand one deeper than the operand is high; no other token has a depth.
use Rattle.std.specs.Prelude.{◌≡◌, ℕ, suc, List, [], ◌∷◌, ◌++◌, length}
use Rattle.tm_syntax.specs.declared.token.Token.{Token}
use Rattle.tm_syntax.specs.Tree.{SpecTree}
use Rattle.tm_syntax.specs.Grammar.Specification.{IsSpec}

-- the token behind which so many are left stands at no other depth
abbrev pub IsOnlyAt : ℕ → ℕ → List Token → ℕ → Type 0
IsOnlyAt left depth tokens found = length tokens ≡ suc left → found ≡ depth

-- the token behind which so many are left stands at no depth
abbrev pub IsNowhere : ℕ → List Token → ℕ → Type 0
IsNowhere left tokens found = ¬ (length tokens ≡ suc left)

-- the token between these stands at no depth in this specification
abbrev pub StandsNowhere : List ℕ → SpecTree → List Token → Token → List Token → Type 0
StandsNowhere text tree front t behind = IsSpec text (IsNowhere (length behind)) tree (front ++ t ∷ behind) []

-- the token between these stands so deep in this specification
pub record Stands (text : List ℕ) (tree : SpecTree) (front : List Token) (t : Token) (behind : List Token)
    (depth : ℕ) : Type 0 where
  pub only : IsSpec text (IsOnlyAt (length behind) depth) tree (front ++ t ∷ behind) []
  pub somewhere : ¬ StandsNowhere text tree front t behind

-- the token behind these stands so deep in some specification
abbrev pub StandsAt : List ℕ → List Token → Token → ℕ → Type 0
StandsAt text front t depth = (behind : List Token) × (tree : SpecTree) × Stands text tree front t behind depth
