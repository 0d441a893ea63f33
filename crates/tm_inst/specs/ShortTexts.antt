-- Texts that are no longer than a specification may be.
use Rattle.std.specs.Prelude.{ℕ, ◌≤◌, List, length}
use Rattle.tm_syntax.specs.declared.token.Token.{Token}
use Rattle.tm_syntax.specs.Tree.{SpecTree}
use Rattle.tm_syntax.specs.Limits.{specification_limit}
use Rattle.tm_syntax.specs.Tokens.{AreTokens}
use Rattle.tm_syntax.specs.Grammar.Faults.{IsTree}

-- the tree of some text that is no longer than a specification may be and has none of F1 to F3
pub record IsOfShortText (spec : SpecTree) : Type 0 where
  pub text : List ℕ
  pub tokens : List Token
  pub short : length text ≤ specification_limit
  pub are_tokens : AreTokens text tokens
  pub is_tree : IsTree text tokens spec
