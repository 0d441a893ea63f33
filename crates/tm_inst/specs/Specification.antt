-- What the text of a specification is: a design, or a fault.
use Rattle.std.specs.Prelude.{⊤, ℕ, ◌≤◌, List, length}
use Rattle.tm_syntax.specs.declared.fault.Faulty.{Faulty as Fault}
use Rattle.tm_syntax.specs.declared.fault.FrontError.{FrontError}
use Rattle.tm_syntax.specs.declared.fault.FrontError.TheVariants.{Faulty, Memory}
use Rattle.tm_syntax.specs.declared.token.Token.{Token}
use Rattle.tm_syntax.specs.Limits.{specification_limit}
use Rattle.tm_syntax.specs.Tokens.{AreTokens}
use Rattle.tm_syntax.specs.Grammar.Faults.{IsTree}
use Rattle.tm_syntax.specs.Design.{DesignTree}
use Rattle.tm_syntax.specs.Faults.{IsSound}

-- the text of a specification within its limit, with these tokens: its tree is that of the design, and has no fault
pub record IsDesignText (text : List ℕ) (tokens : List Token) (d : DesignTree) : Type 0 where
  pub short : length text ≤ specification_limit
  pub are_tokens : AreTokens text tokens
  pub is_tree : IsTree text tokens d.spec
  pub sound : IsSound d

-- want of memory, or a fault of which this holds
abbrev pub IsMemoryOr : (Fault → Type 0) → FrontError → Type 0
IsMemoryOr Holds (Faulty f) = Holds f
IsMemoryOr Holds Memory = ⊤
