-- What stands in front of a text: blanks, the include, and the end of its line.
use Rattle.std.specs.Prelude.{◌≡◌, ◌↔◌, ℕ, Bool, false, List, [], ◌∷◌, ◌++◌, ◌||◌, ◌==◌}
use Rattle.std.specs.List.{AllPass}
use Rattle.tm_syntax.specs.Tokens.{is_blank}
use Rattle.tm_cir.specs.Text.Spelling.{EndsLine, HasInclude}
use Rattle.tm_cparse.specs.Cut.{BeginsNoBlank}
use Rattle.tm_cparse.specs.Faults.{line_after}

-- blanks, and the line behind them
pub record AreBlanks (text rest : List ℕ) (line : ℕ) : Type 0 where
  pub blanks : List ℕ
  pub are : AllPass is_blank blanks
  pub whole : text ≡ blanks ++ rest
  pub behind : line ≡ line_after blanks

-- the text behind the line of the include, and its line
pub record IsBehindInclude (text body : List ℕ) (line : ℕ) : Type 0 where
  pub front : List ℕ
  pub whole : text ≡ front ++ body
  pub include : HasInclude text body
  pub behind : line ≡ line_after front

-- no line of the include stands in front, behind blanks up to this line
pub record IsNoInclude (text : List ℕ) (line : ℕ) : Type 0 where
  pub rest : List ℕ
  pub blanks : AreBlanks text rest line
  pub no_blank : BeginsNoBlank rest
  pub none : (body : List ℕ) → ¬ HasInclude text body

-- a space or a tab
abbrev pub is_space : ℕ → Bool
is_space b = b == 32 || b == 9

-- neither stands in front
abbrev pub BeginsNoSpace : List ℕ → Type 0
BeginsNoSpace [] = Unit {0}
BeginsNoSpace (b ∷ bs) = is_space b ≡ false

-- a line ends alike in both texts
abbrev pub EndsAlike : List ℕ → List ℕ → Type 0
EndsAlike text rest = (body : List ℕ) → EndsLine text body ↔ EndsLine rest body
