-- A scan of the tokens of a specification, which knows at each token how deep it stands. Operators wait on a stack
-- with the heights of their left operands (Dijkstra, Making a translator for ALGOL 60, 1961), among the open levels.
use Rattle.std.proofs.Common.{◌≡◌, ℕ, ◌+◌, ◌<◌, ◌≤◌, max, Bool, true, false, nat_lt, if◌then◌else◌, Option, Some, None, List, [], ◌∷◌, ap}
use Rattle.std.proofs.lemmas.Bool.{lt-ltb, le-ltb}
use Rattle.tm_syntax.specs.declared.token.TokenKind.{TokenKind}
use Rattle.tm_syntax.specs.declared.token.TokenKind.TheVariants as token
use Rattle.tm_syntax.specs.declared.token.Word.{Word}
use Rattle.tm_syntax.specs.declared.token.Word.TheVariants as word
use Rattle.tm_syntax.specs.declared.token.Sign.{Sign}
use Rattle.tm_syntax.specs.declared.token.Sign.TheVariants as sign
use Rattle.tm_parse.specs.declared.operators.Infix.{Infix}
use Rattle.tm_parse.specs.Operands.{infix_strength}
use Rattle.tm_parse.proofs.Goes.{infix_at}

-- what waits for its end
pub data Waiting : Type 0 where
  -- a bracket
  opened : Waiting
  -- `?`, behind a test so high
  asking : ℕ → Waiting
  -- an operator that binds so strongly, with which so many levels were opened, behind operands so high
  joined : ℕ → ℕ → ℕ → Waiting
  -- `uint`, before its width is read
  sizing : Waiting
  -- `else`
  other : Waiting
  -- the `if` of an `else if`
  chained : Waiting
  -- the expression of a goal or a fairness condition
  claiming : Waiting

-- what waits, the last first, and the height of the operand that was read last
pub record State : Type 0 where
  pub waiting : List Waiting
  pub height : ℕ

-- so much waits, behind an operand so high
abbrev pub state : List Waiting → ℕ → State
state w h = record { waiting = w; height = h }

-- how many levels are open
abbrev pub levels : List Waiting → ℕ
levels [] = 0
levels (opened ∷ w) = levels w + 1
levels (asking h ∷ w) = levels w + 1
levels (joined k l h ∷ w) = levels w + l
levels (chained ∷ w) = levels w + 1
levels (sizing ∷ w) = levels w
levels (other ∷ w) = levels w
levels (claiming ∷ w) = levels w

-- operators that bind at least so strongly have their right operands
abbrev pub settle : ℕ → List Waiting → ℕ → State
settle k [] h = state [] h
settle k (joined s l g ∷ w) h = if nat_lt s k then state (joined s l g ∷ w) h else settle k w (max g h + 1)
settle k (x ∷ w) h = state (x ∷ w) h

-- what is known where operators that bind at least so strongly have their right operands
abbrev pub settled : ℕ → State → State
settled k s = settle k s.waiting s.height

-- behind the end of an `else if`
abbrev pub bare : List Waiting → List Waiting
bare (chained ∷ w) = bare w
bare w = w

-- behind the `{` of a block
abbrev pub past_else : List Waiting → List Waiting
past_else (other ∷ w) = w
past_else w = w

-- behind the word `if`
abbrev pub past_if : List Waiting → List Waiting
past_if (other ∷ w) = chained ∷ w
past_if w = bare w

-- behind a closing bracket
abbrev pub past_bracket : List Waiting → List Waiting
past_bracket (opened ∷ w) = w
past_bracket w = w

-- behind a semicolon
abbrev pub past_claim : List Waiting → List Waiting
past_claim (claiming ∷ w) = w
past_claim w = w

-- a width is read
abbrev pub sized : List Waiting → Bool
sized (sizing ∷ w) = true
sized w = false

-- `<` and `>` around a width are no operators
abbrev pub past_size : Sign → List Waiting → List Waiting
past_size sign.Greater (x ∷ w) = w
past_size s w = w

-- an operator behind an operand
abbrev pub operate : ℕ → Sign → State → State
operate k s r =
    if sized r.waiting then state (past_size s r.waiting) r.height
    else state (joined k 0 r.height ∷ r.waiting) r.height

-- `?` behind a test
abbrev pub ask : State → State
ask r = state (asking r.height ∷ r.waiting) r.height

-- `:` behind the branch for which the test holds
abbrev pub branch : List Waiting → ℕ → State
branch (asking t ∷ w) h = state (joined 0 1 (max t h) ∷ w) h
branch w h = state w h

-- a closing bracket
abbrev pub close : State → State
close r = state (past_bracket r.waiting) (r.height + 1)

-- behind a word
abbrev pub step_word : Word → State → State
step_word word.Else s = state (other ∷ s.waiting) s.height
step_word word.If s = state (past_if s.waiting) s.height
step_word word.Uint s = state (sizing ∷ s.waiting) s.height
step_word word.True s = state s.waiting 1
step_word word.False s = state s.waiting 1
step_word word.Goal s = state (claiming ∷ s.waiting) s.height
step_word word.Fair s = state (claiming ∷ s.waiting) s.height
step_word _ s = state (bare s.waiting) s.height

-- behind a sign that is no operator behind an operand
abbrev pub step_sign : Sign → State → State
step_sign sign.OpenBrace s = state (opened ∷ past_else s.waiting) s.height
step_sign sign.CloseBrace s = state (past_bracket (bare s.waiting)) s.height
step_sign sign.OpenParenthesis s = state (opened ∷ s.waiting) s.height
step_sign sign.CloseParenthesis s = close (settled 0 s)
step_sign sign.OpenBracket s = state (opened ∷ s.waiting) s.height
step_sign sign.CloseBracket s = close (settled 0 s)
step_sign sign.Semicolon s = let r = settled 0 s in state (past_claim r.waiting) r.height
step_sign sign.Comma s = settled 0 s
step_sign sign.Ellipsis s = state (bare s.waiting) s.height
step_sign sign.Colon s = let r = settled 0 s in branch r.waiting r.height
step_sign sign.Question s = ask (settled 1 s)
step_sign sign.Tilde s = state (joined 10 1 0 ∷ s.waiting) s.height
step_sign sign.Bang s = state (joined 10 1 0 ∷ s.waiting) s.height
step_sign _ s = s

-- behind a sign
abbrev pub step_infix : Option Infix → Sign → State → State
step_infix (Some op) s r = operate (infix_strength op) s (settled (infix_strength op) r)
step_infix None s r = step_sign s r

-- what is known behind a token
abbrev pub step : TokenKind → State → State
step token.Name s = state (bare s.waiting) 1
step token.Number s = state s.waiting 1
step (token.Word w) s = step_word w s
step (token.Sign k) s = step_infix (infix_at k) k s

-- how deep the `if` of an `else if` stands
abbrev pub depth_if : List Waiting → Option ℕ
depth_if (other ∷ w) = Some (levels w + 1)
depth_if w = None

-- `[` opens no level in the declaration of a variable
abbrev pub depth_bracket : List Waiting → Option ℕ
depth_bracket [] = None
depth_bracket (x ∷ w) = Some (levels (x ∷ w) + 1)

-- how deep a sign stands that is no operator behind an operand
abbrev pub depth_sign : Sign → State → Option ℕ
depth_sign sign.OpenBrace s = Some (levels s.waiting + 1)
depth_sign sign.OpenParenthesis s = Some (levels s.waiting + 1)
depth_sign sign.OpenBracket s = depth_bracket s.waiting
depth_sign sign.Question s = Some (levels (settled 1 s).waiting + 1)
depth_sign sign.Tilde s = Some (levels s.waiting + 1)
depth_sign sign.Bang s = Some (levels s.waiting + 1)
depth_sign _ s = None

-- how deep an operator stands; `<` and `>` around a width are none
abbrev pub depth_operand : State → Option ℕ
depth_operand r = if sized r.waiting then None else Some (r.height + 1)

-- how deep a sign stands
abbrev pub depth_infix : Option Infix → Sign → State → Option ℕ
depth_infix (Some op) s r = depth_operand (settled (infix_strength op) r)
depth_infix None s r = depth_sign s r

-- how deep a token stands, if at a depth
abbrev pub depth_of : TokenKind → State → Option ℕ
depth_of (token.Word word.If) s = depth_if s.waiting
depth_of (token.Sign k) s = depth_infix (infix_at k) k s
depth_of _ s = None

-- an operator that waits, and binds at least so strongly or less
pub settle_through : (k s l g h : ℕ) (w : List Waiting) → k ≤ s →
    settle k (joined s l g ∷ w) h ≡ settle k w (max g h + 1)
settle_through k s l g h w above =
    ap (λ b. if b then state (joined s l g ∷ w) h else settle k w (max g h + 1)) (le-ltb s k above)

pub settle_stops : (k s l g h : ℕ) (w : List Waiting) → s < k →
    settle k (joined s l g ∷ w) h ≡ state (joined s l g ∷ w) h
settle_stops k s l g h w below =
    ap (λ b. if b then state (joined s l g ∷ w) h else settle k w (max g h + 1)) (lt-ltb s k below)
