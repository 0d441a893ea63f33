-- Tokens that are seen as the same are the same.
use Rattle.std.proofs.Common.{◌≡◌, ◌≢◌, List, ◌∷◌, Some, refl, sym, ap, ◌∙◌}
use Rattle.tm_cparse.specs.Inner.Reading.{first_of}
use Rattle.tm_cir.proofs.Text.Expressions.{same_inside}
use Rattle.tm_cparse.specs.declared.token.Word.{Word}
use Rattle.tm_cparse.specs.declared.token.Word.TheVariants as words
use Rattle.tm_cparse.specs.declared.token.Sign.{Sign}
use Rattle.tm_cparse.specs.declared.token.Sign.TheVariants as signs
use Rattle.tm_cparse.specs.declared.token.Token.{Token}
use Rattle.tm_cparse.specs.declared.token.Token.TheVariants as tokens
use Rattle.tm_cir.specs.Text.Token as c
use Rattle.tm_cparse.specs.View.{word_tree, sign_tree, token_tree}

abbrev pub word_back : c.Word → Word
word_back c.void = words.Void
word_back c.driver_turn = words.DriverTurn
word_back c.if_word = words.If
word_back c.else_word = words.Else
word_back c.goto = words.Goto
word_back c.return_word = words.Return
word_back c.termite_leave = words.TermiteLeave
word_back c.termite_goal = words.TermiteGoal
word_back c.termite_last = words.TermiteLast

word_same : (w : Word) → word_back (word_tree w) ≡ w
word_same words.Void = refl
word_same words.DriverTurn = refl
word_same words.If = refl
word_same words.Else = refl
word_same words.Goto = refl
word_same words.Return = refl
word_same words.TermiteLeave = refl
word_same words.TermiteGoal = refl
word_same words.TermiteLast = refl

abbrev pub sign_back : c.Sign → Sign
sign_back c.open_parenthesis = signs.OpenParenthesis
sign_back c.close_parenthesis = signs.CloseParenthesis
sign_back c.open_brace = signs.OpenBrace
sign_back c.close_brace = signs.CloseBrace
sign_back c.colon = signs.Colon
sign_back c.semicolon = signs.Semicolon
sign_back c.comma = signs.Comma
sign_back c.question = signs.Question
sign_back c.tilde = signs.Tilde
sign_back c.bang = signs.Bang
sign_back (c.arithmetic op) = signs.Arithmetic op
sign_back (c.shifting op) = signs.Shifting op
sign_back (c.comparing op) = signs.Comparing op
sign_back (c.joining op) = signs.Joining op

sign_same : (s : Sign) → sign_back (sign_tree s) ≡ s
sign_same signs.OpenParenthesis = refl
sign_same signs.CloseParenthesis = refl
sign_same signs.OpenBrace = refl
sign_same signs.CloseBrace = refl
sign_same signs.Colon = refl
sign_same signs.Semicolon = refl
sign_same signs.Comma = refl
sign_same signs.Question = refl
sign_same signs.Tilde = refl
sign_same signs.Bang = refl
sign_same (signs.Arithmetic op) = refl
sign_same (signs.Shifting op) = refl
sign_same (signs.Comparing op) = refl
sign_same (signs.Joining op) = refl

abbrev pub token_back : c.Token → Token
token_back (c.word w) = tokens.Word (word_back w)
token_back (c.label k) = tokens.Label k
token_back (c.variable k) = tokens.Variable k
token_back (c.location k) = tokens.Location k
token_back (c.task k) = tokens.Task k
token_back (c.constant n) = tokens.Constant n
token_back (c.sign s) = tokens.Sign (sign_back s)

token_same : (t : Token) → token_back (token_tree t) ≡ t
token_same (tokens.Word w) = ap (λ (v : Word). tokens.Word v) (word_same w)
token_same (tokens.Label k) = refl
token_same (tokens.Variable k) = refl
token_same (tokens.Location k) = refl
token_same (tokens.Task k) = refl
token_same (tokens.Constant n) = refl
token_same (tokens.Sign s) = ap (λ (r : Sign). tokens.Sign r) (sign_same s)

pub token_injective : (t u : Token) → token_tree t ≡ token_tree u → t ≡ u
token_injective t u e = sym (token_same t) ∙ ap token_back e ∙ token_same u

-- another token stands in front
pub not_first : (t u : Token) (tokens rest : List c.Token) → t ≢ u → tokens ≡ token_tree t ∷ rest →
    first_of tokens ≢ Some (token_tree u)
not_first t u tokens rest differ is first =
    differ (token_injective t u (same_inside (sym (ap first_of is) ∙ first)))
