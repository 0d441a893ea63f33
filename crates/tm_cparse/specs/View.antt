-- What the code's tokens and written blocks are as plain data.
use Rattle.std.specs.Prelude.{List, map}
use Rattle.tm_cparse.specs.declared.token.Word.{Word}
use Rattle.tm_cparse.specs.declared.token.Word.TheVariants as words
use Rattle.tm_cparse.specs.declared.token.Sign.{Sign}
use Rattle.tm_cparse.specs.declared.token.Sign.TheVariants as signs
use Rattle.tm_cparse.specs.declared.token.Token.{Token}
use Rattle.tm_cparse.specs.declared.token.Token.TheVariants as tokens
use Rattle.tm_cparse.specs.declared.spot.Spot.{Spot}
use Rattle.tm_cparse.specs.declared.statement.Statement.{Statement}
use Rattle.tm_cparse.specs.declared.statement.Statement.TheVariants as statements
use Rattle.tm_cparse.specs.declared.statement.Labelled.{Labelled}
use Rattle.tm_cir.specs.Tree.{BlockTree, test, call, leave, idle}
use Rattle.tm_cir.specs.View.{num_tree, truth_tree}
use Rattle.tm_cir.specs.Text.Token as c
use Rattle.tm_cparse.specs.Written.{WrittenBlock}

-- a word
abbrev pub word_tree : Word → c.Word
word_tree words.Void = c.void
word_tree words.DriverTurn = c.driver_turn
word_tree words.If = c.if_word
word_tree words.Else = c.else_word
word_tree words.Goto = c.goto
word_tree words.Return = c.return_word
word_tree words.TermiteLeave = c.termite_leave
word_tree words.TermiteGoal = c.termite_goal
word_tree words.TermiteLast = c.termite_last

-- a sign
abbrev pub sign_tree : Sign → c.Sign
sign_tree signs.OpenParenthesis = c.open_parenthesis
sign_tree signs.CloseParenthesis = c.close_parenthesis
sign_tree signs.OpenBrace = c.open_brace
sign_tree signs.CloseBrace = c.close_brace
sign_tree signs.Colon = c.colon
sign_tree signs.Semicolon = c.semicolon
sign_tree signs.Comma = c.comma
sign_tree signs.Question = c.question
sign_tree signs.Tilde = c.tilde
sign_tree signs.Bang = c.bang
sign_tree (signs.Arithmetic op) = c.arithmetic op
sign_tree (signs.Shifting op) = c.shifting op
sign_tree (signs.Comparing op) = c.comparing op
sign_tree (signs.Joining op) = c.joining op

-- a token
abbrev pub token_tree : Token → c.Token
token_tree (tokens.Word w) = c.word (word_tree w)
token_tree (tokens.Label k) = c.label k
token_tree (tokens.Variable k) = c.variable k
token_tree (tokens.Location k) = c.location k
token_tree (tokens.Task k) = c.task k
token_tree (tokens.Constant n) = c.constant n
token_tree (tokens.Sign s) = c.sign (sign_tree s)

-- the tokens of a text
abbrev pub tokens_of : List Spot → List c.Token
tokens_of spots = map (λ (s : Spot). token_tree s.token) spots

-- what a block does
abbrev pub statement_tree : Statement → BlockTree
statement_tree (statements.Test t first second) = test (truth_tree t) first second
statement_tree (statements.Call k args) = call k (map num_tree args.items)
statement_tree (statements.Leave p) = leave p
statement_tree statements.Idle = idle

-- a block with its label
abbrev pub written_tree : Labelled → WrittenBlock
written_tree b = record { label = b.label; block = statement_tree b.statement }
