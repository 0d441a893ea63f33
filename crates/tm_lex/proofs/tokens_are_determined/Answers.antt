use Rattle.tm_syntax.proofs.Tokens.{tokens_agree}
use Rattle.tm_lex.proofs.tokens_are_determined.Goals as goal

pub returns : goal.returns
returns c = tokens_agree
