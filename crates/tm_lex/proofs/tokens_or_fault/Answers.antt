use Rattle.tm_syntax.proofs.Tokens as laws
use Rattle.tm_lex.proofs.Total.{tokens_or_fault}
use Rattle.tm_lex.proofs.tokens_or_fault.Goals as goal

pub returns-clause-one : goal.returns-clause-one
returns-clause-one c = tokens_or_fault

pub returns-clause-not_both : goal.returns-clause-not_both
returns-clause-not_both c = laws.tokens_or_fault
