use Rattle.tm_cert.proofs.Texts.{judge_text-complete, judge_text-sound}
use Rattle.tm_cert.proofs.read.judged_exactly.Goals as goal

pub returns : goal.returns
returns c shape text cert = (judge_text-sound shape text cert, judge_text-complete shape text cert)
