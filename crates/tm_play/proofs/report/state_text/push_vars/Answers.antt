use Rattle.std.proofs.lemmas.Slice.Zip.{either_empty_from_Zip}
use Rattle.tm_play.specs.Report.{var_text}
use Rattle.tm_play.proofs.Appending.{zip_ended}
use Rattle.tm_play.proofs.report.state_text.push_vars.Goals as goal

pub returns : goal.returns
returns c = zip_ended var_text _ _ _ _
    (either_empty_from_Zip c.loop-var.var-iterator c.next.new.self c.next.result c.in-None.is c.next.ensures.steps)
    c.loop-var.invariant
