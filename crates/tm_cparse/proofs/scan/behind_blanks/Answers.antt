use Rattle.tm_cparse.proofs.Scans.{blanks_cut}
use Rattle.tm_cparse.proofs.scan.behind_blanks.Goals as goal

pub returns : goal.returns
returns c =
    blanks_cut c.args.text.now c.split_at.result.0.now c.split_at.result.1.now c.blanks_len.result c.args.line
    c.line_after.result c.blanks_len.ensures.value c.split_at.ensures.front c.split_at.ensures.back
    c.line_after.ensures
