use Rattle.std.proofs.Common.{None, Some}
use Rattle.std.proofs.lemmas.Bool.Decides.{Decides-eqb}
use Rattle.std.proofs.lemmas.Slice.Eq.{strip_prefix_is}
use Rattle.tm_cparse.proofs.Fronts.{include_text, no_prefix, no_end, has_include}
use Rattle.tm_cparse.proofs.include.behind_include.Goals as goal

pub returns-in_default-clause-missing : goal.returns-in_default-clause-missing
returns-in_default-clause-missing c =
    no_prefix c.args.text.now c.behind_blanks-line.result.0.now c.behind_blanks-line.result.1
    c.behind_blanks-line.ensures.blanks c.behind_blanks-line.ensures.no_blank
    (strip_prefix_is Decides-eqb c.behind_blanks-line.result.0.now include_text None c.in_default.ensures.cases)

pub returns-in-Some-behind_line-clause-found : goal.returns-in-Some-behind_line-clause-found
returns-in-Some-behind_line-clause-found c =
    has_include c.args.text.now c.behind_blanks-line.result.0.now c.in-Some.rest.now c.in-Some-behind_line.body.now
    c.behind_blanks-line.result.1 c.behind_blanks-line.ensures.blanks
    (strip_prefix_is Decides-eqb c.behind_blanks-line.result.0.now include_text (Some c.in-Some.rest)
    c.in-Some.ensures.cases)
    c.in-Some-behind_line.ensures

pub returns-in-None-clause-missing : goal.returns-in-None-clause-missing
returns-in-None-clause-missing c =
    no_end c.args.text.now c.behind_blanks-line.result.0.now c.in-Some.rest.now
    c.behind_blanks-line.result.1 c.behind_blanks-line.ensures.blanks c.behind_blanks-line.ensures.no_blank
    (strip_prefix_is Decides-eqb c.behind_blanks-line.result.0.now include_text (Some c.in-Some.rest)
    c.in-Some.ensures.cases)
    c.in-None.ensures
