use Rattle.std.proofs.Common.{◌∙◌, ap, sym, map, true≢false, arith}
use Rattle.std.specs.String.{string_bytes}
use Rattle.std.proofs.lemmas.Result.{IfOk-weaker}
use denote.Enum.Bare.{sameb}
use Rattle.clap.specs.Words.{app_of}
use Rattle.clap.specs.contracts.error.kind.ErrorKind.{the_type}
use Rattle.clap.specs.declared.error.kind.ErrorKind.TheVariants.{OutOfMemory}
use Rattle.tm_commands.proofs.Splits.{split_refused, split_whole, starts}
use Rattle.tm_commands.proofs.words.splitting.split.Goals as goal

pub returns-in-Ok : goal.returns-in-Ok
returns-in-Ok c =
    IfOk-weaker c.read_arguments.result _ _
    (λ r is. is
    ∙ split_whole (app_of c.in_ok-splitter.field-0) (map string_bytes c.args.words.now) c.in_ok-splitter.ensures
    (starts c.args.words.now (omega arith)) c.in-Ok.matches c.in-Ok.ensures.kinds c.in-Ok.ensures.matches)
    c.read_arguments.ensures

pub returns : goal.returns
returns c =
    split_refused (app_of c.in_ok-splitter.field-0) (map string_bytes c.args.words.now) c.in_ok-splitter.ensures
    (starts c.args.words.now (omega arith)) c.in-Err.error c.in-Err.ensures.kinds
    (λ is. true≢false
    (sym (ap (λ k. sameb the_type k OutOfMemory) (c.kind.ensures ∙ is)) ∙ sym c.eq.ensures ∙ c.if-eq.false))
