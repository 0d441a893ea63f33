use Rattle.std.proofs.Common.{◌<◌, length, sym, ◌∙◌, arith}
use Rattle.std.proofs.lemmas.Option.{slice_get-get_or}
use Rattle.tm_plain.proofs.Arguing.{fit_more, wrong_value}
use Rattle.tm_plain.proofs.machine.permits.arguments_fit.Goals as goal

pub returns-then-not-takes : goal.returns-then-not-takes
returns-then-not-takes c = λ d params has are sized.
    let s = c.args.reader.now in
    let cells = c.args.cells.now in
    let args = c.args.args.now in
    let i = c.loop-index.index in
    let one : i < length cells = omega arith in
    let two : i < length args = omega arith in
    wrong_value d s.tables s.at cells params args are sized i _ _ (slice_get-get_or cells i _ one)
    (slice_get-get_or args i _ two) (λ fit. sym c.if-not-takes.true ∙ c.takes.ensures d has fit)

pub loop-index-preserved : goal.loop-index-preserved
loop-index-preserved c = λ d params has are sized.
    let s = c.args.reader.now in
    let cells = c.args.cells.now in
    let args = c.args.args.now in
    let i = c.loop-index.index in
    let one : i < length cells = omega arith in
    let two : i < length args = omega arith in
    fit_more d s.tables s.at cells params args are sized i _ _ (slice_get-get_or cells i _ one)
    (slice_get-get_or args i _ two) (λ fit. sym c.if-not-takes.false ∙ c.takes.ensures d has fit)
    (c.loop-index.invariant d params has are sized)
