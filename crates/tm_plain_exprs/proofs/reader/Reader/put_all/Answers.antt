use Rattle.std.proofs.Common.{◌≡◌, ◌<◌, length, sym, ap, ◌∙◌, arith}
use Rattle.std.proofs.lemmas.Option.{slice_get-get_or}
use Rattle.tm_scope.specs.Cells.{ScopedCells}
use Rattle.tm_plain_exprs.proofs.Putting.{put_more, put_whole}
use Rattle.tm_plain_exprs.proofs.reader.Reader.put_all.Goals as goal

pub loop-index-preserved : goal.loop-index-preserved
loop-index-preserved c =
    let s = c.args.self.now in
    let cells = c.args.cells.now in
    let values = c.args.values.now in
    let i = c.loop-index.index in
    let own : c.self.inside.at ≡ s.at = sym c.self.invariant.0 ∙ ap (λ (s : ScopedCells). s.at) c.self.view_is in
    let one : i < length cells = omega arith in
    let two : i < length values = omega arith in
    put_more s cells values i c.self.inside.at c.args.store.now c.loop-index.store c.put.new.self _ _ own
    (slice_get-get_or cells i _ one) (slice_get-get_or values i _ two) c.in_ok-put.ensures c.loop-index.invariant

pub returns : goal.returns
returns c =
    put_whole c.args.self.now c.args.cells.now c.args.values.now c.loop-index.index c.args.store.now
    c.loop-index.store (omega arith) c.loop-index.invariant
