use Rattle.std.proofs.Common.{position, ap, ◌∙◌, arith}
use Rattle.std.proofs.lemmas.List.{take_all}
use Rattle.std.specs.List.{list_any}
use Rattle.tm_syntax.specs.Scopes.Names.{is_spelled}
use Rattle.tm_scope.specs.Directory.{index_of}
use Rattle.tm_scope.proofs.Positions.{position-noted}
use Rattle.tm_scope.proofs.scopes.constants.enums_of_constants.Goals as goal

pub loop-index-init : goal.loop-index-init
loop-index-init c = λ name. c.new-directory.ensures name

pub loop-index-preserved : goal.loop-index-preserved
loop-index-preserved c = λ name.
    position-noted (λ e. list_any (is_spelled name) e.constants.items) c.args.enums.now c.loop-index.index
    c.index-enums-index.result (index_of c.loop-index.directory name) (index_of c.note_all.new.self name)
    (list_any (is_spelled name) c.as_slice.result.now) (omega arith) c.index-enums-index.is
    (ap (list_any (is_spelled name)) c.as_slice.ensures.value) (c.in_ok-note_all.ensures name)
    (c.loop-index.invariant name)

pub returns : goal.returns
returns c = λ name.
    c.loop-index.invariant name
    ∙ ap (position (λ e. list_any (is_spelled name) e.constants.items))
    (take_all c.loop-index.index c.args.enums.now (omega arith))
