use Rattle.std.proofs.Common.{nat_eq, position, ap, ◌∙◌, arith}
use Rattle.std.proofs.lemmas.List.{take_all}
use Rattle.std.specs.Cmp.Lexicographic.{pointwise}
use Rattle.tm_scope.specs.Directory.{index_of}
use Rattle.tm_scope.proofs.Positions.{position-noted}
use Rattle.tm_scope.proofs.names.directory.Directory.of.Goals as goal

pub loop-index-preserved : goal.loop-index-preserved
loop-index-preserved g c = λ name.
    position-noted (λ x. pointwise nat_eq name (g.T.HasName.name x)) c.args.items.now c.loop-index.index
    c.index-items-index.result (index_of c.loop-index.directory name) (index_of c.note.new.self name)
    (pointwise nat_eq name c.name.result.now) (omega arith) c.index-items-index.is
    (ap (pointwise nat_eq name) c.name.ensures) (c.in_ok-note.ensures name) (c.loop-index.invariant name)

pub returns : goal.returns
returns g c = λ name.
    c.loop-index.invariant name
    ∙ ap (position (λ x. pointwise nat_eq name (g.T.HasName.name x)))
    (take_all c.loop-index.index c.args.items.now (omega arith))
