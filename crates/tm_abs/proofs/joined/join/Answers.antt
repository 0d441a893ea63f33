use Rattle.std.proofs.Common.{sym}
use Rattle.std.proofs.lemmas.List.Elements.{All-same}
use Rattle.tm_abs.specs.declared.atoms.Atom.{Atom}
use Rattle.tm_abs.specs.Inner.Atoms.{ReadsNone}
use Rattle.tm_abs.proofs.joined.join.Goals as goal

pub loop-at-preserved : goal.loop-at-preserved
loop-at-preserved c =
    c.in_ok-join_at.ensures.joining c.args.reads.now c.args.waiting.now.items c.loop-at.invariant

pub returns-clause-left : goal.returns-clause-left
returns-clause-left c =
    All-same (λ (a : Atom). ReadsNone c.loop-at.joined.gone.marks.items a.reads.items) c.loop-at.waiting.items
    c.deref-in-loop-at.result.now (sym c.deref-in-loop-at.ensures.value) c.in_default.ensures
