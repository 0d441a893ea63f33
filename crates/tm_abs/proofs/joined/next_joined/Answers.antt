use Rattle.std.proofs.Common.{take, sym, subst, arith}
use Rattle.std.proofs.lemmas.List.{take_all}
use Rattle.std.proofs.lemmas.List.Elements.{All-more, All-same}
use Rattle.tm_abs.specs.declared.atoms.Atom.{Atom}
use Rattle.tm_abs.specs.Inner.Atoms.{ReadsNone}
use Rattle.tm_abs.proofs.joined.next_joined.Goals as goal
use Rattle.tm_abs.proofs.joined.next_joined.Goals.{then-most-rank, else-most-rank}

pub loop-at-preserved : goal.loop-at-preserved
loop-at-preserved c =
    let marks = c.args.gone.now.marks.items in
    let atom = c.index-waiting-at.result in
    elim c.if-most-rank.branch [
      | then-most-rank w ↦ record {
        none = λ zero. absurd (omega (arith, zero, w.most-is, w.if-most-rank.true));
        below = λ some. omega (arith, w.next-is);
      }
      | else-most-rank w ↦ record {
        none = λ zero.
            All-more (λ (a : Atom). ReadsNone marks a.reads.items) c.args.waiting.now c.loop-at.at atom
            c.loop-at-test.true (c.loop-at.invariant.none (omega (arith, zero, w.most-is)))
            (subst (λ (a : Atom). ReadsNone marks a.reads.items) c.index-waiting-at.is
            (subst (ReadsNone marks) c.deref.ensures.value
            (c.rank-rank.ensures (omega (arith, zero, w.most-is, w.if-most-rank.false)))));
        below = λ some.
            let before = c.loop-at.invariant.below (omega (arith, some, w.most-is)) in
            omega (arith, before, w.next-is);
      }
    ]

pub returns-then-most-eq0 : goal.returns-then-most-eq0
returns-then-most-eq0 c =
    All-same (λ (a : Atom). ReadsNone c.args.gone.now.marks.items a.reads.items) c.args.waiting.now
    (take c.loop-at.at c.args.waiting.now) (sym (take_all c.loop-at.at c.args.waiting.now c.loop-at-test.false))
    (c.loop-at.invariant.none c.if-most-eq0.true)

pub returns : goal.returns
returns c =
    let below = c.loop-at.invariant.below (omega (arith, c.if-most-eq0.false)) in
    omega (arith, below, c.loop-at.auto.at-end)
