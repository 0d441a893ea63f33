use Rattle.std.proofs.Common.{Vec, Bool, ◌+◌, ◌-◌, get_or, sym, ap, ◌∙◌, subst}
use Rattle.std.specs.declared.alloc.Global.{Global}
use Rattle.tm_term.specs.Parts.{AreBelow}
use Rattle.tm_term.proofs.Operands.{AreBelow-parts_of}
use Rattle.tm_blast.specs.Marks.{AreWanted}
use Rattle.tm_blast.proofs.Marked.{wanted_more, wanted_skip}
use Rattle.tm_blast.proofs.marks.wanted.Goals as goal
use Rattle.tm_blast.proofs.marks.wanted.Goals.{then-index+in_ok-want_parts, else-index}

pub loop-distance-preserved : goal.loop-distance-preserved
loop-distance-preserved c =
    let whole : Vec Bool Global → Type 0 =
    λ marks. AreWanted c.args.terms.now c.args.made.now c.args.id marks.items (c.loop-distance.distance + 1) in
    let marks = c.loop-distance.marks.items in
    let distance = c.loop-distance.distance in
    elim c.if-index.branch [
      | then-index+in_ok-want_parts w ↦
          subst whole (sym w.marks-is)
          (wanted_more c.args.terms.now c.args.made.now c.args.id marks distance c.loop-distance.invariant
          w.want_parts.new.marks.items w.want_parts.ensures.nearer w.want_parts.ensures.kept
          w.in_ok-want_parts.ensures.within w.term-term.result w.term-term.ensures.term w.parts.result w.parts.ensures
          w.in_ok-want_parts.ensures.settled
          (subst (AreBelow (c.args.id.0 - distance)) (sym w.parts.ensures)
          (AreBelow-parts_of c.args.terms.now (c.args.id.0 - distance) w.term-term.result w.term-term.ensures.parts)))
      | else-index w ↦
          subst whole (sym w.marks-is)
          (wanted_skip c.args.terms.now c.args.made.now c.args.id marks distance c.loop-distance.invariant
          (ap (get_or marks distance) (sym w.if-index.false) ∙ sym c.index.ensures ∙ w.if-index.false))
    ]
