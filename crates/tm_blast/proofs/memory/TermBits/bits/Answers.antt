use Rattle.std.proofs.Common.{sym, ◌∙◌, subst}
use Rattle.tm_ddops.specs.Manager.{Diagrams}
use Rattle.tm_blast.specs.Memory.{Made, AreMade}
use Rattle.tm_blast.specs.Numbers.{level_lists}
use Rattle.tm_blast.proofs.memory.TermBits.bits.Goals as goal
use Rattle.tm_blast.proofs.memory.TermBits.bits.Goals.{then-not-has+in_ok-grow+in_ok-marks+in_ok-fill, else-not-has}

pub returns-in_err-grow-clause-made : goal.returns-in_err-grow-clause-made
returns-in_err-grow-clause-made c id ids is = c.requires.made id ids (sym (c.grow.ensures.same id) ∙ is)

pub returns-in_err-marks-clause-made : goal.returns-in_err-marks-clause-made
returns-in_err-marks-clause-made c id ids is = c.requires.made id ids (sym (c.grow.ensures.same id) ∙ is)

pub fill-requires-clause-made : goal.fill-requires-clause-made
fill-requires-clause-made c id ids is = c.requires.made id ids (sym (c.grow.ensures.same id) ∙ is)

pub returns-clause-made : goal.returns-clause-made
returns-clause-made c =
    let whole : Made → Diagrams → Type 0 =
    λ made m. AreMade c.args.terms.now (level_lists c.args.levels.now) m.table made in
    elim c.if-not-has.branch [
      | then-not-has+in_ok-grow+in_ok-marks+in_ok-fill w ↦
          subst (λ made. whole made c.if-not-has.dd) (sym w.self-is)
          (subst (whole w.fill.new.made) (sym w.dd-is) w.fill.ensures.made)
      | else-not-has w ↦
          subst (λ made. whole made c.if-not-has.dd) (sym w.self-is)
          (subst (whole c.args.self.now) (sym w.dd-is) c.requires.made)
    ]
