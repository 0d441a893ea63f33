use Rattle.std.proofs.Common.{sym, ap, ◌∙◌}
use Rattle.std.proofs.lemmas.Bool.{not-false}
use Rattle.std.proofs.lemmas.Bool.Decides.{Decides-eqb}
use Rattle.std.proofs.lemmas.Slice.Eq.{slice_eq-Decides}
use Rattle.std.specs.Cmp.{booleans_Decides}
use Rattle.tm_refine.specs.Pooled.{tests_of}
use Rattle.tm_refine.proofs.memory.Memory.is_of.Goals as goal

pub returns-in-Some : goal.returns-in-Some
returns-in-Some c same g = (
  c.in-Some.cells,
  c.in-Some.is,
  ap (tests_of g)
      (sym c.as_slice.ensures.value
      ∙ (slice_eq-Decides Decides-eqb c.as_slice.result.now c.args.tracked.now _ c.eq.ensures).0 same),
  (booleans_Decides c.args.self.now.upper c.args.upper).0 (not-false _ c.if-self-upper.false),
)
