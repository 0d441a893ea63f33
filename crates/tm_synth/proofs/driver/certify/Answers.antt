use Rattle.std.proofs.Common.{List, ap, sym, subst}
use Rattle.tm_cir.specs.Answer.{Answers}
use Rattle.tm_cir.specs.Fit.{FitBlocks}
use Rattle.tm_cir.specs.Tree.{BlockTree}
use Rattle.tm_cir.specs.View.{trees_of}
use Rattle.tm_sem.specs.Certificates.{DriverSets, MeetsDriver}
use Rattle.tm_syntax.specs.Design.View.{design_tree}
use Rattle.tm_verdict.specs.Sets.{driver_sets}
use Rattle.tm_synth.proofs.Calling.{can_call}
use Rattle.tm_synth.proofs.driver.certify.Goals as goal

pub driver-requires-clause-of : goal.driver-requires-clause-of
driver-requires-clause-of c = c.requires.exact.ordered.of

pub driver-requires-clause-known : goal.driver-requires-clause-known
driver-requires-clause-known c = c.requires.known

pub driver-requires-clause-sized : goal.driver-requires-clause-sized
driver-requires-clause-sized c = c.requires.sized

pub returns-in-Ok-driver-clause-sets : goal.returns-in-Ok-driver-clause-sets
returns-in-Ok-driver-clause-sets c = c.in-Ok.ensures.sets (design_tree c.args.design.now) c.requires.exact.ordered.of

pub returns-in-Ok-driver-clause-can : goal.returns-in-Ok-driver-clause-can
returns-in-Ok-driver-clause-can c =
    let d = design_tree c.args.design.now in
    record {
      sound = c.requires.sound;
      of_text = c.requires.of_text;
      blocks = subst (FitBlocks d) (ap trees_of (sym c.blocks_of.ensures)) c.in-Ok-driver.ensures.fits;
      cert = c.in-Ok.ensures.fits d c.requires.exact.ordered.of c.requires.meets.goals c.requires.meets.fairs;
    }

pub returns-in-Ok-driver-clause-meets : goal.returns-in-Ok-driver-clause-meets
returns-in-Ok-driver-clause-meets c =
    let d = design_tree c.args.design.now in
    subst (λ (bs : List BlockTree). MeetsDriver d (Answers bs) (driver_sets d c.in-Ok.cert))
    (ap trees_of (sym c.blocks_of.ensures))
    (subst (λ (sets : DriverSets). MeetsDriver d (Answers (trees_of c.in-Ok-driver.driven.blocks)) sets)
    (sym (c.in-Ok.ensures.sets d c.requires.exact.ordered.of))
    (c.in-Ok-driver.ensures.meets c.requires.regular
    (can_call d c.requires.sound c.requires.of_text c.requires.regular) c.requires.meets))
