use Rattle.std.proofs.Common.{subst, sym}
use Rattle.tm_refine.specs.Decided.{IsWithin}
use Rattle.tm_refine.specs.declared.trace.Trace.{Trace}
use Rattle.tm_syntax.specs.Design.View.{design_tree}
use Rattle.tm_synth.proofs.Files.{driver_traced}
use Rattle.tm_synth.proofs.driver.driver_files.Goals as goal

pub returns-in-Ok-texts-clause-found : goal.returns-in-Ok-texts-clause-found
returns-in-Ok-texts-clause-found c = λ budget.
    let d = design_tree c.args.design.now in
    c.files_of.ensures.found d
    (c.in-Ok-texts.ensures c.args.trace
    (driver_traced d c.args.trace _ _ c.in-Ok.ensures.sets c.requires.traced))

pub returns-in-Ok-texts-clause-within : goal.returns-in-Ok-texts-clause-within
returns-in-Ok-texts-clause-within c = λ budget within.
    subst (λ (t : Trace). IsWithin budget t) (sym c.files_of.ensures.trace) within
