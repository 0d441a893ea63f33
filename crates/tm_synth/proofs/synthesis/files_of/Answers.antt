use Rattle.std.proofs.Common.{subst}
use Rattle.tm_refine.specs.Decided as decided
use Rattle.tm_refine.specs.declared.trace.Decision.{Decision}
use Rattle.tm_solve_exact.specs.Exact.{exact_ids}
use Rattle.tm_syntax.specs.Design.View.{design_tree}
use Rattle.tm_synth.proofs.synthesis.files_of.Goals as goal

pub driver_files-files-requires-clause-exact : goal.driver_files-files-requires-clause-exact
driver_files-files-requires-clause-exact c = c.requires.decided.1.exact

pub driver_files-files-requires-clause-sized : goal.driver_files-files-requires-clause-sized
driver_files-files-requires-clause-sized c = c.requires.decided.1.sized

pub driver_files-files-requires-clause-known : goal.driver_files-files-requires-clause-known
driver_files-files-requires-clause-known c =
    subst (λ (r : Decision). decided.KnowsDecision (exact_ids c.args.decided.game) r) c.in-Driver.is
    c.requires.decided.1.known

pub driver_files-files-requires-clause-meets : goal.driver_files-files-requires-clause-meets
driver_files-files-requires-clause-meets c =
    (subst (λ (r : Decision). decided.IsDecided (design_tree c.args.design.now) c.requires.decided.0
    (exact_ids c.args.decided.game) r) c.in-Driver.is c.requires.decided.1.decided).1

pub driver_files-files-requires-clause-traced : goal.driver_files-files-requires-clause-traced
driver_files-files-requires-clause-traced c =
    let is = subst (λ (r : Decision). decided.IsDecided (design_tree c.args.design.now) c.requires.decided.0
    (exact_ids c.args.decided.game) r) c.in-Driver.is c.requires.decided.1.decided in
    record { honest = is.0; unions = is.2 }

pub environment_files-files-requires-clause-exact : goal.environment_files-files-requires-clause-exact
environment_files-files-requires-clause-exact c = c.requires.decided.1.exact

pub environment_files-files-requires-clause-known : goal.environment_files-files-requires-clause-known
environment_files-files-requires-clause-known c =
    subst (λ (r : Decision). decided.KnowsDecision (exact_ids c.args.decided.game) r) c.in-Environment.is
    c.requires.decided.1.known

pub environment_files-files-requires-clause-meets : goal.environment_files-files-requires-clause-meets
environment_files-files-requires-clause-meets c =
    (subst (λ (r : Decision). decided.IsDecided (design_tree c.args.design.now) c.requires.decided.0
    (exact_ids c.args.decided.game) r) c.in-Environment.is c.requires.decided.1.decided).1

pub environment_files-files-requires-clause-traced : goal.environment_files-files-requires-clause-traced
environment_files-files-requires-clause-traced c =
    let is = subst (λ (r : Decision). decided.IsDecided (design_tree c.args.design.now) c.requires.decided.0
    (exact_ids c.args.decided.game) r) c.in-Environment.is c.requires.decided.1.decided in
    record { honest = is.0; unions = is.2 }

pub returns-in-Spent-clause-found : goal.returns-in-Spent-clause-found
returns-in-Spent-clause-found c = λ budget found.
    let is = subst (λ (r : Decision). decided.IsDecided (design_tree c.args.design.now) budget
    (exact_ids c.args.decided.game) r) c.in-Spent.is found.decided in
    record { honest = is.0; spent = is.1 }

pub returns-in-Driver-clause-found : goal.returns-in-Driver-clause-found
returns-in-Driver-clause-found c = λ budget decided. c.driver_files-files.ensures.found budget

pub returns-in-Environment-clause-found : goal.returns-in-Environment-clause-found
returns-in-Environment-clause-found c = λ budget decided. c.environment_files-files.ensures.found budget

pub returns-in-Driver-clause-within : goal.returns-in-Driver-clause-within
returns-in-Driver-clause-within c = λ budget is.
    c.driver_files-files.ensures.within budget
    (subst (λ (r : Decision). decided.KeepsTo budget r) c.in-Driver.is is.within)

pub returns-in-Environment-clause-within : goal.returns-in-Environment-clause-within
returns-in-Environment-clause-within c = λ budget is.
    c.environment_files-files.ensures.within budget
    (subst (λ (r : Decision). decided.KeepsTo budget r) c.in-Environment.is is.within)

pub returns-in-Spent-clause-within : goal.returns-in-Spent-clause-within
returns-in-Spent-clause-within c = λ budget is.
    subst (λ (r : Decision). decided.KeepsTo budget r) c.in-Spent.is is.within
