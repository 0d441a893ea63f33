use Rattle.std.proofs.Common.{◌≡◌, [], ◌∷◌}
use Rattle.std.specs.Option.{option_map}
use Rattle.std.proofs.lemmas.Result.{IfOk-weaker}
use Rattle.tm_syntax.specs.declared.fault.FaultKind.TheVariants as kind
use Rattle.tm_syntax.specs.Tree.{SpecTree}
use Rattle.tm_syntax.specs.Tree.View.{spec_tree}
use Rattle.tm_syntax.specs.Faults.{fault}
use Rattle.tm_types.specs.Answer.{IsFirstOf}
use Rattle.tm_names.specs.ScopeNames.{mark_of}
use Rattle.tm_types.proofs.FirstOfKinds.{of_found}
use Rattle.tm_types.proofs.stages.cycle_fault.Goals as goal

pub returns : goal.returns
returns c =
    let spec : SpecTree = spec_tree c.args.spec.now in
    IfOk-weaker c.named.result (λ found. found ≡ option_map (λ m. fault kind.CallCycle (mark_of m)) c.in-Ok.given)
    (IsFirstOf (kind.CallCycle ∷ []) spec)
    (of_found kind.CallCycle spec c.in-Ok.given c.in-Ok.ensures.none c.in-Ok.ensures.first)
    c.named.ensures
