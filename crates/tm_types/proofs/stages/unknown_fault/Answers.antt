use Rattle.std.proofs.Common.{◌≡◌, [], ◌∷◌}
use Rattle.std.specs.Option.{option_map}
use Rattle.std.proofs.lemmas.Result.{IfOk-weaker}
use Rattle.tm_syntax.specs.declared.fault.FaultKind.TheVariants as kind
use Rattle.tm_syntax.specs.Tree.{SpecTree}
use Rattle.tm_syntax.specs.Tree.View.{spec_tree}
use Rattle.tm_syntax.specs.Faults.{fault}
use Rattle.tm_syntax.specs.Faults.Names.{unknown_names}
use Rattle.tm_types.specs.Answer.{IsFirstOf}
use Rattle.tm_names.specs.ScopeNames.{mark_of}
use Rattle.tm_types.proofs.FirstOfKinds.{of_names}
use Rattle.tm_types.proofs.stages.unknown_fault.Goals as goal

pub returns : goal.returns
returns c =
    let spec : SpecTree = spec_tree c.args.spec.now in
    IfOk-weaker c.named.result
    (λ found. found ≡ option_map (λ m. fault kind.UnknownName (mark_of m)) c.in-Ok.given)
    (IsFirstOf (kind.UnknownName ∷ []) spec)
    (of_names kind.UnknownName spec (unknown_names spec) (λ e. e) (λ m e. e) c.in-Ok.given c.in-Ok.ensures)
    c.named.ensures
