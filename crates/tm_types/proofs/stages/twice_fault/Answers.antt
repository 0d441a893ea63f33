use Rattle.std.proofs.Common.{◌≡◌, [], ◌∷◌}
use Rattle.std.specs.Option.{option_map}
use Rattle.std.proofs.lemmas.Result.{IfOk-weaker}
use Rattle.tm_syntax.specs.declared.fault.FaultKind.TheVariants as kind
use Rattle.tm_syntax.specs.Tree.{SpecTree}
use Rattle.tm_syntax.specs.Tree.View.{spec_tree}
use Rattle.tm_syntax.specs.Faults.{fault}
use Rattle.tm_syntax.specs.Faults.Names.{names_twice}
use Rattle.tm_types.specs.Answer.{IsFirstOf}
use Rattle.tm_names.specs.ScopeNames.{mark_of}
use Rattle.tm_types.proofs.FirstOfKinds.{of_names}
use Rattle.tm_types.proofs.stages.twice_fault.Goals as goal

pub returns : goal.returns
returns c =
    let spec : SpecTree = spec_tree c.args.spec.now in
    IfOk-weaker c.named.result (λ found. found ≡ option_map (λ m. fault kind.Twice (mark_of m)) c.first_twice.result)
    (IsFirstOf (kind.Twice ∷ []) spec)
    (of_names kind.Twice spec (names_twice spec) (λ e. e) (λ m e. e) c.first_twice.result
    (c.first_twice.ensures spec c.requires))
    c.named.ensures
