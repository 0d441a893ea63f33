use Rattle.std.proofs.Common.{rules}
use Rattle.tm_syntax.specs.Tokens.{AreTokens}
use Rattle.tm_syntax.specs.Tree.View.{spec_tree}
use Rattle.tm_inst.proofs.Reading.{byte_told, grammar_told, tree_told}
use Rattle.tm_inst.proofs.specification.read_specification.Goals as goal

pub returns-in_err-tokens-clause-faulty : goal.returns-in_err-tokens-clause-faulty
returns-in_err-tokens-clause-faulty c =
    let told = byte_told c.args.text.now c.in_err-tokens.field-0.0 c.requires c.in_err-tokens.ensures.faulty in
    search rules

pub returns-in_err-spec-clause-faulty : goal.returns-in_err-spec-clause-faulty
returns-in_err-spec-clause-faulty c =
    let are : AreTokens c.args.text.now c.deref.result.now = search rules in
    let told = grammar_told c.args.text.now c.deref.result.now c.requires are c.in_err-spec.field-0.0
    c.in_err-spec.ensures.faulty in
    search rules

pub returns-in_err-design-clause-faulty : goal.returns-in_err-design-clause-faulty
returns-in_err-design-clause-faulty c =
    let are : AreTokens c.args.text.now c.deref.result.now = search rules in
    let told = tree_told c.args.text.now c.deref.result.now c.requires are (spec_tree c.in_ok-spec.spec)
    c.in_err-design.field-0.0 c.in_ok-spec.ensures.read c.in_err-design.ensures.faulty in
    search rules
