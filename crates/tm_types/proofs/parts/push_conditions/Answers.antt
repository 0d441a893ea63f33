use Rattle.std.proofs.Common.{◌+◌, List, ◌∷◌, ◌++◌, append-nil, drop, map, sym, ap, ◌∙◌, arith}
use Rattle.std.proofs.lemmas.List.{at_drop_all, at_drop_more}
use Rattle.tm_syntax.specs.declared.tree.Named.{Named}
use Rattle.tm_syntax.specs.Tree.View.{expr_tree, named_tree}
use Rattle.tm_syntax.specs.Scopes.Parts.{Asked, condition}
use Rattle.tm_names.specs.Asked.{all_asked, asked_of}
use Rattle.tm_names.proofs.AskedArgs.{pushed_one}
use Rattle.tm_names.proofs.StmtRows.{grown_more}
use Rattle.tm_types.specs.Inner.TextParts.{conditions_of}
use Rattle.tm_types.proofs.parts.push_conditions.Goals as goal

abbrev asked_conditions : List Named → List Asked
asked_conditions ns = conditions_of (map named_tree ns)

pub loop-condition-preserved : goal.loop-condition-preserved
loop-condition-preserved c =
    let ns = c.args.conditions.now in
    let i = c.loop-condition.condition-index in
    grown_more _ (all_asked c.loop-condition.asked.items) (all_asked c.push.new.self.items) _
    (asked_conditions (drop i ns)) (asked_conditions (drop (i + 1) ns))
    (pushed_one asked_of c.loop-condition.asked.items c.push.new.self.items _ c.in_ok-push.ensures.items)
    (at_drop_more asked_conditions ns i c.condition-item.result (omega arith)
    ∙ ap (λ (n : Named). condition (expr_tree n.expr) ∷ asked_conditions (drop (i + 1) ns)) (sym c.condition-item.is))
    c.loop-condition.invariant

pub returns : goal.returns
returns c =
    let so_far = all_asked c.loop-condition.asked.items in
    sym (append-nil so_far)
    ∙ ap (λ es. so_far ++ es)
    (sym (at_drop_all asked_conditions c.args.conditions.now c.loop-condition.condition-index (omega arith)))
    ∙ c.loop-condition.invariant
