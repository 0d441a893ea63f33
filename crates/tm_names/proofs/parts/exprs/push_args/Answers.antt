use Rattle.std.proofs.Common.{◌+◌, ◌∷◌, drop, sym, ap, ◌∙◌, arith}
use Rattle.tm_syntax.specs.Tree.View.{expr_tree, expr_trees}
use Rattle.tm_syntax.specs.Scopes.Parts.{asked_args}
use Rattle.tm_names.specs.Asked.{all_asked, asked_of}
use Rattle.tm_names.proofs.AskedArgs.{asked_args-more, pushed_one}
use Rattle.tm_names.proofs.StmtRows.{grown_more}
use Rattle.tm_names.proofs.parts.exprs.push_args.Goals as goal

pub loop-index-preserved : goal.loop-index-preserved
loop-index-preserved c =
    let params = c.args.params.now in
    let args = c.args.args.now in
    let i = c.loop-index.index in
    let x = c.index-args-index.result in
    grown_more _ (all_asked c.loop-index.asked.items) (all_asked c.push.new.self.items) _
    (asked_args (drop i params) (expr_trees (drop i args)))
    (asked_args (drop (i + 1) params) (expr_trees (drop (i + 1) args)))
    (pushed_one asked_of c.loop-index.asked.items c.push.new.self.items _ c.in_ok-push.ensures.items)
    (asked_args-more params args i x (omega arith) c.index-args-index.is
    ∙ ap (λ ty. record { ty = ty; expr = expr_tree x }
    ∷ asked_args (drop (i + 1) params) (expr_trees (drop (i + 1) args))) (sym c.param_type.ensures))
    c.loop-index.invariant
