use Rattle.std.proofs.Common.{◌≡◌, ◌<◌, get_or, length, ltb-true, rules, refl, sym, ◌∙◌, arith}
use Rattle.std.proofs.lemmas.Option.{slice_get_read}
use Rattle.tm_syntax.specs.declared.design.Var.{Var}
use Rattle.tm_syntax.specs.Tree.View.{spec_tree}
use Rattle.tm_syntax.specs.Design.Sizes.{type_size}
use Rattle.tm_states.proofs.Tests.{not_below}
use Rattle.tm_states.proofs.Zipped.{zip_stops, zip_whole}
use Rattle.tm_states.proofs.validity.values_fit.Goals as goal

pub returns-then-not-is_value : goal.returns-then-not-is_value
returns-then-not-is_value c =
    let n = c.in-Some.value.now in
    let here : n ≡ get_or c.args.values.now c.loop-index.index n = search rules in
    let there = slice_get_read c.args.values.now (length c.args.values.now) c.loop-index.index n refl
    (ltb-true c.loop-index.index (length c.args.values.now) (sym c.in-Some.ensures.lookup.0)) here in
    zip_stops (λ (v : Var) n. n < type_size (spec_tree c.args.scopes.now) v.ty) c.args.vars.now c.args.values.now
    c.loop-index.index c.index-vars-index.result n c.loop-index-test.true c.index-vars-index.is there
    (not_below _ _ (sym c.is_value.ensures ∙ c.if-not-is_value.true)) c.loop-index.invariant.left

pub returns : goal.returns
returns c =
    zip_whole (λ (v : Var) n. n < type_size (spec_tree c.args.scopes.now) v.ty) c.args.vars.now c.args.values.now
    c.loop-index.index (omega (arith, c.loop-index-test.false)) c.loop-index.invariant.whole
