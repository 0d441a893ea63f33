use Rattle.std.proofs.Common.{◌≡◌, ◌<◌, ℕ, List, Some, length, map, slice_get, sym, ap, ◌∙◌, arith}
use Rattle.std.proofs.lemmas.List.{take_all}
use Rattle.std.proofs.lemmas.Option.{slice_get-get_or}
use Rattle.tm_syntax.specs.declared.tree.Spec.{Spec}
use Rattle.tm_syntax.specs.declared.tree.Template.{Template}
use Rattle.tm_syntax.specs.Tree.View.{spec_tree, template_tree}
use Rattle.tm_limits.specs.Amount.{capped}
use Rattle.tm_limits.specs.Shares.{own_share}
use Rattle.tm_limits.proofs.Sums.{pushed_more}
use Rattle.tm_limits.proofs.counts.own_shares.Goals as goal

pub own_share-requires : goal.own_share-requires
own_share-requires c =
    let s = c.args.scopes.now in
    let templates = c.as_slice-templates.result.now in
    let i : ℕ = c.loop-number.number in
    let within : i < length templates = omega arith in
    let whole : templates ≡ s.templates.items =
    c.as_slice-templates.ensures.value ∙ ap (λ (x : Spec). x.templates.items) c.spec.ensures in
    record {
      counted = c.requires;
      numbered = ap (λ (xs : List Template). slice_get xs i) (sym whole)
          ∙ slice_get-get_or templates i c.index-templates-number.result within
          ∙ ap Some (sym c.index-templates-number.is);
    }

pub loop-number-preserved : goal.loop-number-preserved
loop-number-preserved c =
    let spec = spec_tree c.args.scopes.now in
    let templates = c.as_slice-templates.result.now in
    let i : ℕ = c.loop-number.number in
    let within : i < length templates = omega arith in
    pushed_more (λ t. capped (own_share spec c.args.quantity t)) template_tree templates i
    c.index-templates-number.result c.loop-number.own.items c.push.new.self.items c.own_share.result within
    c.index-templates-number.is c.in_ok-push.ensures.items c.own_share.ensures c.loop-number.invariant

pub returns : goal.returns
returns c =
    c.loop-number.invariant
    ∙ ap (λ ts. map (λ t. capped (own_share (spec_tree c.args.scopes.now) c.args.quantity t)) (map template_tree ts))
    (take_all c.loop-number.number c.as_slice-templates.result.now (omega arith)
    ∙ c.as_slice-templates.ensures.value ∙ ap (λ (x : Spec). x.templates.items) c.spec.ensures)
