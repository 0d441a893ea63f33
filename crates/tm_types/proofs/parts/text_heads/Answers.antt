use Rattle.std.proofs.Common.{◌≡◌, List, ap, get_or, length, map, sym, ◌∙◌, arith}
use Rattle.std.proofs.lemmas.Option.{get_or_from_slice_get}
use Rattle.tm_syntax.specs.declared.tree.Template.{Template}
use Rattle.tm_types.specs.Inner.TextParts.{head_at}
use Rattle.tm_types.proofs.TextHeads.{head_pushed, heads_pushed}
use Rattle.tm_types.proofs.parts.text_heads.Goals as goal

pub loop-number-init : goal.loop-number-init
loop-number-init c = ap (map head_at) c.new-heads.ensures.items

pub new-requires : goal.new-requires
new-requires c = omega (arith, c.loop-number-test.true, ap length c.requires)

pub loop-number-preserved : goal.loop-number-preserved
loop-number-preserved c =
    let s = c.args.names.now in
    let i = c.loop-number.number in
    let t = c.index-templates-number.result in
    let at = c.index-templates-number.is in
    let same : c.new.result.template ≡ t =
    sym (get_or_from_slice_get s.templates.items i c.new.result.template t c.new.ensures.template)
    ∙ sym (ap (λ (ts : List Template). get_or ts i t) c.requires)
    ∙ sym at in
    head_pushed s c.args.templates.now c.loop-number.heads.items c.push.new.self.items _ i t
    (omega (arith, c.loop-number-test.true)) at c.in_ok-push.ensures.items (λ j. record {
      place = record { spec = c.new.ensures.spec j; template = same j; body = c.new.ensures.body j };
      template = t;
    }) c.loop-number.invariant

pub returns : goal.returns
returns c =
    heads_pushed c.args.names.now c.args.templates.now c.loop-number.heads.items c.loop-number.number
    (omega (arith, c.loop-number-test.false)) c.requires c.loop-number.invariant
