use Rattle.std.proofs.Common.{Some, map, sym, ap, ◌∙◌}
use Rattle.tm_cert.proofs.Keys.{among-borrowed, first_other, first_other-among, first_other-found, other_key-members_view}
use Rattle.tm_cert.proofs.part.other_key.Goals as goal

pub loop-key-init : goal.loop-key-init
loop-key-init c =
    let keys = map (λ key. key.now) c.args.keys.now in
    other_key-members_view keys c.args.object.now.entries
    ∙ ap (first_other keys) (sym (c.into_iter-key-iterator.ensures.into_iter_gives ∙ c.keys-key-items.ensures.rest))

pub loop-key-preserved : goal.loop-key-preserved
loop-key-preserved c =
    let key = c.in-Some.key.now in
    let keys = map (λ key. key.now) c.args.keys.now in
    c.loop-key.invariant
    ∙ first_other-among keys c.loop-key.key-iterator c.next.new.self key c.in-Some.ensures.steps
    (among-borrowed c.args.keys.now _ _ _ c.as_str.ensures.value c.is_among.ensures ∙ c.if-not-is_among.false)

pub returns-then-not-is_among : goal.returns-then-not-is_among
returns-then-not-is_among c =
    let key = c.in-Some.key.now in
    let keys = map (λ key. key.now) c.args.keys.now in
    ap Some c.as_str-then-not-is_among.ensures.value
    ∙ sym (c.loop-key.invariant
    ∙ first_other-found keys c.loop-key.key-iterator c.next.new.self key c.in-Some.ensures.steps
    (among-borrowed c.args.keys.now _ _ _ c.as_str.ensures.value c.is_among.ensures ∙ c.if-not-is_among.true))

pub returns : goal.returns
returns c =
    let keys = map (λ key. key.now) c.args.keys.now in
    sym (c.loop-key.invariant ∙ ap (first_other keys) c.in-None.ensures.steps.0)
