use Rattle.std.proofs.Common.{◌≡◌, map, length, ap, sym, ◌∙◌, rules}
use Rattle.std.proofs.lemmas.List.{length-map, map-append}
use Rattle.tm_cert.specs.Goals.{goal_at}
use Rattle.tm_cert.specs.Path.{path_text}
use Rattle.tm_cert.proofs.Judging.{next_path, part-found, part-refused}
use Rattle.tm_cert.proofs.goals.read_each_goal.Goals as goal

pub loop-value-preserved : goal.loop-value-preserved
loop-value-preserved c =
    let count : c.len.result ≡ length c.loop-value.found.items = search rules in
    part-found (goal_at c.args.fairs c.args.ids) (path_text c.args.path.now) _ _ _ _ c.args.parts.now
    c.loop-value.value-index
    c.value-item.result _ c.loop-value.invariant c.loop-value-test.true c.value-item.is
    (next_path c.args.path c.len.result _ (count ∙ sym (length-map c.loop-value.found.items (λ part. part.items))))
    c.in-Ok.ensures.ok
    (ap (map (λ part. part.items)) c.in_ok-push.ensures.items
    ∙ map-append (λ part. part.items) c.loop-value.found.items _)

pub returns-in-Err-clause-refused : goal.returns-in-Err-clause-refused
returns-in-Err-clause-refused c =
    let count : c.len.result ≡ length c.loop-value.found.items = search rules in
    part-refused (goal_at c.args.fairs c.args.ids) (path_text c.args.path.now) _ _ _
    c.args.parts.now c.loop-value.value-index
    c.value-item.result _ c.loop-value.invariant c.loop-value-test.true c.value-item.is
    (next_path c.args.path c.len.result _ (count ∙ sym (length-map c.loop-value.found.items (λ part. part.items))))
    c.in-Err.ensures.refused
