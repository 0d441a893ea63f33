use Rattle.std.proofs.Common.{◌≡◌, length, rules}
use Rattle.tm_cert.specs.Goals.{rank_at}
use Rattle.tm_cert.specs.Path.{path_text}
use Rattle.tm_cert.proofs.Judging.{next_path, part-found, part-refused}
use Rattle.tm_cert.proofs.goals.read_each_rank.Goals as goal

pub loop-value-preserved : goal.loop-value-preserved
loop-value-preserved c =
    let count : c.len.result ≡ length c.loop-value.ranks.items = search rules in
    part-found (rank_at c.args.fairs c.args.ids) (path_text c.args.path.now) _ _ _ _ c.args.parts.now
    c.loop-value.value-index
    c.value-item.result _ c.loop-value.invariant c.loop-value-test.true c.value-item.is
    (next_path c.args.path c.len.result _ count) c.in-Ok.ensures.ok
    c.in_ok-push.ensures.items

pub returns-in-Err-clause-refused : goal.returns-in-Err-clause-refused
returns-in-Err-clause-refused c =
    let count : c.len.result ≡ length c.loop-value.ranks.items = search rules in
    part-refused (rank_at c.args.fairs c.args.ids) (path_text c.args.path.now) _ _ _
    c.args.parts.now c.loop-value.value-index
    c.value-item.result _ c.loop-value.invariant c.loop-value-test.true c.value-item.is
    (next_path c.args.path c.len.result _ count) c.in-Err.ensures.refused
