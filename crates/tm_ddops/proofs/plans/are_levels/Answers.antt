use Rattle.std.proofs.Common.{◌≡◌, length, min, ap, ◌∙◌, arith}
use Rattle.std.proofs.lemmas.List.{ext_get_or}
use Rattle.std.proofs.lemmas.Slice.Zip.{zip_end}
use Rattle.std.specs.Iterator.Adapters.{zip_first, zip_second}
use Rattle.std.specs.Slice.Iter.{iter_rest}
use Rattle.tm_ddops.proofs.plans.are_levels.Goals as goal

pub returns : goal.returns
returns c _ =
    let one = c.args.one.now in
    let other = c.args.other.now in
    let same : length one ≡ length other = omega (arith, c.if-one-other.false) in
    let start = c.into_iter-level-iterator.ensures.into_iter_gives in
    let all : length c.loop-level.yielded ≡ min (length one) (length other) =
    zip_end one other c.loop-level.yielded c.into_iter-level-iterator.result c.loop-level.level-iterator
    c.next.new.self c.next.result
    (ap (λ z. iter_rest (zip_first z)) start ∙ ap iter_rest c.zip-level-items.ensures.first ∙ c.iter.ensures.rest)
    (ap (λ z. iter_rest (zip_second z)) start ∙ c.zip-level-items.ensures.second.0)
    c.loop-level.yielded_by c.in-None.is c.next.ensures.steps in
    ext_get_or 0 one other same (λ k below. c.loop-level.invariant k (omega (arith, all, same, below)))
