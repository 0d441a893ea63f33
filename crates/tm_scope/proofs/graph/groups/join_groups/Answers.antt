use Rattle.std.proofs.Common.{◌≡◌, ◌+◌, ◌<◌, suc, true, Some, get_or, length, set, slice_get, take, ap, ◌∙◌, subst, arith}
use Rattle.tm_scope.specs.Inner.Walks.{IsBefore}
use Rattle.tm_scope.proofs.Entries.{cut-set, read-take}
use Rattle.tm_scope.proofs.graph.groups.join_groups.Goals as goal

pub returns : goal.returns
returns c =
    let n = c.group_at-last.result in
    let xs = c.args.groups.now.items in
    let r = c.index_mut.result.now in
    let slice : c.as_slice.result.now ≡ xs = c.as_slice.ensures.value in
    let within : n < length xs = subst (λ ys. n < length ys) slice c.group_at-last.ensures.within in
    let cut = c.truncate.ensures.items in
    let next : n + 1 ≡ suc n = omega arith in
    let is : slice_get xs n ≡ Some r =
    read-take (n + 1) xs n r (omega arith) within (c.index_mut.ensures.value ∙ ap (λ ys. get_or ys n r) cut) in
    record {
      place = n;
      group = r;
      is = is;
      holds = c.group_at-last.ensures.holds r (ap (λ ys. slice_get ys n) slice ∙ is);
      before = subst (λ ys. IsBefore ys n c.args.at) slice c.group_at-last.ensures.before;
      shape =
          ap (λ ys. set ys n (record { start = r.start; pending = r.pending; loops = true }))
          (cut ∙ ap (λ k. take k xs) next)
          ∙ cut-set xs n (record { start = r.start; pending = r.pending; loops = true }) within;
    }
