use Rattle.std.proofs.Common.{◌≡◌, ◌-◌, ◌++◌, [], None, length, replicate, refl, sym, ap, ◌∙◌, arith}
use Rattle.std.proofs.lemmas.List.{length-map}
use Rattle.tm_scope.specs.Graph.{graph_of}
use Rattle.tm_scope.proofs.Entries.{take-none}
use Rattle.tm_scope.proofs.WalkClosings.{walk_begun}
use Rattle.tm_scope.proofs.WalkFields.{walking_same}
use Rattle.tm_scope.proofs.graph.walk.Walk.new.Goals as goal

pub returns-clause-walking : goal.returns-clause-walking
returns-clause-walking c =
    let graph = graph_of c.args.edges.now in
    let n = length c.args.edges.now in
    let all = c.in_ok-pending.pending.items in
    let whole : n - 0 ≡ n = omega arith in
    let opened : c.resize.new.self.items ≡ replicate n None =
    c.in_ok-resize.ensures.items
    ∙ (λ i. take-none c.new-opened.result.items n (ap length c.new-opened.ensures.items) i
    ++ replicate (n - c.new-opened.ensures.len i) None)
    ∙ ap (λ k. replicate k None) whole in
    walking_same graph c.resize.new.self.items (replicate n None) c.new.result.items [] all all c.new-2.result.items []
    c.new-3.result.items [] opened c.new.ensures.items refl c.new-2.ensures.items c.new-3.ensures.items
    (walk_begun graph n all (sym (length-map c.args.edges.now (λ r. r.items))) c.in_ok-pending.ensures.each
    c.in_ok-pending.ensures.length)
