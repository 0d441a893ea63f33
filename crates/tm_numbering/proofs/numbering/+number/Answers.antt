use Rattle.std.proofs.Common.{◌≡◌, ℕ, ◌+◌, ◌∷◌, ◌++◌, [], Result, Ok, Err, length, refl, ap, arith}
use Rattle.std.specs.Prelude.{IfOk, OnOk}
use Rattle.tm_dd.specs.Table.{rank_of}
use Rattle.tm_dd.proofs.Ranks.{rank_of-below}
use Rattle.tm_numbering.specs.Numbers.{AreNumbered, IsOver, Numbers}
use Rattle.tm_numbering.proofs.Growth.{numbers_node, still_absent}
use Rattle.tm_numbering.proofs.Over.{hi_over_at, lo_over_at}
use Rattle.tm_numbering.proofs.numbering.+number.Goals as goal
use Rattle.tm_numbering.proofs.numbering.+number.Goals.{After-put}

pub number-requires : goal.number-requires
number-requires t c =
    let node = c.node-node.ensures.is_node in
    let bits = c.requires.0 in
    let over = lo_over_at c.args.store.now c.node-node.ensures.reduced bits c.args.id c.requires.1
    c.in_default.ensures.0 c.node-node.result c.node-node.ensures.value in
    let depth = ap (rank_of c.args.store.now) node.level in
    let below = rank_of-below c.args.store.now c.node-node.ensures.reduced.ranks c.node-node.result.level node.below in
    (omega (arith, depth, below, node.lo_rises, c.decreases), (bits, over, c.requires.2))

pub number-requires-2 : goal.number-requires-2
number-requires-2 t c =
    let node = c.node-node.ensures.is_node in
    let bits = c.requires.0 in
    let lo = lo_over_at c.args.store.now c.node-node.ensures.reduced bits c.args.id c.requires.1
    c.in_default.ensures.0 c.node-node.result c.node-node.ensures.value in
    let hi = hi_over_at c.args.store.now c.node-node.ensures.reduced bits c.args.id c.requires.1
    c.in_default.ensures.0 c.node-node.result c.node-node.ensures.value in
    let depth = ap (rank_of c.args.store.now) node.level in
    let below = rank_of-below c.args.store.now c.node-node.ensures.reduced.ranks c.node-node.result.level
    node.below in (
      omega (arith, depth, below, node.hi_rises, c.decreases),
      (
        bits,
        hi,
        (c.in_ok-lo.ensures bits lo
            c.requires.2).numbered,
      ),
    )

pub put-requires : goal.put-requires
put-requires t c =
    let bits = c.requires.0 in
    let lo = lo_over_at c.args.store.now c.node-node.ensures.reduced bits c.args.id c.requires.1
    c.in_default.ensures.0 c.node-node.result c.node-node.ensures.value in
    let hi = hi_over_at c.args.store.now c.node-node.ensures.reduced bits c.args.id c.requires.1
    c.in_default.ensures.0 c.node-node.result c.node-node.ensures.value in
    let first = c.in_ok-lo.ensures bits lo c.requires.2 in
    let second = c.in_ok-hi.ensures bits hi first.numbered in
    still_absent c.args.store.now bits c.args.id c.requires.1 c.in_default.ensures.0 c.node-node.result
    c.node-node.ensures.is_node c.node-node.ensures.value c.args.kept.now.keys c.number.new.kept.keys
    c.number-2.new.kept.keys
    c.in_default.ensures.1 first.deeper second.deeper

-- where there is memory for the entry, the id has its number
made : (t : ℕ) (c : After-put t) {E : Type 0} (r : Result ℕ E) →
    IfOk r (λ n. n ≡ length c.number-2.new.kept.keys + 2) →
    OnOk r (c.put.new.kept.keys ≡ c.number-2.new.kept.keys ++ c.args.id ∷ []) →
    OnOk r
    (c.put.new.nodes.items
    ≡ c.number-2.new.nodes.items
    ++ record { level = c.node-node.result.level; lo = c.in_ok-lo.lo; hi = c.in_ok-hi.hi } ∷ []) →
    IfOk r
    (λ n. (bits : ℕ) → IsOver c.args.store.now bits c.args.id →
    AreNumbered c.args.store.now bits c.args.kept.now.keys c.args.nodes.now.items →
    Numbers c.args.store.now bits c.args.id c.args.kept.now.keys c.put.new.kept.keys c.put.new.nodes.items n)
made t c (Ok n) number ids items = λ bits over numbered.
    let lo = lo_over_at c.args.store.now c.node-node.ensures.reduced bits c.args.id over c.in_default.ensures.0
    c.node-node.result c.node-node.ensures.value in
    let hi = hi_over_at c.args.store.now c.node-node.ensures.reduced bits c.args.id over c.in_default.ensures.0
    c.node-node.result c.node-node.ensures.value in
    let first = c.in_ok-lo.ensures bits lo numbered in
    let second = c.in_ok-hi.ensures bits hi first.numbered in
    numbers_node c.args.store.now bits c.args.id over c.in_default.ensures.0 c.node-node.result
    c.node-node.ensures.is_node c.node-node.ensures.value c.args.kept.now.keys c.number.new.kept.keys
    c.number-2.new.kept.keys
    c.in_default.ensures.1 first.deeper second.deeper c.put.new.kept.keys c.number-2.new.nodes.items
    c.put.new.nodes.items
    (record { level = c.node-node.result.level; lo = c.in_ok-lo.lo; hi = c.in_ok-hi.hi }) n first.stay second.stay
    second.numbered refl first.number second.number ids items number
made t c (Err e) number ids items = tt

pub returns : goal.returns
returns t c = made t c c.put.result c.put.ensures.number c.put.ensures.ids c.put.ensures.nodes
