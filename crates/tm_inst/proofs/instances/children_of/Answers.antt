use Rattle.std.proofs.Common.{◌+◌, ◌^◌, ℕ, ◌++◌, map, drop, refl, ap, arith}
use Rattle.tm_syntax.specs.Tree.View.{instance_tree, spec_tree}
use Rattle.tm_inst.specs.Inner.Growth.{offsets}
use Rattle.tm_inst.proofs.Numbering.{left_at, next_within, numbered_all, numbered_more}
use Rattle.tm_inst.proofs.instances.children_of.Goals as goal

pub loop-one-init : goal.loop-one-init
loop-one-init c = record {
  numbers_are = ap (λ ns. ns ++ offsets (spec_tree c.args.scopes.now) c.args.sizes.now c.args.first
      (map instance_tree c.args.held.now)) c.new-numbers.ensures.items;
  room = refl;
}

pub overflow_cast-at : goal.overflow_cast-at
overflow_cast-at c =
    let below = next_within (spec_tree c.args.scopes.now) c.args.sizes.now c.args.first
    (map instance_tree c.args.held.now) c.loop-one.at (2 ^ 32)
    (map instance_tree (drop c.loop-one.one-index c.args.held.now)) c.loop-one.numbers.items c.requires.room
    c.loop-one.invariant in
    omega (arith, below)

pub loop-one-preserved : goal.loop-one-preserved
loop-one-preserved c =
    let held = c.args.held.now in
    let i : ℕ = c.loop-one.one-index in
    let x = c.one-item.result in
    numbered_more (spec_tree c.args.scopes.now) c.args.sizes.now c.args.first (map instance_tree held) c.loop-one.at
    (c.loop-one.at + c.held_size-at.result) (instance_tree x) (map instance_tree (drop (i + 1) held))
    (map instance_tree (drop i held)) c.loop-one.numbers.items c.push.new.self.items
    (left_at held i x c.loop-one-test.true c.one-item.is) c.in_ok-push.ensures.items
    (ap (λ n. c.loop-one.at + n) c.held_size-at.ensures) c.loop-one.invariant

pub returns : goal.returns
returns c =
    numbered_all (spec_tree c.args.scopes.now) c.args.sizes.now c.args.first (map instance_tree c.args.held.now)
    c.args.held.now c.loop-one.one-index c.loop-one.at c.loop-one.numbers.items (omega arith) c.loop-one.invariant
