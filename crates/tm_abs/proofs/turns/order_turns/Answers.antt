use Rattle.std.proofs.Common.{◌≡◌, ℕ, ◌+◌, Bool, List, [], length, sym, ◌∙◌, subst, arith}
use Rattle.tm_abs.proofs.Ordering.{turn_more, turns_done}
use Rattle.tm_abs.specs.declared.turns.Turn.{Turn}
use Rattle.tm_abs.specs.Inner.Marks.{AreMarked}
use Rattle.tm_abs.specs.Inner.Turns.{AreTurnsBelow}
use Rattle.tm_abs.proofs.turns.order_turns.Goals as goal

pub loop-atom-preserved : goal.loop-atom-preserved
loop-atom-preserved c =
    let before = c.loop-atom.invariant in
    let gone = c.args.gone.now.marks.items in
    let atoms = c.args.atoms.now in
    let index = c.loop-atom.atom-index in
    let atom = c.atom-item.result in
    let turn = c.in_ok-turn.turn in
    let after = c.turn_of.new.later.items in
    record {
      count = c.in_ok-turn.ensures.count ∙ before.count;
      turns =
          subst (λ (xs : List Turn). AreTurnsBelow gone atoms (index + 1) after xs) (sym c.in_ok-push.ensures.items)
          (turn_more gone atoms index c.loop-atom.later.items c.loop-atom.turns.items before.turns atom
          c.loop-atom-test.true (sym c.atom-item.is) turn c.in_ok-turn.ensures.level c.in_ok-turn.ensures.holds after
          (subst (λ (xs : List Bool). AreMarked xs atom.reads.items c.loop-atom.later.items [] after turn.ends.items)
          c.deref.ensures.value c.in_ok-turn.ensures.marked));
    }

pub returns : goal.returns
returns c =
    let gone = c.args.gone.now.marks.items in
    let levels = c.args.gone.now.levels.items in
    let atoms = c.args.atoms.now in
    let later = c.loop-atom.later.items in
    let turns = c.loop-atom.turns.items in
    let after = c.mark_levels.new.marks.items in
    let unread = c.mark_levels.new.listed.items in
    let whole : c.loop-atom.atom-index ≡ length atoms =
    omega (arith, c.loop-atom-test.false, c.loop-atom.auto.atom-index-end) in
    turns_done gone atoms later turns levels after unread c.requires
    (subst (λ (n : ℕ). AreTurnsBelow gone atoms n later turns) whole c.loop-atom.invariant.turns)
    (subst (λ (xs : List Bool). AreMarked xs levels later [] after unread) c.deref-2.ensures.value
    (subst (λ (ks : List ℕ). AreMarked c.deref-2.result.now ks later [] after unread) c.deref-3.ensures.value
    (subst (λ (ks : List ℕ). AreMarked c.deref-2.result.now c.deref-3.result.now later ks after unread)
    c.new-unread.ensures.items c.in_ok-mark_levels.ensures.marked)))
