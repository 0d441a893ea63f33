use Rattle.std.proofs.Common.{◌≡◌, ℕ, ◌+◌, List, length, sym, ap, ◌∙◌, subst, arith}
use Rattle.std.proofs.lemmas.List.{length_push, take_all}
use Rattle.tm_abs.proofs.Taking.{all_taken, none_taken, popped, taken, turn_known, turn_there}
use Rattle.tm_abs.specs.Inner.Eliminated.{IsEliminatedFrom}
use Rattle.tm_abs.specs.Inner.Quantified.{IsPutTo}
use Rattle.tm_dd.specs.Table.{means}
use Rattle.tm_ddops.specs.Quantified.{IsExists}
use Rattle.tm_game.proofs.Growing.{grows_then, known_kept, means_kept}
use Rattle.tm_game_bits.specs.Functions.{Function}
use Rattle.tm_abs.proofs.upper.quantified.Goals as goal

pub loop-turn-init : goal.loop-turn-init
loop-turn-init c =
    let s = c.args.game.now.diagrams.table in
    let u = c.exists.new.self.diagrams.table in
    let turns = c.args.turns.turns.items in
    let unread = c.args.turns.unread.items in
    let id = c.in_ok-left.left in
    record {
      grows = c.exists.ensures.grows;
      known = c.in_ok-left.ensures.answer.known;
      front = sym (take_all (length turns) turns (omega arith));
      so_far = λ gone atoms are is.
          subst (λ (f : Function). IsEliminatedFrom s atoms unread turns (length turns) f (means u id))
          (means_kept c.args.game.now c.exists.new.self c.exists.ensures.grows c.args.set c.requires.known)
          (none_taken s gone atoms unread turns are is u c.args.set id
          (subst (λ (ks : List ℕ). IsExists u ks c.args.set id) c.deref.ensures.value c.in_ok-left.ensures.answer));
    }

pub take_turn-requires : goal.take_turn-requires
take_turn-requires c =
    let it = c.requires.turns in
    let before = c.loop-turn.invariant in
    let s = c.args.game.now.diagrams.table in
    let turns = c.args.turns.turns.items in
    let unread = c.args.turns.unread.items in
    let rest = c.pop.new.self.items in
    let turn = c.in-Some.turn in
    let at = popped turns c.loop-turn.waiting.items rest turn before.front c.in-Some.ensures.items in
    let there = turn_there s it.0 it.1 unread turns it.2 it.3 (length rest) turn at.1 at.2 in
    let levels = before.grows.diagrams.same_levels in
    record {
      level = omega (arith, there, levels);
      set = before.known;
      holds = known_kept c.args.game.now c.loop-turn.game before.grows turn.holds
          (turn_known s it.0 it.1 unread turns it.2 it.3 (length rest) turn at.1 at.2);
    }

pub loop-turn-preserved : goal.loop-turn-preserved
loop-turn-preserved c =
    let before = c.loop-turn.invariant in
    let s = c.args.game.now.diagrams.table in
    let t = c.loop-turn.game.diagrams.table in
    let u = c.take_turn.new.game.diagrams.table in
    let turns = c.args.turns.turns.items in
    let unread = c.args.turns.unread.items in
    let rest = c.pop.new.self.items in
    let turn = c.in-Some.turn in
    let left = c.loop-turn.left in
    let id = c.in_ok-left-2.left in
    let at = popped turns c.loop-turn.waiting.items rest turn before.front c.in-Some.ensures.items in
    let long : length c.loop-turn.waiting.items ≡ length rest + 1 =
    ap length c.in-Some.ensures.items ∙ length_push rest turn in
    record {
      grows = grows_then c.args.game.now c.loop-turn.game c.take_turn.new.game before.grows c.take_turn.ensures.grows;
      known = c.in_ok-left-2.ensures.taken.known;
      front = at.0;
      so_far = λ gone atoms are is.
          taken s gone atoms unread turns are is (length rest) turn at.1 at.2 (means s c.args.set) (means t left)
          (subst (λ (m : ℕ). IsEliminatedFrom s atoms unread turns m (means s c.args.set) (means t left)) long
          (before.so_far gone atoms are is)) u id
          (subst (λ (f : Function). IsPutTo u turn.level f turn.ends.items (means t left) id)
          (means_kept c.args.game.now c.loop-turn.game before.grows turn.holds
          (turn_known s gone atoms unread turns are is (length rest) turn at.1 at.2)) c.in_ok-left-2.ensures.taken);
    }

pub returns-clause-quantified : goal.returns-clause-quantified
returns-clause-quantified c = λ gone atoms are is.
    let s = c.args.game.now.diagrams.table in
    let u = c.loop-turn.game.diagrams.table in
    let turns = c.args.turns.turns.items in
    let unread = c.args.turns.unread.items in
    let none : length c.loop-turn.waiting.items ≡ 0 =
    omega (arith, c.in_default.ensures.cases.0, c.loop-turn.waiting.ok.0) in
    all_taken s gone atoms unread turns are is u c.loop-turn.invariant.grows.diagrams (means s c.args.set)
    c.loop-turn.left c.loop-turn.invariant.known
    (subst (λ (n : ℕ). IsEliminatedFrom s atoms unread turns n (means s c.args.set) (means u c.loop-turn.left)) none
    (c.loop-turn.invariant.so_far gone atoms are is))
