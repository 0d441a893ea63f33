use Rattle.std.proofs.Common.{◌++◌, List, sym, ◌∙◌, subst, arith}
use Rattle.std.specs.Prelude.{Contains}
use Rattle.std.proofs.lemmas.List.{length-append}
use Rattle.tm_dd.specs.declared.node.NodeId.{NodeId}
use Rattle.tm_dd.specs.Table.{Knows}
use Rattle.tm_game.specs.Inner.Listed.{game_ids, kept_ids}
use Rattle.tm_game.proofs.Copying.{all_ids, game_stands, gathered_known, kept_stands, roots_stand, same_back}
use Rattle.tm_game.proofs.copy.copied.Goals as goal

pub copy_roots-requires : goal.copy_roots-requires
copy_roots-requires c = record {
  known = subst (λ (ids : List NodeId). (id : NodeId) → Contains ids id → Knows c.args.dd.now.table id)
      (sym (c.deref_mut.ensures.value ∙ c.in_ok-ids.ensures))
      (gathered_known c.args.dd.now.table c.args.roots.now c.args.steps.now c.args.kept.now c.requires.roots
      c.requires.game c.requires.kept);
}

pub put_ids-own-requires : goal.put_ids-own-requires
put_ids-own-requires c =
    let same = same_back c.args.dd.now.table c.copy_roots.new.self.table
    (all_ids c.args.roots.now (game_ids c.args.steps.now) (kept_ids c.args.kept.now)) c.deref_mut.result.now
    c.in_ok-ids.ids c.copy_roots.new.roots c.deref.result.now c.deref_mut.ensures.value c.in_ok-ids.ensures
    c.deref.ensures.value c.in_ok-copy_roots.ensures.same in
    omega (
      arith,
      same.as_many,
      length-append c.args.roots.now (game_ids c.args.steps.now ++ kept_ids c.args.kept.now),
    )

pub put_game-behind-requires : goal.put_game-behind-requires
put_game-behind-requires c =
    let same = same_back c.args.dd.now.table c.copy_roots.new.self.table
    (all_ids c.args.roots.now (game_ids c.args.steps.now) (kept_ids c.args.kept.now)) c.deref_mut.result.now
    c.in_ok-ids.ids c.copy_roots.new.roots c.deref-2.result.now c.deref_mut.ensures.value c.in_ok-ids.ensures
    c.deref-2.ensures.value c.in_ok-copy_roots.ensures.same in
    omega (
      arith,
      same.as_many,
      c.put_ids-own.ensures.at,
      length-append c.args.roots.now (game_ids c.args.steps.now ++ kept_ids c.args.kept.now),
      length-append (game_ids c.args.steps.now) (kept_ids c.args.kept.now),
    )

pub put_kept-requires : goal.put_kept-requires
put_kept-requires c =
    let same = same_back c.args.dd.now.table c.copy_roots.new.self.table
    (all_ids c.args.roots.now (game_ids c.args.steps.now) (kept_ids c.args.kept.now)) c.deref_mut.result.now
    c.in_ok-ids.ids c.copy_roots.new.roots c.deref-3.result.now c.deref_mut.ensures.value c.in_ok-ids.ensures
    c.deref-3.ensures.value c.in_ok-copy_roots.ensures.same in
    omega (
      arith,
      same.as_many,
      c.put_ids-own.ensures.at,
      c.put_game-behind.ensures.at,
      length-append c.args.roots.now (game_ids c.args.steps.now ++ kept_ids c.args.kept.now),
      length-append (game_ids c.args.steps.now) (kept_ids c.args.kept.now),
    )

pub returns-clause-roots : goal.returns-clause-roots
returns-clause-roots c =
    c.put_ids-own.ensures.same c.args.dd.now.table c.copy_roots.new.self.table
    (all_ids c.args.roots.now (game_ids c.args.steps.now) (kept_ids c.args.kept.now))
    (same_back c.args.dd.now.table c.copy_roots.new.self.table
    (all_ids c.args.roots.now (game_ids c.args.steps.now) (kept_ids c.args.kept.now)) c.deref_mut.result.now
    c.in_ok-ids.ids c.copy_roots.new.roots c.deref.result.now c.deref_mut.ensures.value c.in_ok-ids.ensures
    c.deref.ensures.value c.in_ok-copy_roots.ensures.same)
    (roots_stand c.args.roots.now (game_ids c.args.steps.now) (kept_ids c.args.kept.now))

pub returns-clause-game : goal.returns-clause-game
returns-clause-game c =
    c.put_game-behind.ensures.same c.args.dd.now.table c.copy_roots.new.self.table
    (all_ids c.args.roots.now (game_ids c.args.steps.now) (kept_ids c.args.kept.now))
    (same_back c.args.dd.now.table c.copy_roots.new.self.table
    (all_ids c.args.roots.now (game_ids c.args.steps.now) (kept_ids c.args.kept.now)) c.deref_mut.result.now
    c.in_ok-ids.ids c.copy_roots.new.roots c.deref-2.result.now c.deref_mut.ensures.value c.in_ok-ids.ensures
    c.deref-2.ensures.value c.in_ok-copy_roots.ensures.same)
    (game_stands c.args.roots.now (game_ids c.args.steps.now) (kept_ids c.args.kept.now) c.put_ids-own.result
    c.put_ids-own.ensures.at)

pub returns-clause-kept : goal.returns-clause-kept
returns-clause-kept c =
    c.put_kept.ensures c.args.dd.now.table c.copy_roots.new.self.table
    (all_ids c.args.roots.now (game_ids c.args.steps.now) (kept_ids c.args.kept.now))
    (same_back c.args.dd.now.table c.copy_roots.new.self.table
    (all_ids c.args.roots.now (game_ids c.args.steps.now) (kept_ids c.args.kept.now)) c.deref_mut.result.now
    c.in_ok-ids.ids c.copy_roots.new.roots c.deref-3.result.now c.deref_mut.ensures.value c.in_ok-ids.ensures
    c.deref-3.ensures.value c.in_ok-copy_roots.ensures.same)
    (kept_stands c.args.roots.now (game_ids c.args.steps.now) (kept_ids c.args.kept.now) c.put_ids-own.result
    c.put_game-behind.result c.put_ids-own.ensures.at c.put_game-behind.ensures.at)
