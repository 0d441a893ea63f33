use Rattle.std.proofs.Common.{◌+◌, ◌++◌, List, [], ◌∷◌, length, take, take_all, sym, ap, ◌∙◌, subst, arith}
use Rattle.std.proofs.lemmas.List.{take_more}
use Rattle.std.proofs.lemmas.List.Elements.{All-get_or}
use Rattle.tm_cert.specs.Cert.{LevelData}
use Rattle.tm_envcheck.specs.declared.levels.LevelDiagrams.{LevelDiagrams}
use Rattle.tm_envcheck.specs.Inner.Loaded.{AreLoadedLevels, before_at}
use Rattle.tm_envcheck.specs.Inner.Over.{AreLevelsOver}
use Rattle.tm_envcheck.proofs.LoadedChains.{level_fits}
use Rattle.tm_envcheck.proofs.FirstLevels.{last_pushed, loaded_push, no_levels, none_over, over_push}
use Rattle.tm_envcheck.proofs.Growing.{overs_kept, sets_kept}
use Rattle.tm_game.proofs.Growing.{grows_none, grows_then}
use Rattle.tm_game.proofs.MadeSets.{false_set}
use Rattle.tm_verdict.specs.Fitting.{FitsLevel}
use Rattle.tm_envcheck.proofs.levels.load_levels.Goals as goal

pub loop-level-init : goal.loop-level-init
loop-level-init c = record {
  grows = grows_none c.args.game.now;
  over = subst (AreLevelsOver c.args.game.now) (sym c.new-told.ensures.items) (none_over c.args.game.now);
  loaded = subst (AreLoadedLevels c.args.ids.now []) (sym c.new-told.ensures.items) (no_levels c.args.ids.now);
  set = false_set c.args.game.now;
  last = sym (ap (λ (ls : List LevelDiagrams). before_at ls (length ls)) c.new-told.ensures.items);
}

pub load_level-requires-clause-ids : goal.load_level-requires-clause-ids
load_level-requires-clause-ids c =
    sets_kept c.args.game.now c.loop-level.game c.loop-level.invariant.grows c.args.ids.now c.requires.ids

pub load_level-requires-clause-level : goal.load_level-requires-clause-level
load_level-requires-clause-level c =
    level_fits c.args.game.now c.loop-level.game c.loop-level.invariant.grows (length c.args.ids.now)
    c.level-item.result
    (subst
    (FitsLevel (length c.args.game.now.goals) (length c.args.game.now.fairs) (length c.args.ids.now))
    (sym c.level-item.is)
    (All-get_or
    (FitsLevel (length c.args.game.now.goals) (length c.args.game.now.fairs) (length c.args.ids.now))
    c.args.levels.now c.loop-level.level-index c.level-item.result c.loop-level-test.true c.requires.levels))

pub returns-in_err-next-clause-grows : goal.returns-in_err-next-clause-grows
returns-in_err-next-clause-grows c = grows_then _ _ _ c.loop-level.invariant.grows c.load_level.ensures.grows

pub returns-in_err-push-clause-grows : goal.returns-in_err-push-clause-grows
returns-in_err-push-clause-grows c = grows_then _ _ _ c.loop-level.invariant.grows c.load_level.ensures.grows

pub loop-level-preserved : goal.loop-level-preserved
loop-level-preserved c =
    let told = c.loop-level.told.items in
    let next = c.in_ok-next.next in
    let levels = c.args.levels.now in
    record {
      grows = grows_then _ _ _ c.loop-level.invariant.grows c.load_level.ensures.grows;
      over =
          subst (AreLevelsOver c.load_level.new.game) (sym c.in_ok-push.ensures.items)
          (over_push told next c.load_level.new.game
          (overs_kept c.loop-level.game c.load_level.new.game c.load_level.ensures.grows told
          c.loop-level.invariant.over) c.in_ok-next.ensures.over);
      loaded =
          subst (AreLoadedLevels c.args.ids.now (take (c.loop-level.level-index + 1) levels))
          (sym c.in_ok-push.ensures.items)
          (subst (λ (ls : List LevelData). AreLoadedLevels c.args.ids.now ls (told ++ next ∷ []))
          (sym (take_more levels c.loop-level.level-index c.level-item.result c.loop-level-test.true
          ∙ ap (λ (l : LevelData). take c.loop-level.level-index levels ++ l ∷ []) (sym c.level-item.is)))
          (loaded_push told next c.args.ids.now (take c.loop-level.level-index levels) c.level-item.result
          c.loop-level.invariant.loaded c.in_ok-next.ensures.loaded
          (c.in_ok-next.ensures.before ∙ c.loop-level.invariant.last)));
      set = c.in_ok-next.ensures.over.set;
      last = sym
          (ap (λ (ls : List LevelDiagrams). before_at ls (length ls)) c.in_ok-push.ensures.items
          ∙ last_pushed told next);
    }

pub returns-clause-loaded : goal.returns-clause-loaded
returns-clause-loaded c =
    subst (λ (ls : List LevelData). AreLoadedLevels c.args.ids.now ls c.loop-level.told.items)
    (take_all c.loop-level.level-index c.args.levels.now (omega arith)) c.loop-level.invariant.loaded
