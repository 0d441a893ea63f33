use Rattle.std.proofs.Common.{subst, sym, List, ℕ, arith}
use Rattle.tm_dd.proofs.CallerLaws.{Extends-refl, Extends-trans}
use Rattle.tm_flat.specs.Flat.{flat_terms}
use Rattle.tm_game_steps.specs.Inner.Pushed.{AreProcessesBelow}
use Rattle.tm_game_steps.specs.Setting.{setting_of}
use Rattle.tm_game_steps.proofs.Pushing.{processes_all, processes_none}
use Rattle.tm_game_steps.proofs.encoding.Encoding.push_processes.Goals as goal

pub loop-index-init : goal.loop-index-init
loop-index-init c = record {
  extends = Extends-refl c.args.dd.now.table;
  ready = c.requires.ready;
  below = subst (λ (ms : List ℕ). AreProcessesBelow (setting_of c.args.self.now) (flat_terms c.args.flat.now)
      c.args.magic c.args.places.now 0 c.args.dd.now.table c.args.list.now.items c.args.list.now.items ms)
      (sym c.new-movers.ensures.items)
      (processes_none (setting_of c.args.self.now) (flat_terms c.args.flat.now) c.args.magic c.args.places.now
      c.args.dd.now.table c.args.list.now.items);
}

pub returns-in_err-push_place-clause-earlier : goal.returns-in_err-push_place-clause-earlier
returns-in_err-push_place-clause-earlier c =
    Extends-trans _ _ _ c.loop-index.invariant.extends c.push_place.ensures.earlier

pub loop-index-preserved : goal.loop-index-preserved
loop-index-preserved c = record {
  extends = Extends-trans _ _ _ c.loop-index.invariant.extends c.push_place.ensures.earlier;
  ready = c.push_place.ensures.ready;
  below = c.in_ok-push_place.ensures.steps c.args.list.now.items c.loop-index.invariant.below;
}

pub returns-clause-steps : goal.returns-clause-steps
returns-clause-steps c =
    processes_all (setting_of c.args.self.now) (flat_terms c.args.flat.now) c.args.magic c.args.places.now
    c.loop-index.index c.loop-index.dd.table c.args.list.now.items c.loop-index.list.items c.loop-index.movers.items
    (omega arith) c.requires.places c.loop-index.invariant.below
