use Rattle.std.proofs.Common.{List, sym, subst}
use Rattle.std.specs.Prelude.{All}
use Rattle.tm_dd.specs.Table.{means}
use Rattle.tm_dd.proofs.CallerLaws.{Extends-trans}
use Rattle.tm_flat.specs.Flat.{flat_terms}
use Rattle.tm_game_bits.proofs.Extended.{Knows-Extends}
use Rattle.tm_game.proofs.KeptSets.{kept_is}
use Rattle.tm_game.proofs.opening.kept_ids.Goals as goal
use Rattle.tm_flat.specs.Steps.{IsTerm}
use Rattle.tm_game_steps.proofs.Ready.{ready_kept}
use Rattle.tm_game_steps.specs.Sets.{AreSets, IsAlwaysOneIn, IsOneIn}
use Rattle.tm_game_steps.specs.Setting.{setting_of}
use Rattle.tm_term.specs.declared.term.TermId.{TermId}

pub and-requires-clause-f : goal.and-requires-clause-f
and-requires-clause-f c = c.requires.made.known.valid

pub and-requires-clause-g : goal.and-requires-clause-g
and-requires-clause-g c = c.requires.made.known.turn

pub returns-in_err-turn-clause-ready : goal.returns-in_err-turn-clause-ready
returns-in_err-turn-clause-ready c = ready_kept _ _ _ _ c.and.ensures.grows.extends c.requires.ready

pub sets-requires-clause-valid : goal.sets-requires-clause-valid
sets-requires-clause-valid c = Knows-Extends _ _ c.and.ensures.grows.extends _ c.requires.made.known.valid

pub sets-requires-clause-terms : goal.sets-requires-clause-terms
sets-requires-clause-terms c =
    subst (All (IsTerm c.args.encoding.now.terms 1)) (sym c.deref.ensures.value) c.requires.terms.goals

pub always_sets-requires-clause-terms : goal.always_sets-requires-clause-terms
always_sets-requires-clause-terms c =
    subst (All (IsTerm c.args.encoding.now.terms 1)) (sym c.deref-2.ensures.value) c.requires.terms.fairs

pub sets-requires-clause-ready : goal.sets-requires-clause-ready
sets-requires-clause-ready c = ready_kept _ _ _ _ c.and.ensures.grows.extends c.requires.ready

pub always_sets-requires-clause-valid : goal.always_sets-requires-clause-valid
always_sets-requires-clause-valid c =
    Knows-Extends _ _ (Extends-trans _ _ _ c.and.ensures.grows.extends c.sets.ensures.earlier) _
    c.requires.made.known.valid

pub set-requires-clause-valid : goal.set-requires-clause-valid
set-requires-clause-valid c =
    Knows-Extends _ _
    (Extends-trans _ _ _ (Extends-trans _ _ _ c.and.ensures.grows.extends c.sets.ensures.earlier)
    c.always_sets.ensures.earlier) _ c.requires.made.known.valid

pub returns-in_err-goals-clause-earlier : goal.returns-in_err-goals-clause-earlier
returns-in_err-goals-clause-earlier c = Extends-trans _ _ _ c.and.ensures.grows.extends c.sets.ensures.earlier

pub returns-in_err-fairs-clause-earlier : goal.returns-in_err-fairs-clause-earlier
returns-in_err-fairs-clause-earlier c =
    Extends-trans _ _ _ (Extends-trans _ _ _ c.and.ensures.grows.extends c.sets.ensures.earlier)
    c.always_sets.ensures.earlier

pub returns-in_err-initial-clause-earlier : goal.returns-in_err-initial-clause-earlier
returns-in_err-initial-clause-earlier c =
    Extends-trans _ _ _
    (Extends-trans _ _ _ (Extends-trans _ _ _ c.and.ensures.grows.extends c.sets.ensures.earlier)
    c.always_sets.ensures.earlier) c.set.ensures.earlier

pub returns-clause-earlier : goal.returns-clause-earlier
returns-clause-earlier c =
    Extends-trans _ _ _
    (Extends-trans _ _ _ (Extends-trans _ _ _ c.and.ensures.grows.extends c.sets.ensures.earlier)
    c.always_sets.ensures.earlier) c.set.ensures.earlier

pub returns-clause-kept : goal.returns-clause-kept
returns-clause-kept c =
    kept_is (setting_of c.args.encoding.now) (flat_terms c.args.flat.now) c.args.dd.now.table c.and.new.self.table
    c.sets.new.dd.table c.always_sets.new.dd.table c.set.new.dd.table c.args.made.now.steps.valid
    c.args.made.now.steps.turn c.in_ok-goals.goals.items c.in_ok-fairs.fairs.items c.in_ok-initial.initial
    c.in_ok-turn.turn c.and.ensures.grows.extends c.sets.ensures.earlier c.always_sets.ensures.earlier
    c.set.ensures.earlier c.requires.made.known.valid c.requires.made.known.turn c.in_ok-turn.ensures.answer
    (subst (λ (ids : List TermId).
    AreSets c.sets.new.dd.table
    (IsOneIn (setting_of c.args.encoding.now) (means c.and.new.self.table c.args.made.now.steps.valid)) ids
    c.in_ok-goals.goals.items) c.deref.ensures.value c.in_ok-goals.ensures.sets)
    (subst (λ (ids : List TermId).
    AreSets c.always_sets.new.dd.table
    (IsAlwaysOneIn (setting_of c.args.encoding.now) (means c.sets.new.dd.table c.args.made.now.steps.valid)) ids
    c.in_ok-fairs.fairs.items) c.deref-2.ensures.value c.in_ok-fairs.ensures.sets)
    c.in_ok-initial.ensures.set
