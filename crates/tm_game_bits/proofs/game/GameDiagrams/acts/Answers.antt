use Rattle.std.proofs.Common.{◌≡◌, ◌<◌, List, length, get_or, sym, ap, subst, ◌∙◌, arith}
use Rattle.tm_dd.specs.Table.{means}
use Rattle.tm_dd.proofs.CallerLaws.{Extends-refl, Extends-trans}
use Rattle.tm_game_bits.specs.declared.step.StepDiagrams.{StepDiagrams}
use Rattle.tm_game_bits.specs.Diagrams.{KnowsStep}
use Rattle.tm_game_bits.proofs.Extended.{Knows-Extends, KnowsStep-Extends}
use Rattle.tm_game_bits.proofs.GameSets.{acts_all, acts_more, acts_none}
use Rattle.tm_game_bits.proofs.game.GameDiagrams.acts.Goals as goal

pub loop-step-init : goal.loop-step-init
loop-step-init c =
    let s = c.args.dd.now.table in
    record {
      extends = Extends-refl s;
      set = acts_none s (means s c.args.self.now.turn) (means s c.args.set) c.args.self.now.driver.items;
    }

pub good_or-requires-clause-step : goal.good_or-requires-clause-step
good_or-requires-clause-step c =
    let s = c.args.dd.now.table in
    let items = c.args.self.now.driver.items in
    let k = c.loop-step.step-index in
    let step = c.step-item.result in
    let same : c.deref-step-items.result.now ≡ items = c.deref-step-items.ensures.value in
    let within : k < length items = omega (arith, ap length same) in
    let is : step ≡ get_or items k step = c.step-item.is ∙ ap (λ (xs : List StepDiagrams). get_or xs k step) same in
    let known : KnowsStep s step = subst (KnowsStep s) (sym is) (c.requires.game.driver k step within) in
    KnowsStep-Extends s c.loop-step.dd.table c.loop-step.invariant.extends step known

pub good_or-requires-clause-turn : goal.good_or-requires-clause-turn
good_or-requires-clause-turn c = Knows-Extends _ _ c.loop-step.invariant.extends _ c.requires.game.turn

pub good_or-requires-clause-set : goal.good_or-requires-clause-set
good_or-requires-clause-set c = Knows-Extends _ _ c.loop-step.invariant.extends _ c.requires.set

pub good_or-requires-clause-other : goal.good_or-requires-clause-other
good_or-requires-clause-other c = c.loop-step.invariant.set.known

pub loop-step-preserved : goal.loop-step-preserved
loop-step-preserved c =
    let s = c.args.dd.now.table in
    let items = c.args.self.now.driver.items in
    let k = c.loop-step.step-index in
    let step = c.step-item.result in
    let same : c.deref-step-items.result.now ≡ items = c.deref-step-items.ensures.value in
    let within : k < length items = omega (arith, ap length same) in
    let is : step ≡ get_or items k step = c.step-item.is ∙ ap (λ (xs : List StepDiagrams). get_or xs k step) same in
    let known : KnowsStep s step = subst (KnowsStep s) (sym is) (c.requires.game.driver k step within) in
    record {
      extends = Extends-trans _ _ _ c.loop-step.invariant.extends c.good_or.ensures.extends;
      set = acts_more s c.loop-step.dd.table c.good_or.new.dd.table c.loop-step.invariant.extends
          c.good_or.ensures.extends items k step within is known c.args.self.now.turn c.args.set c.loop-step.acting
          c.in_ok-acting.acting c.requires.game.turn c.requires.set c.loop-step.invariant.set
          c.in_ok-acting.ensures.answer;
    }

pub returns-clause-answer : goal.returns-clause-answer
returns-clause-answer c =
    let s = c.args.dd.now.table in
    acts_all s c.loop-step.dd.table (means s c.args.self.now.turn) (means s c.args.set) c.args.self.now.driver.items
    c.loop-step.step-index (omega (arith, ap length c.deref-step-items.ensures.value)) c.loop-step.acting
    c.loop-step.invariant.set
