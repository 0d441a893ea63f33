use Rattle.std.proofs.Common.{◌≡◌, ◌<◌, List, length, get_or, sym, ap, subst, ◌∙◌, arith}
use Rattle.tm_dd.specs.Table.{means}
use Rattle.tm_dd.proofs.CallerLaws.{Extends-trans}
use Rattle.tm_game_bits.specs.declared.step.StepDiagrams.{StepDiagrams}
use Rattle.tm_game_bits.specs.Diagrams.{KnowsStep, game_of}
use Rattle.tm_game_bits.proofs.Extended.{Knows-Extends, KnowsStep-Extends}
use Rattle.tm_game_bits.proofs.GameSets.{calm_all, calm_more}
use Rattle.tm_game_bits.proofs.game.GameDiagrams.calm.Goals as goal

pub keeps_and-requires-clause-step : goal.keeps_and-requires-clause-step
keeps_and-requires-clause-step c =
    let s = c.args.dd.now.table in
    let items = c.args.self.now.environment.items in
    let k = c.loop-step.step-index in
    let step = c.step-item.result in
    let same : c.deref-step-items.result.now ≡ items = c.deref-step-items.ensures.value in
    let within : k < length items = omega (arith, ap length same) in
    let is : step ≡ get_or items k step = c.step-item.is ∙ ap (λ (xs : List StepDiagrams). get_or xs k step) same in
    let known : KnowsStep s step = subst (KnowsStep s) (sym is) (c.requires.game.environment k step within) in
    KnowsStep-Extends s c.loop-step.dd.table c.loop-step.invariant.extends step known

pub keeps_and-requires-clause-set : goal.keeps_and-requires-clause-set
keeps_and-requires-clause-set c = Knows-Extends _ _ c.loop-step.invariant.extends _ c.requires.set

pub keeps_and-requires-clause-other : goal.keeps_and-requires-clause-other
keeps_and-requires-clause-other c = c.loop-step.invariant.set.known

pub loop-step-preserved : goal.loop-step-preserved
loop-step-preserved c =
    let s = c.args.dd.now.table in
    let items = c.args.self.now.environment.items in
    let k = c.loop-step.step-index in
    let step = c.step-item.result in
    let same : c.deref-step-items.result.now ≡ items = c.deref-step-items.ensures.value in
    let within : k < length items = omega (arith, ap length same) in
    let is : step ≡ get_or items k step = c.step-item.is ∙ ap (λ (xs : List StepDiagrams). get_or xs k step) same in
    let known : KnowsStep s step = subst (KnowsStep s) (sym is) (c.requires.game.environment k step within) in
    record {
      extends = Extends-trans _ _ _ c.loop-step.invariant.extends c.keeps_and.ensures.extends;
      set = calm_more s c.loop-step.dd.table c.keeps_and.new.dd.table c.loop-step.invariant.extends
          c.keeps_and.ensures.extends (game_of s c.args.self.now) items k step within is known c.args.set
          c.loop-step.calm c.in_ok-calm.calm c.requires.set c.loop-step.invariant.set c.in_ok-calm.ensures.answer;
    }

pub returns-clause-answer : goal.returns-clause-answer
returns-clause-answer c =
    let s = c.args.dd.now.table in
    calm_all s c.loop-step.dd.table c.args.self.now c.loop-step.step-index
    (omega (arith, ap length c.deref-step-items.ensures.value)) (means s c.args.set) c.loop-step.calm
    c.loop-step.invariant.set
