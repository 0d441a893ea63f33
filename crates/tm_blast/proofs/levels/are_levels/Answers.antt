use Rattle.std.proofs.Common.{◌≡◌, ℕ, true, false, List, length, refl, sym, ◌∙◌, subst, arith}
use Rattle.std.specs.Prelude.{slice_index}
use Rattle.tm_blast.proofs.InputLevels.{AreOfInput, AreLevelsBelow, of_input, levels_more, levels_all}
use Rattle.tm_blast.proofs.levels.are_levels.Goals as goal

never : false ≡ true → ⊥
never h = cc

pub loop-i-preserved : goal.loop-i-preserved
loop-i-preserved c =
    let t = c.args.terms.now in
    let i = c.loop-i.i in
    let count = c.args.count in
    let list = c.index-levels-i.result in
    let fits = c.are_of_input-fits.ensures.0 c.if-not-fits.false in
    let here = subst (λ (inputs : List ℕ). AreOfInput c.deref.result.now (slice_index inputs i) count)
    c.inputs-inputs.ensures fits in
    levels_more t count c.args.levels.now i list c.loop-i-test.true c.index-levels-i.is
    (subst (λ (ls : List ℕ). AreOfInput ls (slice_index t.inputs i) count) c.deref.ensures.value here)
    c.loop-i.invariant

pub returns-then-not-fits : goal.returns-then-not-fits
returns-then-not-fits c =
    let t = c.args.terms.now in
    let i = c.loop-i.i in
    let count = c.args.count in (
      λ h. absurd (never h),
      λ are.
          let fits =
          of_input t count c.args.levels.now i c.index-levels-i.result c.loop-i-test.true c.index-levels-i.is are in
          let there =
          subst (λ (ls : List ℕ). AreOfInput ls (slice_index t.inputs i) count) (sym c.deref.ensures.value) fits in
          sym c.if-not-fits.true
          ∙ c.are_of_input-fits.ensures.1
          (subst (λ (inputs : List ℕ). AreOfInput c.deref.result.now (slice_index inputs i) count)
          (sym c.inputs-inputs.ensures) there),
    )

pub returns : goal.returns
returns c =
    let levels = c.args.levels.now in
    let end : c.loop-i.i ≡ length levels = omega (arith, c.loop-i-test.false, c.loop-i.auto.i-end) in (
      λ h. levels_all c.args.terms.now c.args.count levels
          (subst (AreLevelsBelow c.args.terms.now c.args.count levels) end c.loop-i.invariant),
      λ are. refl,
    )
