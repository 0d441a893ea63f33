use Rattle.std.proofs.Common.{ℕ, Bool, false, get_or, subst, sym, arith, ◌∙◌, ap}
use Rattle.std.proofs.lemmas.List.{get_or_past}
use Rattle.std.specs.List.Sorted.{IsStrictlyIncreasing}
use Rattle.std.specs.Prelude.{Contains, ◌↔◌, ◌≡◌, List, [], ◌∷◌, ◌++◌, true}
use Rattle.tm_ddops.proofs.Supports.{passing, passing-exact, passing-rises, passing-skips, passing-takes}
use Rattle.tm_ddops.proofs.support.marked_levels.Goals as goal
use Rattle.tm_ddops.proofs.support.marked_levels.Goals.{then-marks-level+in_ok-push, else-marks-level}

pub loop-level-preserved : goal.loop-level-preserved
loop-level-preserved c =
    let p : ℕ → Bool = λ k. get_or c.args.marks.now k false in
    elim c.if-marks-level.branch [
      | then-marks-level+in_ok-push w ↦
          ap (λ v. v.items) w.levels-is ∙ w.in_ok-push.ensures.items
          ∙ ap (λ xs. xs ++ c.loop-level.level ∷ []) c.loop-level.invariant
          ∙ sym (passing-takes p c.loop-level.level w.if-marks-level.true)
      | else-marks-level w ↦ ap (λ v. v.items) w.levels-is ∙ c.loop-level.invariant
          ∙ sym (passing-skips p c.loop-level.level w.if-marks-level.false)
    ]

pub returns-clause-rises : goal.returns-clause-rises
returns-clause-rises c =
    let p : ℕ → Bool = λ k. get_or c.args.marks.now k false in
    let all : c.loop-level.levels.items ≡ passing p c.args.count =
    c.loop-level.invariant ∙ ap (passing p) (omega arith) in
    subst IsStrictlyIncreasing (sym all) (passing-rises p c.args.count)

pub returns-clause-exact : goal.returns-clause-exact
returns-clause-exact c =
    let p : ℕ → Bool = λ k. get_or c.args.marks.now k false in
    let all : c.loop-level.levels.items ≡ passing p c.args.count =
    c.loop-level.invariant ∙ ap (passing p) (omega arith) in
    let P : List ℕ → Type 0 = λ xs. (k : ℕ) → Contains xs k ↔ (p k ≡ true) in
    subst P (sym all) (passing-exact p c.args.count
    (λ k above. get_or_past c.args.marks.now k false (omega (arith, above))))
