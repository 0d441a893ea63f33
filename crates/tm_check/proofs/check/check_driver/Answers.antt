use Rattle.std.proofs.Common.{◌≡◌, List, sym, ◌∙◌, subst, arith}
use Rattle.tm_check.proofs.Growth.{sized_kept}
use Rattle.tm_check.specs.Leaving.{AreAnswers}
use Rattle.tm_check.specs.Tried.{AreTried}
use Rattle.tm_check.specs.Verdict.{IsDriverVerdict}
use Rattle.tm_check.proofs.Checking.{all_parts, ranks_same, set_parts, sets_passed, step_parts, told_of, verdict_is}
use Rattle.tm_check.proofs.Keeping.{told_kept}
use Rattle.tm_check.proofs.check.check_driver.Goals as goal
use Rattle.tm_cir.specs.Answer.{Answers}
use Rattle.tm_cir.specs.View.{trees_of}
use Rattle.tm_cir.proofs.Deciding.{certified_blocks}
use Rattle.tm_game.proofs.Growing.{grows_then, of_kept}
use Rattle.tm_sem.specs.Strategy.{Good}
use Rattle.tm_verdict.specs.Sets.{driver_sets}
use Rattle.tm_syntax.specs.Design.View.{design_tree}
use Rattle.tm_verdict.specs.declared.verdict.Verdict.TheVariants.{Accepted}
use Rattle.tm_verdict.specs.Driver.{DriverPart, driver_meaning}
use Rattle.tm_verdict.proofs.Trying.{tried_stop, tried_then}

pub on_sets-requires : goal.on_sets-requires
on_sets-requires c =
    let d = design_tree c.args.design.now in
    let bs = trees_of c.args.blocks.now in
    let cs = driver_sets (design_tree c.args.design.now) c.args.cert.now in
    let is = told_of (design_tree c.args.design.now) (trees_of c.args.blocks.now) c.args.cert.now c.args.game.now
    c.load.new.game c.in_ok-told.told c.requires.can c.load.ensures.grows
    (c.in_ok-told.ensures.told (design_tree c.args.design.now) c.requires.can.load) in
    record { told = (d, bs, cs, is) }

pub returns-in_err-first-clause-grows : goal.returns-in_err-first-clause-grows
returns-in_err-first-clause-grows c =
    grows_then c.args.game.now c.load.new.game c.on_sets.new.game c.load.ensures.grows c.on_sets.ensures.grows

pub returns-in_default-clause-grows : goal.returns-in_default-clause-grows
returns-in_default-clause-grows c =
    grows_then c.args.game.now c.load.new.game c.on_sets.new.game c.load.ensures.grows c.on_sets.ensures.grows

pub returns-in_default-clause-verdict : goal.returns-in_default-clause-verdict
returns-in_default-clause-verdict c =
    let d = design_tree c.args.design.now in
    let bs = trees_of c.args.blocks.now in
    let cs = driver_sets (design_tree c.args.design.now) c.args.cert.now in
    let is = told_of (design_tree c.args.design.now) (trees_of c.args.blocks.now) c.args.cert.now c.args.game.now
    c.load.new.game c.in_ok-told.told c.requires.can c.load.ensures.grows
    (c.in_ok-told.ensures.told (design_tree c.args.design.now) c.requires.can.load) in
    verdict_is d (Answers bs) cs is.goals is.fairs c.in_ok-first.first
    (subst (λ (parts : List DriverPart). AreTried d (Answers bs) cs parts c.in_ok-first.first)
    (all_parts d (Answers bs) cs)
    (tried_stop (driver_meaning d (Answers bs) cs) (set_parts d (Answers bs) cs) (step_parts d (Answers bs) cs)
    c.in_ok-first.first c.in_default.not-Accepted (c.in_ok-first.ensures.tried d bs cs is)))

pub all_replies-requires-clause-of : goal.all_replies-requires-clause-of
all_replies-requires-clause-of c =
    of_kept c.args.game.now c.on_sets.new.game
    (grows_then c.args.game.now c.load.new.game c.on_sets.new.game c.load.ensures.grows c.on_sets.ensures.grows)
    (design_tree c.args.design.now) c.requires.can.load.of

pub all_replies-requires-clause-sized : goal.all_replies-requires-clause-sized
all_replies-requires-clause-sized c =
    sized_kept c.args.game.now c.on_sets.new.game
    (grows_then c.args.game.now c.load.new.game c.on_sets.new.game c.load.ensures.grows c.on_sets.ensures.grows)
    c.requires.can.sized

pub all_replies-requires-clause-goals : goal.all_replies-requires-clause-goals
all_replies-requires-clause-goals c =
    let d = design_tree c.args.design.now in
    let bs = trees_of c.args.blocks.now in
    let cs = driver_sets (design_tree c.args.design.now) c.args.cert.now in
    let is = told_of (design_tree c.args.design.now) (trees_of c.args.blocks.now) c.args.cert.now c.args.game.now
    c.load.new.game c.in_ok-told.told c.requires.can c.load.ensures.grows
    (c.in_ok-told.ensures.told (design_tree c.args.design.now) c.requires.can.load) in
    c.len.ensures ∙ c.in_ok-told.told.goals.ok.0 ∙ is.diagrams.count ∙ is.goals

pub all_replies-requires-clause-few : goal.all_replies-requires-clause-few
all_replies-requires-clause-few c =
    let d = design_tree c.args.design.now in
    let bs = trees_of c.args.blocks.now in
    let cs = driver_sets (design_tree c.args.design.now) c.args.cert.now in
    let is = told_of (design_tree c.args.design.now) (trees_of c.args.blocks.now) c.args.cert.now c.args.game.now
    c.load.new.game c.in_ok-told.told c.requires.can c.load.ensures.grows
    (c.in_ok-told.ensures.told (design_tree c.args.design.now) c.requires.can.load) in
    omega (arith, c.len.ensures, c.in_ok-told.told.goals.ok.0, is.diagrams.count, is.goals, c.requires.can.few)

pub returns-in_err-answers-clause-grows : goal.returns-in_err-answers-clause-grows
returns-in_err-answers-clause-grows c =
    grows_then c.args.game.now c.on_sets.new.game c.all_replies.new.game
    (grows_then c.args.game.now c.load.new.game c.on_sets.new.game c.load.ensures.grows c.on_sets.ensures.grows)
    c.all_replies.ensures.grows

pub on_steps-requires-clause-told : goal.on_steps-requires-clause-told
on_steps-requires-clause-told c =
    let d = design_tree c.args.design.now in
    let bs = trees_of c.args.blocks.now in
    let cs = driver_sets (design_tree c.args.design.now) c.args.cert.now in
    let is = told_of (design_tree c.args.design.now) (trees_of c.args.blocks.now) c.args.cert.now c.args.game.now
    c.load.new.game c.in_ok-told.told c.requires.can c.load.ensures.grows
    (c.in_ok-told.ensures.told (design_tree c.args.design.now) c.requires.can.load) in
    let grown = grows_then c.load.new.game c.on_sets.new.game c.all_replies.new.game c.on_sets.ensures.grows
    c.all_replies.ensures.grows in
    let later = told_kept d c.load.new.game c.all_replies.new.game grown bs cs c.in_ok-told.told is in
    let answers = subst (AreAnswers d bs c.all_replies.new.game) (sym c.deref.ensures.value)
    c.in_ok-answers.ensures.answers in
    (d, bs, cs, later)

pub on_steps-requires-clause-answers : goal.on_steps-requires-clause-answers
on_steps-requires-clause-answers c =
    let d = design_tree c.args.design.now in
    let bs = trees_of c.args.blocks.now in
    let cs = driver_sets (design_tree c.args.design.now) c.args.cert.now in
    let is = told_of (design_tree c.args.design.now) (trees_of c.args.blocks.now) c.args.cert.now c.args.game.now
    c.load.new.game c.in_ok-told.told c.requires.can c.load.ensures.grows
    (c.in_ok-told.ensures.told (design_tree c.args.design.now) c.requires.can.load) in
    let grown = grows_then c.load.new.game c.on_sets.new.game c.all_replies.new.game c.on_sets.ensures.grows
    c.all_replies.ensures.grows in
    let later = told_kept d c.load.new.game c.all_replies.new.game grown bs cs c.in_ok-told.told is in
    let answers = subst (AreAnswers d bs c.all_replies.new.game) (sym c.deref.ensures.value)
    c.in_ok-answers.ensures.answers in
    (d, bs, cs, later, answers)

pub returns-in_err-verdict-clause-grows : goal.returns-in_err-verdict-clause-grows
returns-in_err-verdict-clause-grows c =
    grows_then c.args.game.now c.all_replies.new.game c.on_steps.new.game
    (grows_then c.args.game.now c.on_sets.new.game c.all_replies.new.game
    (grows_then c.args.game.now c.load.new.game c.on_sets.new.game c.load.ensures.grows c.on_sets.ensures.grows)
    c.all_replies.ensures.grows) c.on_steps.ensures.grows

pub returns-clause-grows : goal.returns-clause-grows
returns-clause-grows c =
    grows_then c.args.game.now c.all_replies.new.game c.on_steps.new.game
    (grows_then c.args.game.now c.on_sets.new.game c.all_replies.new.game
    (grows_then c.args.game.now c.load.new.game c.on_sets.new.game c.load.ensures.grows c.on_sets.ensures.grows)
    c.all_replies.ensures.grows) c.on_steps.ensures.grows

pub returns-clause-verdict : goal.returns-clause-verdict
returns-clause-verdict c =
    let d = design_tree c.args.design.now in
    let bs = trees_of c.args.blocks.now in
    let cs = driver_sets (design_tree c.args.design.now) c.args.cert.now in
    let is = told_of (design_tree c.args.design.now) (trees_of c.args.blocks.now) c.args.cert.now c.args.game.now
    c.load.new.game c.in_ok-told.told c.requires.can c.load.ensures.grows
    (c.in_ok-told.ensures.told (design_tree c.args.design.now) c.requires.can.load) in
    let grown = grows_then c.load.new.game c.on_sets.new.game c.all_replies.new.game c.on_sets.ensures.grows
    c.all_replies.ensures.grows in
    let later = told_kept d c.load.new.game c.all_replies.new.game grown bs cs c.in_ok-told.told is in
    let answers = subst (AreAnswers d bs c.all_replies.new.game) (sym c.deref.ensures.value)
    c.in_ok-answers.ensures.answers in
    let sets = subst (AreTried d (Answers bs) cs (set_parts d (Answers bs) cs)) c.in-Accepted.is
    (c.in_ok-first.ensures.tried d bs cs is) in
    let all = subst (λ (parts : List DriverPart). AreTried d (Answers bs) cs parts c.in_ok-verdict.verdict)
    (all_parts d (Answers bs) cs)
    (tried_then (driver_meaning d (Answers bs) cs) (set_parts d (Answers bs) cs) (step_parts d (Answers bs) cs)
    c.in_ok-verdict.verdict sets
    (c.in_ok-verdict.ensures.tried d bs cs later answers (sets_passed d (Answers bs) cs sets))) in
    verdict_is d (Answers bs) cs is.goals is.fairs c.in_ok-verdict.verdict all

pub returns-clause-good : goal.returns-clause-good
returns-clause-good c = λ accepted.
    let d = design_tree c.args.design.now in
    let bs = trees_of c.args.blocks.now in
    let cs = driver_sets (design_tree c.args.design.now) c.args.cert.now in
    let is = told_of (design_tree c.args.design.now) (trees_of c.args.blocks.now) c.args.cert.now c.args.game.now
    c.load.new.game c.in_ok-told.told c.requires.can c.load.ensures.grows
    (c.in_ok-told.ensures.told (design_tree c.args.design.now) c.requires.can.load) in
    let grown = grows_then c.load.new.game c.on_sets.new.game c.all_replies.new.game c.on_sets.ensures.grows
    c.all_replies.ensures.grows in
    let later = told_kept d c.load.new.game c.all_replies.new.game grown bs cs c.in_ok-told.told is in
    let answers = subst (AreAnswers d bs c.all_replies.new.game) (sym c.deref.ensures.value)
    c.in_ok-answers.ensures.answers in
    let sets = subst (AreTried d (Answers bs) cs (set_parts d (Answers bs) cs)) c.in-Accepted.is
    (c.in_ok-first.ensures.tried d bs cs is) in
    let all = subst (λ (parts : List DriverPart). AreTried d (Answers bs) cs parts c.in_ok-verdict.verdict)
    (all_parts d (Answers bs) cs)
    (tried_then (driver_meaning d (Answers bs) cs) (set_parts d (Answers bs) cs) (step_parts d (Answers bs) cs)
    c.in_ok-verdict.verdict sets
    (c.in_ok-verdict.ensures.tried d bs cs later answers (sets_passed d (Answers bs) cs sets))) in
    let same : c.in_ok-verdict.verdict ≡ Accepted = cc in
    subst (Good d (Answers bs)) (ranks_same d c.args.cert.now)
    (certified_blocks d bs cs is.of.design is.blocks
    (subst (IsDriverVerdict d (Answers bs) cs) same
    (verdict_is d (Answers bs) cs is.goals is.fairs c.in_ok-verdict.verdict all)))
