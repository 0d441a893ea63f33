use Rattle.std.proofs.Common.{◌++◌, map, sym, subst}
use Rattle.tm_check.specs.Leaving.{AreLeaving}
use Rattle.tm_check.specs.Tried.{AreTried}
use Rattle.tm_check.proofs.Checking.{have_passed}
use Rattle.tm_check.proofs.Keeping.{answers_kept, has_told_kept, leaving_kept, told_kept}
use Rattle.tm_check.proofs.check.on_steps.Goals as goal
use Rattle.tm_cir.specs.Answer.{Answers}
use Rattle.tm_game.proofs.Growing.{grows_then}
use Rattle.tm_verdict.specs.Driver.{driver_meaning, falls_when_fair, goals_of, is_answered, never_rises}
use Rattle.tm_verdict.proofs.Trying.{tried_stop, tried_then}

pub returns-in_default-clause-tried : goal.returns-in_default-clause-tried
returns-in_default-clause-tried c = λ d bs cs is are passed.
    tried_stop (driver_meaning d (Answers bs) cs) (map is_answered (goals_of cs))
    (map never_rises (goals_of cs) ++ map falls_when_fair (goals_of cs)) c.in_ok-first.first
    c.in_default.not-Accepted (c.in_ok-first.ensures.tried d bs cs is are)

pub leaving_sets-requires-clause-told : goal.leaving_sets-requires-clause-told
leaving_sets-requires-clause-told c =
    has_told_kept c.args.game.now c.answering.new.game c.answering.ensures.grows c.args.told.now c.requires.told

pub leaving_sets-requires-clause-answers : goal.leaving_sets-requires-clause-answers
leaving_sets-requires-clause-answers c =
    let has = c.requires.answers in (
      has.0,
      has.1,
      has.2,
      told_kept has.0 c.args.game.now c.answering.new.game c.answering.ensures.grows has.1 has.2 c.args.told.now has.3,
      answers_kept has.0 c.args.game.now c.answering.new.game c.answering.ensures.grows has.1 c.args.answers.now has.4,
    )

pub returns-in_err-leaving-clause-grows : goal.returns-in_err-leaving-clause-grows
returns-in_err-leaving-clause-grows c =
    grows_then c.args.game.now c.answering.new.game c.leaving_sets.new.game c.answering.ensures.grows
    c.leaving_sets.ensures.grows

pub descending-requires-clause-told : goal.descending-requires-clause-told
descending-requires-clause-told c =
    has_told_kept c.args.game.now c.leaving_sets.new.game
    (grows_then c.args.game.now c.answering.new.game c.leaving_sets.new.game c.answering.ensures.grows
    c.leaving_sets.ensures.grows) c.args.told.now c.requires.told

pub descending-requires-clause-leaving : goal.descending-requires-clause-leaving
descending-requires-clause-leaving c =
    let has = c.requires.answers in
    let at_first = told_kept has.0 c.args.game.now c.answering.new.game c.answering.ensures.grows has.1 has.2
    c.args.told.now has.3 in (
      has.0,
      has.1,
      has.2,
      told_kept has.0 c.answering.new.game c.leaving_sets.new.game c.leaving_sets.ensures.grows has.1 has.2
          c.args.told.now at_first,
      subst (AreLeaving has.0 has.1 has.2 c.leaving_sets.new.game) (sym c.deref.ensures.value)
          (c.in_ok-leaving.ensures.leaving has.0 has.1 has.2 at_first
          (answers_kept has.0 c.args.game.now c.answering.new.game c.answering.ensures.grows has.1
          c.args.answers.now has.4)),
    )

pub returns-in_err-second-clause-grows : goal.returns-in_err-second-clause-grows
returns-in_err-second-clause-grows c =
    grows_then c.args.game.now c.leaving_sets.new.game c.descending.new.game
    (grows_then c.args.game.now c.answering.new.game c.leaving_sets.new.game c.answering.ensures.grows
    c.leaving_sets.ensures.grows) c.descending.ensures.grows

pub descending-requires-in-Accepted-second-clause-told : goal.descending-requires-in-Accepted-second-clause-told
descending-requires-in-Accepted-second-clause-told c =
    has_told_kept c.args.game.now c.descending.new.game
    (grows_then c.args.game.now c.leaving_sets.new.game c.descending.new.game
    (grows_then c.args.game.now c.answering.new.game c.leaving_sets.new.game c.answering.ensures.grows
    c.leaving_sets.ensures.grows) c.descending.ensures.grows) c.args.told.now c.requires.told

pub descending-requires-in-Accepted-second-clause-leaving : goal.descending-requires-in-Accepted-second-clause-leaving
descending-requires-in-Accepted-second-clause-leaving c =
    let has = c.requires.answers in
    let at_first = told_kept has.0 c.args.game.now c.answering.new.game c.answering.ensures.grows has.1 has.2
    c.args.told.now has.3 in
    let grown = grows_then c.answering.new.game c.leaving_sets.new.game c.descending.new.game
    c.leaving_sets.ensures.grows c.descending.ensures.grows in (
      has.0,
      has.1,
      has.2,
      told_kept has.0 c.answering.new.game c.descending.new.game grown has.1 has.2 c.args.told.now at_first,
      subst (AreLeaving has.0 has.1 has.2 c.descending.new.game) (sym c.deref-in-Accepted-second.ensures.value)
          (leaving_kept has.0 c.leaving_sets.new.game c.descending.new.game c.descending.ensures.grows has.1 has.2
          c.in_ok-leaving.leaving.items
          (c.in_ok-leaving.ensures.leaving has.0 has.1 has.2 at_first
          (answers_kept has.0 c.args.game.now c.answering.new.game c.answering.ensures.grows has.1
          c.args.answers.now has.4))),
    )

pub returns-in_err-last-in-Accepted-second-clause-grows : goal.returns-in_err-last-in-Accepted-second-clause-grows
returns-in_err-last-in-Accepted-second-clause-grows c =
    grows_then c.args.game.now c.descending.new.game c.descending-in-Accepted-second.new.game
    (grows_then c.args.game.now c.leaving_sets.new.game c.descending.new.game
    (grows_then c.args.game.now c.answering.new.game c.leaving_sets.new.game c.answering.ensures.grows
    c.leaving_sets.ensures.grows) c.descending.ensures.grows) c.descending-in-Accepted-second.ensures.grows

pub returns-in-Accepted-second-clause-grows : goal.returns-in-Accepted-second-clause-grows
returns-in-Accepted-second-clause-grows c =
    grows_then c.args.game.now c.descending.new.game c.descending-in-Accepted-second.new.game
    (grows_then c.args.game.now c.leaving_sets.new.game c.descending.new.game
    (grows_then c.args.game.now c.answering.new.game c.leaving_sets.new.game c.answering.ensures.grows
    c.leaving_sets.ensures.grows) c.descending.ensures.grows) c.descending-in-Accepted-second.ensures.grows

pub returns-in-Accepted-second-clause-tried : goal.returns-in-Accepted-second-clause-tried
returns-in-Accepted-second-clause-tried c = λ d bs cs is are passed.
    let first = subst (AreTried d (Answers bs) cs (map is_answered (goals_of cs))) c.in-Accepted.is
    (c.in_ok-first.ensures.tried d bs cs is are) in
    let have = have_passed d (Answers bs) cs passed first in
    let at_first = told_kept d c.args.game.now c.answering.new.game c.answering.ensures.grows bs cs c.args.told.now
    is in
    let at_second = told_kept d c.answering.new.game c.leaving_sets.new.game c.leaving_sets.ensures.grows bs cs
    c.args.told.now at_first in
    let leaving_are = c.in_ok-leaving.ensures.leaving d bs cs at_first
    (answers_kept d c.args.game.now c.answering.new.game c.answering.ensures.grows bs c.args.answers.now are) in
    let second = c.in_ok-second.ensures.tried d bs cs at_second
    (subst (AreLeaving d bs cs c.leaving_sets.new.game) (sym c.deref.ensures.value) leaving_are) have in
    tried_then (driver_meaning d (Answers bs) cs) (map is_answered (goals_of cs))
    (map never_rises (goals_of cs) ++ map falls_when_fair (goals_of cs)) c.in_ok-last-in-Accepted-second.last first
    (tried_then (driver_meaning d (Answers bs) cs) (map never_rises (goals_of cs)) (map falls_when_fair (goals_of cs))
    c.in_ok-last-in-Accepted-second.last
    (subst (AreTried d (Answers bs) cs (map never_rises (goals_of cs))) c.in-Accepted-second.is second)
    (c.in_ok-last-in-Accepted-second.ensures.tried d bs cs
    (told_kept d c.leaving_sets.new.game c.descending.new.game c.descending.ensures.grows bs cs c.args.told.now
    at_second)
    (subst (AreLeaving d bs cs c.descending.new.game) (sym c.deref-in-Accepted-second.ensures.value)
    (leaving_kept d c.leaving_sets.new.game c.descending.new.game c.descending.ensures.grows bs cs
    c.in_ok-leaving.leaving.items leaving_are)) have))

pub returns-clause-grows : goal.returns-clause-grows
returns-clause-grows c =
    grows_then c.args.game.now c.leaving_sets.new.game c.descending.new.game
    (grows_then c.args.game.now c.answering.new.game c.leaving_sets.new.game c.answering.ensures.grows
    c.leaving_sets.ensures.grows) c.descending.ensures.grows

pub returns-clause-tried : goal.returns-clause-tried
returns-clause-tried c = λ d bs cs is are passed.
    let first = subst (AreTried d (Answers bs) cs (map is_answered (goals_of cs))) c.in-Accepted.is
    (c.in_ok-first.ensures.tried d bs cs is are) in
    let have = have_passed d (Answers bs) cs passed first in
    let at_first = told_kept d c.args.game.now c.answering.new.game c.answering.ensures.grows bs cs c.args.told.now
    is in
    let at_second = told_kept d c.answering.new.game c.leaving_sets.new.game c.leaving_sets.ensures.grows bs cs
    c.args.told.now at_first in
    let leaving_are = c.in_ok-leaving.ensures.leaving d bs cs at_first
    (answers_kept d c.args.game.now c.answering.new.game c.answering.ensures.grows bs c.args.answers.now are) in
    let second = c.in_ok-second.ensures.tried d bs cs at_second
    (subst (AreLeaving d bs cs c.leaving_sets.new.game) (sym c.deref.ensures.value) leaving_are) have in
    tried_then (driver_meaning d (Answers bs) cs) (map is_answered (goals_of cs))
    (map never_rises (goals_of cs) ++ map falls_when_fair (goals_of cs)) c.in_ok-second.second first
    (tried_stop (driver_meaning d (Answers bs) cs) (map never_rises (goals_of cs)) (map falls_when_fair (goals_of cs))
    c.in_ok-second.second c.in_default-second.not-Accepted second)
