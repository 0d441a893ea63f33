use Rattle.std.proofs.Common.{◌<◌, List, length, refl, sym, ◌∙◌, subst, arith}
use Rattle.tm_strat_drafts.proofs.Begun.{began_made, began_parts, made_at, made_of, served_made, whole_made}
use Rattle.tm_strat_drafts.proofs.Following.{extends_here, follows_then}
use Rattle.tm_strat_drafts.proofs.Making.{drafts_at, drafts_on, made_stays}
use Rattle.tm_strat_drafts.proofs.Parting.{count_at, first_part, second_part, test_at}
use Rattle.tm_strat_drafts.specs.declared.drafts.Draft.{Draft}
use Rattle.tm_strat_drafts.proofs.building.+build.Goals as goal

pub build-requires : goal.build-requires
build-requires g t c κs lives =
    let to = c.begin.ensures.follows in
    let s = g.M.Moves.setting c.args.moves.now in
    let began = began_parts c.in-Parts.is c.in_ok-begun.ensures.begins in
    let part = first_part {a = s.ids.means c.args.care} to.game (extends_here _) c.requires.care.within began.1 in
    let down = part.0 in (
      omega (arith, down, c.decreases),
      (
        lives,
        (part.1, (count_at to.game c.requires.tests, drafts_on to.game to.extends began.0 c.requires.drafts)),
      ),
    )

pub serves-requires-clause-known : goal.serves-requires-clause-known
serves-requires-clause-known g t c =
    let on = follows_then c.begin.ensures.follows c.build.ensures.follows in
    on.extends.known c.args.care c.requires.care.known

pub serves-requires-clause-at : goal.serves-requires-clause-at
serves-requires-clause-at g t c =
    subst (λ (l : List Draft). c.in_ok-first-in-Parts.first < length l) (sym c.as_slice.ensures.value)
    c.in_ok-first-in-Parts.ensures.makes.made.below

pub serves-requires-clause-drafts : goal.serves-requires-clause-drafts
serves-requires-clause-drafts g t c =
    drafts_on c.build.ensures.follows.game (extends_here _) c.as_slice.ensures.value
    c.in_ok-first-in-Parts.ensures.makes.drafts

pub returns-then-branch-clause-makes : goal.returns-then-branch-clause-makes
returns-then-branch-clause-makes g t c =
    let to = c.begin.ensures.follows in
    let on = follows_then to c.build.ensures.follows in
    served_made c.args.drafts.now.items c.begin.new.drafts.items c.build.new.drafts.items to.game
    c.build.ensures.follows.game (began_parts c.in-Parts.is c.in_ok-begun.ensures.begins).0
    (on.extends.same c.args.care c.requires.care.known) c.serves.ensures.follows.extends
    c.in_ok-first-in-Parts.ensures.makes
    (made_of c.as_slice.ensures.value (c.in_ok-serves-in-Parts.ensures.made c.if-branch.true))

pub returns-then-branch-clause-follows : goal.returns-then-branch-clause-follows
returns-then-branch-clause-follows g t c =
    follows_then (follows_then c.begin.ensures.follows c.build.ensures.follows) c.serves.ensures.follows

pub build-requires-in-Parts : goal.build-requires-in-Parts
build-requires-in-Parts g t c κs lives =
    let on = follows_then c.build.ensures.follows c.serves.ensures.follows in
    let s = g.M.Moves.setting c.args.moves.now in
    let game = on.game ∙ c.begin.ensures.follows.game in
    let began = began_parts c.in-Parts.is c.in_ok-begun.ensures.begins in
    let part = second_part {a = s.ids.means c.args.care} game on.extends c.requires.care.within began.1 in
    let down = part.0 in (
      omega (arith, down, c.decreases),
      (
        lives,
        (
          part.1,
          (
            count_at game c.requires.tests,
            drafts_on on.game c.serves.ensures.follows.extends refl c.in_ok-first-in-Parts.ensures.makes.drafts,
          ),
        ),
      ),
    )

pub join-requires-clause-first : goal.join-requires-clause-first
join-requires-clause-first g t c =
    (made_stays c.in_ok-second-in-Parts.ensures.makes.stay
    (c.in_ok-first-in-Parts.ensures.makes.made)).below

pub join-requires-clause-test : goal.join-requires-clause-test
join-requires-clause-test g t c =
    let began = began_parts c.in-Parts.is c.in_ok-begun.ensures.begins in
    test_at
    (c.build-in-Parts.ensures.follows.game ∙ c.serves.ensures.follows.game ∙ c.build.ensures.follows.game
    ∙ c.begin.ensures.follows.game)
    began.1.test

pub join-requires-clause-second : goal.join-requires-clause-second
join-requires-clause-second g t c = c.in_ok-second-in-Parts.ensures.makes.made.below

pub join-requires-clause-drafts : goal.join-requires-clause-drafts
join-requires-clause-drafts g t c =
    drafts_at c.build-in-Parts.ensures.follows.game c.in_ok-second-in-Parts.ensures.makes.drafts

pub returns-in-Made-clause-makes : goal.returns-in-Made-clause-makes
returns-in-Made-clause-makes g t c = began_made c.in-Made.is c.in_ok-begun.ensures.begins

pub returns-in_ok-at-in-Parts-clause-follows : goal.returns-in_ok-at-in-Parts-clause-follows
returns-in_ok-at-in-Parts-clause-follows g t c =
    let one = follows_then c.begin.ensures.follows c.build.ensures.follows in
    let other = follows_then (follows_then one c.serves.ensures.follows) c.build-in-Parts.ensures.follows in
    follows_then other c.join.ensures.follows

pub returns-in_ok-at-in-Parts-clause-makes : goal.returns-in_ok-at-in-Parts-clause-makes
returns-in_ok-at-in-Parts-clause-makes g t c =
    let to = c.begin.ensures.follows in
    let on = follows_then c.build.ensures.follows c.serves.ensures.follows in
    let last = c.build-in-Parts.ensures.follows in
    let began = began_parts c.in-Parts.is c.in_ok-begun.ensures.begins in
    let one = c.in_ok-first-in-Parts.ensures.makes in
    let other = c.in_ok-second-in-Parts.ensures.makes in
    whole_made c.args.drafts.now.items c.begin.new.drafts.items c.build.new.drafts.items
    c.build-in-Parts.new.drafts.items
    c.join.new.drafts.items (last.game ∙ on.game ∙ to.game) began.0 began.1 one.stay other.stay
    (c.in_ok-at-in-Parts.ensures.makes _ _
    (made_at (last.game ∙ on.game) refl (made_stays other.stay one.made))
    (made_at last.game (on.extends.same c.in-Parts.parts.second began.1.second.known) other.made))
