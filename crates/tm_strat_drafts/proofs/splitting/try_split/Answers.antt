use Rattle.tm_solve.proofs.Following.{is_kept, told_other, told_same}
use Rattle.tm_strat_drafts.proofs.Following.{follows_then}
use Rattle.tm_strat_drafts.proofs.Parting.{empty_part, none_fails, none_passes, part_fails, part_has, part_passes}
use Rattle.tm_strat_drafts.proofs.splitting.try_split.Goals as goal

pub returns-clause-value : goal.returns-clause-value
returns-clause-value g c =
    let to = c.test.ensures.follows in
    let on = follows_then to c.meet.ensures.follows in
    let all = follows_then on c.without.ensures.follows in
    let first = is_kept c.without.ensures.follows.extends
    (part_passes c.args.set c.args.test c.in_ok-holds.holds c.in_ok-first.first to.game to.extends c.requires.known
    c.in_ok-holds.ensures.value c.in_ok-first.ensures.value) in
    let second = part_fails c.args.set c.args.test c.in_ok-holds.holds c.in_ok-second.second on.game on.extends
    c.requires.known (is_kept c.meet.ensures.follows.extends c.in_ok-holds.ensures.value) c.in_ok-second.ensures.value
    in
    record {
      test = c.requires.test;
      first = first;
      second = second;
      some_first = part_has c.in_ok-first.first c.nothing-nothing.result all.game c.nothing-nothing.ensures.exact
          first.known
          c.nothing-nothing.ensures.value (told_other c.if-same.ensures);
      some_second = part_has c.in_ok-second.second c.nothing-nothing.result all.game c.nothing-nothing.ensures.exact
          second.known c.nothing-nothing.ensures.value (told_other c.if-same-2.ensures);
    }

pub returns-then-same-clause-value : goal.returns-then-same-clause-value
returns-then-same-clause-value g c =
    let to = c.test.ensures.follows in
    let on = follows_then to c.meet.ensures.follows in
    let all = follows_then on c.without.ensures.follows in
    let first = is_kept c.without.ensures.follows.extends
    (part_passes c.args.set c.args.test c.in_ok-holds.holds c.in_ok-first.first to.game to.extends c.requires.known
    c.in_ok-holds.ensures.value c.in_ok-first.ensures.value) in
    none_passes _ c.args.test
    (empty_part c.in_ok-first.first c.nothing-nothing.result all.game first c.nothing-nothing.ensures.value
    (told_same c.if-same.ensures))

pub returns-then-same-2-clause-value : goal.returns-then-same-2-clause-value
returns-then-same-2-clause-value g c =
    let to = c.test.ensures.follows in
    let on = follows_then to c.meet.ensures.follows in
    let all = follows_then on c.without.ensures.follows in
    let second = part_fails c.args.set c.args.test c.in_ok-holds.holds c.in_ok-second.second on.game on.extends
    c.requires.known (is_kept c.meet.ensures.follows.extends c.in_ok-holds.ensures.value) c.in_ok-second.ensures.value
    in
    none_fails _ c.args.test
    (empty_part c.in_ok-second.second c.nothing-nothing.result all.game second c.nothing-nothing.ensures.value
    (told_same c.if-same-2.ensures))
