-- Ranked sets of a lower operator are ranked sets of a higher one, and levels of a higher one those of a lower one.
use Rattle.std.proofs.Common.{ℕ, List, [], ◌∷◌}
use Rattle.tm_sem.specs.Certificates.{RankedSet, DriverSets, Level, nowhere}
use Rattle.tm_solve.specs.Sets.{StateSet, outside, common}
use Rattle.tm_solve.specs.Game.{Game}
use Rattle.tm_solve.specs.Ranks.{AreRanks, RanksFit}
use Rattle.tm_solve.specs.Levels.{AreLinks, AreLevels, LevelsFit}
use Rattle.tm_solve.specs.Narrowed.{narrowed}
use Rattle.tm_solve.specs.Sides.{IsBelow, with_part}
use Rattle.tm_solve.proofs.Joins.{and_left, and_right, and_both}

module _ (g : Game) (part : StateSet → StateSet → StateSet → ℕ → ℕ → StateSet) where
  ranks_rise : IsBelow g.states g.part part → (z : StateSet) (j : ℕ) (before : StateSet) (ranked : List RankedSet) →
      AreRanks g z j before ranked → AreRanks (with_part g part) z j before ranked
  ranks_rise below z j before [] ranks = tt
  ranks_rise below z j before (r ∷ rs) ranks = (
    record {
      fair = ranks.0.fair;
      grows = ranks.0.grows;
      gains = ranks.0.gains;
      reached = λ s among out here. below.below z before r.set j r.fair s among (ranks.0.reached s among out here);
    },
    ranks_rise below z j r.set rs ranks.1,
  )

  pub ranks_fit_above : (c : DriverSets) → IsBelow g.states g.part part → RanksFit g c → RanksFit (with_part g part) c
  ranks_fit_above c below fit = record {
    goals = fit.goals;
    each = λ j ranked are. let goal = fit.each j ranked are in record {
      ranks = ranks_rise below c.region j nowhere ranked goal.ranks;
      last = goal.last;
    };
  }

  links_fall : IsBelow g.states part g.part → (z y : StateSet) (j i : ℕ) (before : StateSet) (cs : List StateSet) →
      AreLinks (narrowed g z) z y j i before cs → AreLinks (narrowed (with_part g part) z) z y j i before cs
  links_fall below z y j i before [] links = tt
  links_fall below z y j i before (c ∷ cs) links = (
    (
      links.0.0,
      record {
        within = λ s among here. links.0.1.within s among (and_both (g.part z y (common (outside before) z) j i s) (z s)
            (below.below z y (common (outside before) z) j i s among
            (and_left (part z y (common (outside before) z) j i s) (z s) here))
            (and_right (part z y (common (outside before) z) j i s) (z s) here));
      },
    ),
    links_fall below z y j i c cs links.1,
  )

  levels_fall : IsBelow g.states part g.part → (before : StateSet) (ls : List Level) → AreLevels g before ls →
      AreLevels (with_part g part) before ls
  levels_fall below before [] levels = tt
  levels_fall below before (l ∷ ls) levels = (
    record {
      goal = levels.0.goal;
      grows = levels.0.grows;
      gains = levels.0.gains;
      count = levels.0.count;
      chains = λ i chain got. let c = levels.0.chains i chain got in record {
        some = c.some;
        links = links_fall below _ _ l.goal i nowhere chain c.links;
        inside = c.inside;
        ends = c.ends;
      };
    },
    levels_fall below l.set ls levels.1,
  )

  pub levels_fit_below : (region : StateSet) (levels : List Level) → IsBelow g.states part g.part →
      LevelsFit g region levels → LevelsFit (with_part g part) region levels
  levels_fit_below region levels below fit =
      record { levels = levels_fall below nowhere levels fit.levels; last = fit.last }
