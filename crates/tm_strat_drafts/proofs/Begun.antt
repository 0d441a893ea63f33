-- A set that is split, its two drafts, and the test between them.
use Rattle.std.proofs.Common.{◌≡◌, ℕ, List, sym, subst}
use Rattle.tm_solve.specs.Sets.{StateSet}
use Rattle.tm_strat_drafts.specs.Sets.{chosen}
use Rattle.tm_strat_drafts.specs.Moves.{Game, passes}
use Rattle.tm_solve.specs.Ids.{Extends, Ids}
use Rattle.tm_strat_drafts.specs.Drafts.{blocks_of, Stay, IsMade, Makes}
use Rattle.tm_strat_drafts.specs.Splits.{IsSplit}
use Rattle.tm_strat_drafts.specs.Begun.{Begins}
use Rattle.tm_strat_drafts.specs.declared.drafts.DraftBlock.{DraftBlock}
use Rattle.tm_strat_drafts.specs.declared.drafts.Draft.{Draft}
use Rattle.tm_strat_drafts.specs.declared.building.Begun.{Begun}
use Rattle.tm_strat_drafts.specs.declared.building.Begun.TheVariants.{Made, Parts}
use Rattle.tm_strat_drafts.specs.declared.splitting.Split.{Split}
use Rattle.tm_strat_drafts.proofs.Making.{drafts_kept, good_within, makes_at, stay_then}
use Rattle.tm_strat_drafts.proofs.Parting.{parts_cover}

-- what was begun, by its variant
pub began_parts : {g : Game} {ids : Ids} {old new : List Draft} {set : StateSet} {b : Begun} {p : Split} → b ≡ Parts p →
    Begins g ids old new set b → (new ≡ old) × IsSplit g ids set p
began_parts {g = g} {ids = ids} {old = old} {new = new} {set = set} is began =
    subst (λ (x : Begun). Begins g ids old new set x) is began

pub began_made : {g : Game} {ids : Ids} {old new : List Draft} {set : StateSet} {b : Begun} {at : ℕ} → b ≡ Made at →
    Begins g ids old new set b → Makes g ids old new at set
began_made {g = g} {ids = ids} {old = old} {new = new} {set = set} is began =
    subst (λ (x : Begun). Begins g ids old new set x) is began

stay_from : {bs : List DraftBlock} (old new : List Draft) → new ≡ old → Stay (blocks_of new) bs →
    Stay (blocks_of old) bs
stay_from {bs = bs} old new same stay = subst (λ (ds : List Draft). Stay (blocks_of ds) bs) same stay

-- the whole, from its parts
pub whole_made : {g h : Game} {ids later : Ids} {at : ℕ} {set : StateSet} {p : Split} (old d0 d1 d2 d3 : List Draft) →
    h ≡ g → d0 ≡ old → IsSplit g ids set p → Stay (blocks_of d0) (blocks_of d1) → Stay (blocks_of d1) (blocks_of d2) →
    Makes h later d2 d3 at (chosen (passes h p.test) (ids.means p.first) (ids.means p.second)) →
    Makes g later old d3 at set
whole_made {g = g} {ids = ids} {later = later} {at = at} {p = p} old d0 d1 d2 d3 game same split one other made =
    let here = subst (λ (q : Game). Makes q later d2 d3 at (chosen (passes q p.test) (ids.means p.first)
    (ids.means p.second)))
    game made in
    record {
      drafts = here.drafts;
      stay = stay_from old d0 same (stay_then (stay_then one other) here.stay);
      made = record { below = here.made.below; good = good_within (parts_cover split) here.made.good };
    }

-- a draft at the game that stays, for a set that is the same
pub made_at : {g h : Game} {ds : List Draft} {at : ℕ} {a b : StateSet} → h ≡ g → a ≡ b → IsMade g ds at a →
    IsMade h ds at b
made_at {g = g} {ds = ds} {at = at} {b = b} game same made =
    subst (λ (q : Game). IsMade q ds at b) (sym game) (subst (λ (x : StateSet). IsMade g ds at x) same made)

-- a draft of other drafts that are the same
pub made_of : {g : Game} {xs ds : List Draft} {at : ℕ} {set : StateSet} → xs ≡ ds → IsMade g xs at set →
    IsMade g ds at set
made_of {g = g} {at = at} {set = set} same made = subst (λ (l : List Draft). IsMade g l at set) same made

-- the whole, from a draft of one part that serves it
pub served_made : {g h k : Game} {ids later : Ids} {at : ℕ} {part a b : StateSet} (old d0 d1 : List Draft) → h ≡ g →
    k ≡ h → d0 ≡ old → a ≡ b → Extends ids later → Makes h ids d0 d1 at part → IsMade k d1 at a →
    Makes g later old d1 at b
served_made old d0 d1 game after same means extends made whole =
    makes_at game (record {
      drafts = drafts_kept extends made.drafts;
      stay = stay_from old d0 same made.stay;
      made = made_at (sym after) means whole;
    })

-- what was begun at the game that stays, over the same drafts
pub begins_at : {g h : Game} (ids : Ids) {a b : StateSet} (old new later : List Draft) (r : Begun) → h ≡ g → new ≡ old →
    a ≡ b → Begins h ids new later a r → Begins g ids old later b r
begins_at {h = h} ids {b = b} old new later r game drafts same begins =
    subst (λ (q : Game). Begins q ids old later b r) game
    (subst (λ (l : List Draft). Begins h ids l later b r) drafts
    (subst (λ (x : StateSet). Begins h ids new later x r) same begins))
