use Rattle.std.proofs.Common.{ℕ, ◌<◌, List, Vec, Global, length, map, sym, ap, ◌∙◌, subst}
use Rattle.std.specs.Prelude.{All}
use Rattle.tm_cert.specs.Cert.{LevelData}
use Rattle.tm_numbering.proofs.Growth.{stay_then}
use Rattle.tm_reorder.specs.Inner.Parts.{ChainsStand, Stands}
use Rattle.tm_reorder.proofs.Parting.{stands_later}
use Rattle.tm_reorder.proofs.parts.place_level.Goals as goal

-- the items of a row
abbrev row : Vec ℕ Global → List ℕ
row v = v.items

pub place-requires-clause-set : goal.place-requires-clause-set
place-requires-clause-set c =
    subst (λ (set : ℕ). set < length c.args.ids.now) (sym (ap (λ (l : LevelData). l.set) c.level.view_is))
    c.requires.sets.set

pub place_chains-requires-clause-sets : goal.place_chains-requires-clause-sets
place_chains-requires-clause-sets c =
    subst (All (All (λ (set : ℕ). set < length c.args.ids.now)))
    (sym (ap (map row) c.as_slice.ensures.value ∙ ap (λ (l : LevelData). l.chains) c.level.view_is))
    c.requires.sets.chains

pub returns : goal.returns
returns c =
    let ids = c.args.ids.now in
    let between = c.place.new.kept.keys in
    let after = c.place_chains.new.kept.keys in
    record {
      numbered = c.in_ok-chains.ensures.numbered;
      stay = stay_then c.args.kept.now.keys between after c.in_ok-set.ensures.stay c.in_ok-chains.ensures.stay;
      part = record {
        goal = ap (λ (l : LevelData). l.goal) c.level.view_is;
        set = subst (λ (old : ℕ). Stands ids after old c.in_ok-set.set) (ap (λ (l : LevelData). l.set) c.level.view_is)
            (stands_later ids between after c.in_ok-chains.ensures.stay c.level.inside.set c.in_ok-set.set
            c.in_ok-set.ensures.part);
        chains = subst (λ (olds : List (List ℕ)). ChainsStand ids after olds (map row c.in_ok-chains.chains.items))
            (ap (map row) c.as_slice.ensures.value ∙ ap (λ (l : LevelData). l.chains) c.level.view_is)
            c.in_ok-chains.ensures.part;
      };
    }
