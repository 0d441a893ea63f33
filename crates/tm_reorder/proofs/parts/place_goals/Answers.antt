use Rattle.std.proofs.Common.{◌≡◌, ℕ, ◌<◌, List, Vec, Global, length, map, refl, sym, ap, ◌∙◌, subst, arith}
use Rattle.std.specs.Prelude.{All}
use Rattle.std.proofs.lemmas.List.{length-map}
use Rattle.std.proofs.lemmas.Option.{slice_get_read}
use Rattle.tm_cert.specs.declared.cert.Rank.{Rank}
use Rattle.tm_numbering.specs.Parts.{ArePairs}
use Rattle.tm_numbering.proofs.Growth.{stay_none, stay_then}
use Rattle.tm_numbering.proofs.Items.{at_index, map_more, mapped_get}
use Rattle.tm_numbering.proofs.Pairs.{pairs_more, pairs_none, pairs_weaker}
use Rattle.tm_reorder.specs.Inner.Parts.{RanksStand}
use Rattle.tm_reorder.proofs.Parting.{ranks_later}
use Rattle.tm_reorder.proofs.parts.place_goals.Goals as goal

-- the items of a row
abbrev row : Vec Rank Global → List Rank
row v = v.items

pub loop-ranks-init : goal.loop-ranks-init
loop-ranks-init c = record {
  entries = c.requires.entries;
  stay = stay_none c.args.kept.now.keys;
  pairs = pairs_none (RanksStand c.args.ids.now c.args.kept.now.keys) (map row c.args.goals.now)
      (map row c.new-placed.result.items) (ap (map row) c.new-placed.ensures.items);
}

pub place_ranks-requires-clause-sets : goal.place_ranks-requires-clause-sets
place_ranks-requires-clause-sets c =
    subst (All (λ (r : Rank). r.set < length c.args.ids.now)) (sym c.as_slice.ensures.value)
    (at_index (All (λ (r : Rank). r.set < length c.args.ids.now)) (map row c.args.goals.now) c.loop-ranks.ranks-index
    c.ranks-item.result.items c.requires.sets
    (mapped_get row c.args.goals.now c.loop-ranks.ranks-index c.ranks-item.result
    (slice_get_read c.args.goals.now (length c.args.goals.now) c.loop-ranks.ranks-index c.ranks-item.result refl
    c.loop-ranks-test.true c.ranks-item.is)))

pub loop-ranks-preserved : goal.loop-ranks-preserved
loop-ranks-preserved c =
    let ids = c.args.ids.now in
    let before = c.loop-ranks.kept.keys in
    let after = c.place_ranks.new.kept.keys in
    let goals = c.args.goals.now in
    let index = c.loop-ranks.ranks-index in
    record {
      entries = c.in_ok-row.ensures.numbered;
      stay = stay_then c.args.kept.now.keys before after c.loop-ranks.invariant.stay c.in_ok-row.ensures.stay;
      pairs = pairs_more (RanksStand ids after) (map row goals) (map row c.loop-ranks.placed.items)
          (map row c.push.new.self.items) index c.ranks-item.result.items c.in_ok-row.row.items
          (ap (map row) c.in_ok-push.ensures.items ∙ map_more row c.loop-ranks.placed.items c.in_ok-row.row)
          (mapped_get row goals index c.ranks-item.result
          (slice_get_read goals (length goals) index c.ranks-item.result refl c.loop-ranks-test.true c.ranks-item.is))
          (subst (λ (xs : List Rank). RanksStand ids after xs c.in_ok-row.row.items) c.as_slice.ensures.value
          c.in_ok-row.ensures.part)
          (pairs_weaker (RanksStand ids before) (RanksStand ids after) (map row goals)
          (map row c.loop-ranks.placed.items) index
          (ranks_later ids before after c.in_ok-row.ensures.stay) c.loop-ranks.invariant.pairs);
    }

pub returns : goal.returns
returns c =
    let all : c.loop-ranks.ranks-index ≡ length (map row c.args.goals.now) =
    omega (arith, length-map c.args.goals.now row) in
    record {
      numbered = c.loop-ranks.invariant.entries;
      stay = c.loop-ranks.invariant.stay;
      part = subst
          (λ (n : ℕ). ArePairs (RanksStand c.args.ids.now c.loop-ranks.kept.keys) (map row c.args.goals.now)
          (map row c.loop-ranks.placed.items) n)
          all c.loop-ranks.invariant.pairs;
    }
