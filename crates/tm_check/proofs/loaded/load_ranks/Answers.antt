use Rattle.std.proofs.Common.{◌≡◌, ℕ, ◌+◌, true, List, get_or, map, refl, sym, ap, ◌∙◌, subst, arith}
use Rattle.std.specs.Option.{option_map}
use Rattle.std.proofs.lemmas.List.{length-map}
use Rattle.std.proofs.lemmas.Option.{slice_get-get_or, slice_get-map}
use Rattle.tm_check.proofs.Growth.{or_before}
use Rattle.tm_cert.specs.declared.cert.Rank.{Rank}
use Rattle.tm_check.specs.declared.loaded.RankedDiagrams.{RankedDiagrams}
use Rattle.tm_check.proofs.Keeping.{ids_known, loaded_kept}
use Rattle.tm_check.proofs.Ranking.{AreFirstRanks, ranks_all, ranks_more, ranks_none}
use Rattle.tm_check.proofs.loaded.load_ranks.Goals as goal
use Rattle.tm_dd.specs.declared.node.TheConstants.{FALSE}
use Rattle.tm_game.specs.Game.{IsStates}
use Rattle.tm_game.proofs.Growing.{grows_none, grows_then, known_kept, of_kept}
use Rattle.tm_verdict.specs.Sets.{ranked_set, set_of}

pub loop-rank-init : goal.loop-rank-init
loop-rank-init c = record {
  grows = grows_none c.args.game.now;
  ranks = λ d nodes is.
      subst (λ (xs : List RankedDiagrams). AreFirstRanks d c.args.game.now
      (map (ranked_set d c.args.game.now.order nodes) c.args.ranks.now) 0 xs FALSE) (sym c.new-told.ensures.items)
      (ranks_none d c.args.game.now (map (ranked_set d c.args.game.now.order nodes) c.args.ranks.now));
}

pub load_set-requires-clause-of : goal.load_set-requires-clause-of
load_set-requires-clause-of c =
    let has = c.requires.loaded in
    (has.0, of_kept c.args.game.now c.loop-rank.game c.loop-rank.invariant.grows has.0 has.2.of)

pub load_set-requires-clause-known : goal.load_set-requires-clause-known
load_set-requires-clause-known c =
    let has = c.requires.loaded in
    ids_known has.0 c.loop-rank.game has.1 c.args.ids.now
    (loaded_kept has.0 c.args.game.now c.loop-rank.game c.loop-rank.invariant.grows has.1 c.args.ids.now has.2)

pub returns-in_err-set-clause-grows : goal.returns-in_err-set-clause-grows
returns-in_err-set-clause-grows c =
    grows_then c.args.game.now c.loop-rank.game c.load_set.new.game c.loop-rank.invariant.grows
    c.load_set.ensures.grows

pub or-requires-clause-f : goal.or-requires-clause-f
or-requires-clause-f c =
    let has = c.requires.loaded in
    known_kept c.loop-rank.game c.load_set.new.game c.load_set.ensures.grows c.loop-rank.before
    (c.loop-rank.invariant.ranks has.0 has.1 has.2).before_is.known

pub or-requires-clause-g : goal.or-requires-clause-g
or-requires-clause-g c =
    let has = c.requires.loaded in
    let now = loaded_kept has.0 c.args.game.now c.loop-rank.game c.loop-rank.invariant.grows has.1 c.args.ids.now
    has.2 in
    (c.in_ok-set.ensures.states has.0 has.1 now.of now.order now.nodes_are now.loaded).known

pub returns-in_err-within-clause-grows : goal.returns-in_err-within-clause-grows
returns-in_err-within-clause-grows c =
    grows_then c.args.game.now c.load_set.new.game c.or.new.self
    (grows_then c.args.game.now c.loop-rank.game c.load_set.new.game c.loop-rank.invariant.grows
    c.load_set.ensures.grows) c.or.ensures.grows

pub returns-in_err-push-clause-grows : goal.returns-in_err-push-clause-grows
returns-in_err-push-clause-grows c =
    grows_then c.args.game.now c.load_set.new.game c.or.new.self
    (grows_then c.args.game.now c.loop-rank.game c.load_set.new.game c.loop-rank.invariant.grows
    c.load_set.ensures.grows) c.or.ensures.grows

pub loop-rank-preserved : goal.loop-rank-preserved
loop-rank-preserved c = record {
  grows = grows_then c.args.game.now c.load_set.new.game c.or.new.self
      (grows_then c.args.game.now c.loop-rank.game c.load_set.new.game c.loop-rank.invariant.grows
      c.load_set.ensures.grows) c.or.ensures.grows;
  ranks = λ d nodes is.
      let spare : Rank = record { fair = 0; set = 0 } in
      let rank = get_or c.args.ranks.now c.loop-rank.rank-index spare in
      let ranked = map (ranked_set d c.args.game.now.order nodes) c.args.ranks.now in
      let now = loaded_kept d c.args.game.now c.loop-rank.game c.loop-rank.invariant.grows nodes c.args.ids.now is in
      let so_far = c.loop-rank.invariant.ranks d nodes is in
      let set_is = subst (λ (o : List ℕ). IsStates d c.loop-rank.game.order c.load_set.new.game.diagrams.table
      (λ s. set_of d o nodes rank.set s ≡ true) c.in_ok-set.set) c.loop-rank.invariant.grows.order
      (c.in_ok-set.ensures.states d nodes now.of now.order now.nodes_are now.loaded) in
      subst (λ (xs : List RankedDiagrams). AreFirstRanks d c.or.new.self ranked (c.loop-rank.rank-index + 1) xs
      c.in_ok-within.within) (sym c.in_ok-push.ensures.items)
      (ranks_more d c.loop-rank.game c.load_set.new.game c.or.new.self ranked c.loop-rank.rank-index
      c.loop-rank.told.items c.loop-rank.before c.in_ok-set.set c.in_ok-within.within
      (ranked_set d c.args.game.now.order nodes rank)
      (record {
        fair = rank.fair;
        set = c.in_ok-set.set;
        within = c.in_ok-within.within;
        before = c.loop-rank.before;
      }) c.load_set.ensures.grows c.or.ensures.grows so_far
      (slice_get-map (ranked_set d c.args.game.now.order nodes) c.args.ranks.now c.loop-rank.rank-index
      ∙ ap (option_map (ranked_set d c.args.game.now.order nodes))
      (slice_get-get_or c.args.ranks.now c.loop-rank.rank-index spare c.loop-rank-test.true)) refl refl refl refl set_is
      (or_before c.load_set.new.game.diagrams.table c.or.new.self.diagrams.table c.or.ensures.grows.diagrams
      c.loop-rank.before c.in_ok-set.set c.in_ok-within.within
      (known_kept c.loop-rank.game c.load_set.new.game c.load_set.ensures.grows c.loop-rank.before
      so_far.before_is.known) set_is.known c.in_ok-within.ensures.answer));
}

pub returns-clause-ranks : goal.returns-clause-ranks
returns-clause-ranks c = λ d nodes is.
    let ranked = map (ranked_set d c.args.game.now.order nodes) c.args.ranks.now in
    ranks_all d c.args.game.now c.loop-rank.game c.loop-rank.invariant.grows ranked c.loop-rank.rank-index
    c.loop-rank.told.items c.loop-rank.before
    (omega (
      arith,
      length-map c.args.ranks.now (ranked_set d c.args.game.now.order nodes),
      c.loop-rank-test.false,
      c.loop-rank.auto.rank-index-end,
    )) (c.loop-rank.invariant.ranks d nodes is)
