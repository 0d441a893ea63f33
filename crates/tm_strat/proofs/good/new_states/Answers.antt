use Rattle.std.proofs.Common.{◌&&◌, not, List, sym, ap, ◌∙◌, subst}
use Rattle.tm_dd.specs.declared.node.NodeId.{NodeId}
use Rattle.tm_ddops.specs.Manager.{IsFunction}
use Rattle.tm_strat.proofs.Zoning.{both_of, function_kept, rest_of}
use Rattle.tm_strat.specs.Choice.{id_in}
use Rattle.tm_strat.proofs.good.new_states.Goals as goal

pub returns-clause-are : goal.returns-clause-are
returns-clause-are c =
    λ f b set fair fails befores sets fairs.
    let g0 = c.args.game.now in
    let g1 = c.both.new.game in
    let g2 = c.rest.new.game in
    let g3 = c.rest-2.new.game in
    let g4 = c.both-2.new.game in
    let fair_is : IsFunction g0.diagrams.table c.id_at-fair.result fair =
    subst (λ (id : NodeId). IsFunction g0.diagrams.table id fair)
    (sym (c.id_at-fair.ensures ∙ ap (λ (l : List NodeId). id_in l c.args.rank.fair) c.fairs.ensures.value)) fairs in
    let inside : IsFunction g1.diagrams.table c.in_ok-inside.inside (λ v. f v && set v) =
    both_of g0 g1 c.both.ensures.grows c.args.failing c.args.rank.set c.in_ok-inside.inside f set fails sets
    c.in_ok-inside.ensures.answer in
    let added : IsFunction g2.diagrams.table c.in_ok-added.added (λ v. (f v && set v) && not (b v)) =
    rest_of g1 g2 c.rest.ensures.grows c.in_ok-inside.inside c.args.before c.in_ok-added.added (λ v. f v && set v) b
    inside (function_kept g0 g1 c.both.ensures.grows c.args.before b befores) c.in_ok-added.ensures.answer in
    let fair_2 : IsFunction g2.diagrams.table c.id_at-fair.result fair =
    function_kept g1 g2 c.rest.ensures.grows c.id_at-fair.result fair
    (function_kept g0 g1 c.both.ensures.grows c.id_at-fair.result fair fair_is) in
    let waiting : IsFunction g3.diagrams.table c.in_ok-waiting.waiting
    (λ v. ((f v && set v) && not (b v)) && not (fair v)) =
    rest_of g2 g3 c.rest-2.ensures.grows c.in_ok-added.added c.id_at-fair.result c.in_ok-waiting.waiting
    (λ v. (f v && set v) && not (b v)) fair added fair_2 c.in_ok-waiting.ensures.answer in
    let falling : IsFunction g4.diagrams.table c.in_ok-falling.falling
    (λ v. ((f v && set v) && not (b v)) && fair v) =
    both_of g3 g4 c.both-2.ensures.grows c.in_ok-added.added c.id_at-fair.result c.in_ok-falling.falling
    (λ v. (f v && set v) && not (b v)) fair
    (function_kept g2 g3 c.rest-2.ensures.grows c.in_ok-added.added (λ v. (f v && set v) && not (b v)) added)
    (function_kept g2 g3 c.rest-2.ensures.grows c.id_at-fair.result fair fair_2) c.in_ok-falling.ensures.answer in
    record {
      waiting = function_kept g3 g4 c.both-2.ensures.grows c.in_ok-waiting.waiting
          (λ v. ((f v && set v) && not (b v)) && not (fair v)) waiting;
      falling = falling;
    }
