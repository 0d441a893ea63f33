use Rattle.std.proofs.Common.{ℕ, List, IfOk, subst}
use Rattle.std.proofs.lemmas.Result.{IfOk-weaker}
use Rattle.tm_abs.proofs.Turning.{put_then}
use Rattle.tm_abs.specs.Inner.Quantified.{IsPutTo}
use Rattle.tm_dd.specs.Table.{means}
use Rattle.tm_ddops.specs.Quantified.{IsExists}
use Rattle.tm_game.proofs.Growing.{grows_then}
use Rattle.tm_abs.proofs.upper.take_turn.Goals as goal

pub exists-requires : goal.exists-requires
exists-requires c = record { known = c.in_ok-related.ensures.related.known }

pub returns-clause-grows : goal.returns-clause-grows
returns-clause-grows c =
    grows_then c.args.game.now c.related.new.game c.exists.new.self c.related.ensures.grows c.exists.ensures.grows

pub returns-clause-taken : goal.returns-clause-taken
returns-clause-taken c =
    let r = c.args.game.now.diagrams.table in
    let t = c.exists.new.self.diagrams.table in
    let turn = c.args.turn.now in
    let related = c.in_ok-related.related in
    IfOk-weaker c.exists.result (IsExists t turn.ends.items related)
    (IsPutTo t turn.level (means r turn.holds) turn.ends.items (means r c.args.set))
    (λ id is. put_then c.related.new.game.diagrams.table t c.exists.ensures.grows.diagrams turn.level
    (means r turn.holds) turn.ends.items (means r c.args.set) related id c.in_ok-related.ensures.related is)
    (subst (λ (ks : List ℕ). IfOk c.exists.result (IsExists t ks related)) c.deref.ensures.value
    c.exists.ensures.answer)
