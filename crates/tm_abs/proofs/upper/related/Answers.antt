use Rattle.std.proofs.Common.{inl, not, ◌&&◌, IfOk, subst, arith}
use Rattle.std.proofs.lemmas.Result.{IfOk-weaker}
use Rattle.tm_abs.proofs.Turning.{related_then}
use Rattle.tm_dd.specs.declared.node.NodeId.{NodeId}
use Rattle.tm_dd.specs.declared.node.TheConstants.{TRUE}
use Rattle.tm_dd.specs.NodeId.{complement}
use Rattle.tm_dd.specs.Table.{means}
use Rattle.tm_ddops.specs.Connective.{xor}
use Rattle.tm_ddops.specs.Manager.{IsFunction}
use Rattle.tm_game.proofs.Growing.{grows_then, known_kept}
use Rattle.tm_abs.proofs.upper.related.Goals as goal

pub make-requires-clause-lo_deeper : goal.make-requires-clause-lo_deeper
make-requires-clause-lo_deeper c = inl (omega arith)

pub make-requires-clause-hi_deeper : goal.make-requires-clause-hi_deeper
make-requires-clause-hi_deeper c = inl (omega arith)

pub xor-requires : goal.xor-requires
xor-requires c = record {
  f = c.in_ok-bit.ensures.answer.known;
  g = known_kept c.args.game.now c.make.new.self c.make.ensures.grows c.args.holds c.requires.holds;
}

pub and-requires : goal.and-requires
and-requires c = record {
  f = known_kept c.args.game.now c.xor.new.self
      (grows_then c.args.game.now c.make.new.self c.xor.new.self c.make.ensures.grows c.xor.ensures.grows) c.args.set
      c.requires.set;
  g = c.complement.ensures.known c.xor.new.self.diagrams.table c.in_ok-differs.ensures.answer.known;
}

pub returns-in_err-differs-clause-grows : goal.returns-in_err-differs-clause-grows
returns-in_err-differs-clause-grows c =
    grows_then c.args.game.now c.make.new.self c.xor.new.self c.make.ensures.grows c.xor.ensures.grows

pub returns-clause-grows : goal.returns-clause-grows
returns-clause-grows c =
    grows_then c.args.game.now c.xor.new.self c.and.new.self
    (grows_then c.args.game.now c.make.new.self c.xor.new.self c.make.ensures.grows c.xor.ensures.grows)
    c.and.ensures.grows

pub returns-clause-related : goal.returns-clause-related
returns-clause-related c =
    let r = c.args.game.now.diagrams.table in
    let s = c.make.new.self.diagrams.table in
    let t = c.xor.new.self.diagrams.table in
    let u = c.and.new.self.diagrams.table in
    let differs = c.in_ok-differs.differs in
    IfOk-weaker c.and.result
    (λ id. IsFunction u id (λ v. means u c.args.set v && means u (complement differs) v))
    (λ id. IsFunction u id (λ v. means r c.args.set v && not (xor (v c.args.level) (means r c.args.holds v))))
    (λ id is. related_then r s t u c.make.ensures.grows.diagrams c.xor.ensures.grows.diagrams
    c.and.ensures.grows.diagrams c.args.set c.args.level c.args.holds c.in_ok-bit.bit differs id c.requires.set
    c.requires.holds c.in_ok-bit.ensures.answer c.in_ok-differs.ensures.answer is)
    (subst (λ (turned : NodeId). IfOk c.and.result
    (λ id. IsFunction u id (λ v. means u c.args.set v && means u turned v))) c.complement.ensures.value
    c.and.ensures.answer)
