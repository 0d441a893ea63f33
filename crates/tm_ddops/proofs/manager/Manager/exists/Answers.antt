use Rattle.std.proofs.Common.{inl, subst, sym, Contains}
use Rattle.std.proofs.lemmas.Result.{IfOk-weaker}
use Rattle.tm_ddops.proofs.ChangeLists.{exists_of_changed}
use Rattle.tm_ddops.proofs.manager.Manager.exists.Goals as goal

pub returns-clause-grows : goal.returns-clause-grows
returns-clause-grows c = record {
  extends = c.eliminate.ensures.extends;
  results = λ o id h. inl (subst (λ rs. Contains rs (o, id)) (sym c.eliminate.ensures.results) h);
}

pub returns-clause-answer : goal.returns-clause-answer
returns-clause-answer c =
    let t = c.eliminate.new.self.table in
    IfOk-weaker c.eliminate.result _ _
    (λ id x. exists_of_changed t c.eliminate.ensures.manager.reduced c.args.levels.now c.args.f id x)
    c.eliminate.ensures.answer
