use Rattle.std.proofs.Common.{Bool, true, false, ◌≡◌, ◌&&◌, if◌then◌else◌, ◌∙◌, refl, ap}
use Rattle.std.proofs.lemmas.Result.{IfOk-weaker}
use Rattle.tm_dd.specs.declared.node.TheConstants.{FALSE}
use Rattle.tm_dd.specs.Table.{means}
use Rattle.tm_dd.proofs.CallerLaws.{means-FALSE}
use Rattle.tm_ddops.proofs.manager.Manager.and_once.Goals as goal

both : (a b : Bool) → (if a then b else false) ≡ a && b
both true b = refl
both false b = refl

pub returns-clause-answer : goal.returns-clause-answer
returns-clause-answer c =
    let t = c.ite_once.new.self.table in
    IfOk-weaker c.ite_once.result _ _
    (λ id r. record {
      known = r.known;
      meaning = λ v. r.meaning v
          ∙ ap (λ x. if means t c.args.f v then means t c.args.g v else x) (means-FALSE t v)
          ∙ both (means t c.args.f v) (means t c.args.g v);
    })
    c.ite_once.ensures.answer
