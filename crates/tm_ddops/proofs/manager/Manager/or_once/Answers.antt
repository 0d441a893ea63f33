use Rattle.std.proofs.Common.{Bool, true, false, ◌≡◌, ◌||◌, if◌then◌else◌, ◌∙◌, refl, ap}
use Rattle.std.proofs.lemmas.Result.{IfOk-weaker}
use Rattle.tm_dd.specs.declared.node.TheConstants.{TRUE}
use Rattle.tm_dd.specs.Table.{means}
use Rattle.tm_dd.proofs.CallerLaws.{means-TRUE}
use Rattle.tm_ddops.proofs.manager.Manager.or_once.Goals as goal

one : (a b : Bool) → (if a then true else b) ≡ a || b
one true b = refl
one false b = refl

pub returns-clause-answer : goal.returns-clause-answer
returns-clause-answer c =
    let t = c.ite_once.new.self.table in
    IfOk-weaker c.ite_once.result _ _
    (λ id r. record {
      known = r.known;
      meaning = λ v. r.meaning v
          ∙ ap (λ x. if means t c.args.f v then x else means t c.args.g v) (means-TRUE t v)
          ∙ one (means t c.args.f v) (means t c.args.g v);
    })
    c.ite_once.ensures.answer
