use Rattle.std.proofs.Common.{sym, subst, Contains}
use Rattle.tm_dd.specs.Table.{means}
use Rattle.tm_ddops.specs.declared.operation.Operation.TheVariants.{Compose}
use Rattle.tm_ddops.specs.Manager.{Grows, IsFunction, IsResult, Remembers}
use Rattle.tm_ddops.specs.Operation.{substituted}
use Rattle.tm_ddops.proofs.Sound.{grows_after}
use Rattle.tm_ddops.proofs.manager.Manager.compose.Goals as goal

pub remembered-requires : goal.remembered-requires
remembered-requires c = record {
  absent = λ other h.
      let before = subst (λ rs. Contains rs (Compose c.args.f c.in_ok-from_slice.field-0, other))
      c.composed.ensures.results h in
      let found = c.known.ensures.found other
      (subst (λ m. Remembers m (Compose c.args.f c.in_ok-from_slice.field-0) other)
      (c.known.ensures.missed c.in_default.is) before) in
      let none = c.in_default.is in cc;
  result = subst (λ parts. IsResult c.composed.new.self.table (Compose c.args.f parts) c.in_ok-answer.answer)
      (sym c.in_ok-from_slice.ensures) c.in_ok-answer.ensures.answer;
}

pub returns-in_err-remembered-clause-grows : goal.returns-in_err-remembered-clause-grows
returns-in_err-remembered-clause-grows c =
    subst (λ m. Grows m c.remembered.new.self) (c.known.ensures.missed c.in_default.is)
    (grows_after c.known.new.self c.composed.new.self c.remembered.new.self c.composed.ensures.extends
    c.composed.ensures.results c.remembered.ensures.grows)

pub returns-clause-grows : goal.returns-clause-grows
returns-clause-grows c =
    subst (λ m. Grows m c.remembered.new.self) (c.known.ensures.missed c.in_default.is)
    (grows_after c.known.new.self c.composed.new.self c.remembered.new.self c.composed.ensures.extends
    c.composed.ensures.results c.remembered.ensures.grows)

pub returns-clause-answer : goal.returns-clause-answer
returns-clause-answer c =
    subst (λ t. IsFunction t c.in_ok-answer.answer (λ v. means t c.args.f (substituted t c.args.parts.now v)))
    (sym c.remembered.ensures.table) c.in_ok-answer.ensures.answer.function

pub returns-clause-remembered : goal.returns-clause-remembered
returns-clause-remembered c =
    subst (λ parts. Remembers c.remembered.new.self (Compose c.args.f parts) c.in_ok-answer.answer)
    c.in_ok-from_slice.ensures c.in_ok-remembered.ensures.there
