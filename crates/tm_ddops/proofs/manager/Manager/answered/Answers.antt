use Rattle.std.proofs.Common.{◌≡◌, Ok, ap, subst}
use Rattle.tm_dd.specs.declared.node.NodeId.{NodeId}
use Rattle.tm_ddops.specs.Manager.{Grows, Remembers}
use Rattle.tm_ddops.proofs.manager.Manager.answered.Goals as goal
use Rattle.tm_ddops.proofs.manager.Manager.answered.Goals.{In_default}
use Rattle.tm_ddops.proofs.manager.Manager.answered.Given.{Over}

-- the operation was not remembered
absent : (g : Over) (c : In_default g) (id : NodeId) → ¬ Remembers c.args.self.now c.args.operation id
absent g c id h = let found = c.known.ensures.found id h in let none = c.in_default.is in cc

pub walked-requires-clause-absent : goal.walked-requires-clause-absent
walked-requires-clause-absent g c other h =
    absent g (goal.at.walked-requires-clause-absent g c).In_default other
    (subst (λ m. Remembers m c.args.operation other) (c.known.ensures.missed c.in_default.is) h)

pub returns-in-Some-clause-remembers : goal.returns-in-Some-clause-remembers
returns-in-Some-clause-remembers g c = record {
  remembered = c.in-Some.ensures.remembered;
  answers = record {
    again = λ id h.
        let found = c.known.ensures.found id h in
        let is = c.in-Some.is in
        let same : c.in-Some.known ≡ id = cc in
        ap Ok same;
    again_same = λ id h. c.known.ensures.table;
    grows = c.known.ensures.grows;
  };
}

pub returns-clause-remembers : goal.returns-clause-remembers
returns-clause-remembers g c =
    let at = (goal.at.returns-clause-remembers g c).In_default in
    record {
      remembered = c.walked.ensures.remembered;
      answers = record {
        again = λ id h. absurd (absent g at id h);
        again_same = λ id h. absurd (absent g at id h);
        grows = subst (λ m. Grows m c.walked.new.self) (c.known.ensures.missed c.in_default.is) c.walked.ensures.grows;
      };
    }

pub returns-clause-again_free : goal.returns-clause-again_free
returns-clause-again_free g c id h = absurd (absent g (goal.at.returns-clause-again_free g c).In_default id h)
