use Rattle.std.proofs.Common.{inl, refl, sym, ap, subst, ◌∙◌, Contains, Ok}
use Rattle.std.proofs.lemmas.Result.{IfOk-weaker}
use Rattle.tm_dd.specs.Table.{kept, means}
use Rattle.tm_dd.proofs.CallerLaws.{Extends-refl}
use Rattle.tm_ddops.specs.Choice.{IsChoice, KnowsChoice, choice_value}
use Rattle.tm_ddops.specs.Connective.{AreTwoNodes, connective_operation, connective_value}
use Rattle.tm_ddops.specs.Manager.{Grows, IsFunction, IsManager, IsResult, Remembers}
use Rattle.tm_ddops.specs.Inner.Memo.{HasOpen}
use Rattle.tm_ddops.specs.Operation.{operands, operation_value}
use Rattle.tm_ddops.specs.Remembering.{RemembersResult}
use Rattle.tm_ddops.proofs.Connectives.{same_value, operands_known, function_of_result, function_of_choice, result_of_function, rises_by_pairs, rises_by_none}
use Rattle.tm_ddops.proofs.Facts.{same_ids}
use Rattle.tm_ddops.proofs.Pairs.{knows_connective}
use Rattle.tm_ddops.proofs.Results.{one_result}
use Rattle.tm_ddops.proofs.manager.Manager.binary.Goals as goal
use Rattle.tm_ddops.proofs.manager.Manager.binary.Goals.{In-Some, then-is_constant-via-then-is_constant, then-is_constant-via-else-is_constant+then-is_constant-2, then-is_constant-via-else-is_constant+else-is_constant-2+then-eq}
use Rattle.tm_ddops.proofs.manager.Manager.binary.Given.{Over}

pub answered-requires : goal.answered-requires
answered-requires g c =
    let s = c.args.self.now.table in
    record {
      operands = λ h x. operands_known s c.args.connective c.args.f c.args.g c.requires.f c.requires.g h
          (subst (λ o. Contains (operands o) h) c.operation.ensures x);
      choice = subst (KnowsChoice s) (sym c.choice-choice.ensures)
          (knows_connective s c.args.connective c.args.f c.args.g c.requires.f c.requires.g);
      same = λ t v. (λ i. choice_value t (c.choice-choice.ensures i) v)
          ∙ same_value c.args.connective c.args.f c.args.g t v ∙ sym (λ i. operation_value t (c.operation.ensures i) v);
    }

-- what holds of the manager at the call
manager : (g : Over) (c : In-Some g) → IsManager c.args.self.now
manager g c = subst IsManager c.self.view_is c.self.invariant.manager

function : (g : Over) (c : In-Some g) →
    IsFunction c.args.self.now.table c.in-Some.known
    (λ v. connective_value c.args.connective (means c.args.self.now.table c.args.f v)
    (means c.args.self.now.table c.args.g v))
function g c =
    let s = c.args.self.now.table in
    function_of_choice s c.args.connective c.args.f c.args.g c.in-Some.known
    (subst (λ k. IsChoice s k c.in-Some.known) c.choice-choice.ensures
    (c.in-Some.ensures.answer s (manager g c).reduced
    (subst (KnowsChoice s) (sym c.choice-choice.ensures)
    (knows_connective s c.args.connective c.args.f c.args.g c.requires.f c.requires.g))))

pub returns-in-Some-clause-manager : goal.returns-in-Some-clause-manager
returns-in-Some-clause-manager g c = manager g c

-- the manager is left as it was
grows : (g : Over) (c : In-Some g) → Grows c.args.self.now c.args.self.now
grows g c = record { extends = Extends-refl c.args.self.now.table; results = λ o id h. inl h }

pub returns-in-Some-clause-grows : goal.returns-in-Some-clause-grows
returns-in-Some-clause-grows g c = grows g c

pub returns-in-Some-clause-answer : goal.returns-in-Some-clause-answer
returns-in-Some-clause-answer g c = function g c

pub returns-in-Some-clause-requests : goal.returns-in-Some-clause-requests
returns-in-Some-clause-requests g c =
    rises_by_none c.args.self.now.table (manager g c).reduced c.args.f c.args.g c.requires.f c.requires.g
    c.args.steps.now

-- what is known without a walk is no result of two inner nodes
not_two : (g : Over) (c : In-Some g) → ¬ AreTwoNodes c.args.f c.args.g
not_two g c two =
    elim c.then-is_constant.branch [
      | then-is_constant-via-then-is_constant w ↦ two.f_inner (w.if-is_constant.ensures.0 refl)
      | then-is_constant-via-else-is_constant+then-is_constant-2 w ↦ two.g_inner (w.if-is_constant-2.ensures.0 refl)
      | then-is_constant-via-else-is_constant+else-is_constant-2+then-eq w ↦
          two.differ (same_ids c.args.f c.args.g w.if-eq.ensures)
    ]

pub returns-in-Some-clause-remembers : goal.returns-in-Some-clause-remembers
returns-in-Some-clause-remembers g c =
    let s = c.args.self.now.table in
    let o = connective_operation c.args.connective c.args.f c.args.g in
    record {
      remembered = λ two. absurd (not_two g c two);
      answers = record {
        again = λ id h. ap Ok (one_result s (manager g c).reduced o c.in-Some.known id
            (result_of_function s c.args.connective c.args.f c.args.g c.in-Some.known c.requires.f c.requires.g
            (function g c))
            ((manager g c).results o id h));
        again_same = λ id h. refl;
        grows = grows g c;
      };
      nodes = rises_by_none s (manager g c).reduced c.args.f c.args.g c.requires.f c.requires.g (kept s);
    }

pub returns-clause-answer : goal.returns-clause-answer
returns-clause-answer g c =
    IfOk-weaker c.answered.result _ _
    (λ id r. function_of_result c.answered.new.self.table c.args.connective c.args.f c.args.g id
    (subst (λ o. IsResult c.answered.new.self.table o id) c.operation.ensures r))
    c.answered.ensures.answer

pub returns-clause-requests : goal.returns-clause-requests
returns-clause-requests g c =
    let m = subst IsManager c.self.view_is c.self.invariant.manager in
    rises_by_pairs c.args.self.now.table c.answered.new.self.table m.reduced c.answered.ensures.manager.reduced
    c.answered.ensures.grows.extends
    c.args.connective c.args.f c.args.g c.requires.f c.requires.g c.args.steps.now c.answered.new.steps
    (λ choices has. c.answered.ensures.requests choices
    (subst (λ k. HasOpen c.answered.new.self.table k choices) (sym c.choice-choice.ensures) has))

pub returns-clause-remembers : goal.returns-clause-remembers
returns-clause-remembers g c =
    let m = subst IsManager c.self.view_is c.self.invariant.manager in
    let own = subst (λ o. RemembersResult o c.args.self.now c.answered.new.self c.answered.result) c.operation.ensures
    c.answered.ensures.remembers in
    record {
      remembered = λ two. own.remembered;
      answers = own.answers;
      nodes = rises_by_pairs c.args.self.now.table c.answered.new.self.table m.reduced
          c.answered.ensures.manager.reduced c.answered.ensures.grows.extends c.args.connective c.args.f c.args.g
          c.requires.f c.requires.g (kept c.args.self.now.table) (kept c.answered.new.self.table)
          (λ choices has. c.answered.ensures.nodes choices
          (subst (λ k. HasOpen c.answered.new.self.table k choices) (sym c.choice-choice.ensures) has));
    }

pub returns-clause-again_free : goal.returns-clause-again_free
returns-clause-again_free g c id h =
    c.answered.ensures.again_free id (subst (λ o. Remembers c.args.self.now o id) (sym c.operation.ensures) h)
