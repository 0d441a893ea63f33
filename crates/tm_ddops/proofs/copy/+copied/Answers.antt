use Rattle.std.proofs.Common.{◌≢◌, ◌∙◌, ℕ, ap, refl, sym}
use Rattle.tm_dd.specs.NodeId.{IsConstant}
use Rattle.tm_ddops.specs.Copied.{AreCopies, IsCopy}
use Rattle.tm_ddops.proofs.Copies.{AreCopies-Extends, adds_node, copies_differ, copy_constant, copy_inner, copy_of_branches, hi_deeper, lo_deeper}
use Rattle.tm_ddops.proofs.FoundLemmas.{found_insert, found_unchanged}
use Rattle.tm_ddops.proofs.copy.+copied.Goals as goal
use Rattle.tm_ddops.proofs.copy.+copied.Goals.{After-make, In_ok-id}

pub returns-then-is_constant-clause-answer : goal.returns-then-is_constant-clause-answer
returns-then-is_constant-clause-answer t c =
    copy_constant c.args.from.now c.args.to.now c.requires.from c.requires.to c.requires.levels c.args.f
    (c.if-is_constant.ensures.0 refl) c.requires.known

pub returns-in-Some-clause-answer : goal.returns-in-Some-clause-answer
returns-in-Some-clause-answer t c = c.requires.found c.args.f c.in-Some.known.now (sym c.in-Some.ensures.value)

-- what was found before are copies still
were : (t : ℕ) (c : After-make t) → AreCopies c.args.from.now c.make.new.self c.copied-2.new.found
were t c = AreCopies-Extends c.args.from.now c.copied-2.new.to c.make.new.self c.make.ensures.extends
    c.copied-2.new.found c.copied-2.ensures.found

pub returns-in_err-id-clause-found : goal.returns-in_err-id-clause-found
returns-in_err-id-clause-found t c = were t (goal.at.returns-in_err-id-clause-found t c).After-make

pub returns-in_err-insert-clause-found : goal.returns-in_err-insert-clause-found
returns-in_err-insert-clause-found t c =
    found_unchanged (IsCopy c.args.from.now c.make.new.self) c.copied-2.new.found c.insert.new.self
    (were t (goal.at.returns-in_err-insert-clause-found t c).After-make) c.in_err-insert.ensures.err

answer : (t : ℕ) (c : In_ok-id t) → IsCopy c.args.from.now c.make.new.self c.args.f c.in_ok-id.id
answer t c =
    copy_of_branches c.args.from.now c.requires.from c.args.f c.requires.known c.node-node.result
    c.node-node.ensures.is_node
    c.copied.new.to c.copied-2.new.to c.copied-2.ensures.extends c.in_ok-lo.lo c.in_ok-hi.hi c.in_ok-lo.ensures.answer
    c.in_ok-hi.ensures.answer
    c.make.new.self
    (c.make.ensures.extends.same_levels ∙ c.copied-2.ensures.extends.same_levels ∙ c.copied.ensures.extends.same_levels
    ∙ c.requires.levels)
    (c.make.ensures.extends.same_ranks ∙ c.copied-2.ensures.extends.same_ranks ∙ c.copied.ensures.extends.same_ranks
    ∙ c.requires.ranks)
    c.in_ok-id.id c.in_ok-id.ensures.known c.in_ok-id.ensures.deep c.in_ok-id.ensures.meaning

pub returns-clause-found : goal.returns-clause-found
returns-clause-found t c =
    found_insert (IsCopy c.args.from.now c.make.new.self) c.copied-2.new.found c.insert.new.self
    (were t (goal.at.returns-clause-found t c).After-make) c.args.f c.in_ok-id.id c.in_ok-insert.ensures.updates
    (answer t (goal.at.returns-clause-found t c).In_ok-id)

pub returns-clause-answer : goal.returns-clause-answer
returns-clause-answer t c = answer t (goal.at.returns-clause-answer t c).In_ok-id

pub returns-clause-reached : goal.returns-clause-reached
returns-clause-reached t c =
    let inner : ¬ IsConstant c.args.f = λ h. let e = c.if-is_constant.ensures.1 h in cc in
    let apart : c.in_ok-lo.lo ≢ c.in_ok-hi.hi =
    copies_differ c.args.from.now c.requires.from c.args.f c.requires.known c.node-node.result
    c.node-node.ensures.is_node
    c.copied.new.to c.copied-2.new.to c.copied-2.ensures.extends c.in_ok-lo.lo c.in_ok-hi.hi c.in_ok-lo.ensures.answer
    c.in_ok-hi.ensures.answer in
    adds_node c.args.to.now c.copied.new.to c.copied-2.new.to c.make.new.self c.copied.ensures.reduced
    c.copied-2.ensures.reduced
    c.copied-2.ensures.extends c.make.ensures.extends c.in_ok-lo.lo c.in_ok-hi.hi c.in_ok-id.id
    c.in_ok-lo.ensures.answer.known c.in_ok-hi.ensures.answer.known c.in_ok-lo.ensures.reached
    c.in_ok-hi.ensures.reached
    (copy_inner c.args.from.now c.make.new.self c.requires.from c.args.f c.in_ok-id.id
    (answer t (goal.at.returns-clause-reached t c).In_ok-id) inner)
    (ap (λ n. n.lo) (c.in_ok-id.ensures.node apart)) (ap (λ n. n.hi) (c.in_ok-id.ensures.node apart))
    c.in_ok-id.ensures.added

pub make-requires-clause-lo_deeper : goal.make-requires-clause-lo_deeper
make-requires-clause-lo_deeper t c =
    lo_deeper c.args.from.now c.requires.from c.args.f c.requires.known c.node-node.result c.node-node.ensures.is_node
    c.copied.new.to c.copied-2.new.to c.copied-2.ensures.extends c.in_ok-lo.lo c.in_ok-hi.hi c.in_ok-lo.ensures.answer
    c.in_ok-hi.ensures.answer
    (c.copied-2.ensures.extends.same_levels ∙ c.copied.ensures.extends.same_levels ∙ c.requires.levels)
    (c.copied-2.ensures.extends.same_ranks ∙ c.copied.ensures.extends.same_ranks ∙ c.requires.ranks)

pub make-requires-clause-hi_deeper : goal.make-requires-clause-hi_deeper
make-requires-clause-hi_deeper t c =
    hi_deeper c.args.from.now c.requires.from c.args.f c.requires.known c.node-node.result c.node-node.ensures.is_node
    c.copied.new.to c.copied-2.new.to c.copied-2.ensures.extends c.in_ok-lo.lo c.in_ok-hi.hi c.in_ok-lo.ensures.answer
    c.in_ok-hi.ensures.answer
    (c.copied-2.ensures.extends.same_levels ∙ c.copied.ensures.extends.same_levels ∙ c.requires.levels)
    (c.copied-2.ensures.extends.same_ranks ∙ c.copied.ensures.extends.same_ranks ∙ c.requires.ranks)
