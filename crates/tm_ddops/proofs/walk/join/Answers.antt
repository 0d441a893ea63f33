use Rattle.std.proofs.Common.{◌≡◌, ℕ, inr, false, true, if◌then◌else◌, ap, ◌∙◌, arith}
use Rattle.tm_dd.specs.Table.{Table, means, rank_of}
use Rattle.tm_dd.proofs.CallerLaws.{rank_of-Extends}
use Rattle.tm_ddops.specs.declared.choice.Choice.{Choice}
use Rattle.tm_ddops.specs.Choice.{IsChoice, choice_depth, choice_level}
use Rattle.tm_ddops.proofs.Choices.{choice_level-open, choice_depth-cofactor_choice, choice_of_branches, rank_of-choice_level}
use Rattle.tm_ddops.proofs.Walks.{AreChoices-Extends, AreChoices-unchanged, AreChoices-insert, NotesOnlyMet-insert, NotesOnlyMet-unchanged, IsUnnoted-here, unchanged_absent, on_err}
use Rattle.tm_ddops.proofs.walk.join.Goals as goal
use Rattle.tm_ddops.proofs.walk.join.Given.{Over}

-- the node stands where the choice does
rank : (s : Table) (k : Choice) (level : ℕ) → level ≡ choice_level s k → rank_of s level ≡ choice_depth s k
rank s k level is = ap (rank_of s) is ∙ rank_of-choice_level s k

pub branch-store-requires-clause-level : goal.branch-store-requires-clause-level
branch-store-requires-clause-level g c =
    omega (
      arith,
      c.requires.level,
      choice_level-open c.args.store.now c.requires.reduced c.args.choice c.requires.known c.requires.open,
    )

pub branch-store-requires-clause-lo_deeper : goal.branch-store-requires-clause-lo_deeper
branch-store-requires-clause-lo_deeper g c =
    let within = choice_level-open c.args.store.now c.requires.reduced c.args.choice c.requires.known c.requires.open in
    inr (omega (
      arith,
      rank c.args.store.now c.args.choice c.args.level c.requires.level,
      c.requires.lo.deep,
      choice_depth-cofactor_choice c.args.store.now c.requires.reduced c.args.choice c.requires.known within false,
    ))

pub branch-store-requires-clause-hi_deeper : goal.branch-store-requires-clause-hi_deeper
branch-store-requires-clause-hi_deeper g c =
    let within = choice_level-open c.args.store.now c.requires.reduced c.args.choice c.requires.known c.requires.open in
    inr (omega (
      arith,
      rank c.args.store.now c.args.choice c.args.level c.requires.level,
      c.requires.hi.deep,
      choice_depth-cofactor_choice c.args.store.now c.requires.reduced c.args.choice c.requires.known within true,
    ))

pub returns-in_err-id-clause-notes : goal.returns-in_err-id-clause-notes
returns-in_err-id-clause-notes g c =
    AreChoices-Extends c.args.store.now c.branch-store.new.store c.branch-store.ensures.extends c.args.memo.now
    c.requires.notes

pub returns-in_err-insert-clause-notes : goal.returns-in_err-insert-clause-notes
returns-in_err-insert-clause-notes g c =
    AreChoices-unchanged c.branch-store.new.store c.args.memo.now c.insert.new.self c.in_err-insert.ensures.err
    (AreChoices-Extends c.args.store.now c.branch-store.new.store c.branch-store.ensures.extends c.args.memo.now
    c.requires.notes)

-- the id is that of the choice
answer : (g : Over) (c : goal.In_ok-insert g) → IsChoice c.branch-store.new.store c.args.choice c.in_ok-id.id
answer g c =
    choice_of_branches c.args.store.now c.branch-store.new.store c.requires.reduced c.branch-store.ensures.extends
    c.args.choice c.requires.known
    (choice_level-open c.args.store.now c.requires.reduced c.args.choice c.requires.known c.requires.open)
    c.args.lo c.args.hi c.in_ok-id.id c.requires.lo c.requires.hi c.in_ok-id.ensures.known
    (omega (
      arith,
      rank c.args.store.now c.args.choice c.args.level c.requires.level,
      rank_of-Extends c.args.store.now c.branch-store.new.store c.branch-store.ensures.extends c.args.level,
      c.in_ok-id.ensures.deep,
    ))
    (λ v. c.in_ok-id.ensures.meaning v
    ∙ ap (λ l. if v l then means c.args.store.now c.args.hi v else means c.args.store.now c.args.lo v) c.requires.level)

pub returns-clause-notes : goal.returns-clause-notes
returns-clause-notes g c =
    AreChoices-insert c.branch-store.new.store c.args.memo.now c.insert.new.self c.args.choice c.in_ok-id.id
    c.in_ok-insert.ensures.updates
    (AreChoices-Extends c.args.store.now c.branch-store.new.store c.branch-store.ensures.extends c.args.memo.now
    c.requires.notes)
    (answer g c)

pub returns-clause-answer : goal.returns-clause-answer
returns-clause-answer g c = answer g c

pub returns-in_err-insert-clause-met : goal.returns-in_err-insert-clause-met
returns-in_err-insert-clause-met g c =
    NotesOnlyMet-unchanged c.branch-store.new.store c.args.choice c.args.memo.now c.insert.new.self
    c.in_err-insert.ensures.err

pub returns-clause-met : goal.returns-clause-met
returns-clause-met g c =
    NotesOnlyMet-insert c.branch-store.new.store c.args.choice c.in_ok-id.id c.args.memo.now c.insert.new.self
    c.requires.open c.in_ok-insert.ensures.updates

pub returns-in_err-id-clause-unnoted : goal.returns-in_err-id-clause-unnoted
returns-in_err-id-clause-unnoted g c =
    on_err c.from_residual.result
    (IsUnnoted-here c.branch-store.new.store c.args.choice c.args.memo.now c.requires.open c.requires.absent)

pub returns-in_err-insert-clause-unnoted : goal.returns-in_err-insert-clause-unnoted
returns-in_err-insert-clause-unnoted g c =
    on_err c.from_residual-in_err-insert.result
    (IsUnnoted-here c.branch-store.new.store c.args.choice c.insert.new.self c.requires.open
    (unchanged_absent c.args.choice c.args.memo.now c.insert.new.self c.in_err-insert.ensures.err c.requires.absent))
