use Rattle.std.proofs.Common.{sym, ◌∙◌, subst, arith}
use Rattle.tm_check.specs.Reading.{num_at, state_in}
use Rattle.tm_check.proofs.Growth.{can_read}
use Rattle.tm_check.proofs.Worth.{IsMade, binary_made, binary_worth, chosen_worth, compared_worth, joined_made}
use Rattle.tm_check.proofs.Worth.{joined_worth, not_truth_worth, not_worth, shift_made, shift_worth, worth_kept}
use Rattle.tm_check.proofs.terms.Reading.+reading.Goals as goal
use Rattle.tm_cir.specs.Meaning.{truth_value}
use Rattle.tm_cir.specs.View.{num_tree, truth_tree}
use Rattle.tm_term.specs.declared.term.Term.{Term}
use Rattle.tm_term.specs.Table.{Fits}
use Rattle.tm_game.proofs.Growing.{grows_then}

-- ---- numbers
pub turned-mk-requires : goal.turned-mk-requires
turned-mk-requires t c =
    c.in_ok-a.ensures.worth.term.0

pub turned-returns-in_err-not-clause-grows : goal.turned-returns-in_err-not-clause-grows
turned-returns-in_err-not-clause-grows t c =
    grows_then c.args.game.now c.num.new.game c.mk.new.self c.num.ensures.grows c.mk.ensures.grows

pub turned-returns-clause-grows : goal.turned-returns-clause-grows
turned-returns-clause-grows t c =
    grows_then c.args.game.now c.num.new.game c.mk.new.self c.num.ensures.grows c.mk.ensures.grows

pub turned-returns-clause-worth : goal.turned-returns-clause-worth
turned-returns-clause-worth t c =
    not_worth c.num.new.game.terms c.mk.new.self.terms c.in_ok-not.not 64 c.in_ok-a.a
    (num_at c.args.self (num_tree c.args.a.now)) c.in_ok-a.ensures.worth
    (record {
      extends = c.mk.ensures.grows.terms;
      known = c.in_ok-not.ensures.known;
      width = c.in_ok-not.ensures.width;
      value = c.in_ok-not.ensures.value;
    })

pub combined-returns-in_err-other-clause-grows : goal.combined-returns-in_err-other-clause-grows
combined-returns-in_err-other-clause-grows t c =
    grows_then c.args.game.now c.num.new.game c.num-2.new.game c.num.ensures.grows c.num-2.ensures.grows

pub combined-returns-in_err-both-clause-grows : goal.combined-returns-in_err-both-clause-grows
combined-returns-in_err-both-clause-grows t c =
    grows_then c.args.game.now c.num-2.new.game c.mk.new.self (grows_then c.args.game.now c.num.new.game
    c.num-2.new.game c.num.ensures.grows c.num-2.ensures.grows) c.mk.ensures.grows

pub combined-returns-clause-grows : goal.combined-returns-clause-grows
combined-returns-clause-grows t c =
    grows_then c.args.game.now c.num-2.new.game c.mk.new.self (grows_then c.args.game.now c.num.new.game
    c.num-2.new.game c.num.ensures.grows c.num-2.ensures.grows) c.mk.ensures.grows

pub combined-mk-requires : goal.combined-mk-requires
combined-mk-requires t c =
    subst (Fits c.num-2.new.game.terms) (sym c.binary.ensures)
    (binary_made c.num-2.new.game.terms c.args.operator c.in_ok-one.one c.in_ok-other.other
    (worth_kept c.num.new.game.terms c.num-2.new.game.terms c.num-2.ensures.grows.terms 64 _ c.in_ok-one.one
    c.in_ok-one.ensures.worth).term c.in_ok-other.ensures.worth.term)

pub combined-returns-clause-worth : goal.combined-returns-clause-worth
combined-returns-clause-worth t c =
    binary_worth c.num-2.new.game.terms c.mk.new.self.terms c.in_ok-both.both c.in_ok-one.one c.in_ok-other.other
    (num_at c.args.self (num_tree c.args.a.now)) (num_at c.args.self (num_tree c.args.b.now)) c.args.operator
    (worth_kept c.num.new.game.terms c.num-2.new.game.terms c.num-2.ensures.grows.terms 64 _ c.in_ok-one.one
    c.in_ok-one.ensures.worth) c.in_ok-other.ensures.worth
    (subst (λ (term : Term). IsMade c.num-2.new.game.terms c.mk.new.self.terms term c.in_ok-both.both) c.binary.ensures
    (record {
      extends = c.mk.ensures.grows.terms;
      known = c.in_ok-both.ensures.known;
      width = c.in_ok-both.ensures.width;
      value = c.in_ok-both.ensures.value;
    }))

pub moved-mk-requires : goal.moved-mk-requires
moved-mk-requires t c =
    subst (Fits c.num.new.game.terms) (sym c.shifted.ensures)
    (shift_made c.num.new.game.terms c.args.operator c.in_ok-a.a c.args.by c.in_ok-a.ensures.worth.term (omega arith))

pub moved-returns-in_err-moved-clause-grows : goal.moved-returns-in_err-moved-clause-grows
moved-returns-in_err-moved-clause-grows t c =
    grows_then c.args.game.now c.num.new.game c.mk.new.self c.num.ensures.grows c.mk.ensures.grows

pub moved-returns-clause-grows : goal.moved-returns-clause-grows
moved-returns-clause-grows t c =
    grows_then c.args.game.now c.num.new.game c.mk.new.self c.num.ensures.grows c.mk.ensures.grows

pub moved-returns-clause-worth : goal.moved-returns-clause-worth
moved-returns-clause-worth t c =
    shift_worth c.num.new.game.terms c.mk.new.self.terms c.in_ok-moved.moved c.args.operator c.in_ok-a.a c.args.by
    (num_at c.args.self (num_tree c.args.a.now)) c.in_ok-a.ensures.worth
    (subst (λ (term : Term). IsMade c.num.new.game.terms c.mk.new.self.terms term c.in_ok-moved.moved) c.shifted.ensures
    (record {
      extends = c.mk.ensures.grows.terms;
      known = c.in_ok-moved.ensures.known;
      width = c.in_ok-moved.ensures.width;
      value = c.in_ok-moved.ensures.value;
    }))

pub chosen-returns-in_err-one-clause-grows : goal.chosen-returns-in_err-one-clause-grows
chosen-returns-in_err-one-clause-grows t c =
    grows_then c.args.game.now c.truth.new.game c.num.new.game c.truth.ensures.grows c.num.ensures.grows

pub chosen-returns-in_err-other-clause-grows : goal.chosen-returns-in_err-other-clause-grows
chosen-returns-in_err-other-clause-grows t c =
    grows_then c.args.game.now c.num.new.game c.num-2.new.game (grows_then c.args.game.now c.truth.new.game
    c.num.new.game c.truth.ensures.grows c.num.ensures.grows) c.num-2.ensures.grows

pub chosen-returns-in_err-chosen-clause-grows : goal.chosen-returns-in_err-chosen-clause-grows
chosen-returns-in_err-chosen-clause-grows t c =
    grows_then c.args.game.now c.num-2.new.game c.mk.new.self (grows_then c.args.game.now c.num.new.game
    c.num-2.new.game (grows_then c.args.game.now c.truth.new.game c.num.new.game c.truth.ensures.grows
    c.num.ensures.grows) c.num-2.ensures.grows) c.mk.ensures.grows

pub chosen-returns-clause-grows : goal.chosen-returns-clause-grows
chosen-returns-clause-grows t c =
    grows_then c.args.game.now c.num-2.new.game c.mk.new.self (grows_then c.args.game.now c.num.new.game
    c.num-2.new.game (grows_then c.args.game.now c.truth.new.game c.num.new.game c.truth.ensures.grows
    c.num.ensures.grows) c.num-2.ensures.grows) c.mk.ensures.grows

pub chosen-mk-requires : goal.chosen-mk-requires
chosen-mk-requires t c =
    let test = (worth_kept c.truth.new.game.terms c.num-2.new.game.terms
    (grows_then c.truth.new.game c.num.new.game c.num-2.new.game c.num.ensures.grows c.num-2.ensures.grows).terms 1 _
    c.in_ok-test.test c.in_ok-test.ensures.worth) in
    let one = (worth_kept c.num.new.game.terms c.num-2.new.game.terms c.num-2.ensures.grows.terms 64 _
    c.in_ok-one.one c.in_ok-one.ensures.worth) in (
      test.term.0,
      test.term.1,
      (
        one.term.0,
        c.in_ok-other.ensures.worth.term.0,
        one.term.1 ∙ sym
            c.in_ok-other.ensures.worth.term.1,
      ),
    )

pub chosen-returns-clause-worth : goal.chosen-returns-clause-worth
chosen-returns-clause-worth t c =
    chosen_worth c.num-2.new.game.terms c.mk.new.self.terms c.in_ok-chosen.chosen c.in_ok-one.one c.in_ok-other.other
    (num_at c.args.self (num_tree c.args.a.now)) (num_at c.args.self (num_tree c.args.b.now)) c.in_ok-test.test
    (λ values. truth_value (state_in c.args.self values) c.args.self.goal (truth_tree c.args.truth.now))
    (worth_kept c.truth.new.game.terms c.num-2.new.game.terms
    (grows_then c.truth.new.game c.num.new.game c.num-2.new.game c.num.ensures.grows c.num-2.ensures.grows).terms 1 _
    c.in_ok-test.test c.in_ok-test.ensures.worth)
    (worth_kept c.num.new.game.terms c.num-2.new.game.terms c.num-2.ensures.grows.terms 64 _ c.in_ok-one.one
    c.in_ok-one.ensures.worth) c.in_ok-other.ensures.worth
    (record {
      extends = c.mk.ensures.grows.terms;
      known = c.in_ok-chosen.ensures.known;
      width = c.in_ok-chosen.ensures.width;
      value = c.in_ok-chosen.ensures.value;
    })

-- ---- tests
pub is_nonzero-nonzero-requires : goal.is_nonzero-nonzero-requires
is_nonzero-nonzero-requires t c =
    c.in_ok-a.ensures.worth.term

pub is_nonzero-returns-in_err-test-clause-grows : goal.is_nonzero-returns-in_err-test-clause-grows
is_nonzero-returns-in_err-test-clause-grows t c =
    grows_then c.args.game.now c.num.new.game c.nonzero.new.game c.num.ensures.grows c.nonzero.ensures.grows

pub is_nonzero-returns-clause-grows : goal.is_nonzero-returns-clause-grows
is_nonzero-returns-clause-grows t c =
    grows_then c.args.game.now c.num.new.game c.nonzero.new.game c.num.ensures.grows c.nonzero.ensures.grows

pub is_nonzero-returns-clause-worth : goal.is_nonzero-returns-clause-worth
is_nonzero-returns-clause-worth t c =
    c.in_ok-test.ensures.worth (num_at c.args.self (num_tree c.args.a.now)) c.in_ok-a.ensures.worth

pub not-mk-requires : goal.not-mk-requires
not-mk-requires t c =
    c.in_ok-a.ensures.worth.term.0

pub not-returns-in_err-not-clause-grows : goal.not-returns-in_err-not-clause-grows
not-returns-in_err-not-clause-grows t c =
    grows_then c.args.game.now c.truth.new.game c.mk.new.self c.truth.ensures.grows c.mk.ensures.grows

pub not-returns-clause-grows : goal.not-returns-clause-grows
not-returns-clause-grows t c =
    grows_then c.args.game.now c.truth.new.game c.mk.new.self c.truth.ensures.grows c.mk.ensures.grows

pub not-returns-clause-worth : goal.not-returns-clause-worth
not-returns-clause-worth t c =
    not_truth_worth c.truth.new.game.terms c.mk.new.self.terms c.in_ok-not.not c.in_ok-a.a
    (λ values. truth_value (state_in c.args.self values) c.args.self.goal (truth_tree c.args.a.now))
    c.in_ok-a.ensures.worth
    (record {
      extends = c.mk.ensures.grows.terms;
      known = c.in_ok-not.ensures.known;
      width = c.in_ok-not.ensures.width;
      value = c.in_ok-not.ensures.value;
    })

pub compares-returns-in_err-other-clause-grows : goal.compares-returns-in_err-other-clause-grows
compares-returns-in_err-other-clause-grows t c =
    grows_then c.args.game.now c.num.new.game c.num-2.new.game c.num.ensures.grows c.num-2.ensures.grows

pub compares-returns-in_err-test-clause-grows : goal.compares-returns-in_err-test-clause-grows
compares-returns-in_err-test-clause-grows t c =
    grows_then c.args.game.now c.num-2.new.game c.compared.new.game (grows_then c.args.game.now c.num.new.game
    c.num-2.new.game c.num.ensures.grows c.num-2.ensures.grows) c.compared.ensures.grows

pub compares-returns-clause-grows : goal.compares-returns-clause-grows
compares-returns-clause-grows t c =
    grows_then c.args.game.now c.num-2.new.game c.compared.new.game (grows_then c.args.game.now c.num.new.game
    c.num-2.new.game c.num.ensures.grows c.num-2.ensures.grows) c.compared.ensures.grows

pub compares-compared-requires-clause-first : goal.compares-compared-requires-clause-first
compares-compared-requires-clause-first t c =
    (worth_kept c.num.new.game.terms c.num-2.new.game.terms c.num-2.ensures.grows.terms 64 _ c.in_ok-one.one
    c.in_ok-one.ensures.worth).term

pub compares-compared-requires-clause-second : goal.compares-compared-requires-clause-second
compares-compared-requires-clause-second t c =
    c.in_ok-other.ensures.worth.term

pub compares-returns-clause-worth : goal.compares-returns-clause-worth
compares-returns-clause-worth t c =
    compared_worth c.num-2.new.game.terms c.compared.new.game.terms c.args.comparison c.in_ok-one.one
    c.in_ok-other.other
    c.in_ok-test.test (num_at c.args.self (num_tree c.args.a.now)) (num_at c.args.self (num_tree c.args.b.now))
    (worth_kept c.num.new.game.terms c.num-2.new.game.terms c.num-2.ensures.grows.terms 64 _ c.in_ok-one.one
    c.in_ok-one.ensures.worth) c.in_ok-other.ensures.worth c.in_ok-test.ensures.worth

pub joins-returns-in_err-other-clause-grows : goal.joins-returns-in_err-other-clause-grows
joins-returns-in_err-other-clause-grows t c =
    grows_then c.args.game.now c.truth.new.game c.truth-2.new.game c.truth.ensures.grows c.truth-2.ensures.grows

pub joins-returns-in_err-both-clause-grows : goal.joins-returns-in_err-both-clause-grows
joins-returns-in_err-both-clause-grows t c =
    grows_then c.args.game.now c.truth-2.new.game c.mk.new.self (grows_then c.args.game.now c.truth.new.game
    c.truth-2.new.game c.truth.ensures.grows c.truth-2.ensures.grows) c.mk.ensures.grows

pub joins-returns-clause-grows : goal.joins-returns-clause-grows
joins-returns-clause-grows t c =
    grows_then c.args.game.now c.truth-2.new.game c.mk.new.self (grows_then c.args.game.now c.truth.new.game
    c.truth-2.new.game c.truth.ensures.grows c.truth-2.ensures.grows) c.mk.ensures.grows

pub joins-mk-requires : goal.joins-mk-requires
joins-mk-requires t c =
    subst (Fits c.truth-2.new.game.terms) (sym c.joined.ensures)
    (joined_made c.truth-2.new.game.terms c.args.junction c.in_ok-one.one c.in_ok-other.other
    (worth_kept c.truth.new.game.terms c.truth-2.new.game.terms c.truth-2.ensures.grows.terms 1 _ c.in_ok-one.one
    c.in_ok-one.ensures.worth).term c.in_ok-other.ensures.worth.term)

pub joins-returns-clause-worth : goal.joins-returns-clause-worth
joins-returns-clause-worth t c =
    joined_worth c.truth-2.new.game.terms c.mk.new.self.terms c.in_ok-both.both c.in_ok-one.one c.in_ok-other.other
    (λ values. truth_value (state_in c.args.self values) c.args.self.goal (truth_tree c.args.a.now))
    (λ values. truth_value (state_in c.args.self values) c.args.self.goal (truth_tree c.args.b.now)) c.args.junction
    (worth_kept c.truth.new.game.terms c.truth-2.new.game.terms c.truth-2.ensures.grows.terms 1 _ c.in_ok-one.one
    c.in_ok-one.ensures.worth) c.in_ok-other.ensures.worth
    (subst (λ (term : Term). IsMade c.truth-2.new.game.terms c.mk.new.self.terms term c.in_ok-both.both)
    c.joined.ensures
    (record {
      extends = c.mk.ensures.grows.terms;
      known = c.in_ok-both.ensures.known;
      width = c.in_ok-both.ensures.width;
      value = c.in_ok-both.ensures.value;
    }))

-- ---- what is read later
pub chosen-num-requires : goal.chosen-num-requires
chosen-num-requires t c = (
  omega (arith, c.decreases),
  (
    c.requires.first,
    can_read c.args.game.now c.truth.new.game
        c.args.self c.truth.ensures.grows c.requires.inputs,
  ),
)

pub chosen-num-requires-2 : goal.chosen-num-requires-2
chosen-num-requires-2 t c = (
  omega (arith, c.decreases),
  (
    c.requires.second,
    can_read c.args.game.now c.num.new.game
        c.args.self (grows_then c.args.game.now c.truth.new.game c.num.new.game c.truth.ensures.grows
        c.num.ensures.grows) c.requires.inputs,
  ),
)

pub combined-num-requires-2 : goal.combined-num-requires-2
combined-num-requires-2 t c = (
  omega (arith, c.decreases),
  (
    c.requires.second,
    can_read c.args.game.now
        c.num.new.game c.args.self c.num.ensures.grows c.requires.inputs,
  ),
)

pub compares-num-requires-2 : goal.compares-num-requires-2
compares-num-requires-2 t c = (
  omega (arith, c.decreases),
  (
    c.requires.second,
    can_read c.args.game.now
        c.num.new.game c.args.self c.num.ensures.grows c.requires.inputs,
  ),
)

pub joins-truth-requires-2 : goal.joins-truth-requires-2
joins-truth-requires-2 t c = (
  omega (arith, c.decreases),
  (
    c.requires.second,
    can_read c.args.game.now
        c.truth.new.game c.args.self c.truth.ensures.grows c.requires.inputs,
  ),
)
