use Rattle.std.proofs.Common.{None, Some, List, ◌∷◌, refl, sym, ap, ◌∙◌, subst}
use Rattle.tm_cir.specs.View.{num_tree, truth_tree}
use Rattle.tm_cir.specs.Text.Token.{sign, shifting}
use Rattle.tm_cparse.specs.declared.part.Part.{Part}
use Rattle.tm_cparse.specs.declared.part.Sort.{Sort}
use Rattle.tm_cparse.specs.View.{token_tree, sign_tree, tokens_of}
use Rattle.tm_cparse.specs.Inner.Reading.{Moves}
use Rattle.tm_cparse.specs.Inner.Parts.{part_tree, part_trees, begun_by, FitParts, IsLeft, IsAmount, first_part}
use Rattle.tm_cparse.proofs.Moves.{moves_then}
use Rattle.tm_cparse.proofs.Readings.{moved_operator, begun_fits, no_sign_there, no_part_begins, no_number_shifts, moved_shift, refused_behind, ok_map, err_map, no_sign_first, no_first, sign_first, number_is, number_range}
use Rattle.tm_cparse.proofs.Operators.{no_shifting}
use Rattle.tm_cparse.proofs.expression.operator.Goals as goal
use Rattle.tm_cparse.proofs.expression.operator.Goals.{After-shift}

pub returns-in_default-clause-refused : goal.returns-in_default-clause-refused
returns-in_default-clause-refused c =
    no_sign_there c.args.sort (part_trees c.args.parts.now) (truth_tree c.args.operand) (tokens_of c.args.spots.now)
    c.requires.fit c.requires.operand (λ s. no_first (tokens_of c.args.spots.now) c.in_default.ensures.whole (sign s))

pub returns-in_default-sign_in-clause-refused : goal.returns-in_default-sign_in-clause-refused
returns-in_default-sign_in-clause-refused c =
    no_sign_there c.args.sort (part_trees c.args.parts.now) (truth_tree c.args.operand) (tokens_of c.args.spots.now)
    c.requires.fit c.requires.operand
    (no_sign_first (token_tree c.in-Some.token) (tokens_of c.args.spots.now) (tokens_of c.in-Some.rest.now)
    c.in-Some.ensures.whole c.in_default-sign_in.ensures)

pub returns-in_default-number_in-clause-refused : goal.returns-in_default-number_in-clause-refused
returns-in_default-number_in-clause-refused c =
    no_number_shifts c.args.sort (part_trees c.args.parts.now) c.in-Shifting.op (truth_tree c.args.operand)
    (tokens_of c.args.spots.now) (tokens_of c.in-Some.rest.now) c.requires.fit c.requires.operand
    (sign_first (token_tree c.in-Some.token) (sign_tree c.in-Some-sign_in.sign) (shifting c.in-Shifting.op)
    (tokens_of c.args.spots.now) (tokens_of c.in-Some.rest.now) c.in-Some.ensures.whole c.in-Some-sign_in.ensures
    (ap sign_tree c.in-Shifting.is))
    (sym c.in_default-number_in.ensures)

pub shift-requires : goal.shift-requires
shift-requires c =
    number_range (truth_tree c.args.operand) (num_tree c.in-Some-number_in.a) c.in-Some-number_in.ensures
    c.requires.operand.1

moved : (c : After-shift) →
    Moves (IsLeft c.args.sort (first_part ∷ part_trees c.args.parts.now) (Some (truth_tree c.args.operand)))
    (IsAmount c.args.sort (part_trees c.args.parts.now) c.in-Shifting.op (num_tree c.in-Some-number_in.a))
    (tokens_of c.args.spots.now) (tokens_of c.in-Some.rest.now)
moved c =
    moved_shift c.args.sort (part_trees c.args.parts.now) c.in-Shifting.op (num_tree c.in-Some-number_in.a)
    (truth_tree c.args.operand) (tokens_of c.args.spots.now) (tokens_of c.in-Some.rest.now)
    (number_is (truth_tree c.args.operand) (num_tree c.in-Some-number_in.a) c.in-Some-number_in.ensures)
    (sign_first (token_tree c.in-Some.token) (sign_tree c.in-Some-sign_in.sign) (shifting c.in-Shifting.op)
    (tokens_of c.args.spots.now) (tokens_of c.in-Some.rest.now) c.in-Some.ensures.whole c.in-Some-sign_in.ensures
    (ap sign_tree c.in-Shifting.is))

pub returns-in-Shifting-clause-moved : goal.returns-in-Shifting-clause-moved
returns-in-Shifting-clause-moved c =
    ok_map (λ r h. moves_then (moved c) (h c.args.sort (part_trees c.args.parts.now))) c.shift.result
    c.shift.ensures.moved

pub returns-in-Shifting-clause-operand : goal.returns-in-Shifting-clause-operand
returns-in-Shifting-clause-operand c =
    ok_map (λ r h. h c.args.sort (part_trees c.args.parts.now)) c.shift.result c.shift.ensures.operand

pub returns-in-Shifting-clause-refused : goal.returns-in-Shifting-clause-refused
returns-in-Shifting-clause-refused c =
    err_map
    (λ e h. refused_behind (moved c) e (h c.args.sort (part_trees c.args.parts.now) c.requires.fit)) c.shift.result
    c.shift.ensures.refused

pub returns-in_default-begun-clause-refused : goal.returns-in_default-begun-clause-refused
returns-in_default-begun-clause-refused c =
    no_part_begins c.args.sort (part_trees c.args.parts.now) (sign_tree c.in-Some-sign_in.sign)
    (truth_tree c.args.operand) (tokens_of c.args.spots.now) (tokens_of c.in-Some.rest.now) c.requires.fit
    c.requires.operand
    (sign_first (token_tree c.in-Some.token) (sign_tree c.in-Some-sign_in.sign) _ (tokens_of c.args.spots.now)
    (tokens_of c.in-Some.rest.now) c.in-Some.ensures.whole c.in-Some-sign_in.ensures refl)
    (sym
    (c.in_default-begun.ensures
    ∙ ap (λ (s : Sort). begun_by s (sign_tree c.in-Some-sign_in.sign) (truth_tree c.args.operand)) c.wanted.ensures))
    (no_shifting c.in-Some-sign_in.sign c.in_default-sign.not-Shifting)

pub returns-clause-moved : goal.returns-clause-moved
returns-clause-moved c =
    subst
    (λ (l : List Part).
    Moves (IsLeft c.args.sort (first_part ∷ part_trees c.args.parts.now) (Some (truth_tree c.args.operand)))
    (IsLeft c.args.sort (part_trees l) None) (tokens_of c.args.spots.now) (tokens_of c.in-Some.rest.now))
    (sym c.in_ok-push.ensures)
    (moved_operator c.args.sort (part_trees c.args.parts.now) (sign_tree c.in-Some-sign_in.sign)
    (truth_tree c.args.operand) (part_tree c.in-Some-begun.part) (tokens_of c.args.spots.now)
    (tokens_of c.in-Some.rest.now)
    (sym
    (c.in-Some-begun.ensures
    ∙ ap (λ (s : Sort). begun_by s (sign_tree c.in-Some-sign_in.sign) (truth_tree c.args.operand)) c.wanted.ensures))
    (sign_first (token_tree c.in-Some.token) (sign_tree c.in-Some-sign_in.sign) _ (tokens_of c.args.spots.now)
    (tokens_of c.in-Some.rest.now) c.in-Some.ensures.whole c.in-Some-sign_in.ensures refl))

pub returns-clause-fit : goal.returns-clause-fit
returns-clause-fit c =
    subst (λ (l : List Part). FitParts c.args.sort (part_trees l)) (sym c.in_ok-push.ensures) (
      begun_fits _ (sign_tree c.in-Some-sign_in.sign) (truth_tree c.args.operand) (part_tree c.in-Some-begun.part)
          c.requires.operand.1
          (sym
          (c.in-Some-begun.ensures
          ∙ ap (λ (s : Sort). begun_by s (sign_tree c.in-Some-sign_in.sign) (truth_tree c.args.operand))
          c.wanted.ensures)),
      c.requires.fit,
    )
