use Rattle.std.proofs.Common.{◌≡◌, ◌<◌, ◌≤◌, ◌++◌, ◌∷◌, [], length, sym, ◌∙◌, refl, arith}
use Rattle.std.specs.Prelude.{slice_index}
use Rattle.std.proofs.lemmas.List.{take_all, take_more}
use Rattle.tm_syntax.specs.Design.Cells.{in_state}
use Rattle.tm_plain.proofs.machine.moves.values_of.Goals as goal

pub loop-number-preserved : goal.loop-number-preserved
loop-number-preserved c = λ x m keeps count.
    let k = c.loop-number.number in
    let below : k < length m.values = omega (arith, count, c.loop-number-test.true) in
    let value : c.read.result ≡ slice_index m.values k = c.read.ensures x m (in_state k) keeps refl in
    let pushed : c.push.new.self.items ≡ c.loop-number.values.items ++ c.read.result ∷ [] =
    c.in_ok-push.ensures.items in
    pushed
    ∙ (λ i. c.loop-number.invariant x m keeps count i ++ value i ∷ [])
    ∙ sym (take_more m.values k 0 below)

pub returns : goal.returns
returns c = λ x m keeps count.
    let past : length m.values ≤ c.loop-number.number = omega (arith, count, c.loop-number-test.false) in
    c.loop-number.invariant x m keeps count ∙ take_all c.loop-number.number m.values past
