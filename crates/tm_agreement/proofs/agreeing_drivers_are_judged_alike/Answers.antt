use Rattle.std.proofs.Common.{◌≡◌}
use Rattle.tm_agreement.proofs.DriversAgreeing.{flipped, good, meets, move_form, refused}
use Rattle.tm_agreement.proofs.agreeing_drivers_are_judged_alike.Goals as goal

pub returns : goal.returns
returns c = record {
  meets = λ d answers x y regular agree. (
    meets d regular.steady (λ s g move. answers s g ≡ move) x y agree,
    meets d regular.steady (λ s g move. answers s g ≡ move) y x (flipped d x y agree),
  );
  good = λ d x y goal s move regular agree is. (
    good d regular.steady x y agree goal s move is,
    good d regular.steady y x (flipped d x y agree) goal s move is,
  );
  move_form = λ d x y regular agree.
      (move_form d regular.steady x y agree, move_form d regular.steady y x (flipped d x y agree));
  refused = λ d answers x y condition goal s regular agree. (
    refused d regular.steady regular.initial (λ s g move. answers s g ≡ move) x y agree condition goal s,
    refused d regular.steady regular.initial (λ s g move. answers s g ≡ move) y x (flipped d x y agree) condition goal
        s,
  );
}
