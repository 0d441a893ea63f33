use Rattle.tm_agreement.proofs.LevelsAgreeing.{flipped, meets, refused}
use Rattle.tm_agreement.proofs.agreeing_environments_are_judged_alike.Goals as goal

pub returns : goal.returns
returns c = record {
  meets = λ d x y agree. (meets d x y agree, meets d y x (flipped d x y agree));
  refused = λ d x y condition goal s agree.
      (refused d x y agree condition goal s, refused d y x (flipped d x y agree) condition goal s);
}
