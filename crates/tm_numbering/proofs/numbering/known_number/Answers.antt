use Rattle.std.proofs.Common.{inr, refl, sym}
use Rattle.tm_numbering.proofs.Found.{absent_from, found_at, not_constant}
use Rattle.tm_numbering.proofs.numbering.known_number.Goals as goal

pub returns-in-Some : goal.returns-in-Some
returns-in-Some c = inr (
  c.in-Some.at,
  c.in-Some.ensures.within,
  found_at c.args.kept.now.keys c.args.id c.in-Some.at
      (sym c.in-Some.ensures.index),
  refl,
)

pub returns-in-None : goal.returns-in-None
returns-in-None c = (
  not_constant c.args.id c.if-eq.ensures c.if-eq-2.ensures,
  absent_from c.args.id c.args.kept.now.keys (sym c.in-None.ensures.found),
)
