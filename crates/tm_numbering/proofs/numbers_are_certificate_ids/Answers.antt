use Rattle.std.proofs.Common.{length}
use Rattle.tm_numbering.proofs.Entries.{nodes_valid, worth}
use Rattle.tm_numbering.proofs.Growth.{number_tells}
use Rattle.tm_numbering.proofs.Pairs.{all_from}
use Rattle.tm_numbering.proofs.numbers_are_certificate_ids.Goals as goal

pub returns : goal.returns
returns c = record {
  entries = λ s bits ids nodes reduced rise numbered. nodes_valid s reduced bits rise ids nodes numbered;
  values = λ s bits ids nodes id n v reduced rise numbered number.
      worth s reduced bits rise ids nodes numbered v id n number;
  one_id = λ ids id other n one two. number_tells ids (length ids) (length ids) id other n one two;
}
