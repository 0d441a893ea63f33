use Rattle.tm_flat_pool.proofs.PushedBits.{bit_made}
use Rattle.tm_flat_pool.proofs.bits.bit_term.Goals as goal

pub returns : goal.returns
returns c =
    bit_made c.args.terms.now c.make.new.terms c.make-2.new.terms c.args.of c.args.weight c.in_ok-shifted.shifted
    c.in_ok-id.id c.in_ok-shifted.ensures c.in_ok-id.ensures
