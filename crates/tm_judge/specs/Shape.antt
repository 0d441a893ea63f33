-- The numbers of a design that its certificates speak of.
use Rattle.std.specs.Prelude.{ℕ, length, sum}
use Rattle.tm_syntax.specs.Design.{DesignTree}
use Rattle.tm_sem.specs.Fairness.{conditions}
use Rattle.tm_sem.specs.StateBits.{state_widths}
use Rattle.tm_cert.specs.declared.shape.CertShape.{CertShape}
use Rattle.tm_cert.specs.declared.shape.Kind.{Kind}

-- how many bits a state of a design has
abbrev pub state_bit_count : DesignTree → ℕ
state_bit_count d = sum (state_widths d)

-- what a certificate of a wanted kind has to fit: so many state bits, goals and fairness conditions
abbrev pub shape_of : DesignTree → Kind → CertShape
shape_of d wanted = record {
  bits = state_bit_count d;
  goals = length d.goals;
  fairs = length (conditions d);
  wanted = wanted;
}
