-- What certificates of a design have to fit, by its guarded updates and by its plain meaning.
use Rattle.std.specs.Prelude.{ℕ, ◌+◌, ◌-◌, ◌^◌, length, min, sum, take}
use Rattle.tm_cert.specs.declared.shape.CertShape.{CertShape}
use Rattle.tm_cert.specs.declared.shape.Kind.{Kind}
use Rattle.tm_flat.specs.Flat.{FlatTerms}
use Rattle.tm_flat.specs.Inputs.{room}
use Rattle.tm_sem.specs.Fairness.{conditions}
use Rattle.tm_sem.specs.StateBits.{state_widths}
use Rattle.tm_syntax.specs.Design.{DesignTree}

-- a number that stops at the greatest of 32 bits, since a shape holds none that is greater
abbrev pub capped : ℕ → ℕ
capped n = min n (2 ^ 32 - 1)

-- how many bits a state has: all widths of inputs together, but for the bits of choices and of arguments, which stand
-- last
abbrev pub flat_bits : FlatTerms → ℕ
flat_bits f = sum (take (length f.widths - (room + room)) f.widths)

-- what a certificate of a wanted kind has to fit: so many state bits, goals and fairness conditions
abbrev pub flat_shape : FlatTerms → Kind → CertShape
flat_shape f wanted = record {
  bits = capped (flat_bits f);
  goals = capped (length f.goals);
  fairs = capped (length f.fairs);
  wanted = wanted;
}

-- what a certificate of a wanted kind has to fit, by the plain meaning of the design
abbrev pub design_shape : DesignTree → Kind → CertShape
design_shape d wanted = record {
  bits = sum (state_widths d);
  goals = length d.goals;
  fairs = length (conditions d);
  wanted = wanted;
}
