use Rattle.std.proofs.Common.{◌≡◌, [], ◌∷◌, ap, ◌∙◌}
use Rattle.std.specs.Int.{from_le_bytes, w64}
use Rattle.tm_dd.specs.Hasher.{taken}
use Rattle.tm_dd.proofs.hasher.NumberHasherHasher.write.Goals as goal
use Rattle.tm_dd.proofs.hasher.NumberHasherHasher.write.Goals.{After-taking}

-- the number of the bytes that were read
number : (c : After-taking) → c.from_le_bytes-number.result ≡ from_le_bytes w64 c.args.bytes.now
number c =
    c.from_le_bytes-number.ensures ∙ (λ i. from_le_bytes w64 (
    c.byte.ensures i
    ∷ c.byte-2.ensures i
    ∷ c.byte-3.ensures i
    ∷ c.byte-4.ensures i
    ∷ c.byte-5.ensures i
    ∷ c.byte-6.ensures i
    ∷ c.byte-7.ensures i
    ∷ c.byte-8.ensures i
    ∷ []
    ))

pub returns : goal.returns
returns c = c.taking.ensures ∙ ap (taken c.args.self.now) (number c)
