-- What a text is judged as, by the value that it is.
use Rattle.std.proofs.Common.{◌≡◌, ℕ, List, Bool, true, false, Some, None, Result, Ok, Err, IfOk, IfErr, IsUtf8, if◌then◌else◌, ok_or, refl, sym, ◌∙◌}
use Rattle.std.proofs.lemmas.Str.{IsUtf8-from_is_utf8, is_utf8-from_IsUtf8}
use Rattle.std.specs.Prelude.{MatchResult}
use Rattle.std.specs.Str.{is_utf8}
use Rattle.serde_json.specs.Data.{Data}
use Rattle.serde_json.specs.Read.{read}
use Rattle.tm_cert.specs.declared.refusal.BadCert.{BadCert}
use Rattle.tm_cert.specs.declared.refusal.BadCert.TheVariants.{Json}
use Rattle.tm_cert.specs.declared.shape.CertShape.{CertShape}
use Rattle.tm_cert.specs.Judge.{judge, judge_text}
use Rattle.tm_cert.specs.Judged.{and_then, IsRefusalOf, Judged}
use Rattle.tm_cert.specs.CertValue.{IsCertText}
use Rattle.tm_cert.specs.declared.cert.Cert.{Cert}
use Rattle.tm_cert.specs.declared.refusal.ReadCertError.{ReadCertError}
use Rattle.tm_cert.specs.declared.refusal.ReadCertError.TheVariants.{Bad, Memory}
use Rattle.tm_cert.proofs.Exact.{both_parts, same_part, some_from_ok_or}
use Rattle.tm_cert.proofs.ExactCert.{judge-complete, judge-sound}

-- a text is judged as its value
pub judge_text-value : (shape : CertShape) (text : List ℕ) (d : Data) → IsUtf8 text → read text ≡ Some d
    → judge_text shape text ≡ judge shape d
unfolding judge_text
judge_text-value shape text d utf8 is = rw (is_utf8-from_IsUtf8 text utf8, is) refl

unread : (shape : CertShape) (text : List ℕ) (b : Bool) → is_utf8 text ≡ b → (IsUtf8 text → read text ≡ None)
    → (if b then and_then (ok_or (read text) Json) (judge shape) else Err Json) ≡ Err Json
unread shape text true is none = rw (none (IsUtf8-from_is_utf8 text is)) refl
unread shape text false is none = refl

-- a text that is no value is no JSON
pub judge_text-none : (shape : CertShape) (text : List ℕ) → (IsUtf8 text → read text ≡ None)
    → judge_text shape text ≡ Err Json
unfolding judge_text
judge_text-none shape text none = unread shape text (is_utf8 text) refl none

sound : (shape : CertShape) (text : List ℕ) (c : Cert) (b : Bool) → is_utf8 text ≡ b
    → (let j : Judged Cert = (if b then and_then (ok_or (read text) Json) (judge shape) else Err Json) in j) ≡ Ok c
    → IsCertText shape text c
sound shape text c true utf8 is =
    let parts = both_parts (ok_or (read text) Json) (judge shape) c is in (
      IsUtf8-from_is_utf8 text utf8,
      (parts.0, some_from_ok_or (read text) Json parts.0 parts.1, judge-sound shape parts.0 c parts.2),
    )
sound shape text c false utf8 is = cc

-- a text that is judged as a certificate is this certificate
pub judge_text-sound : (shape : CertShape) (text : List ℕ) (c : Cert) → judge_text shape text ≡ Ok c
    → IsCertText shape text c
unfolding judge_text
judge_text-sound shape text c is = sound shape text c (is_utf8 text) refl is

-- and the other way round
pub judge_text-complete : (shape : CertShape) (text : List ℕ) (c : Cert) → IsCertText shape text c
    → judge_text shape text ≡ Ok c
judge_text-complete shape text c is =
    judge_text-value shape text is.1.0 is.0 is.1.1 ∙ judge-complete shape is.1.0 c is.1.2

-- what is judged as a certificate is answered as it, or not for want of memory
pub answered : (answer : Result Cert ReadCertError) (judged : Judged Cert) (c : Cert)
    → IfOk answer (λ found. judged ≡ Ok found) → IfErr answer (IsRefusalOf judged) → judged ≡ Ok c
    → MatchResult answer (λ found. found ≡ c) (λ e. e ≡ Memory)
answered (Ok found) judged c ok refused is = same_part found c (sym ok ∙ is)
answered (Err Memory) judged c ok refused is = refl
answered (Err (Bad fault)) judged c ok refused is = absurd (apart fault c (sym refused ∙ is))
  where
    apart : (fault : BadCert) (c : Cert) → (let j : Judged Cert = Err fault in j) ≡ Ok c → ⊥
    apart fault c is = cc
