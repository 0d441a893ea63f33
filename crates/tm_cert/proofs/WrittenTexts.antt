-- What is known of the text that is written for a value.
use Rattle.std.proofs.Common.{◌≡◌, ℕ, ◌≤◌, List, [], ◌∷◌, ◌++◌, Some, false, IsUtf8, inr, refl, ap, sym, ◌∙◌, subst}
use Rattle.std.proofs.lemmas.Str.{IsUtf8-append}
use Rattle.json.specs.Lex.{tokens}
use Rattle.json.specs.Print.{print}
use Rattle.json.proofs.Printed.Utf8.{IsUtf8-IsGap}
use Rattle.serde_json.specs.Data.{Data, depth}
use Rattle.serde_json.specs.Read.{max_depth, read}
use Rattle.serde_json.specs.Written.{compact_text, has_float, IsInOrder}
use Rattle.tm_cert.specs.declared.cert.Cert.{Cert}
use Rattle.tm_cert.specs.declared.shape.CertShape.{CertShape}
use Rattle.tm_cert.specs.CertValue.{IsCert, IsCertText}
use Rattle.tm_cert.specs.Written.{cert_data, cert_text}
use Rattle.tm_cert.proofs.Canonical.{cert_written}
use Rattle.tm_cert.proofs.LineFeed.{read-line_feed}
use Rattle.tm_cert.proofs.Shallow.{cert_plain, cert_shallow}

-- the text of a certificate
pub text_written : (bits : ℕ) (c : Cert) (d : Data) (text : List ℕ) → d ≡ cert_data bits c
    → (has_float d ≡ false → text ≡ compact_text d) → text ++ 10 ∷ [] ≡ cert_text bits c
text_written bits c d text is writes =
    ap (λ t. t ++ 10 ∷ []) (writes (ap has_float is ∙ cert_plain bits c) ∙ ap compact_text is)

-- it reads as its certificate
pub text_reads : (shape : CertShape) (bits : ℕ) (c : Cert) (given d : Data) (text : List ℕ) → d ≡ cert_data bits c
    → text ≡ print (tokens text) → IsUtf8 text → IsInOrder text d → (depth d ≤ max_depth → read text ≡ Some d)
    → shape.bits ≡ bits → IsCert shape given c → IsCertText shape (text ++ 10 ∷ []) c
text_reads shape bits c given d text is compact utf8 order reads same cert =
    let shallow = subst (λ e. depth e ≤ max_depth) (sym is) (cert_shallow bits c) in
    let whole = subst (λ b. IsCert shape (cert_data b c) c) same (cert_written shape given c cert) in (
      IsUtf8-append text (10 ∷ []) utf8 (IsUtf8-IsGap (10 ∷ []) (inr refl, tt)),
      (d, read-line_feed text d compact order ∙ reads shallow, subst (λ e. IsCert shape e c) (sym is) whole),
    )
