-- What the file of a certificate tells, from what was read of its text; and that it is one.
use Rattle.std.proofs.Common.{◌≡◌, ℕ, ◌≤◌, Option, Some, Result, Ok, Err, List, length, refl, sym, ap, subst, ◌∙◌}
use Rattle.std.specs.Prelude.{IsTrue}
use Rattle.tm_syntax.specs.Limits.{file_limit}
use Rattle.tm_syntax.specs.Design.{DesignTree}
use Rattle.tm_cert.specs.declared.cert.Cert.{Cert as Certificate}
use Rattle.tm_cert.specs.declared.refusal.BadCert.{BadCert}
use Rattle.tm_cert.specs.declared.refusal.ReadCertError.{ReadCertError}
use Rattle.tm_cert.specs.declared.refusal.ReadCertError.TheVariants as refusals
use Rattle.tm_cert.specs.declared.shape.CertShape.{CertShape}
use Rattle.tm_cert.specs.declared.shape.Kind.{Kind}
use Rattle.tm_cert.specs.CertValue.{IsCertText}
use Rattle.tm_cert.specs.Judge.{judge_text}
use Rattle.tm_cert.specs.Judged.{IsRefusalOf}
use Rattle.tm_cert.proofs.Texts.{judge_text-complete}
use Rattle.tm_judge.specs.Shape.{shape_of}
use Rattle.tm_report.specs.declared.ending.Bad.TheVariants.{Cert}
use Rattle.tm_report.specs.declared.ending.Ending.{Ending}
use Rattle.tm_report.specs.declared.ending.Ending.TheVariants.{BadText}
use Rattle.tm_report.specs.declared.ending.Failure.{Failure}
use Rattle.tm_report.specs.declared.ending.Failure.TheVariants.{ReadFault, WriteFault, Memory}
use Rattle.tm_commands.specs.declared.stop.Stop.{Stop}
use Rattle.tm_commands.specs.declared.stop.Stop.TheVariants.{Ends, Fails}
use Rattle.tm_commands.specs.World.{FilesData}
use Rattle.tm_commands.specs.Inputs.{TellsSpecification, TellsCert, NoCert, long_cert, bad_cert, RefusesCert}
use Rattle.tm_commands.specs.Inputs.{refuses_bad_cert}
use Rattle.tm_commands.specs.Inner.Reading.{IsBadCert}
use Rattle.tm_commands.specs.Inner.Stopping.{StopsBy, IsMemory, IsReadFailure, IsRefusal}
use Rattle.tm_commands.proofs.Loading.{refused_by}
use Rattle.tm_commands.proofs.Telling.{not_longer, one_text, told_specification}

-- want of memory is one of the failures of reading
pub memory_reads : (name : List ℕ) (old new : FilesData) (failure : Failure) → IsMemory failure →
    IsReadFailure name old new failure
memory_reads name old new Memory is = tt
memory_reads name old new (ReadFault other) is = elim is [ ]
memory_reads name old new (WriteFault other) is = elim is [ ]

module _ (old new : FilesData) (cert text read : List ℕ) (told : IsTrue old.tells → old.contents cert ≡ Some text)
    (short : length text ≤ file_limit) (same : read ≡ text) (shape : CertShape) (d : DesignTree) (wanted : Kind)
    (shaped : shape ≡ shape_of d wanted) where
  -- the text of the file is this certificate
  pub cert_told : (c : Certificate) → IsCertText shape read c → IsTrue old.tells →
      TellsCert old.contents cert d wanted c
  cert_told c is tells = record {
    text = text;
    told = told tells;
    short = short;
    is = subst (λ (s : CertShape). IsCertText s text c) shaped (subst (λ (t : List ℕ). IsCertText shape t c) same is);
  }

  -- the file has a fault
  fault_refuses : (bad : BadCert) → judge_text shape read ≡ Err bad →
      IsRefusal (NoCert old.contents cert d wanted) (RefusesCert cert) old new (BadText cert (Cert bad))
  fault_refuses bad judged = record {
    cause = λ tells. bad_cert (record {
      text = text;
      told = told tells;
      short = short;
      fault = ap (λ (s : CertShape). judge_text s text) (sym shaped) ∙ ap (judge_text shape) (sym same) ∙ judged;
    });
    named = refuses_bad_cert;
    long = record { specification = λ is. cc; file = λ name is. cc };
  }

  -- the file is no certificate
  pub cert_refuses : (e : ReadCertError) (stop : Stop) → IsRefusalOf (judge_text shape read) e →
      StopsBy (IsBadCert cert e) IsMemory stop →
      StopsBy (IsRefusal (NoCert old.contents cert d wanted) (RefusesCert cert) old new)
      (IsReadFailure cert old new) stop
  cert_refuses (refusals.Bad bad) stop judged is =
      refused_by cert (BadText cert (Cert bad)) stop (fault_refuses bad judged) is
  cert_refuses refusals.Memory (Ends ending) judged is = elim is [ ]
  cert_refuses refusals.Memory (Fails failure) judged is = memory_reads cert old new failure is

module _ (contents : List ℕ → Option (List ℕ)) (cert : List ℕ) (d : DesignTree) (wanted : Kind) where
  -- a text that is a certificate is judged as it
  judged_as : (c : Certificate) (text : List ℕ) → TellsCert contents cert d wanted c → contents cert ≡ Some text →
      judge_text (shape_of d wanted) text ≡ Ok c
  judged_as c text p told =
      judge_text-complete (shape_of d wanted) text c
      (subst (λ (t : List ℕ). IsCertText (shape_of d wanted) t c) (one_text contents cert text p.text told p.told) p.is)

  -- a file tells one certificate
  pub told_cert : (c e : Certificate) → TellsCert contents cert d wanted c → TellsCert contents cert d wanted e →
      c ≡ e
  told_cert c e p q = same c e (sym (judged_as c p.text p p.told) ∙ judged_as e p.text q p.told)
    where
      same : (c e : Certificate) → (let r : Result Certificate BadCert = Ok c in r) ≡ Ok e → c ≡ e
      same c e is = cc

  -- a file that tells a certificate is not refused
  pub cert_read : (c : Certificate) (ending : Ending) → TellsCert contents cert d wanted c →
      NoCert contents cert d wanted ending → ⊥
  cert_read c ending p (long_cert long) = not_longer (contents cert) p.text p.told p.short long
  cert_read c ending p (bad_cert {bad = bad} q) = apart c bad (sym (judged_as c q.text p q.told) ∙ q.fault)
    where
      apart : (c : Certificate) (bad : BadCert) → (let r : Result Certificate BadCert = Ok c in r) ≡ Err bad → ⊥
      apart c bad is = cc

  -- a file is refused for one cause
  pub one_no_cert : (one other : Ending) → NoCert contents cert d wanted one → NoCert contents cert d wanted other →
      one ≡ other
  one_no_cert one other (long_cert p) (long_cert q) = refl
  one_no_cert one other (long_cert p) (bad_cert q) = absurd (not_longer (contents cert) q.text q.told q.short p)
  one_no_cert one other (bad_cert p) (long_cert q) = absurd (not_longer (contents cert) p.text p.told p.short q)
  one_no_cert one other (bad_cert {bad = bad} p) (bad_cert {bad = found} q) =
      let judged : judge_text (shape_of d wanted) p.text ≡ Err found =
      ap (judge_text (shape_of d wanted)) (one_text contents cert q.text p.text q.told p.told) ∙ q.fault in
      ap (λ (b : BadCert). BadText cert (Cert b)) (same bad found (sym p.fault ∙ judged))
    where
      same : (b f : BadCert) → (let r : Result Certificate BadCert = Err b in r) ≡ Err f → b ≡ f
      same b f is = cc

-- what a file tells over the design that SPEC tells, it tells over any other that it tells
module _ (contents : List ℕ → Option (List ℕ)) (spec cert : List ℕ) (wanted : Kind) (d e : DesignTree)
    (p : TellsSpecification contents spec d) (q : TellsSpecification contents spec e) where
  pub cert_of : (c : Certificate) → TellsCert contents cert e wanted c → TellsCert contents cert d wanted c
  cert_of c told =
      subst (λ (x : DesignTree). TellsCert contents cert x wanted c) (told_specification contents spec e d q p) told

  pub no_cert_of : (ending : Ending) → NoCert contents cert e wanted ending → NoCert contents cert d wanted ending
  no_cert_of ending none =
      subst (λ (x : DesignTree). NoCert contents cert x wanted ending) (told_specification contents spec e d q p) none
