use Rattle.std.proofs.Common.{◌≡◌, Ok, Err, ◌∙◌, true≢false, sym}
use Rattle.std.proofs.lemmas.Result.{IfErr-weaker, IfOk-weaker}
use Rattle.serde_json.specs.Errors.{IsMemory}
use Rattle.serde_json.specs.View.{view}
use Rattle.tm_cert.specs.CertValue.{IsCertText}
use Rattle.tm_cert.specs.Judge.{judge, judge_text}
use Rattle.tm_cert.specs.Judged.{IsRefusalOf}
use Rattle.tm_cert.proofs.Judging.{refused_same}
use Rattle.tm_cert.proofs.Texts.{answered, judge_text-complete, judge_text-none, judge_text-sound, judge_text-value}
use Rattle.tm_cert.specs.declared.refusal.BadCert.TheVariants.{Json}
use Rattle.tm_cert.specs.declared.refusal.ReadCertError.TheVariants.{Bad}
use Rattle.tm_cert.proofs.read.read_shaped.Goals as goal

pub returns-in-Err-2-clause-refused : goal.returns-in-Err-2-clause-refused
returns-in-Err-2-clause-refused c =
    let other : ¬ IsMemory c.in-Err.error = λ h. true≢false (sym (c.is_memory.ensures.1 h) ∙ c.if-is_memory.false) in
    judge_text-none c.args.shape c.args.text.now (c.in-Err.ensures.err other)

pub returns-in-Err-2-clause-read : goal.returns-in-Err-2-clause-read
returns-in-Err-2-clause-read c cert is =
    let other : ¬ IsMemory c.in-Err.error = λ h. true≢false (sym (c.is_memory.ensures.1 h) ∙ c.if-is_memory.false) in
    answered (Err (Bad Json)) (judge_text c.args.shape c.args.text.now) cert tt
    (judge_text-none c.args.shape c.args.text.now (c.in-Err.ensures.err other))
    (judge_text-complete c.args.shape c.args.text.now cert is)

pub returns-clause-ok : goal.returns-clause-ok
returns-clause-ok c =
    let is = judge_text-value c.args.shape c.args.text.now _ c.in-Ok.ensures.ok.0 c.in-Ok.ensures.ok.1 in
    IfOk-weaker c.read_cert_value.result (λ cert. judge c.args.shape (view c.in-Ok.value) ≡ Ok cert)
    (IsCertText c.args.shape c.args.text.now)
    (λ cert h. judge_text-sound c.args.shape c.args.text.now cert (is ∙ h)) c.read_cert_value.ensures.ok

pub returns-clause-refused : goal.returns-clause-refused
returns-clause-refused c =
    let is = judge_text-value c.args.shape c.args.text.now _ c.in-Ok.ensures.ok.0 c.in-Ok.ensures.ok.1 in
    IfErr-weaker c.read_cert_value.result (IsRefusalOf (judge c.args.shape (view c.in-Ok.value)))
    (IsRefusalOf (judge_text c.args.shape c.args.text.now)) (λ e h. refused_same _ _ e is h)
    c.read_cert_value.ensures.refused

pub returns-clause-read : goal.returns-clause-read
returns-clause-read c cert is =
    let value = judge_text-value c.args.shape c.args.text.now _ c.in-Ok.ensures.ok.0 c.in-Ok.ensures.ok.1 in
    answered c.read_cert_value.result (judge c.args.shape (view c.in-Ok.value)) cert c.read_cert_value.ensures.ok
    c.read_cert_value.ensures.refused (sym value ∙ judge_text-complete c.args.shape c.args.text.now cert is)
