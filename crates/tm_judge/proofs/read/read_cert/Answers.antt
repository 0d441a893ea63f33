use Rattle.std.proofs.Common.{IfErr, IfOk, subst, sym}
use Rattle.tm_cert.specs.CertValue.{IsCertText}
use Rattle.tm_cert.specs.Judge.{judge_text}
use Rattle.tm_cert.specs.Judged.{IsRefusalOf}
use Rattle.tm_cert.specs.declared.shape.CertShape.{CertShape}
use Rattle.tm_judge.proofs.read.read_cert.Goals as goal

pub returns-clause-ok : goal.returns-clause-ok
returns-clause-ok c =
    subst (λ (shape : CertShape). IfOk c.read_shaped.result (IsCertText shape c.args.text.now)) c.shape_of.ensures
    c.read_shaped.ensures.ok

pub returns-clause-refused : goal.returns-clause-refused
returns-clause-refused c =
    subst (λ (shape : CertShape). IfErr c.read_shaped.result (IsRefusalOf (judge_text shape c.args.text.now)))
    c.shape_of.ensures c.read_shaped.ensures.refused

pub returns-clause-read : goal.returns-clause-read
returns-clause-read c cert is =
    c.read_shaped.ensures.read cert
    (subst (λ (shape : CertShape). IsCertText shape c.args.text.now cert) (sym c.shape_of.ensures) is)
