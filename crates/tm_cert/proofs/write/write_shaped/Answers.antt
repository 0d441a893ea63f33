use Rattle.std.proofs.Common.{sym, ◌∙◌, subst}
use Rattle.serde_json.specs.View.{view}
use Rattle.tm_cert.specs.CertValue.{IsCertText}
use Rattle.tm_cert.proofs.WrittenTexts.{text_reads, text_written}
use Rattle.tm_cert.proofs.write.write_shaped.Goals as goal

pub returns-clause-text : goal.returns-clause-text
returns-clause-text c =
    c.in_ok-push.ensures.items
    ∙ text_written c.args.bits c.args.cert.now (view c.in_ok-cert_value.field-0) c.in_ok-text.text.items
    c.in_ok-cert_value.ensures c.in_ok-text.ensures.text

pub returns-clause-reads_back : goal.returns-clause-reads_back
returns-clause-reads_back c shape given same is =
    let text = c.in_ok-text.text.items in
    subst (λ bytes. IsCertText shape bytes c.args.cert.now) (sym c.in_ok-push.ensures.items)
    (text_reads shape c.args.bits c.args.cert.now given (view c.in_ok-cert_value.field-0) text
    c.in_ok-cert_value.ensures c.in_ok-text.ensures.compact c.in_ok-text.ensures.utf8 c.in_ok-text.ensures.order
    c.in_ok-text.ensures.reads_back same is)
