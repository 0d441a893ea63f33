use Rattle.std.proofs.Common.{◌≡◌, sym}
use Rattle.std.proofs.lemmas.Result.{IfOk-weaker}
use Rattle.serde_json.specs.Data.{Data}
use Rattle.tm_cert.specs.CertValue.{IsCert, IsCertText}
use Rattle.tm_cert.specs.declared.shape.CertShape.{CertShape}
use Rattle.tm_flat.specs.Flat.{flat_terms}
use Rattle.tm_judge.specs.FlatShape.{flat_shape}
use Rattle.tm_judge.proofs.write.write_cert.Goals as goal

pub returns-clause-reads_back : goal.returns-clause-reads_back
returns-clause-reads_back c =
    let shape = flat_shape (flat_terms c.args.flat.now) in
    IfOk-weaker c.write_shaped.result
    (λ bytes. (given : CertShape) (d : Data) → given.bits ≡ c.state_bits.result → IsCert given d c.args.cert.now →
    IsCertText given bytes.items c.args.cert.now)
    (λ bytes. (wanted : _) (d : Data) → IsCert (shape wanted) d c.args.cert.now →
    IsCertText (shape wanted) bytes.items c.args.cert.now)
    (λ bytes reads wanted d is. reads (shape wanted) d (sym c.state_bits.ensures) is) c.write_shaped.ensures.reads_back
