-- Lines, put one after another.
use Rattle.std.proofs.Common.{◌≡◌, ℕ, ◌+◌, Result, Ok, Err, List, [], ◌++◌, length, take, sym, ap, ◌∙◌, arith}
use Rattle.std.proofs.Common.{append_assoc}
use Rattle.std.specs.Prelude.{OnErr}
use Rattle.std.proofs.lemmas.List.{append-nil, take_all}
use Rattle.std.proofs.Math.Seq.{take-append-add}
use Rattle.tm_base.specs.Sink.{AppendsPrefix}

-- nothing was put
pub cut_nothing : (before : List ℕ) → AppendsPrefix [] before before
cut_nothing before = (0, sym (append-nil before))

-- all was put
pub cut_whole : (before now text : List ℕ) → now ≡ before ++ text → AppendsPrefix text before now
cut_whole before now text whole =
    (length text, whole ∙ ap (λ t. before ++ t) (sym (take_all (length text) text (omega arith))))

-- all of one part was put, and some first part of a line
pub cut_more : (before mid now text line : List ℕ) → mid ≡ before ++ text → AppendsPrefix line mid now →
    AppendsPrefix (text ++ line) before now
cut_more before mid now text line whole part = (
  length text + part.0,
  part.1 ∙ ap (λ m. m ++ take part.0 line) whole ∙ append_assoc before text (take part.0 line)
      ∙ ap (λ t. before ++ t) (sym (take-append-add text line part.0)),
)

-- what stands behind an error, whichever result it is
pub on_err : {T E P : Type 0} (r : Result T E) → P → OnErr r P
on_err (Ok x) p = tt
on_err (Err e) p = p
