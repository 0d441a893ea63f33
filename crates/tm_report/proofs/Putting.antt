-- Texts that are put, one behind the other.
use Rattle.std.proofs.Common.{◌≡◌, ℕ, zero, suc, ◌+◌, ◌-◌, ◌≤◌, Result, Ok, Err, List, [], ◌∷◌, ◌++◌}
use Rattle.std.proofs.Common.{◌<◌, drop, get_or, length, refl, sym, take, ap}
use Rattle.std.proofs.Common.{◌∙◌, subst, append_assoc, arith}
use Rattle.std.specs.Prelude.{IsTrue, OnOk, OnErr, IfErr}
use Rattle.std.specs.List.{flat_map, range_with_len}
use Rattle.std.proofs.lemmas.List.{append-nil, take_all, take_more}
use Rattle.std.proofs.lemmas.List.Concat.{flat_map-append}
use Rattle.tm_base.specs.Sink.{AppendsPrefix}
use Rattle.tm_base.specs.declared.sink.Sink.{Ghosts as SinkGhosts}
use Rattle.tm_report.specs.declared.ending.Failure.{Failure}
use Rattle.tm_report.specs.declared.ending.Failure.TheVariants.{ReadFault, WriteFault, Memory}
use Rattle.tm_report.specs.Output.{SinkData, sink_data}
use Rattle.tm_report.specs.Putting.{HasPut}
use Rattle.tm_report.specs.Putting.{IsSinkFailure}
use Rattle.tm_report.proofs.Counts.{rose_later}
use Rattle.tm_report.proofs.PutLines.{cut_longer, err_as, ok_as, split_at}
use Rattle.tm_play.proofs.Putting.{cut_more}

-- memory ran out before anything was put
pub memory_put : {T : Type 0} (text : List ℕ) (out : SinkData) →
    (let r : Result T Failure = Err Memory in HasPut text out out r)
memory_put text out = record {
  whole = tt;
  cut = λ told. (0, sym (append-nil out.written));
  failure = tt;
  no_fewer_faults = omega arith;
}

-- one line was put
pub line_put : {T : Type 0} (line text : List ℕ) (out after : SinkData) (r : Result T Failure) → line ≡ text →
    OnOk r (IsTrue out.tells → after.written ≡ out.written ++ line) →
    OnErr r (IsTrue out.tells → AppendsPrefix line out.written after.written) → IfErr r (IsSinkFailure out after) →
    out.faults ≤ after.faults → HasPut text out after r
line_put line text out after r is whole cut failed faults = record {
  whole = ok_as r (IsTrue out.tells) line text out.written after.written is whole;
  cut = err_as r (IsTrue out.tells) line text out.written after.written is cut;
  failure = failed;
  no_fewer_faults = faults;
}

-- a failed put leaves a first part of a longer text
pub put_less : {T : Type 0} (text rest : List ℕ) (out after : SinkData) (failure : Failure) →
    (IsTrue out.tells → AppendsPrefix text out.written after.written) → IsSinkFailure out after failure →
    out.faults ≤ after.faults → (let r : Result T Failure = Err failure in HasPut (text ++ rest) out after r)
put_less text rest out after failure cut failed faults = record {
  whole = tt;
  cut = λ told. cut_longer out.written after.written text rest (cut told);
  failure = failed;
  no_fewer_faults = faults;
}

module _ {B : Type 0} (O : SinkGhosts B) (x y z : B) where
  sink_later : (failure : Failure) → O.faults x ≤ O.faults y → IsSinkFailure (sink_data O y) (sink_data O z) failure →
      IsSinkFailure (sink_data O x) (sink_data O z) failure
  sink_later Memory le failed = tt
  sink_later (WriteFault name) le failed =
      (failed.0, rose_later O.last_count (O.faults x) (O.faults y) (O.faults z) le failed.1)
  sink_later (ReadFault name) le failed = elim failed [ ]

  -- one text was put, and then another one
  pub then_put : {T : Type 0} (text rest : List ℕ) (r : Result T Failure) →
      (IsTrue O.tells → O.written y ≡ O.written x ++ text) → O.faults x ≤ O.faults y →
      HasPut rest (sink_data O y) (sink_data O z) r → HasPut (text ++ rest) (sink_data O x) (sink_data O z) r
  then_put text rest (Ok v) first le put = record {
    whole = λ told. put.whole told ∙ ap (λ m. m ++ rest) (first told) ∙ append_assoc (O.written x) text rest;
    cut = tt;
    failure = tt;
    no_fewer_faults = omega (arith, le, put.no_fewer_faults);
  }
  then_put text rest (Err failure) first le put = record {
    whole = tt;
    cut = λ told. cut_more (O.written x) (O.written y) (O.written z) text rest (first told) (put.cut told);
    failure = sink_later failure le put.failure;
    no_fewer_faults = omega (arith, le, put.no_fewer_faults);
  }

-- ---- one line for each number below a count
range_split : (a m n : ℕ) → range_with_len a (m + n) ≡ range_with_len a m ++ range_with_len (a + m) n
range_split a zero n =
    ap (range_with_len a) (let same : 0 + n ≡ n = omega arith in same)
    ∙ ap (λ k. range_with_len k n) (let same : a ≡ a + 0 = omega arith in same)
range_split a (suc m) n =
    ap (range_with_len a) (let same : suc m + n ≡ suc (m + n) = omega arith in same)
    ∙ ap (λ xs. a ∷ xs) (range_split (a + 1) m n)
    ∙ ap (λ k. range_with_len a (suc m) ++ range_with_len k n)
    (let same : a + 1 + m ≡ a + suc m = omega arith in same)

module _ (f : ℕ → List ℕ) where
  -- the lines of the first numbers
  abbrev pub lines_below : ℕ → List ℕ
  lines_below n = flat_map f (range_with_len 0 n)

  pub lines_split : (m n : ℕ) → m ≤ n → lines_below n ≡ lines_below m ++ flat_map f (range_with_len m (n - m))
  lines_split m n le =
      ap lines_below (let same : n ≡ m + (n - m) = omega arith in same)
      ∙ ap (flat_map f) (range_split 0 m (n - m))
      ∙ ap (λ k. flat_map f (range_with_len 0 m ++ range_with_len k (n - m)))
      (let same : 0 + m ≡ m = omega arith in same)
      ∙ flat_map-append f (range_with_len 0 m) (range_with_len m (n - m))

  pub lines_more : (n : ℕ) → lines_below (n + 1) ≡ lines_below n ++ f n
  lines_more n =
      ap (flat_map f) (range_split 0 n 1)
      ∙ ap (λ k. flat_map f (range_with_len 0 n ++ range_with_len k 1)) (let same : 0 + n ≡ n = omega arith in same)
      ∙ flat_map-append f (range_with_len 0 n) (n ∷ [])
      ∙ ap (λ line. lines_below n ++ line) (append-nil (f n))

  module _ {B : Type 0} (O : SinkGhosts B) (x y z : B) (k : ℕ)
      (so_far : IsTrue O.tells → O.written y ≡ O.written x ++ lines_below k) (le : O.faults x ≤ O.faults y) where
    -- one more line was put
    pub one_line_more : {T : Type 0} (r : Result T Failure) (v : T) → r ≡ Ok v →
        HasPut (f k) (sink_data O y) (sink_data O z) r →
        (IsTrue O.tells → O.written z ≡ O.written x ++ lines_below (k + 1)) × (O.faults x ≤ O.faults z)
    one_line_more r v is put =
        let r' = subst (HasPut (f k) (sink_data O y) (sink_data O z)) is put in
        let here = then_put O x y z (lines_below k) (f k) (Ok v) so_far le r' in (
          λ told. here.whole told ∙ ap (λ t. O.written x ++ t) (sym (lines_more k)),
          here.no_fewer_faults,
        )

    -- or not all of it
    pub line_failed : {T U : Type 0} (r : Result T Failure) (failure : Failure) → r ≡ Err failure → (n : ℕ) →
        k + 1 ≤ n → HasPut (f k) (sink_data O y) (sink_data O z) r →
        (let s : Result U Failure = Err failure in HasPut (lines_below n) (sink_data O x) (sink_data O z) s)
    line_failed {T = T} {U = U} r failure is n below put =
        let r' = subst (HasPut (f k) (sink_data O y) (sink_data O z)) is put in
        let here = then_put O x y z (lines_below k) (f k) (Err failure) so_far le r' in
        let s : Result U Failure = Err failure in
        subst (λ (t : List ℕ). HasPut t (sink_data O x) (sink_data O z) s)
        (sym (lines_split (k + 1) n below
        ∙ ap (λ t. t ++ flat_map f (range_with_len (k + 1) (n - (k + 1)))) (lines_more k)))
        (put_less (lines_below k ++ f k) (flat_map f (range_with_len (k + 1) (n - (k + 1)))) (sink_data O x)
        (sink_data O z) failure here.cut here.failure here.no_fewer_faults)

  -- all lines were put
  pub all_lines : {B : Type 0} (O : SinkGhosts B) (x y : B) (k : ℕ) →
      (IsTrue O.tells → O.written y ≡ O.written x ++ lines_below k) → O.faults x ≤ O.faults y → (n : ℕ) → k ≡ n →
      {T : Type 0} (v : T) →
      (let r : Result T Failure = Ok v in HasPut (lines_below n) (sink_data O x) (sink_data O y) r)
  all_lines O x y k whole le n is v = record {
    whole = λ told. whole told ∙ ap (λ m. O.written x ++ lines_below m) is;
    cut = tt;
    failure = tt;
    no_fewer_faults = le;
  }

-- ---- one text for each item of a list
module _ {A : Type 0} (f : A → List ℕ) (xs : List A) {B : Type 0} (O : SinkGhosts B) where
  -- the texts of the first items
  abbrev pub texts_of_first : ℕ → List ℕ
  texts_of_first i = flat_map f (take i xs)

  texts_more : (i : ℕ) (d : A) → i < length xs → texts_of_first (i + 1) ≡ texts_of_first i ++ f (get_or xs i d)
  texts_more i d within =
      ap (flat_map f) (take_more xs i d within) ∙ flat_map-append f (take i xs) (get_or xs i d ∷ [])
      ∙ ap (λ t. texts_of_first i ++ t) (append-nil (f (get_or xs i d)))

  module _ (x y z : B) (i : ℕ) (d : A) (text : List ℕ) (is_text : text ≡ f (get_or xs i d))
      (so_far : IsTrue O.tells → O.written y ≡ O.written x ++ texts_of_first i) (le : O.faults x ≤ O.faults y)
      (within : i < length xs) where
    -- one more text was put
    pub one_text_more : {T : Type 0} (r : Result T Failure) (v : T) → r ≡ Ok v →
        HasPut text (sink_data O y) (sink_data O z) r →
        (IsTrue O.tells → O.written z ≡ O.written x ++ texts_of_first (i + 1)) × (O.faults x ≤ O.faults z)
    one_text_more r v is put =
        let r' = subst (HasPut text (sink_data O y) (sink_data O z)) is put in
        let here = then_put O x y z (texts_of_first i) text (Ok v) so_far le r' in (
          λ told. here.whole told
              ∙ ap (λ t. O.written x ++ t)
              (ap (λ t. texts_of_first i ++ t) is_text ∙ sym (texts_more i d within)),
          here.no_fewer_faults,
        )

    -- or not all of it
    pub text_failed : {T U : Type 0} (r : Result T Failure) (failure : Failure) → r ≡ Err failure →
        HasPut text (sink_data O y) (sink_data O z) r →
        (let s : Result U Failure = Err failure in HasPut (flat_map f xs) (sink_data O x) (sink_data O z) s)
    text_failed {T = T} {U = U} r failure is put =
        let r' = subst (HasPut text (sink_data O y) (sink_data O z)) is put in
        let here = then_put O x y z (texts_of_first i) text (Err failure) so_far le r' in
        let s : Result U Failure = Err failure in
        subst (λ (t : List ℕ). HasPut t (sink_data O x) (sink_data O z) s)
        (sym (split_at f xs i d text within is_text))
        (put_less (texts_of_first i ++ text) (flat_map f (drop (suc i) xs)) (sink_data O x) (sink_data O z) failure
        here.cut here.failure here.no_fewer_faults)

  -- all texts were put
  pub all_texts : (x y : B) (i : ℕ) → (IsTrue O.tells → O.written y ≡ O.written x ++ texts_of_first i) →
      O.faults x ≤ O.faults y → length xs ≤ i → {T : Type 0} (v : T) →
      (let r : Result T Failure = Ok v in HasPut (flat_map f xs) (sink_data O x) (sink_data O y) r)
  all_texts x y i whole le end v = record {
    whole = λ told. whole told ∙ ap (λ (ys : List A). O.written x ++ flat_map f ys) (take_all i xs end);
    cut = tt;
    failure = tt;
    no_fewer_faults = le;
  }
