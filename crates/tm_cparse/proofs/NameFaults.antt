-- The first name at fault of a driver's tokens.
use Rattle.std.proofs.Common.{◌≡◌, ◌≢◌, ⊎_elim, ℕ, ◌^◌, ◌<◌, ◌≤◌, Bool, true, false, List, [], ◌∷◌, ◌++◌, length, refl, sym, ap, ◌∙◌, subst, true≢false, ltb, lt-ltb, ltb-true, arith}
use Rattle.tm_syntax.specs.Design.{DesignTree}
use Rattle.tm_cir.specs.Text.Token.{Token, word, label, variable, location, task, constant, sign}
use Rattle.tm_cparse.specs.declared.bad.BadDriver.{BadDriver}
use Rattle.tm_cparse.specs.declared.bad.BadDriver.TheVariants.{Text, UnknownName, BackwardGoto}
use Rattle.tm_cparse.specs.declared.names.Before.{Before}
use Rattle.tm_cparse.specs.declared.names.Before.TheVariants.{Goto, Leave, Process, Other}
use Rattle.tm_cparse.specs.declared.names.TokenPlace.{TokenPlace}
use Rattle.tm_cparse.specs.declared.spot.Spot.{Spot}
use Rattle.tm_cparse.specs.View.{token_tree, tokens_of}
use Rattle.tm_cparse.specs.Faults.{label_count, EndsWithGoto, names_item, IsNameFault}
use Rattle.tm_cparse.specs.Faults as faults
use Rattle.tm_cparse.specs.Inner.Names.{place_behind, place_after, first_place, IsRightLabel, IsRightConstant, IsRight, AreRight, AreKnown, IsFaultAt, unknown, no_process, backward, beyond, out_of_order, wrong_count, IsFirstFault, here, later}
use Rattle.tm_cparse.proofs.Positions.{goto_last, last_goto, process_last, last_process, labels_count}

-- the fault of a token by its place, and by the tokens before it
pub fault_before : (d : DesignTree) (count : ℕ) (front : List Spot) (s : Spot) (others : List Spot) (bad : BadDriver) →
    IsFaultAt d count (place_after first_place (tokens_of front)) (token_tree s.token) s.known s.line
    (tokens_of others) bad → IsNameFault d count front s others bad
fault_before d count front s others bad (unknown item known) = faults.unknown item known
fault_before d count front s others bad (no_process before is none) =
    let found = last_process (tokens_of front) before in faults.no_process found.0 found.1 is none
fault_before d count front s others bad (backward {k = k} before is low) =
    faults.backward (last_goto (tokens_of front) before) is
    (subst (λ (n : ℕ). k < n) (labels_count (tokens_of front)) low)
fault_before d count front s others bad (beyond before is high) =
    faults.beyond (last_goto (tokens_of front) before) is high
fault_before d count front s others bad (out_of_order {k = k} before is other) =
    faults.out_of_order (λ ends. before (goto_last (tokens_of front) ends)) is
    (λ same. other (same ∙ sym (labels_count (tokens_of front))))
fault_before d count front s others bad (wrong_count args rest is known behind wrong) =
    faults.wrong_count args rest is known behind wrong

pub fault_at : (d : DesignTree) (count : ℕ) (front : List Spot) (s : Spot) (others : List Spot) (bad : BadDriver) →
    IsNameFault d count front s others bad →
    IsFaultAt d count (place_after first_place (tokens_of front)) (token_tree s.token) s.known s.line
    (tokens_of others) bad
fault_at d count front s others bad (faults.unknown item known) = unknown item known
fault_at d count front s others bad (faults.no_process before stands is none) =
    no_process (process_last (tokens_of front) before stands) is none
fault_at d count front s others bad (faults.backward {k = k} ends is low) =
    backward (goto_last (tokens_of front) ends) is
    (subst (λ (n : ℕ). k < n) (sym (labels_count (tokens_of front))) low)
fault_at d count front s others bad (faults.beyond ends is high) =
    beyond (goto_last (tokens_of front) ends) is high
fault_at d count front s others bad (faults.out_of_order {k = k} ends is other) =
    out_of_order (λ before. ends (last_goto (tokens_of front) before)) is
    (λ same. other (same ∙ labels_count (tokens_of front)))
fault_at d count front s others bad (faults.wrong_count args rest is known behind wrong) =
    wrong_count args rest is known behind wrong

right_label : (count n k : ℕ) (b : Before) → b ≢ Goto → IsRightLabel count n b k → k ≡ n
right_label count n k Goto other right = absurd (other refl)
right_label count n k Leave other right = right
right_label count n k Process other right = right
right_label count n k Other other right = right

-- a token that is right is at no fault
pub right_no_fault : (d : DesignTree) (count : ℕ) (at : TokenPlace) (t : Token) (known : Bool) (line : ℕ)
    (others : List Token) (bad : BadDriver) → (names_item t ≡ true → known ≡ true) → IsRight d count at t others →
    IsFaultAt d count at t known line others bad → ⊥
right_no_fault d count at t known line others bad item right (unknown names unknown_is) =
    true≢false (sym (item names) ∙ unknown_is)
right_no_fault d count at t known line others bad item right (no_process {p = p} before is none) =
    let found : IsRightConstant d at.before p = subst (λ (u : Token). IsRight d count at u others) is right in
    let both : IsRightConstant d Process p = subst (λ (b : Before). IsRightConstant d b p) before found in
    ⊎_elim (λ (high : length d.processes ≤ p). omega (arith, high, both.0)) (λ (high : 2 ^ 32 ≤ p). omega (
      arith,
      high,
      both.1,
    ))
    none
right_no_fault d count at t known line others bad item right (backward {k = k} before is low) =
    let found : IsRightLabel count at.labels at.before k = subst (λ (u : Token). IsRight d count at u others) is
    right in
    let both : IsRightLabel count at.labels Goto k =
    subst (λ (b : Before). IsRightLabel count at.labels b k) before found in
    omega (arith, low, both.0)
right_no_fault d count at t known line others bad item right (beyond {k = k} before is high) =
    let found : IsRightLabel count at.labels at.before k = subst (λ (u : Token). IsRight d count at u others) is
    right in
    let both : IsRightLabel count at.labels Goto k =
    subst (λ (b : Before). IsRightLabel count at.labels b k) before found in
    omega (arith, high, both.1)
right_no_fault d count at t known line others bad item right (out_of_order {k = k} before is other) =
    let found : IsRightLabel count at.labels at.before k = subst (λ (u : Token). IsRight d count at u others) is
    right in
    other (right_label count at.labels k at.before before found)
right_no_fault d count at t known line others bad item right (wrong_count args rest is known_is behind wrong) =
    wrong ((subst (λ (u : Token). IsRight d count at u others) is right) args rest behind)

-- where the first fault stands
pub record IsSplit (d : DesignTree) (count : ℕ) (at : TokenPlace) (spots : List Spot) (bad : BadDriver) : Type 0 where
  pub front : List Spot
  pub spot : Spot
  pub others : List Spot
  pub whole : spots ≡ front ++ spot ∷ others
  pub is : IsFaultAt d count (place_after at (tokens_of front)) (token_tree spot.token) spot.known spot.line
      (tokens_of others) bad
  pub first : (before behind : List Spot) (s : Spot) (other : BadDriver) → spots ≡ before ++ s ∷ behind →
      length before < length front →
      ¬ IsFaultAt d count (place_after at (tokens_of before)) (token_tree s.token) s.known s.line (tokens_of behind)
      other

pub split : (d : DesignTree) (count : ℕ) {at : TokenPlace} {spots : List Spot} {bad : BadDriver} →
    IsFirstFault d count at spots bad → IsSplit d count at spots bad
split d count (here {s = s} {others = others} fault) = record {
  front = [];
  spot = s;
  others = others;
  whole = refl;
  is = fault;
  first = λ before behind t other is low. absurd (omega (arith, low));
}
split d count {bad = bad} (later {at = at} {s = s} {others = others} item right rest) =
    let found = split d count rest in
    record {
      front = s ∷ found.front;
      spot = found.spot;
      others = found.others;
      whole = ap (λ (l : List Spot). s ∷ l) found.whole;
      is = found.is;
      first = λ before behind t other is low. earlier found before behind t other is low;
    }
  where
    earlier : (found : IsSplit d count (place_behind at (token_tree s.token)) others bad) →
        (before behind : List Spot) (t : Spot) (other : BadDriver) → s ∷ others ≡ before ++ t ∷ behind →
        length before < length (s ∷ found.front) →
        IsFaultAt d count (place_after at (tokens_of before)) (token_tree t.token) t.known t.line (tokens_of behind)
        other → ⊥
    earlier found [] behind t other is low fault =
        let same : t ≡ s = cc in
        let rest_is : behind ≡ others = cc in
        right_no_fault d count at (token_tree s.token) s.known s.line (tokens_of others) other item right
        (subst (λ (l : List Spot).
        IsFaultAt d count at (token_tree s.token) s.known s.line (tokens_of l) other) rest_is
        (subst (λ (u : Spot). IsFaultAt d count at (token_tree u.token) u.known u.line (tokens_of behind) other) same
        fault))
    earlier found (b ∷ before) behind t other is low fault =
        let same : b ≡ s = cc in
        let rest_is : others ≡ before ++ t ∷ behind = cc in
        found.first before behind t other rest_is (omega (arith, low))
        (subst (λ (u : Spot).
        IsFaultAt d count (place_after (place_behind at (token_tree u.token)) (tokens_of before)) (token_tree t.token)
        t.known t.line (tokens_of behind) other) same fault)

-- what all tokens are, each is
pub right_at : (d : DesignTree) (count : ℕ) (at : TokenPlace) (front : List Spot) (s : Spot) (others : List Spot) →
    AreRight d count at (tokens_of (front ++ s ∷ others)) →
    IsRight d count (place_after at (tokens_of front)) (token_tree s.token) (tokens_of others)
right_at d count at [] s others right = right.0
right_at d count at (f ∷ front) s others right =
    right_at d count (place_behind at (token_tree f.token)) front s others right.1

pub known_at : (front : List Spot) (s : Spot) (others : List Spot) → AreKnown (front ++ s ∷ others) →
    names_item (token_tree s.token) ≡ true → s.known ≡ true
known_at [] s others known = known.0
known_at (f ∷ front) s others known = known_at front s others known.1

-- the fault of a token
abbrev by_order : Bool → ℕ → BadDriver
by_order true line = BackwardGoto line
by_order false line = Text line

abbrev label_bad : ℕ → Before → ℕ → ℕ → BadDriver
label_bad labels Goto k line = by_order (ltb k labels) line
label_bad labels before k line = Text line

abbrev task_bad : Bool → ℕ → BadDriver
task_bad true line = Text line
task_bad false line = UnknownName line

abbrev pub bad_of : TokenPlace → Token → Bool → ℕ → BadDriver
bad_of at (label k) known line = label_bad at.labels at.before k line
bad_of at (task k) known line = task_bad known line
bad_of at t known line = UnknownName line

unknown_is : (at : TokenPlace) (t : Token) (known : Bool) (line : ℕ) → names_item t ≡ true → known ≡ false →
    UnknownName line ≡ bad_of at t known line
unknown_is at (variable k) known line item off = refl
unknown_is at (location k) known line item off = refl
unknown_is at (task k) known line item off = ap (λ (b : Bool). task_bad b line) (sym off)
unknown_is at (word w) known line item off = absurd (true≢false (sym item))
unknown_is at (label k) known line item off = absurd (true≢false (sym item))
unknown_is at (constant n) known line item off = absurd (true≢false (sym item))
unknown_is at (sign s) known line item off = absurd (true≢false (sym item))

not_before : (k labels : ℕ) → labels ≤ k → ltb k labels ≡ false
not_before k labels high = of (ltb k labels) refl
  where
    of : (v : Bool) → ltb k labels ≡ v → ltb k labels ≡ false
    of true is = absurd (omega (arith, high, ltb-true k labels is))
    of false is = is

plain_label : (labels k line : ℕ) (b : Before) → b ≢ Goto → Text line ≡ label_bad labels b k line
plain_label labels k line Goto other = absurd (other refl)
plain_label labels k line Leave other = refl
plain_label labels k line Process other = refl
plain_label labels k line Other other = refl

pub fault_is : (d : DesignTree) (count : ℕ) (at : TokenPlace) (t : Token) (known : Bool) (line : ℕ)
    (others : List Token) (bad : BadDriver) → at.labels ≤ count → IsFaultAt d count at t known line others bad →
    bad ≡ bad_of at t known line
fault_is d count at t known line others bad few (unknown item off) = unknown_is at t known line item off
fault_is d count at t known line others bad few (no_process before is none) =
    ap (λ (u : Token). bad_of at u known line) (sym is)
fault_is d count at t known line others bad few (backward {k = k} before is low) =
    ap (λ (v : Bool). by_order v line) (sym (lt-ltb k at.labels low))
    ∙ ap (λ (b : Before). label_bad at.labels b k line) (sym before)
    ∙ ap (λ (u : Token). bad_of at u known line) (sym is)
fault_is d count at t known line others bad few (beyond {k = k} before is high) =
    ap (λ (v : Bool). by_order v line) (sym (not_before k at.labels (omega (arith, few, high))))
    ∙ ap (λ (b : Before). label_bad at.labels b k line) (sym before)
    ∙ ap (λ (u : Token). bad_of at u known line) (sym is)
fault_is d count at t known line others bad few (out_of_order {k = k} before is other) =
    plain_label at.labels k line at.before before ∙ ap (λ (u : Token). bad_of at u known line) (sym is)
fault_is d count at t known line others bad few (wrong_count {k = k} args rest is known_is behind wrong) =
    ap (λ (v : Bool). task_bad v line) (sym known_is) ∙ ap (λ (u : Token). bad_of at u known line) (sym is)
