-- The first name at fault of a driver's tokens.
use Rattle.std.proofs.Common.{◌≡◌, ◌≢◌, ⊎_elim, ℕ, ◌^◌, ◌<◌, ◌≤◌, Bool, true, false, List, [], ◌∷◌, ◌++◌, length, refl}
use Rattle.std.proofs.Common.{sym, ap, ◌∙◌, subst, true≢false, ltb, lt-ltb, ltb-true, arith}
use Rattle.tm_syntax.specs.Design.{DesignTree}
use Rattle.tm_cir.specs.Text.Token.{Token, word, label, variable, location, task, constant, sign}
use Rattle.tm_cparse.specs.declared.spot.Spot.{Spot}
use Rattle.tm_cparse.specs.View.{token_tree, tokens_of}
use Rattle.tm_cparse.specs.Faults.{names_item}
use Rattle.tm_struct_parse.specs.declared.bad.BadStructured.{BadStructured}
use Rattle.tm_struct_parse.specs.declared.bad.BadStructured.TheVariants.{Text, UnknownName, ForwardCall}
use Rattle.tm_struct_parse.specs.declared.names.Before.{Before}
use Rattle.tm_struct_parse.specs.declared.names.Before.TheVariants.{Void, Leave, Process, Other}
use Rattle.tm_struct_parse.specs.declared.names.TokenPlace.{TokenPlace}
use Rattle.tm_struct_parse.specs.Faults.{IsNameFault}
use Rattle.tm_struct_parse.specs.Faults as faults
use Rattle.tm_struct_parse.specs.Inner.Names.{callable_at, place_behind, place_after, first_place, IsRightName}
use Rattle.tm_struct_parse.specs.Inner.Names.{IsRightConstant, IsRight, AreRight, IsFaultAt, unknown, no_process}
use Rattle.tm_struct_parse.specs.Inner.Names.{out_of_order, beyond, forward, wrong_count, IsFirstFault, here, later}
use Rattle.tm_struct_parse.proofs.NameSteps.{places_grow, callable_few}
use Rattle.tm_struct_parse.proofs.Positions.{void_last, last_void, process_last, last_process, functions_count}
use Rattle.tm_struct_parse.proofs.Positions.{callable_is}

-- the fault of a token by its place, and by the tokens before it
pub fault_before : (d : DesignTree) (count : ℕ) (front : List Spot) (s : Spot) (others : List Spot)
    (bad : BadStructured) →
    IsFaultAt d count (place_after first_place (tokens_of front)) (token_tree s.token) s.known s.line
    (tokens_of others) bad → IsNameFault d count front s others bad
fault_before d count front s others bad (unknown item known) = faults.unknown item known
fault_before d count front s others bad (no_process before is none) =
    let found = last_process (tokens_of front) before in faults.no_process found.0 found.1 is none
fault_before d count front s others bad (out_of_order {k = k} before is other) =
    faults.out_of_order (last_void (tokens_of front) before) is
    (λ same. other (same ∙ sym (functions_count (tokens_of front))))
fault_before d count front s others bad (beyond before is high) =
    faults.beyond (λ ends. before (void_last (tokens_of front) ends)) is high
fault_before d count front s others bad (forward {k = k} before is low high) =
    faults.forward (λ ends. before (void_last (tokens_of front) ends)) is low
    (subst (λ (n : ℕ). n ≤ k) (callable_is (tokens_of front)) high)
fault_before d count front s others bad (wrong_count args rest is known behind wrong) =
    faults.wrong_count args rest is known behind wrong

pub fault_at : (d : DesignTree) (count : ℕ) (front : List Spot) (s : Spot) (others : List Spot) (bad : BadStructured) →
    IsNameFault d count front s others bad →
    IsFaultAt d count (place_after first_place (tokens_of front)) (token_tree s.token) s.known s.line
    (tokens_of others) bad
fault_at d count front s others bad (faults.unknown item known) = unknown item known
fault_at d count front s others bad (faults.no_process before stands is none) =
    no_process (process_last (tokens_of front) before stands) is none
fault_at d count front s others bad (faults.out_of_order {k = k} ends is other) =
    out_of_order (void_last (tokens_of front) ends) is (λ same. other (same ∙ functions_count (tokens_of front)))
fault_at d count front s others bad (faults.beyond none is high) =
    beyond (λ before. none (last_void (tokens_of front) before)) is high
fault_at d count front s others bad (faults.forward {k = k} none is low high) =
    forward (λ before. none (last_void (tokens_of front) before)) is low
    (subst (λ (n : ℕ). n ≤ k) (sym (callable_is (tokens_of front))) high)
fault_at d count front s others bad (faults.wrong_count args rest is known behind wrong) =
    wrong_count args rest is known behind wrong

-- the name of a function that does not begin is one that may be named
right_name : (at : TokenPlace) (b : Before) (k : ℕ) → b ≢ Void → IsRightName at b k → k < callable_at at
right_name at Void k other right = absurd (other refl)
right_name at Leave k other right = right
right_name at Process k other right = right
right_name at Other k other right = right

-- a token that is right is at no fault, where no more functions may be named than there are
pub right_no_fault : (d : DesignTree) (count : ℕ) (at : TokenPlace) (t : Token) (known : Bool) (line : ℕ)
    (others : List Token) (bad : BadStructured) → callable_at at ≤ count → (names_item t ≡ true → known ≡ true) →
    IsRight d at t others → IsFaultAt d count at t known line others bad → ⊥
right_no_fault d count at t known line others bad few item right (unknown names unknown_is) =
    true≢false (sym (item names) ∙ unknown_is)
right_no_fault d count at t known line others bad few item right (no_process {p = p} before is none) =
    let found : IsRightConstant d at.before p = subst (λ (u : Token). IsRight d at u others) is right in
    let both : IsRightConstant d Process p = subst (λ (b : Before). IsRightConstant d b p) before found in
    ⊎_elim (λ (high : length d.processes ≤ p). omega (arith, high, both.0)) (λ (high : 2 ^ 32 ≤ p). omega (
      arith,
      high,
      both.1,
    ))
    none
right_no_fault d count at t known line others bad few item right (out_of_order {k = k} before is other) =
    let found : IsRightName at at.before k = subst (λ (u : Token). IsRight d at u others) is right in
    let same : IsRightName at Void k = subst (λ (b : Before). IsRightName at b k) before found in
    other same
right_no_fault d count at t known line others bad few item right (beyond {k = k} before is high) =
    let found : IsRightName at at.before k = subst (λ (u : Token). IsRight d at u others) is right in
    omega (arith, high, few, right_name at at.before k before found)
right_no_fault d count at t known line others bad few item right (forward {k = k} before is low high) =
    let found : IsRightName at at.before k = subst (λ (u : Token). IsRight d at u others) is right in
    omega (arith, high, right_name at at.before k before found)
right_no_fault d count at t known line others bad few item right (wrong_count args rest is known_is behind wrong) =
    wrong ((subst (λ (u : Token). IsRight d at u others) is right) args rest behind)

-- where the first fault stands
pub record IsSplit (d : DesignTree) (count : ℕ) (at : TokenPlace) (spots : List Spot) (bad : BadStructured) : Type 0
  where
    pub front : List Spot
    pub spot : Spot
    pub others : List Spot
    pub whole : spots ≡ front ++ spot ∷ others
    pub is : IsFaultAt d count (place_after at (tokens_of front)) (token_tree spot.token) spot.known spot.line
        (tokens_of others) bad
    pub first : (before behind : List Spot) (s : Spot) (other : BadStructured) → spots ≡ before ++ s ∷ behind →
        length before < length front →
        ¬ IsFaultAt d count (place_after at (tokens_of before)) (token_tree s.token) s.known s.line (tokens_of behind)
        other

pub split : (d : DesignTree) (count : ℕ) {at : TokenPlace} {spots : List Spot} {bad : BadStructured} →
    (place_after at (tokens_of spots)).functions ≤ count → IsFirstFault d count at spots bad →
    IsSplit d count at spots bad
split d count few (here {s = s} {others = others} fault) = record {
  front = [];
  spot = s;
  others = others;
  whole = refl;
  is = fault;
  first = λ before behind t other is low. absurd (omega (arith, low));
}
split d count {bad = bad} few (later {at = at} {s = s} {others = others} item right rest) =
    let found = split d count few rest in
    record {
      front = s ∷ found.front;
      spot = found.spot;
      others = found.others;
      whole = ap (λ (l : List Spot). s ∷ l) found.whole;
      is = found.is;
      first = λ before behind t other is low. earlier found before behind t other is low;
    }
  where
    callable_low : callable_at at ≤ count
    callable_low =
        omega (arith, callable_few at, places_grow at (token_tree s.token ∷ tokens_of others), few)

    earlier : (found : IsSplit d count (place_behind at (token_tree s.token)) others bad) →
        (before behind : List Spot) (t : Spot) (other : BadStructured) → s ∷ others ≡ before ++ t ∷ behind →
        length before < length (s ∷ found.front) →
        IsFaultAt d count (place_after at (tokens_of before)) (token_tree t.token) t.known t.line (tokens_of behind)
        other → ⊥
    earlier found [] behind t other is low fault =
        let same : t ≡ s = cc in
        let rest_is : behind ≡ others = cc in
        right_no_fault d count at (token_tree s.token) s.known s.line (tokens_of others) other callable_low item right
        (subst (λ (l : List Spot).
        IsFaultAt d count at (token_tree s.token) s.known s.line (tokens_of l) other) rest_is
        (subst (λ (u : Spot). IsFaultAt d count at (token_tree u.token) u.known u.line (tokens_of behind) other) same
        fault))
    earlier found (b ∷ before) behind t other is low fault =
        let same : b ≡ s = cc in
        let rest_is : others ≡ before ++ t ∷ behind = cc in
        found.first before behind t other rest_is (omega (arith, low))
        (subst (λ (u : Spot).
        IsFaultAt d count (place_after (place_behind at (token_tree u.token)) (tokens_of before)) (token_tree t.token)
        t.known t.line (tokens_of behind) other) same fault)

-- what all tokens are, each is
pub right_at : (d : DesignTree) (at : TokenPlace) (front : List Spot) (s : Spot) (others : List Spot) →
    AreRight d at (tokens_of (front ++ s ∷ others)) →
    IsRight d (place_after at (tokens_of front)) (token_tree s.token) (tokens_of others)
right_at d at [] s others right = right.0
right_at d at (f ∷ front) s others right =
    right_at d (place_behind at (token_tree f.token)) front s others right.1

-- the fault of a token
abbrev by_count : Bool → ℕ → BadStructured
by_count true line = ForwardCall line
by_count false line = Text line

abbrev name_bad : ℕ → Before → ℕ → ℕ → BadStructured
name_bad count Void k line = Text line
name_bad count before k line = by_count (ltb k count) line

abbrev task_bad : Bool → ℕ → BadStructured
task_bad true line = Text line
task_bad false line = UnknownName line

abbrev pub bad_of : ℕ → TokenPlace → Token → Bool → ℕ → BadStructured
bad_of count at (label k) known line = name_bad count at.before k line
bad_of count at (task k) known line = task_bad known line
bad_of count at t known line = UnknownName line

unknown_is : (count : ℕ) (at : TokenPlace) (t : Token) (known : Bool) (line : ℕ) → names_item t ≡ true →
    known ≡ false → UnknownName line ≡ bad_of count at t known line
unknown_is count at (variable k) known line item off = refl
unknown_is count at (location k) known line item off = refl
unknown_is count at (task k) known line item off = ap (λ (b : Bool). task_bad b line) (sym off)
unknown_is count at (word w) known line item off = absurd (true≢false (sym item))
unknown_is count at (label k) known line item off = absurd (true≢false (sym item))
unknown_is count at (constant n) known line item off = absurd (true≢false (sym item))
unknown_is count at (sign s) known line item off = absurd (true≢false (sym item))

not_below : (k count : ℕ) → count ≤ k → ltb k count ≡ false
not_below k count high = of (ltb k count) refl
  where
    of : (v : Bool) → ltb k count ≡ v → ltb k count ≡ false
    of true is = absurd (omega (arith, high, ltb-true k count is))
    of false is = is

called : (count k line : ℕ) (b : Before) (v : Bool) → b ≢ Void → ltb k count ≡ v →
    by_count v line ≡ name_bad count b k line
called count k line Void v other is = absurd (other refl)
called count k line Leave v other is = ap (λ (w : Bool). by_count w line) (sym is)
called count k line Process v other is = ap (λ (w : Bool). by_count w line) (sym is)
called count k line Other v other is = ap (λ (w : Bool). by_count w line) (sym is)

pub fault_is : (d : DesignTree) (count : ℕ) (at : TokenPlace) (t : Token) (known : Bool) (line : ℕ)
    (others : List Token) (bad : BadStructured) → IsFaultAt d count at t known line others bad →
    bad ≡ bad_of count at t known line
fault_is d count at t known line others bad (unknown item off) = unknown_is count at t known line item off
fault_is d count at t known line others bad (no_process before is none) =
    ap (λ (u : Token). bad_of count at u known line) (sym is)
fault_is d count at t known line others bad (out_of_order {k = k} before is other) =
    ap (λ (b : Before). name_bad count b k line) (sym before)
    ∙ ap (λ (u : Token). bad_of count at u known line) (sym is)
fault_is d count at t known line others bad (beyond {k = k} before is high) =
    called count k line at.before false before (not_below k count high)
    ∙ ap (λ (u : Token). bad_of count at u known line) (sym is)
fault_is d count at t known line others bad (forward {k = k} before is low high) =
    called count k line at.before true before (lt-ltb k count low)
    ∙ ap (λ (u : Token). bad_of count at u known line) (sym is)
fault_is d count at t known line others bad (wrong_count {k = k} args rest is known_is behind wrong) =
    ap (λ (v : Bool). task_bad v line) (sym known_is) ∙ ap (λ (u : Token). bad_of count at u known line) (sym is)
