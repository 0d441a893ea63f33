use Rattle.std.proofs.Common.{◌≡◌, ℕ, ◌<◌, Bool, true, false, if◌then◌else◌, List, [], ◌∷◌, ◌++◌, length, get_or, refl, sym, ap, ◌∙◌}
use Rattle.std.proofs.lemmas.List.{get_or_append_left}
use Rattle.std.proofs.lemmas.Option.{get_or_from_slice_get}
use Rattle.std.specs.Cmp.Lexicographic.{pointwise}
use Rattle.std.specs.List.{list_any}
use Rattle.tm_ddops.specs.declared.change.Change.{Change}
use Rattle.tm_ddops.specs.Change.{item_eq, same_changes}
use Rattle.tm_ddops.proofs.tables.Tables.number.Goals as goal

kept : (lists more : List (List (ℕ × Change))) (new : List (ℕ × Change)) →
    more ≡ (if list_any (pointwise item_eq new) lists then lists else lists ++ new ∷ []) → (n : ℕ) → n < length lists
    → get_or more n [] ≡ get_or lists n []
kept lists more new is n below = ap (λ l. get_or l n []) is ∙ by_test (list_any (pointwise item_eq new) lists)
  where
    by_test : (b : Bool) → get_or (if b then lists else lists ++ new ∷ []) n [] ≡ get_or lists n []
    by_test true = refl
    by_test false = get_or_append_left lists (new ∷ []) [] n below

pub returns-then-added-clause-number : goal.returns-then-added-clause-number
returns-then-added-clause-number c =
    let there = c.in_ok-number.ensures.stored in
    get_or_from_slice_get c.insert_full.new.self.keys c.in_ok-number.number there.0 [] there.1
    ∙ sym (same_changes c.args.changes there.0 there.2)

pub returns-then-added-clause-kept : goal.returns-then-added-clause-kept
returns-then-added-clause-kept c =
    kept c.args.self.now.changes.keys c.insert_full.new.self.keys c.args.changes c.in_ok-number.ensures.keys

pub returns-else-added-clause-number : goal.returns-else-added-clause-number
returns-else-added-clause-number c =
    let there = c.in_ok-number.ensures.stored in
    get_or_from_slice_get c.insert_full.new.self.keys c.in_ok-number.number there.0 [] there.1
    ∙ sym (same_changes c.args.changes there.0 there.2)
