use Rattle.std.proofs.Common.{◌≡◌, ◌++◌, ℕ, List, [], ◌∷◌, length, sym, ap, ◌∙◌, subst, arith}
use Rattle.std.proofs.lemmas.Option.{slice_get-get_or}
use Rattle.tm_reorder.specs.Inner.Raised.{AreParts}
use Rattle.tm_reorder.proofs.Branches.{parts_begun, parts_kept, parts_more}
use Rattle.tm_reorder.proofs.raising.all_parted.Goals as goal

pub loop-entry-init : goal.loop-entry-init
loop-entry-init c =
    let items : c.push-2.new.self.items ≡ (0, 0) ∷ (1, 1) ∷ [] =
    c.in_ok-push-2.ensures.items
    ∙ ap (λ (parts : List (ℕ × ℕ)). parts ++ (1, 1) ∷ [])
    (c.in_ok-push.ensures.items ∙ ap (λ (parts : List (ℕ × ℕ)). parts ++ (0, 0) ∷ []) c.in_ok-parts.ensures.items) in
    record {
      branches = c.requires.branches;
      parts = parts_begun c.args.entries.now c.args.graph.now.entries.keys c.args.level c.push-2.new.self.items items;
    }

pub part_of-requires-clause-parts : goal.part_of-requires-clause-parts
part_of-requires-clause-parts c =
    let at = slice_get-get_or c.args.entries.now c.loop-entry.entry-index (record { level = 0; lo = 0; hi = 0 })
    c.loop-entry-test.true in (
      c.args.entries.now,
      c.loop-entry.entry-index,
      subst (AreParts c.args.entries.now c.loop-entry.graph.entries.keys c.args.level c.loop-entry.entry-index)
          (sym c.deref.ensures.value) c.loop-entry.invariant.parts,
      c.requires.entries c.loop-entry.entry-index _ at,
    )

pub loop-entry-preserved : goal.loop-entry-preserved
loop-entry-preserved c =
    let entries = c.args.entries.now in
    let index = c.loop-entry.entry-index in
    let one = c.loop-entry.graph.entries.keys in
    let two = c.part_of.new.graph.entries.keys in
    let parts = c.loop-entry.parts.items in
    let at = slice_get-get_or entries index (record { level = 0; lo = 0; hi = 0 }) c.loop-entry-test.true in
    record {
      branches = c.part_of.ensures.branches;
      parts = parts_more entries two c.args.level index parts c.push-in-loop-entry.new.self.items c.in_ok-part.part
          c.in_ok-push-3.ensures.items
          (parts_kept entries one two c.args.level index parts c.part_of.ensures.keeps c.loop-entry.invariant.parts)
          (c.in_ok-part.ensures.part entries index
          (subst (AreParts entries one c.args.level index) (sym c.deref.ensures.value) c.loop-entry.invariant.parts)
          (c.requires.entries index _ at));
    }

pub returns-clause-parts : goal.returns-clause-parts
returns-clause-parts c =
    let all : c.loop-entry.entry-index ≡ length c.args.entries.now = omega arith in
    subst
    (λ (done : ℕ).
    AreParts c.args.entries.now c.loop-entry.graph.entries.keys c.args.level done c.loop-entry.parts.items)
    all c.loop-entry.invariant.parts
