-- The keys of objects stand in byte order.
use Rattle.std.specs.Prelude.{◌≡◌, ℕ, List, ⊤}
use Rattle.std.specs.Cmp.Lexicographic.{slice_cmp}
use Rattle.std.specs.Ordering.{nat_cmp}
use Rattle.std.specs.declared.cmp.Ordering.TheVariants.{Less}
use Rattle.serde_json.specs.Data.{Data, null, boolean, number, string, array, object, Items, no_items, item, Members, no_members, member}

-- the key is below each of these, byte by byte
abbrev pub IsBelowKeys : List ℕ → Members → Type 0
IsBelowKeys key no_members = ⊤
IsBelowKeys key (member other d ms) = (slice_cmp nat_cmp key other ≡ Less) × IsBelowKeys key ms

-- each object of a value has its keys in byte order, and none twice
abbrev mutual
  pub HasKeysInOrder : Data → Type 0
  HasKeysInOrder null = ⊤
  HasKeysInOrder (boolean b) = ⊤
  HasKeysInOrder (number n) = ⊤
  HasKeysInOrder (string s) = ⊤
  HasKeysInOrder (array ds) = ItemsHaveKeysInOrder ds
  HasKeysInOrder (object ms) = AreInOrder ms

  pub ItemsHaveKeysInOrder : Items → Type 0
  ItemsHaveKeysInOrder no_items = ⊤
  ItemsHaveKeysInOrder (item d ds) = HasKeysInOrder d × ItemsHaveKeysInOrder ds

  pub AreInOrder : Members → Type 0
  AreInOrder no_members = ⊤
  AreInOrder (member key d ms) = IsBelowKeys key ms × (HasKeysInOrder d × AreInOrder ms)
