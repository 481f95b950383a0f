-- The questions on one item, in order. Assumes nothing.
use mathlib.Core.Path.{◌≡◌}
use Prim.Native.Nat.{ℕ, ◌<◌, ◌≤◌}
use borrow.Author.Tests.{lt-ltb, le-ltb, le-leb, lt-leb}
use lib.ListN.{length}
use Rattle.meaning.specs.Bytes.{Text}
use Rattle.meaning.specs.Limits.{name_bytes, item_count}
use Rattle.meaning.specs.Number.{took, no, read_text}
use Rattle.meaning.specs.Lists.{item_record}

-- as many items as a list may have are behind it
pub item-beyond : (j : ℕ) (s : Text) → item_count ≤ j → item_record j s ≡ no 14
unfolding item_record
item-beyond j s h = rw (le-ltb j item_count h)

module _ (j : ℕ) (s : Text) (h : j < item_count) where
  -- it is not well formed
  pub item-malformed : read_text s ≡ no 13 → item_record j s ≡ no 13
  unfolding item_record
  item-malformed e = rw (lt-ltb j item_count h, e)

  module _ (t rest : Text) (e : read_text s ≡ took t rest) where
    -- its name is too long
    pub item-long : name_bytes < length t → item_record j s ≡ no 15
    unfolding item_record
    item-long k = rw (lt-ltb j item_count h, e, lt-leb (length t) name_bytes k)

    -- it is read
    pub item-read : length t ≤ name_bytes → item_record j s ≡ took t rest
    unfolding item_record
    item-read k = rw (lt-ltb j item_count h, e, le-leb (length t) name_bytes k)
