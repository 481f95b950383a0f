-- The row of a name under a spec stands, or is gone. Assumes nothing.
use mathlib.Core.Path.{◌≡◌, refl, sym, ap, ◌∙◌}
use mathlib.Core.Bool.{Bool, true, false}
use mathlib.Core.List.{append-nil}
use Rattle.std.specs.Prelude as prelude
use mathlib.Core.Option.{none, some}
use Prim.Native.Nat.{ℕ, suc, ◌+◌, ◌≤◌, ◌<◌}
use native.Mathlib.Omega.{arith}
use native.Mathlib.Numerals.{add-one}
use lib.ListN.{length}
use Rattle.meaning.specs.Bytes.{Text, or_empty}
use Rattle.meaning.specs.Limits.{name_bytes, item_count, spec_count, mapped_bytes}
use Rattle.meaning.specs.Spec.{Spec}
use Rattle.meaning.specs.Rows.{row_bytes}
use Rattle.meaning.specs.Listing.{forward_ends, reverse_ends}
use Rattle.promises.proofs.Fitting.{Short, reverse-length}
use Rattle.promises.proofs.Listings.{forward-made, reverse-made}
use Rattle.glob.specs.declared.Captured.{Captured}
use Rattle.matcher.specs.declared.types.Matcher.{Matcher}
use Rattle.matcher.specs.declared.types.Ends.{Ends}
use Rattle.matcher.specs.Matching.{row_text_meant, ends_meant, RowTextWithin, RowEndsWithin, EndsWithin, Matches}
use Rattle.row.specs.declared.Numbers.{Numbers}
use Rattle.row.specs.Rows.{ShortTexts, RowWithin, row_of_ends}
use Rattle.match_row.specs.Pairs.{matcher_spec, ends_in, made_in, item_bytes, field_numbers}
use Rattle.match_row.specs.Asking.{MatcherReady, EndsTold}

-- each direction is one function of the matcher
module _ (specs name : Text) (m : Matcher) (r : prelude.Option Ends) (ready : MatcherReady specs m) (w : EndsWithin (length specs) (length name) r) where
  pub told-back : ((s : Spec) → Matches specs s m → ends_meant specs name r ≡ reverse_ends s name) → EndsTold true specs name m r
  told-back h = record { told = h (matcher_spec specs m) ready.matches; within = w }

  pub told-on : ((s : Spec) → Matches specs s m → ends_meant specs name r ≡ forward_ends s name) → EndsTold false specs name m r
  told-on h = record { told = h (matcher_spec specs m) ready.matches; within = w }

pub lent_is : (specs name : Text) (m : Matcher) → MatcherReady specs m → length name ≤ name_bytes → ShortTexts specs name
lent_is specs name m r h = record { specs-short = r.specs-short; name-short = h }

-- the numbers of a row are small
module _ (len name_len i : ℕ) (x : Ends) (s : i ≤ spec_count) (w : RowEndsWithin len name_len x) (n : Numbers) where
  pub field-small : (field : ℕ) → n ≡ field_numbers i field → field ≤ item_count → RowWithin len name_len n x
  field-small field e f = rw e (record { item-small = f; spec-small = s; ends-within = w })

  pub item-small : (j : ℕ) → n ≡ field_numbers i (j + 1) → j < item_count → RowWithin len name_len n x
  item-small j e h = field-small (j + 1) e (omega arith)

  pub object-small : n ≡ field_numbers i 0 → RowWithin len name_len n x
  object-small e = field-small 0 e (omega arith)

-- a name that is not matched has no ends, and one that is has those that are made of what was caught
module _ (back : Bool) (specs name : Text) (m : Matcher) (r : prelude.Option Captured) (t : EndsTold back specs name m (made_in back m r)) where
  none-made : made_in back m prelude.None ≡ prelude.None
  none-made = go back
    where
      go : (b : Bool) → made_in b m prelude.None ≡ prelude.None
      go true = refl
      go false = refl

  pub hit-none : r ≡ prelude.None → EndsTold back specs name m prelude.None
  hit-none h = rw (h, none-made) at t

  pub hit-some : (c : Captured) → r ≡ prelude.Some c → (x : Ends) → prelude.Some x ≡ made_in back m (prelude.Some c) → EndsTold back specs name m (prelude.Some x)
  hit-some c h x q = let k : EndsTold back specs name m (made_in back m (prelude.Some c)) = rw h at t in rw q k

-- the ends that a spec makes of a name
module _ (back : Bool) (specs name : Text) (m : Matcher) (x : Ends) (t : EndsTold back specs name m (prelude.Some x)) where
  ends-are : ends_in back (matcher_spec specs m) name ≡ some (record { source = or_empty (row_text_meant specs name x.source); destination = row_text_meant specs name x.destination })
  ends-are = sym t.told

  pub ends-within : RowEndsWithin (length specs) (length name) x
  ends-within = t.within

  pub source-within : RowTextWithin (length specs) (length name) x.source
  source-within = ends-within.0

  -- the source of a row is at most as long as an accepted spec's source and a name
  pub source-short : MatcherReady specs m → length name ≤ name_bytes → length (or_empty (row_text_meant specs name x.source)) ≤ mapped_bytes
  source-short r n = go back (matcher_spec specs m) r.short ends-are
    where
      go : (back : Bool) (s : Spec) → Short s.source → ends_in back s name ≡ some (record { source = or_empty (row_text_meant specs name x.source); destination = row_text_meant specs name x.destination }) → length (or_empty (row_text_meant specs name x.source)) ≤ mapped_bytes
      go true s h p = let w = reverse-made s name (record { source = or_empty (row_text_meant specs name x.source); destination = row_text_meant specs name x.destination }) p in reverse-length s name (or_empty (row_text_meant specs name x.source)) h w.0 n
      go false s h p = let w = forward-made s name (record { source = or_empty (row_text_meant specs name x.source); destination = row_text_meant specs name x.destination }) p in omega (arith, ap length w.0)

-- what an item gives under the spec of a matcher
module _ (back : Bool) (gone : Text → Bool) (specs name : Text) (m : Matcher) (i j : ℕ) where
  pub none-measured : EndsTold back specs name m prelude.None → 0 ≡ length (item_bytes back gone i j name (matcher_spec specs m))
  unfolding item_bytes
  none-measured t =
      let q : ends_in back (matcher_spec specs m) name ≡ none = sym t.told in
      rw q

  -- its source is gone
  module _ (x : Ends) (t : EndsTold back specs name m (prelude.Some x)) (r : Bool) (er : r ≡ gone (or_empty (row_text_meant specs name x.source))) where
    pub gone-measured : r ≡ true → 0 ≡ length (item_bytes back gone i j name (matcher_spec specs m))
    unfolding item_bytes
    gone-measured h = rw (ends-are back specs name m x t, sym er ∙ h)

    -- or stands
    pub kept-measured : r ≡ false → (n : Numbers) → n ≡ field_numbers i (j + 1) → (k : ℕ) → k ≡ length (row_bytes (row_of_ends specs name n x)) → k ≡ length (item_bytes back gone i j name (matcher_spec specs m))
    unfolding item_bytes row_of_ends
    kept-measured h n en k ek =
        let f : field_numbers i (j + 1) ≡ field_numbers i (suc j) = ap (field_numbers i) (add-one j) in
        rw (ends-are back specs name m x t, sym er ∙ h, append-nil) (ek ∙ ap (λ (y : Numbers). length (row_bytes (row_of_ends specs name y x))) (en ∙ f))
