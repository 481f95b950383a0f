-- A row that is known to stand is the one that its ends make. Assumes nothing.
use mathlib.Core.Path.{◌≡◌, refl, sym, ap, ◌∙◌, subst}
use mathlib.Core.Bool.{Bool, true, false, false≢true}
use mathlib.Core.List.{[], ◌∷◌, append-nil}
use Rattle.std.specs.Prelude as prelude
use mathlib.Core.Option.{Option, none, some}
use Prim.Native.Nat.{ℕ, zero, suc, ◌+◌, ◌≤◌, ◌<◌}
use native.Mathlib.Omega.{arith}
use lib.ListN.{length}
use Rattle.buffer.specs.Splice.{splice, Puts}
use Rattle.meaning.specs.Bytes.{Text, each}
use Rattle.meaning.specs.Spec.{Spec}
use Rattle.meaning.specs.Rows.{row_bytes}
use Rattle.meaning.specs.Listing as listing
use Rattle.matcher.specs.declared.types.Matcher.{Matcher}
use Rattle.matcher.specs.declared.types.Ends.{Ends}
use Rattle.matcher.specs.Matching.{ends_meant, RowEndsWithin, EndsWithin, Matches, object_ends}
use Rattle.match_one.specs.Known.{KnownForward, KnownReverse}
use Rattle.row.specs.declared.Numbers.{Numbers}
use Rattle.row.specs.Rows.{row_of_ends}
use Rattle.match_row.specs.Pairs.{matcher_spec, field_ends, field_numbers, given_row, field_bytes}
use Rattle.match_row.specs.Asking.{MatcherReady, NameTold, FieldTold}

no_bytes : (t : Text) → length t ≡ 0 → t ≡ []
no_bytes [] h = refl
no_bytes (x ∷ t) h = absurd (omega arith)

-- the ends by the item field
module _ (back : Bool) (specs : Text) (m : Matcher) (ready : MatcherReady specs m) (field n : ℕ) (r : prelude.Option Ends) where
  pub field-object : field ≡ 0 → (field ≡ 0 → n ≡ 0) → ((s : Spec) → Matches specs s m → ends_meant specs [] r ≡ object_ends s) → EndsWithin (length specs) 0 r → FieldTold back specs m field n r
  field-object e h t w =
      let z = h e in
      rw (e, z)
      (record {
        told = λ name l x p. rw (no_bytes name l) (t (matcher_spec specs m) ready.matches) ∙ p;
        within = w;
      })

  pub field-name : (field ≡ 0 → ⊥) → NameTold back specs m n r → FieldTold back specs m field n r
  field-name d k = go field d
    where
      go : (field : ℕ) → (field ≡ 0 → ⊥) → FieldTold back specs m field n r
      go zero d = absurd (d refl)
      go (suc j) d = record { told = k.told; within = k.within }

-- those of a name, in each direction
module _ (specs : Text) (m : Matcher) (ready : MatcherReady specs m) (n : ℕ) (r : prelude.Option Ends) where
  pub known-back : KnownReverse specs m n r → NameTold true specs m n r
  known-back k = record { told = λ name l x p. k.meant name l (matcher_spec specs m) ready.matches x p ∙ p; within = k.within }

  pub known-on : KnownForward specs m n r → NameTold false specs m n r
  known-on k = record { told = λ name l x p. k.meant name l (matcher_spec specs m) ready.matches x p ∙ p; within = k.within }

-- the row of these ends
module _ (back : Bool) (specs name : Text) (m : Matcher) (i field : ℕ) (r : prelude.Option Ends) (t : FieldTold back specs m field (length name) r) (some_bytes : 0 < length (field_bytes back i field name (matcher_spec specs m))) where
  has-ends : (x : Option listing.Ends) → field_ends back (matcher_spec specs m) field name ≡ x → 0 < length (each (given_row i field x) row_bytes) → (e : listing.Ends) × (field_ends back (matcher_spec specs m) field name ≡ some e)
  has-ends none q p = absurd (omega arith)
  has-ends (some e) q p = (e, q)

  ends : (e : listing.Ends) × (field_ends back (matcher_spec specs m) field name ≡ some e)
  unfolding field_bytes
  ends = has-ends (field_ends back (matcher_spec specs m) field name) refl some_bytes

  meant : ends_meant specs name r ≡ field_ends back (matcher_spec specs m) field name
  meant = t.told name refl ends.0 ends.1 ∙ sym ends.1

  none-some : (x : listing.Ends) → none ≡ some x → ⊥
  none-some x e = false≢true (ap given e)
    where
      given : Option listing.Ends → Bool
      given none = false
      given (some x) = true

  -- there are some
  pub field-some : r ≡ prelude.None → ⊥
  field-some e = none-some ends.0 (ap (ends_meant specs name) (sym e) ∙ meant ∙ ends.1)

  module _ (x : Ends) (is : r ≡ prelude.Some x) where
    pub field-within : RowEndsWithin (length specs) (length name) x
    field-within = subst (EndsWithin (length specs) (length name)) is t.within

    module _ (y : Numbers) (ey : y ≡ field_numbers i field) where
      pub field_is : field_bytes back i field name (matcher_spec specs m) ≡ row_bytes (row_of_ends specs name y x)
      unfolding field_bytes row_of_ends
      field_is = rw (← meant, is, ey) (append-nil _)

      pub stands-room : (d : Text) (at : ℕ) → at + length (field_bytes back i field name (matcher_spec specs m)) ≤ length d → at + length (row_bytes (row_of_ends specs name y x)) ≤ length d
      stands-room d at h = rw field_is at h

      pub stands-put : (d : Text) (at : ℕ) (o : Text) (n : ℕ) → o ≡ splice d at (row_bytes (row_of_ends specs name y x)) → n ≡ at + length (row_bytes (row_of_ends specs name y x)) → Puts d at (field_bytes back i field name (matcher_spec specs m)) o n
      stands-put d at o n p q = rw field_is (p, q)
