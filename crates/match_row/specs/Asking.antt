-- What the functions of a pair ask and answer.
use Rattle.std.specs.Prelude as prelude
use Rattle.std.specs.Prelude.{ℕ, ◌+◌, ◌*◌, ◌≤◌, ◌<◌, ◌≡◌, Bool, List, length}
use Rattle.std.proofs.Math.Option.{some}
use Rattle.meaning.specs.Bytes.{Text}
use Rattle.meaning.specs.Limits.{spec_list_bytes, spec_bytes}
use Rattle.meaning.specs.Listing as listing
use Rattle.parse.specs.Places.{side_meant}
use Rattle.matcher.specs.declared.types.Matcher.{Matcher}
use Rattle.matcher.specs.declared.types.Ends.{Ends}
use Rattle.matcher.specs.Matching.{ends_meant, EndsWithin, Matches}
use Rattle.negatives.specs.Negatives.{negative_numbers, negative_at, NegativeWithin}
use Rattle.match_row.specs.Pairs.{matcher_spec, ends_in, field_ends}

-- the negatives of a group can be asked
pub record Askable (specs : Text) (negatives : List ℕ) (count : ℕ) : Type 0 where
  pub room : negative_numbers * count ≤ length negatives
  pub within : (k : ℕ) → k < count → NegativeWithin (length specs) (negative_at negatives k)

-- a matcher is that of the spec it stands for, whose source is no longer than an accepted one's
pub record MatcherReady (specs : Text) (m : Matcher) : Type 0 where
  pub specs-short : length specs ≤ spec_list_bytes
  pub matches : Matches specs (matcher_spec specs m) m
  pub short : (t : Text) → side_meant specs m.src ≡ some t → length t ≤ spec_bytes

-- the ends of a row, as the spec of a matcher makes them of a name
pub record EndsTold (back : Bool) (specs name : Text) (m : Matcher) (e : prelude.Option Ends) : Type 0 where
  pub told : ends_meant specs name e ≡ ends_in back (matcher_spec specs m) name
  pub within : EndsWithin (length specs) (length name) e

-- the ends of the row of a name of so many bytes that has one
pub record NameTold (back : Bool) (specs : Text) (m : Matcher) (n : ℕ) (e : prelude.Option Ends) : Type 0 where
  pub told : (name : Text) → length name ≡ n → (r : listing.Ends) → ends_in back (matcher_spec specs m) name ≡ some r → ends_meant specs name e ≡ some r
  pub within : EndsWithin (length specs) n e

-- the ends of the row with this item field, of a name of so many bytes that has one
pub record FieldTold (back : Bool) (specs : Text) (m : Matcher) (field n : ℕ) (e : prelude.Option Ends) : Type 0 where
  pub told : (name : Text) → length name ≡ n → (r : listing.Ends) → field_ends back (matcher_spec specs m) field name ≡ some r → ends_meant specs name e ≡ some r
  pub within : EndsWithin (length specs) n e
