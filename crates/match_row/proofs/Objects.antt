-- The row of an object source. Assumes nothing.
use mathlib.Core.Path.{◌≡◌, sym, ap, ◌∙◌, subst}
use mathlib.Core.List.{[], append-nil}
use Rattle.std.specs.Prelude as prelude
use mathlib.Core.Option.{none, some}
use Prim.Native.Nat.{ℕ}
use native.Mathlib.Omega.{arith}
use lib.ListN.{length}
use Rattle.meaning.specs.Bytes.{Text, or_empty}
use Rattle.meaning.specs.Spec.{Spec}
use Rattle.meaning.specs.Rows.{row_bytes, row_list_of}
use Rattle.matcher.specs.declared.types.Matcher.{Matcher}
use Rattle.matcher.specs.declared.types.Ends.{Ends}
use Rattle.matcher.specs.Matching.{row_text_meant, ends_meant, RowEndsWithin, EndsWithin, Matches, object_ends}
use Rattle.match_one.proofs.Objects.{object-rows}
use Rattle.row.specs.declared.Numbers.{Numbers}
use Rattle.row.specs.Rows.{ShortTexts, row_of_ends}
use Rattle.match_row.specs.Pairs.{matcher_spec, object_bytes, field_numbers}
use Rattle.match_row.specs.Asking.{MatcherReady}

pub nothing_lent : (specs : Text) (m : Matcher) → MatcherReady specs m → ShortTexts specs []
nothing_lent specs m r = record { specs-short = r.specs-short; name-short = omega arith }

pub object-ends-within : (len : ℕ) (e : prelude.Option Ends) → EndsWithin len 0 e → (x : Ends) → e ≡ prelude.Some x → RowEndsWithin len 0 x
object-ends-within len e w x is = subst (EndsWithin len 0) is w

module _ (specs : Text) (m : Matcher) (ready : MatcherReady specs m) (i : ℕ) (e : prelude.Option Ends) (told : (s : Spec) → Matches specs s m → ends_meant specs [] e ≡ object_ends s) where
  pub object-none : e ≡ prelude.None → 0 ≡ length (object_bytes i (matcher_spec specs m))
  unfolding object_bytes row_list_of
  object-none h =
      let q : object_ends (matcher_spec specs m) ≡ none = sym (told (matcher_spec specs m) ready.matches) ∙ ap (ends_meant specs []) h in
      rw (object-rows i (matcher_spec specs m), q)

  pub object-size : (x : Ends) → e ≡ prelude.Some x → (y : Numbers) → y ≡ field_numbers i 0 → (n : ℕ) → n ≡ length (row_bytes (row_of_ends specs [] y x)) → n ≡ length (object_bytes i (matcher_spec specs m))
  unfolding object_bytes row_list_of row_of_ends
  object-size x is y ey n h =
      let q : object_ends (matcher_spec specs m) ≡ some (record { source = or_empty (row_text_meant specs [] x.source); destination = row_text_meant specs [] x.destination }) = sym (told (matcher_spec specs m) ready.matches) ∙ ap (ends_meant specs []) is in
      rw (object-rows i (matcher_spec specs m), q, append-nil) (h ∙ ap (λ (z : Numbers). length (row_bytes (row_of_ends specs [] z x))) ey)
