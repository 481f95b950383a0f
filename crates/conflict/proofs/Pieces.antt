-- A text and the source of a row, measured and written piece by piece. Assumes nothing.
use mathlib.Core.Path.{◌≡◌, refl, sym}
use mathlib.Core.List.{[], ◌++◌, append-nil}
use Prim.Native.Nat.{ℕ, ◌+◌, ◌-◌, ◌≤◌}
use native.Mathlib.Omega.{arith}
use mir.Val.{Fits}
use mir.Syntax.{w64}
use lib.ListN.{length, take, drop, length-append}
use Rattle.meaning.specs.Bytes.{Text}
use Rattle.meaning.specs.Limits.{row_list_bytes, number_groups}
use Rattle.meaning.specs.Number.{number_bytes, text_bytes}
use Rattle.meaning.specs.Validation.{source_bytes}
use Rattle.buffer.specs.Splice.{splice}
use Rattle.buffer.proofs.Writing.{Writing, writing-starts, writing-room, writing_more, written-place, written-whole}
use Rattle.number.proofs.Bytes.{bytes-few}
use Rattle.number.proofs.Texts.{text-size, number-room, text-room, text-put, text-ends}
use Rattle.parse.specs.Places.{part_at}
use Rattle.row_fields.specs.declared.RowPlace.{RowPlace}
use Rattle.row_fields.specs.Fields.{row_meant}
use Rattle.keys.specs.Keys.{row_at, Finds}
use Rattle.conflict.specs.Sizes.{conflict_source_most}
use Rattle.conflict.specs.Shared.{source_at}
use Rattle.conflict.proofs.Parts.{part-is, part-long}

-- a text at a place of a row list
module _ (s : Text) (start len : ℕ) (inside : start + len ≤ length s) where
  long : len ≡ length (part_at s start len)
  long = sym (part-long s start len inside)

  pub text-long : (m : ℕ) → m ≡ length (number_bytes len) → m + len ≡ length (text_bytes (part_at s start len))
  text-long m e = text-size (part_at s start len) len long m e

  module _ (d : Text) (at : ℕ) (fits : at + length (text_bytes (part_at s start len)) ≤ length d) where
    pub text-number-room : at + length (number_bytes len) ≤ length d
    text-number-room = number-room (part_at s start len) len long d at fits

    module _ (d₁ : Text) (i : ℕ) (p₁ : d₁ ≡ splice d at (number_bytes len)) (e₁ : i ≡ at + length (number_bytes len)) where
      pub text-bytes-room : i + length (take (start + len - start) (drop start s)) ≤ length d₁
      text-bytes-room = rw (part-is s start len) (text-room (part_at s start len) len long d at fits d₁ i p₁ e₁)

      module _ (d₂ : Text) (j : ℕ) (p₂ : d₂ ≡ splice d₁ i (take (start + len - start) (drop start s))) (e₂ : j ≡ i + length (take (start + len - start) (drop start s))) where
        pub text-written : d₂ ≡ splice d at (text_bytes (part_at s start len))
        text-written = text-put (part_at s start len) len long d at fits d₁ i p₁ e₁ d₂ j (rw (part-is s start len) at p₂) (rw (part-is s start len) at e₂)

        pub text-after : j ≡ at + length (text_bytes (part_at s start len))
        text-after = text-ends (part_at s start len) len long d at fits d₁ i p₁ e₁ d₂ j (rw (part-is s start len) at p₂) (rw (part-is s start len) at e₂)

-- sums of a few numbers' bytes
few : (m k : ℕ) → m ≡ length (number_bytes k) → m ≤ number_groups
few m k e = omega (arith, bytes-few k)

module _ (x k y l : ℕ) (ex : x ≡ length (number_bytes k)) (ey : y ≡ length (number_bytes l)) where
  pub two-fit : Fits w64 (x + y)
  two-fit = omega (arith, few x k ex, few y l ey)

  pub three-fit : (z m : ℕ) → z ≡ length (number_bytes m) → Fits w64 (x + y + z)
  three-fit z m ez = omega (arith, few x k ex, few y l ey, few z m ez)

-- the source of the row at a place, by its fields
module _ (s : Text) (p : ℕ) (f : RowPlace) (w : Finds s (row_at s p) f) where
  source-pieces : source_at s p ≡ number_bytes f.spec ++ (number_bytes f.kind ++ text_bytes (part_at s f.src.at f.src.len))
  unfolding source_at source_bytes row_meant
  source-pieces = rw (← w.means)

  module _ (short : length s ≤ row_list_bytes) (x y z : ℕ) (ex : x ≡ length (number_bytes f.spec)) (ey : y ≡ length (number_bytes f.kind)) (ez : z ≡ length (number_bytes f.src.len)) where
    pub source_fits : Fits w64 (x + y + z + f.src.len)
    source_fits = omega (arith, few x f.spec ex, few y f.kind ey, few z f.src.len ez, w.source-within)

    pub source-small : x + y + z + f.src.len ≤ conflict_source_most
    source-small = omega (arith, few x f.spec ex, few y f.kind ey, few z f.src.len ez, w.source-within)

    pub source-size : x + y + z + f.src.len ≡ length (source_at s p)
    source-size =
        let t = text-long s f.src.at f.src.len w.source-within z ez in
        let u = text_bytes (part_at s f.src.at f.src.len) in
        rw (source-pieces, length-append (number_bytes f.spec) (number_bytes f.kind ++ u), length-append (number_bytes f.kind) u) (omega arith)

  module _ (d : Text) (at : ℕ) (fits : at + length (source_at s p) ≤ length d) where
    abbrev whole : Text
    whole = source_at s p

    abbrev text : Text
    text = text_bytes (part_at s f.src.at f.src.len)

    start : Writing d at whole d at whole
    start = writing-starts d at whole fits

    pub spec-room : at + length (number_bytes f.spec) ≤ length d
    spec-room = writing-room d at whole d at whole start (number_bytes f.spec) (number_bytes f.kind ++ text) source-pieces

    module _ (d₁ : Text) (i : ℕ) (p₁ : d₁ ≡ splice d at (number_bytes f.spec)) (e₁ : i ≡ at + length (number_bytes f.spec)) where
      spec-put : Writing d at whole d₁ i (number_bytes f.kind ++ text)
      spec-put = writing_more d at whole d at whole start (number_bytes f.spec) (number_bytes f.kind ++ text) source-pieces d₁ i p₁ e₁

      pub kind-room : i + length (number_bytes f.kind) ≤ length d₁
      kind-room = writing-room d at whole d₁ i (number_bytes f.kind ++ text) spec-put (number_bytes f.kind) text refl

      module _ (d₂ : Text) (j : ℕ) (p₂ : d₂ ≡ splice d₁ i (number_bytes f.kind)) (e₂ : j ≡ i + length (number_bytes f.kind)) where
        kind-put : Writing d at whole d₂ j text
        kind-put = writing_more d at whole d₁ i (number_bytes f.kind ++ text) spec-put (number_bytes f.kind) text refl d₂ j p₂ e₂

        pub source-room : j + length (text_bytes (part_at s f.src.at f.src.len)) ≤ length d₂
        source-room = writing-room d at whole d₂ j text kind-put text [] (sym (append-nil text))

        module _ (d₃ : Text) (k : ℕ) (p₃ : d₃ ≡ splice d₂ j (text_bytes (part_at s f.src.at f.src.len))) (e₃ : k ≡ j + length (text_bytes (part_at s f.src.at f.src.len))) where
          all-put : Writing d at whole d₃ k []
          all-put = writing_more d at whole d₂ j text kind-put text [] (sym (append-nil text)) d₃ k p₃ e₃

          pub source-written : d₃ ≡ splice d at (source_at s p)
          source-written = written-whole d at whole d₃ k [] all-put refl

          pub source-after : k ≡ at + length (source_at s p)
          source-after = written-place d at whole d₃ k [] all-put refl
