-- A text with its length before it, measured and written: the number, then the bytes. Assumes nothing.
use mathlib.Core.Path.{◌≡◌, refl, sym}
use mathlib.Core.List.{[], ◌++◌, append-nil}
use Prim.Native.Nat.{ℕ, ◌+◌, ◌≤◌}
use native.Mathlib.Omega.{arith}
use lib.ListN.{length, length-append}
use Rattle.meaning.specs.Bytes.{Text}
use Rattle.meaning.specs.Number.{number_bytes, text_bytes}
use Rattle.buffer.specs.Splice.{splice}
use Rattle.buffer.proofs.Writing.{Writing, writing-starts, writing-room, writing_more, written-place, written-whole}

module _ (t : Text) (n : ℕ) (size : n ≡ length t) where
  pub text-pieces : text_bytes t ≡ number_bytes n ++ t
  unfolding text_bytes
  text-pieces = rw size

  pub text-size : (m : ℕ) → m ≡ length (number_bytes n) → m + n ≡ length (text_bytes t)
  text-size m e = rw (text-pieces, length-append (number_bytes n) t) (omega arith)

  module _ (d : Text) (at : ℕ) (fits : at + length (text_bytes t) ≤ length d) where
    start : Writing d at (text_bytes t) d at (text_bytes t)
    start = writing-starts d at (text_bytes t) fits

    pub number-room : at + length (number_bytes n) ≤ length d
    number-room = writing-room d at (text_bytes t) d at (text_bytes t) start (number_bytes n) t text-pieces

    module _ (d₁ : Text) (i : ℕ) (p₁ : d₁ ≡ splice d at (number_bytes n)) (e₁ : i ≡ at + length (number_bytes n)) where
      number_put : Writing d at (text_bytes t) d₁ i t
      number_put = writing_more d at (text_bytes t) d at (text_bytes t) start (number_bytes n) t text-pieces d₁ i p₁ e₁

      pub text-room : i + length t ≤ length d₁
      text-room = writing-room d at (text_bytes t) d₁ i t number_put t [] (sym (append-nil t))

      module _ (d₂ : Text) (j : ℕ) (p₂ : d₂ ≡ splice d₁ i t) (e₂ : j ≡ i + length t) where
        all-put : Writing d at (text_bytes t) d₂ j []
        all-put = writing_more d at (text_bytes t) d₁ i t number_put t [] (sym (append-nil t)) d₂ j p₂ e₂

        pub text-put : d₂ ≡ splice d at (text_bytes t)
        text-put = written-whole d at (text_bytes t) d₂ j [] all-put refl

        pub text-ends : j ≡ at + length (text_bytes t)
        text-ends = written-place d at (text_bytes t) d₂ j [] all-put refl
