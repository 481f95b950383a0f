-- The limits of document 01 on either side, computed. They stand apart from the other samples since they take longer than all of them.
use Rattle.std.specs.Prelude.{◌≡◌, refl, false, List, [], ◌∷◌, ◌++◌, ◌+◌, ◌^◌, ◌≤◌, ◌<◌, length, replicate}
use Rattle.std.proofs.Math.Option.{Option, none, some}
use Rattle.std.proofs.Common.{lit≤, lit<}
use Rattle.meaning.specs.Bytes.{Text, bytes, byte, colon, caret}
use Rattle.meaning.specs.Limits.{mapped_bytes, spec_list_bytes, item_list_bytes, row_list_bytes, spec_count, item_count, largest_number, decimal_digits}
use Rattle.meaning.specs.Spec.{accepted, refused, Mode, Normal, Negative, Spec, read_spec}
use Rattle.meaning.specs.Instruction.{push_matching}
use Rattle.meaning.specs.Number.{record_bytes}
use Rattle.meaning.specs.Lists.{read_specs, read_items}
use Rattle.meaning.specs.Entries.{instructed, to_bstring}
use Rattle.meaning.specs.Everything.{everything}

-- a spec, written short
abbrev spec : Mode → Option Text → Option Text → Spec
spec m s d = record { mode = m; source = s; destination = d }

-- what the limits owe one another: a number can say the size of each list and of each text that a spec makes of a name, and as many
-- digits as are printed the number of each item and of each spec
pub owed :
    (spec_list_bytes ≤ largest_number)
    × (item_list_bytes ≤ largest_number)
    × (row_list_bytes ≤ largest_number)
    × (mapped_bytes < largest_number)
    × (item_count ≤ 10 ^ decimal_digits)
    × (spec_count ≤ 10 ^ decimal_digits)
owed = (lit≤ tt, lit≤ tt, lit≤ tt, lit< tt, lit≤ tt, lit≤ tt)

-- 65,535 bytes of items
abbrev full_items : List Text
full_items = replicate 15 (replicate 4096 (byte "a")) ++ (replicate 4063 (byte "a") ∷ [])

-- the limits, on either side
pub limits :
    (read_spec 0 (replicate 4096 (byte "a")) ≡ accepted (spec Normal (some (replicate 4096 (byte "a"))) none))
    × (read_spec 0 (replicate 4097 (byte "a")) ≡ refused 1 none)
    × (read_spec 0 (caret ∷ replicate 39 (byte "a")) ≡ accepted (spec Negative (some (replicate 39 (byte "a"))) none))
    × (read_spec 0 (caret ∷ replicate 40 (byte "a")) ≡ refused 11 none)
    × (read_spec 0 (caret ∷ replicate 41 (byte "a")) ≡ refused 11 none)
    × (read_specs 0 (replicate 256 0) ≡ accepted (replicate 256 (spec Normal (some (bytes "HEAD")) none)))
    × (read_specs 0 (replicate 257 0) ≡ refused 14 (some 256))
    × (read_items (replicate 1024 0) ≡ accepted (replicate 1024 []))
    × (read_items (replicate 1025 0) ≡ refused 14 (some 1024))
    × (read_items (128 ∷ 32 ∷ replicate 4096 (byte "a")) ≡ accepted (replicate 4096 (byte "a") ∷ []))
    × (read_items (129 ∷ 32 ∷ replicate 4097 (byte "a")) ≡ refused 15 (some 0))
    × (length (record_bytes full_items) ≡ 65535)
    × (read_items (record_bytes full_items) ≡ accepted full_items)
    × (read_items (replicate 65536 0) ≡ refused 12 none)
unfolding everything
limits = (refl, refl, refl, refl, refl, refl, refl, refl, refl, refl, refl, refl, refl, refl)

-- a push of 2,048 letters has a key of 4,097 bytes, which is refused when it is read; one letter less, and it is read
abbrev letters : Text
letters = replicate 2048 (byte "a")

abbrev fewer : Text
fewer = replicate 2047 (byte "a")

pub long-keys :
    (to_bstring 1 letters ≡ accepted (some (letters ++ (colon ∷ letters)) ∷ []))
    × (length (letters ++ (colon ∷ letters)) ≡ 4097)
    × (read_spec 1 (letters ++ (colon ∷ letters)) ≡ refused 1 none)
    × (to_bstring 1 fewer ≡ accepted (some (fewer ++ (colon ∷ fewer)) ∷ []))
    × (instructed 1 (fewer ++ (colon ∷ fewer)) ≡ accepted (push_matching fewer fewer false))
unfolding everything
long-keys = (refl, refl, refl, refl, refl)
