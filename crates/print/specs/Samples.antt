-- Samples of texts in print and of the way back, computed.
use Rattle.std.specs.Prelude.{◌≡◌, refl, [], ◌∷◌}
use Rattle.meaning.specs.Bytes.{bytes, byte}
use Rattle.meaning.specs.Deliveries.{shown_byte, shown}
use Rattle.print.specs.Unshown.{stands, fault, digit_value, escape, escaped, as_it_is, unshown}

-- a text in print, with `ü` in the two bytes that it has as UTF-8, stands for the text again
pub back :
    (shown (byte "f" ∷ 195 ∷ 188 ∷ byte "r" ∷ []) ≡ bytes "=f%C3%BCr")
    × (unshown (bytes "=f%C3%BCr") ≡ stands (byte "f" ∷ 195 ∷ 188 ∷ byte "r" ∷ []))
    × (unshown (bytes "=100%25%20=") ≡ stands (bytes "100% ="))
    × (unshown (bytes "=") ≡ stands [])
unfolding shown_byte shown digit_value escape escaped as_it_is
back = (refl, refl, refl, refl)

-- faults: no `=`; an escape that is cut short, or has a small letter; a space
pub faults :
    (unshown [] ≡ fault 0)
    × (unshown (bytes "refs/heads/a") ≡ fault 0)
    × (unshown (bytes "=a%") ≡ fault 2)
    × (unshown (bytes "=a%4") ≡ fault 2)
    × (unshown (bytes "=%20%c3") ≡ fault 4)
    × (unshown (bytes "=a b") ≡ fault 2)
unfolding digit_value escape escaped as_it_is
faults = (refl, refl, refl, refl, refl, refl)
