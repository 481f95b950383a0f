-- A hexadecimal digit as std tests it. Assumes nothing.
use Rattle.std.proofs.Common.{◌≡◌, refl, ◌∙◌, ℕ, Bool, true, false, leb, ◌&&◌, ◌||◌}
use Rattle.std.specs.Char.{is_ascii_hexdigit}
use Rattle.meaning.specs.Bytes.{◌and◌, ◌or◌, hex_digit}

and-is : (a b : Bool) → (a && b) ≡ (a and b)
and-is true b = refl
and-is false b = refl

or-is : (a b c : Bool) → ((a || b) || c) ≡ (a or (b or c))
or-is true b c = refl
or-is false true c = refl
or-is false false c = refl

row-is : (a b c d e f : Bool) → (((a && b) || (c && d)) || (e && f)) ≡ ((a and b) or ((c and d) or (e and f)))
row-is a b c d e f = or-is (a && b) (c && d) (e && f) ∙ rw (and-is a b, and-is c d, and-is e f)

pub digit-is : (x : ℕ) → is_ascii_hexdigit x ≡ hex_digit x
digit-is x = row-is (leb 48 x) (leb x 57) (leb 65 x) (leb x 70) (leb 97 x) (leb x 102)
