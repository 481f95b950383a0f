-- The rules as one look decides them, at each byte and at what comes after it.
use Rattle.std.specs.Prelude.{Bool, true, false, not, ◌&&◌, ◌||◌, cond, [], ◌∷◌, ℕ, zero, suc, eqb, leb, get_or}
use Rattle.std.specs.Char.{is_ascii_alphanumeric}
use Rattle.meaning.specs.Bytes.{Text, bytes, byte, star, slash, backslash, ◌and◌, ◌or◌, empty, same, begins, count}
use Rattle.meaning.specs.Names.{rule_four_byte, rule_five_byte, side_passes}
use Rattle.name.specs.declared.NameKind.{NameKind}
use Rattle.name.specs.declared.NameKind.TheVariants.{Name, Pattern, Neither}

-- 4, 5 and 10: a byte that a name may have
unfoldable pub name_byte : ℕ → Bool
name_byte b = rule_four_byte b and rule_five_byte b and not (eqb backslash b)

-- 1: what makes a part end with `.lock`, after the dot
unfoldable pub rest_of_lock : Text → Bool
rest_of_lock s = same s (bytes "lock") or begins (bytes "lock/") s

-- 1, 3 and 7: what may follow a dot
unfoldable pub after_dot : Text → Bool
after_dot s = not (empty s) and not (begins (bytes ".") s) and not (rest_of_lock s)

-- 1 and 6: what may follow a slash, and what a name may be, which begins as if after one
unfoldable pub after_slash : Text → Bool
after_slash s = not (empty s) and not (begins (bytes "/") s) and not (begins (bytes ".") s)

-- 8: what may follow an `@`
unfoldable pub after_at_sign : Text → Bool
after_at_sign s = not (begins (bytes "{") s)

-- a byte that a name may have, before a text that may follow it
unfoldable pub stands : ℕ → Text → Bool
stands x s = cond (eqb (byte ".") x) (after_dot s) (cond (eqb slash x) (after_slash s) (cond (eqb (byte "@") x) (after_at_sign s) (name_byte x)))

-- how many bytes of a text stand, up to the first that does not
abbrev pub standing : Text → ℕ
standing [] = 0
standing (x ∷ s) = cond (stands x s) (suc (standing s)) 0

-- a letter, a digit, a hyphen or a slash
abbrev pub plain : ℕ → Bool
plain b = (is_ascii_alphanumeric b || eqb b (byte "-")) || eqb b slash

-- such a byte before a text that begins with c; a slash stands before neither a dot nor a slash
abbrev pub fits : ℕ → ℕ → Bool
fits b c = plain b && not (eqb b slash && (leb (byte ".") c && leb c slash))

-- each of the first n bytes of a text fits before the next
abbrev pub fitting : ℕ → Text → Bool
fitting zero s = true
fitting (suc n) [] = false
fitting (suc n) (x ∷ s) = fits x (get_or s 0 0) and fitting n s

-- what a text that passes is by the number of its stars
abbrev pub kind_by_stars : ℕ → NameKind
kind_by_stars zero = Name
kind_by_stars (suc zero) = Pattern
kind_by_stars (suc (suc n)) = Neither

-- what a text is by the rules: a name, a pattern with one star, or neither
unfoldable pub kind_of : Text → NameKind
kind_of s = cond (side_passes s) (kind_by_stars (count star s)) Neither
