-- A side that passes the name rules has no byte that they refuse wherever it stands. Assumes nothing.
use mathlib.Core.Path.{◌≡◌, refl}
use mathlib.Core.Bool.{true, false, not}
use mathlib.Core.List.{[], ◌∷◌}
use borrow.Author.Tests.{not-true}
use lib.Dec.{eqb}
use Rattle.meaning.specs.Bytes.{Text, every, empty, any, has_byte}
use Rattle.meaning.specs.Names.{parts_pass, no_two_dots, rule_four_byte, no_controls, rule_five_byte, no_globs, slashes_pass, no_last_dot, no_at_brace, not_at, no_backslash, name_passes, star_as_a, star_as_letter, side_passes}
use Rattle.promises.proofs.Laws.{and_left, and_right, or-none}
use Rattle.name.specs.Rules.{name_byte}
use Rattle.refused_line.specs.Byte.{refused_byte, NoNameHas}

-- rules 4, 5 and 10 of a name that passes
record Passing (t : Text) : Type 0 where
  four : every rule_four_byte t ≡ true
  five : every rule_five_byte t ≡ true
  ten : has_byte 92 t ≡ false

passing : (t : Text) → name_passes t ≡ true → Passing t
unfolding name_passes no_controls no_globs no_backslash
passing t p =
    let a = and_right (not (empty t)) _ p in
    let b = and_right (parts_pass t) _ a in
    let c = and_right (no_two_dots t) _ b in
    let d = and_right (no_controls t) _ c in
    let e = and_right (no_globs t) _ d in
    let f = and_right (slashes_pass t) _ e in
    let g = and_right (no_last_dot t) _ f in
    let h = and_right (no_at_brace t) _ g in
    let i = and_right (not_at t) (no_backslash t) h in
    record { four = and_left (no_controls t) _ c; five = and_left (no_globs t) _ d; ten = not-true _ i }

none-refused : (s : Text) → every rule_four_byte (star_as_letter s) ≡ true → every rule_five_byte (star_as_letter s) ≡ true → has_byte 92 (star_as_letter s) ≡ false → any refused_byte s ≡ false
unfolding refused_byte name_byte
none-refused [] p q r = refl
none-refused (x ∷ s) p q r =
    let c = star_as_a x in
    let a = and_left (rule_four_byte c) (every rule_four_byte (star_as_letter s)) p in
    let b = and_left (rule_five_byte c) (every rule_five_byte (star_as_letter s)) q in
    let n = or-none (eqb 92 c) (has_byte 92 (star_as_letter s)) r in
    rw (a, b, n.0) (none-refused s (and_right (rule_four_byte c) (every rule_four_byte (star_as_letter s)) p) (and_right (rule_five_byte c) (every rule_five_byte (star_as_letter s)) q) n.1)

pub no-name-has : NoNameHas
unfolding side_passes
no-name-has s p = let q = passing (star_as_letter s) p in none-refused s q.four q.five q.ten
