-- A side that passes the name rules has no colon, no sign of a negative, and is not `@`. Assumes nothing.
use mathlib.Core.Path.{◌≡◌, refl, sym, ◌∙◌}
use mathlib.Core.Bool.{Bool, true, false, not, cond, true≢false, false≢true}
use mathlib.Core.List.{[], ◌∷◌}
use mathlib.Core.Option.{some}
use Prim.Native.Nat.{ℕ, ◌+◌}
use borrow.Author.Tests.{eqb-true, not-true}
use lib.Dec.{eqb}
use Rattle.meaning.specs.Bytes.{Text, bytes, star, plus, colon, caret, ◌and◌, every, empty, same, begins, has_byte, given}
use Rattle.meaning.specs.Names.{no_controls, rule_four_byte, not_at, parts_pass, no_two_dots, no_globs, slashes_pass, no_last_dot, no_at_brace, no_backslash, name_passes, star_as_letter, side_passes}
use Rattle.meaning.specs.Spec.{Normal, mode_of_byte, mode_of}
use Rattle.promises.proofs.Laws.{and_left, and_right, or-none, same-is}

-- what a side that passes the name rules is: not empty, no colon, no leading `^`, not `@`
pub data Clean : Text → Type 0 where
  clean : (x : ℕ) (t : Text) → eqb caret x ≡ false → has_byte colon (x ∷ t) ≡ false → same (x ∷ t) (bytes "@") ≡ false → Clean (x ∷ t)

-- a byte that rule 4 forbids does not stand in a side that passes
four-byte : (b x : ℕ) → (rule_four_byte b ≡ false) → eqb star b ≡ false → rule_four_byte (cond (eqb star x) 97 x) ≡ true → eqb b x ≡ false
four-byte b x f n e = go (eqb b x) refl
  where
    go : (c : Bool) → eqb b x ≡ c → c ≡ false
    go false p = refl
    go true p =
        let q : b ≡ x = eqb-true b x p in
        let r : rule_four_byte (cond (eqb star b) 97 b) ≡ true = rw q e in
        sym (rw n at r) ∙ f

-- nor any of them
four_bytes : (b : ℕ) → (rule_four_byte b ≡ false) → eqb star b ≡ false → (t : Text) → every rule_four_byte (star_as_letter t) ≡ true → has_byte b t ≡ false
four_bytes b f n [] e = refl
four_bytes b f n (x ∷ t) e =
    rw (four-byte b x f n (and_left _ (every rule_four_byte (star_as_letter t)) e)) (four_bytes b f n t (and_right (rule_four_byte (cond (eqb star x) 97 x)) _ e))

-- a name that passes is not empty
name-not-empty : (t : Text) → name_passes t ≡ true → not (empty t) ≡ true
unfolding name_passes
name-not-empty t e = and_left _ _ e

-- and has no byte that rule 4 forbids
name-controls : (t : Text) → name_passes t ≡ true → every rule_four_byte t ≡ true
unfolding name_passes no_controls
name-controls t e =
    let a = and_right (not (empty t)) _ e in
    let b = and_right (parts_pass t) _ a in
    let c = and_right (no_two_dots t) _ b in
    and_left (no_controls t) _ c

-- and is not `@`
name-not-at : (t : Text) → name_passes t ≡ true → same t (bytes "@") ≡ false
unfolding name_passes not_at
name-not-at t e =
    let a = and_right (not (empty t)) _ e in
    let b = and_right (parts_pass t) _ a in
    let c = and_right (no_two_dots t) _ b in
    let d = and_right (no_controls t) _ c in
    let f = and_right (no_globs t) _ d in
    let g = and_right (slashes_pass t) _ f in
    let h = and_right (no_last_dot t) _ g in
    let i = and_right (no_at_brace t) _ h in
    not-true _ (and_left (not_at t) (no_backslash t) i)

-- `@` alone is `@` with its stars read as letters
at-alone : (t : Text) → same (star_as_letter t) (bytes "@") ≡ false → same t (bytes "@") ≡ false
at-alone t e = go (same t (bytes "@")) refl
  where
    go : (b : Bool) → same t (bytes "@") ≡ b → b ≡ false
    go false p = refl
    go true p = let q : t ≡ bytes "@" = same-is t (bytes "@") p in absurd (true≢false (rw q at e))

-- a side that passes is clean
pub side-clean : (t : Text) → side_passes t ≡ true → Clean t
unfolding side_passes rule_four_byte
side-clean [] e = absurd (false≢true (name-not-empty [] e))
side-clean (x ∷ t) e =
    let c = name-controls (star_as_letter (x ∷ t)) e in
    let no-caret = four_bytes caret refl refl (x ∷ t) c in
    clean x t (or-none (eqb caret x) (has_byte caret t) no-caret).0 (four_bytes colon refl refl (x ∷ t) c) (at-alone (x ∷ t) (name-not-at (star_as_letter (x ∷ t)) e))

-- a clean destination is there
pub given-self : (t : Text) → Clean t → given t ≡ some t
given-self t (clean x u a b c) = refl

-- a clean side has no colon
pub clean-colon : (t : Text) → Clean t → has_byte colon t ≡ false
clean-colon t (clean x u a b c) = b

-- what does not begin with `+` has another first byte
plus-first : (x : ℕ) (u : Text) → begins (bytes "+") (x ∷ u) ≡ false → eqb plus x ≡ false
plus-first x u e = go (eqb plus x) e
  where
    go : (b : Bool) → (b and true) ≡ false → b ≡ false
    go true p = absurd (true≢false p)
    go false p = refl

-- a clean side that does not begin with `+` has no sign
pub clean-normal : (t : Text) → Clean t → begins (bytes "+") t ≡ false → mode_of t ≡ Normal
unfolding mode_of_byte
clean-normal t (clean x u a b c) e = rw (a, plus-first x u e)
