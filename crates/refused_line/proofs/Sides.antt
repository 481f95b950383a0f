-- The sides of a spec by its sign and its last colon, and the first byte of each that the name rules refuse. Assumes nothing.
use mathlib.Core.Path.{◌≡◌, refl, sym, ap, ◌∙◌}
use mathlib.Core.List.{[], ◌∷◌}
use Prim.Native.Nat.{ℕ, suc, ◌+◌, ◌-◌, ◌<◌, ◌≤◌}
use native.Mathlib.Omega.{arith}
use Rattle.std.specs.Prelude.{Option, Some, None, position}
use Rattle.std.proofs.lemmas.List.Quantifiers.{position-Some}
use lib.ListN.{length, take, drop, get_or, length-take, length-drop}
use lib.Seq.{drop-drop}
use Rattle.meaning.specs.Bytes.{Text, colon}
use Rattle.meaning.specs.Spec.{mode_of_byte, mode_of, unsigned, one, two, sides_of, left, right}
use Rattle.text.specs.Last.{past_last}
use Rattle.text.proofs.Rests.{rest_end, rest_part}
use Rattle.text.proofs.Scans.{byte-is, byte-other}
use Rattle.text.proofs.Sides.{sides-one, sides-two}
use Rattle.parse.specs.Places.{sign_length}
use Rattle.parse.proofs.Places.{unsigned-drop, sign-within}
use Rattle.refused_line.specs.Byte.{past, counted, refused_byte, source_byte, destination_byte, SidesAt}
use Rattle.refused_line.proofs.Bytes.{counted-position}

pub sign-caret : (t : Text) → (length t ≡ 0 → ⊥) → get_or t 0 0 ≡ 94 → 1 ≡ sign_length (mode_of t)
unfolding mode_of_byte
sign-caret [] z e = absurd (z refl)
sign-caret (x ∷ t) z e = rw (byte-is x 94 e)

pub sign-plus : (t : Text) → (length t ≡ 0 → ⊥) → (get_or t 0 0 ≡ 94 → ⊥) → get_or t 0 0 ≡ 43 → 1 ≡ sign_length (mode_of t)
unfolding mode_of_byte
sign-plus [] z n e = absurd (z refl)
sign-plus (x ∷ t) z n e = rw (byte-other x 94 n, byte-is x 43 e)

pub sign-other : (t : Text) → (length t ≡ 0 → ⊥) → (get_or t 0 0 ≡ 94 → ⊥) → (get_or t 0 0 ≡ 43 → ⊥) → 0 ≡ sign_length (mode_of t)
unfolding mode_of_byte
sign-other [] z n m = absurd (z refl)
sign-other (x ∷ t) z n m = rw (byte-other x 94 n, byte-other x 43 m)

-- the sides, by how many bytes end with the last colon
module _ (t : Text) (start : ℕ) (es : start ≡ sign_length (mode_of t)) (n : ℕ) (en : n ≡ past_last 58 (take (length t - start) (drop start t))) where
  unsigned_is : unsigned t ≡ drop start t
  unsigned_is = unsigned-drop t ∙ ap (λ (k : ℕ). drop k t) (sym es)

  within : start ≤ length t
  within = rw es (sign-within t)

  last-is : n ≡ past_last colon (drop start t)
  last-is = en ∙ ap (past_last 58) (rest_part t start)

  pub sides-uncut : n ≡ 0 → SidesAt t start (length t) (length t)
  sides-uncut z =
      let e : sides_of (unsigned t) ≡ one (drop start t) = ap sides_of unsigned_is ∙ sides-one (drop start t) n last-is z in
      record {
        start_is = es;
        source_is = rest_part t start ∙ ap left (sym e);
        destination-is = rest_end t (length t) (omega arith) ∙ ap right (sym e);
        starts = within;
        ends = omega arith;
        within = omega arith;
      }

  module _ (some : n ≡ 0 → ⊥) (short : n ≤ length (take (length t - start) (drop start t))) where
    cut-within : start + n ≤ length t
    cut-within = let h : n ≤ length t - start = rw (rest_part, length-drop) at short in omega (arith, within)

    pub sides-cut : SidesAt t start (start + n - 1) (start + n)
    sides-cut =
        let e : sides_of (unsigned t) ≡ two (take (n - 1) (drop start t)) (drop n (drop start t)) = ap sides_of unsigned_is ∙ sides-two (drop start t) n last-is (omega arith) in
        let p : start + n - 1 - start ≡ n - 1 = omega arith in
        record {
          start_is = es;
          source_is = rw p (ap left (sym e));
          destination-is = sym (drop-drop n start t) ∙ ap right (sym e);
          starts = omega arith;
          ends = omega (arith, cut-within);
          within = cut-within;
        }

-- the first byte of a side that the name rules refuse
module _ (t : Text) (start end rest : ℕ) (s : SidesAt t start end rest) (o : Option ℕ) where
  module _ (e : o ≡ position refused_byte (take (end - start) (drop start t))) where
    pub source-found : past start (counted o) ≡ source_byte t
    unfolding source_byte
    source-found = rw (e, counted-position refused_byte (take (end - start) (drop start t)), s.source_is, s.start_is)

    pub source-none : o ≡ None → (r : Option ℕ) → r ≡ None → (counted r ≡ source_byte t) × (counted r ≤ length t)
    source-none n r f = rw f (rw n at source-found, omega arith)

    pub source-some : (i : ℕ) → o ≡ Some i → (suc (start + i) ≡ source_byte t) × (suc (start + i) ≤ length t)
    source-some i n =
        let h : i < length (take (end - start) (drop start t)) = (position-Some refused_byte _ i 0 (sym e ∙ n)).0 in
        (omega arith ∙ rw n at source-found, omega (arith, length-take (end - start) (drop start t), s.starts, s.ends))

  module _ (e : o ≡ position refused_byte (take (length t - rest) (drop rest t))) where
    pub destination-found : past rest (counted o) ≡ destination_byte t
    unfolding destination_byte
    destination-found =
        let p : length t - length (right (sides_of (unsigned t))) ≡ rest = omega (arith, ap length s.destination-is, length-drop rest t, s.within) in
        rw (e, counted-position refused_byte (take (length t - rest) (drop rest t)), rest_part t rest, s.destination-is, p)

    pub destination-none : o ≡ None → (r : Option ℕ) → r ≡ None → (counted r ≡ destination_byte t) × (counted r ≤ length t)
    destination-none n r f = rw f (rw n at destination-found, omega arith)

    pub destination-some : (i : ℕ) → o ≡ Some i → (suc (rest + i) ≡ destination_byte t) × (suc (rest + i) ≤ length t)
    destination-some i n =
        let h : i < length (take (length t - rest) (drop rest t)) = (position-Some refused_byte _ i 0 (sym e ∙ n)).0 in
        (omega arith ∙ rw n at destination-found, omega (arith, length-take (length t - rest) (drop rest t), s.within))
