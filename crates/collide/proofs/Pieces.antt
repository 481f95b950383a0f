-- A literal in two pieces: what leads it and what is led, and the comparison with another and with a pattern. Assumes nothing.
use Prim.Native.Nat.{ℕ, ◌+◌, ◌-◌, ◌≤◌}
use native.Mathlib.Omega.{arith}
use mathlib.Core.Path.{◌≡◌, refl, sym, ap, ◌∙◌}
use mathlib.Core.Bool.{Bool, true, false, cond}
use mathlib.Core.List.{[], ◌∷◌, ◌++◌, append-nil}
use mathlib.Core.Option.{none, some}
use lib.Dec.{eqb}
use lib.ListN.{length, take, drop}
use lib.Seq.{drop-length}
use Rattle.meaning.specs.Bytes.{Text, ◌and◌, same, begins, present, lower, object_id}
use Rattle.meaning.specs.Limits.{spec_list_bytes, id_digits}
use Rattle.meaning.specs.Match.{capture}
use Rattle.meaning.specs.Collide.{literal_in}
use Rattle.promises.proofs.Viewing.{object-length}
use Rattle.text.proofs.Rests.{rest_part}
use Rattle.text.proofs.Rows.{and-true, and-false}
use Rattle.compare.proofs.Sames.{same-swap}
use Rattle.buffer.specs.Splice.{splice}
use Rattle.buffer.proofs.Splices.{splice-start}
use Rattle.buffer.proofs.Lowers.{lower-length}
use Rattle.glob.proofs.Joined.{and_assoc}
use Rattle.matcher.specs.declared.types.Lead.{Lead}
use Rattle.matcher.specs.Matching.{led_text, lead_bytes, body_bytes}
use Rattle.matcher.proofs.Leads.{led-pieces, lead-short}

-- ---- the digits of an object id

module _ (t : Text) (id : object_id t ≡ true) where
  -- have room
  pub digits-room : (d : Text) → length d ≡ id_digits → 0 + length t ≤ length d
  digits-room d e = omega (arith, object-length t id)

  -- and fill it
  pub digits-fill : (d o : Text) → length d ≡ id_digits → o ≡ splice d 0 (lower t) → o ≡ lower t
  digits-fill d o e h =
      let n : length (lower t) ≡ length d = omega (arith, object-length t id, lower-length t) in
      h ∙ splice-start d (lower t) ∙ ap (λ (r : Text). lower t ++ r) (ap (λ (k : ℕ). drop k d) n ∙ drop-length d) ∙ append-nil (lower t)

-- ---- what leads and what is led

-- the pieces that calls gave have few bytes
pub first-few : (l : Lead) (a : Text) → a ≡ lead_bytes l → length a ≤ spec_list_bytes
first-few l a e = omega (arith, ap length e, lead-short l)

-- and make the text that is led
module _ (l : Lead) (t a b : Text) (ea : a ≡ lead_bytes l) (eb : b ≡ body_bytes l t) where
  pieces-led : a ++ b ≡ led_text l t
  pieces-led = rw (ea, eb) (led-pieces l t)

-- two literals
pub both-led : (l m : Lead) (t u a b c d : Text) → a ≡ lead_bytes l → b ≡ body_bytes l t → c ≡ lead_bytes m → d ≡ body_bytes m u → cond (same (a ++ b) (c ++ d)) (some (a ++ b)) none ≡ cond (same (led_text l t) (led_text m u)) (some (led_text l t)) none
both-led l m t u a b c d ea eb ec ed = rw (pieces-led l t a b ea eb, pieces-led m u c d ec ed)

-- ---- two pieces and two others

same-pairs : (a b c d : Text) → length a ≤ length c → same (a ++ b) (c ++ d) ≡ (begins a c and same b (drop (length a) c ++ d))
same-pairs [] b c d h = refl
same-pairs (x ∷ a) b [] d h = absurd (omega arith)
same-pairs (x ∷ a) b (y ∷ c) d h =
    ap (λ (t : Bool). eqb x y and t) (same-pairs a b c d (omega arith)) ∙ sym (and_assoc (eqb x y) (begins a c) (same b (drop (length a) c ++ d)))

module _ (a b c d : Text) (h : length a ≤ length c) (r : Bool) (e : r ≡ same b (take (length c - length a) (drop (length a) c) ++ (d ++ []))) where
  past : same b (drop (length a) c ++ d) ≡ r
  past = sym (e ∙ rw (append-nil d, rest_part c (length a)))

  -- what is past the first piece is not the same
  pub past-not : r ≡ false → r ≡ same (a ++ b) (c ++ d)
  past-not n = n ∙ sym (same-pairs a b c d h ∙ rw (past, n) (and-false (begins a c)))

  -- or it is, and the first piece decides
  pub past-on : r ≡ true → (v : Bool) → v ≡ begins a c → v ≡ same (a ++ b) (c ++ d)
  past-on n v k = k ∙ sym (same-pairs a b c d h ∙ rw (past, n) (and-true (begins a c)))

-- the pieces exchanged
pub pairs-swap : (a b c d : Text) (r : Bool) → r ≡ same (c ++ d) (a ++ b) → r ≡ same (a ++ b) (c ++ d)
pairs-swap a b c d r e = e ∙ same-swap (c ++ d) (a ++ b)

-- ---- what is shared

module _ (t u : Text) (r : Bool) (e : r ≡ same t u) where
  pub same_some : r ≡ true → some t ≡ cond (same t u) (some t) none
  same_some h = rw (sym e ∙ h)

  pub same_none : r ≡ false → none ≡ cond (same t u) (some t) none
  same_none h = rw (sym e ∙ h)

module _ (p q a b : Text) (r : Bool) (e : r ≡ present (capture p q (a ++ (b ++ [])))) where
  caught : present (capture p q (a ++ b)) ≡ r
  caught = sym (e ∙ rw (append-nil b))

  pub in_some : r ≡ true → some (a ++ b) ≡ literal_in p q (a ++ b)
  unfolding literal_in
  in_some h = rw (caught ∙ h)

  pub in-none : r ≡ false → none ≡ literal_in p q (a ++ b)
  unfolding literal_in
  in-none h = rw (caught ∙ h)
