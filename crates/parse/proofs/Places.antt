-- The places of a spec's sides stand within the spec, and denote the texts of the meaning. Assumes nothing.
use Prim.Native.Nat.{ℕ, zero, suc, ◌+◌, ◌≤◌}
use native.Mathlib.Omega.{arith}
use mathlib.Core.Path.{◌≡◌, refl, sym, ap, ◌∙◌}
use mathlib.Core.Bool.{Bool, true, false, not, cond}
use mathlib.Core.List.{[], ◌∷◌, ◌++◌}
use mathlib.Core.Option.{none, some}
use native.Mathlib.Nat.{add-suc}
use native.Mathlib.Numerals.{add-one}
use borrow.Author.Tests.{eqb-true}
use lib.Dec.{eqb}
use lib.ListN.{length, take, drop, length-append, length-drop}
use lib.Seq.{take-append_seam, drop-append-add, drop-drop, take_all}
use Rattle.meaning.specs.Bytes.{Text, bytes, colon, ◌and◌, same, given}
use Rattle.meaning.specs.Spec.{Mode, Normal, Force, Negative, Sides, one, two, is_negative, mode_of_byte, mode_of, sign_off, unsigned, sides_next, sides_of, left, right, supplied, named, source_of, spec_from, spec_of, spec_refusal, read_spec, unless, accepted, ◌else◌then◌, sides_refusal}
use Rattle.refusal.proofs.Numbers.{number_of-question}
use Rattle.parse.specs.declared.types.Side.TheVariants.{Absent, Part, Head}
use Rattle.parse.specs.Places.{mode_meant, mode_case, part_at, side_meant, Within, SidesWithin, spec_meant, sign_length, placed, supplied_place, named_place, source_place, places_at, places_of, parsed_unless, parsed, parsed_meant}

-- a text with a byte is not empty
cons-not-nil : (x : ℕ) (u : Text) → x ∷ u ≡ [] → ⊥
cons-not-nil x u e = let z : suc (length u) ≡ 0 = ap length e in omega arith

-- a mode's case in the code means that mode
pub mode-meant : (m : Mode) → mode_meant (mode_case m) ≡ m
mode-meant Normal = refl
mode-meant Force = refl
mode-meant Negative = refl

-- taking a sign off drops its bytes
sign-off : (m : Mode) (x : ℕ) (t : Text) → sign_off m x t ≡ drop (sign_length m) (x ∷ t)
sign-off Normal x t = refl
sign-off Force x t = refl
sign-off Negative x t = refl

-- a text without its sign is what follows its sign's bytes
pub unsigned-drop : (t : Text) → unsigned t ≡ drop (sign_length (mode_of t)) t
unsigned-drop [] = refl
unsigned-drop (x ∷ t) = sign-off (mode_of_byte x) x t

-- a sign stands within its text
pub sign-within : (t : Text) → sign_length (mode_of t) ≤ length t
sign-within [] = omega arith
sign-within (x ∷ t) = go (mode_of_byte x)
  where
    go : (m : Mode) → sign_length m ≤ suc (length t)
    go Normal = omega arith
    go Force = omega arith
    go Negative = omega arith

-- the text that sides were split from
abbrev joined : Sides → Text
joined (one t) = t
joined (two s t) = s ++ (colon ∷ t)

-- sides are split from their text
sides-joined : (t : Text) → joined (sides_of t) ≡ t
sides-joined [] = refl
sides-joined (x ∷ t) = go (sides_of t) (eqb colon x) refl ∙ ap (λ (l : Text). x ∷ l) (sides-joined t)
  where
    go : (d : Sides) (b : Bool) → eqb colon x ≡ b → joined (sides_next x d) ≡ x ∷ joined d
    go (one u) true e = rw e (ap (λ (n : ℕ). n ∷ u) (eqb-true colon x e))
    go (one u) false e = rw e
    go (two u v) b e = refl

-- the left side is what the text begins with
left-part : (d : Sides) → take (length (left d)) (joined d) ≡ left d
left-part (one t) = take_all (length t) t (omega arith)
left-part (two s t) = take-append_seam s (colon ∷ t)

-- the right side, where it is not empty, is what follows the left one and the colon
right-part : (d : Sides) (x : ℕ) (u : Text) → right d ≡ x ∷ u → drop (suc (length (left d))) (joined d) ≡ right d
right-part (one t) x u e = absurd (cons-not-nil x u (sym e))
right-part (two s t) x u e = rw (← add-one (length s)) (drop-append-add s (colon ∷ t) 1)

-- what a side's lengths add up to
joined_length : (d : Sides) (x : ℕ) (u : Text) → right d ≡ x ∷ u → length (joined d) ≡ suc (length (left d)) + length (right d)
joined_length (one t) x u e = absurd (cons-not-nil x u (sym e))
joined_length (two s t) x u e = length-append s (colon ∷ t) ∙ omega arith

-- the left side is no longer than the text
left-length : (d : Sides) → length (left d) ≤ length (joined d)
left-length (one t) = omega arith
left-length (two s t) = omega (arith, length-append s (colon ∷ t))

module _ (t : Text) (at : ℕ) (d : Sides) (fits : at ≤ length t) (split : joined d ≡ drop at t) where
  -- the source's place denotes its text
  source-meant : (op : ℕ) (m : Mode) → side_meant t (source_place op m at (left d)) ≡ source_of op m (left d)
  unfolding supplied_place supplied named_place named
  source-meant op m = go (left d) refl
    where
      head-or-none : (b : Bool) → side_meant t (cond b Head Absent) ≡ cond b (some (bytes "HEAD")) none
      head-or-none true = refl
      head-or-none false = refl

      head-or-part : (l : Text) → part_at t at (length l) ≡ l → (b : Bool) → side_meant t (cond b Head (Part at (length l))) ≡ some (cond b (bytes "HEAD") l)
      head-or-part l e true = refl
      head-or-part l e false = ap some e

      go : (l : Text) → left d ≡ l → side_meant t (source_place op m at l) ≡ source_of op m l
      go [] e = head-or-none (eqb op 0 and not (is_negative m))
      go (x ∷ l) e =
          head-or-part (x ∷ l)
          (ap (λ (k : Text). take (length (x ∷ l)) k) (sym split) ∙ ap (λ (k : Text). take (length k) (joined d)) (sym e) ∙ left-part d ∙ e)
          (same (x ∷ l) (bytes "@"))

  -- the destination's place denotes its text
  destination-meant : side_meant t (placed (suc (at + length (left d))) (right d)) ≡ given (right d)
  destination-meant = go (right d) refl
    where
      go : (r : Text) → right d ≡ r → side_meant t (placed (suc (at + length (left d))) r) ≡ given r
      go [] e = refl
      go (x ∷ r) e =
          ap some
          (ap (λ (k : ℕ). take (suc (length r)) (drop k t)) (sym (add-suc at (length (left d))))
          ∙ ap (λ (k : Text). take (suc (length r)) k) (sym (drop-drop (suc (length (left d))) at t))
          ∙ ap (λ (k : Text). take (suc (length r)) (drop (suc (length (left d))) k)) (sym split)
          ∙ ap (λ (k : Text). take (suc (length r)) k) (right-part d x r e ∙ e)
          ∙ take_all (suc (length r)) (x ∷ r) (omega arith))

  -- both places stand within the text
  places-within : (op : ℕ) (m : Mode) → SidesWithin (length t) (places_at op m at d)
  unfolding places_at supplied_place named_place
  places-within op m = record { src-within = source_in (left d) refl; dst-within = destination-in (right d) refl }
    where
      total : at + length (joined d) ≡ length t
      total = ap (λ (k : Text). at + length k) split ∙ ap (λ (k : ℕ). at + k) (length-drop at t) ∙ omega arith

      source_in : (l : Text) → left d ≡ l → Within (length t) (source_place op m at l)
      source_in [] e = head_in (eqb op 0 and not (is_negative m))
        where
          head_in : (b : Bool) → Within (length t) (cond b Head Absent)
          head_in true = tt
          head_in false = tt
      source_in (x ∷ l) e = part_in (same (x ∷ l) (bytes "@"))
        where
          part_in : (b : Bool) → Within (length t) (cond b Head (Part at (length (x ∷ l))))
          part_in true = tt
          part_in false = omega (arith, total, left-length d, ap length e)

      destination-in : (r : Text) → right d ≡ r → Within (length t) (placed (suc (at + length (left d))) r)
      destination-in [] e = tt
      destination-in (x ∷ r) e = omega (arith, total, joined_length d x r e, ap length e)

-- the sides of a spec are split from what follows its sign
spec-split : (t : Text) → joined (sides_of (unsigned t)) ≡ drop (sign_length (mode_of t)) t
spec-split t = sides-joined (unsigned t) ∙ unsigned-drop t

-- the places of a spec denote the spec
pub places-meant : (op : ℕ) (t : Text) → spec_meant t (places_of op t) ≡ spec_of op t
unfolding spec_meant places_of places_at spec_of spec_from
places-meant op t =
    rw (
      mode-meant (mode_of t),
      source-meant t (sign_length (mode_of t)) (sides_of (unsigned t)) (sign-within t) (spec-split t) op (mode_of t),
      destination-meant t (sign_length (mode_of t)) (sides_of (unsigned t)) (sign-within t) (spec-split t),
    )

-- the places of a spec stand within it
pub sides-within : (op : ℕ) (t : Text) → SidesWithin (length t) (places_of op t)
unfolding places_of
sides-within op t = places-within t (sign_length (mode_of t)) (sides_of (unsigned t)) (sign-within t) (spec-split t) op (mode_of t)

-- no question has a number above 18
else-most : (b : Bool) (n x : ℕ) → n ≤ 18 → x ≤ 18 → (b else n then x) ≤ 18
else-most true n x h i = i
else-most false n x h i = h

pub spec_refusal-most : (op : ℕ) (t : Text) → spec_refusal op t ≤ 18
unfolding spec_refusal sides_refusal
spec_refusal-most op t = search (else-most, arith) depth 30

-- what reading answers means what the meaning reads
pub parsed-meant : (op : ℕ) (t : Text) → parsed_meant t (parsed op t) ≡ read_spec op t
unfolding parsed read_spec
parsed-meant op t = go (spec_refusal op t) (spec_refusal-most op t)
  where
    go : (n : ℕ) → n ≤ 18 → parsed_meant t (parsed_unless n (places_of op t)) ≡ unless n (spec_of op t)
    go zero h = ap accepted (places-meant op t)
    go (suc n) h = rw (number_of-question (suc n) (omega arith) h)
