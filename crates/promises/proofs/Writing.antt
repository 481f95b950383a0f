-- What is written under a spec fills its target, and what fills it is written. Assumes nothing.
use mathlib.Core.Path.{◌≡◌, refl, sym, ap, ◌∙◌}
use mathlib.Core.Logic.{◌⊎◌, inl, inr}
use mathlib.Core.Bool.{Bool, true, false, cond, false≢true}
use mathlib.Core.List.{◌++◌, append-nil}
use mathlib.Core.Option.{Option, none, some, map}
use Prim.Native.Nat.{ℕ}
use native.Mathlib.Omega.{arith}
use Rattle.meaning.specs.Bytes.{Text, bytes, begins, object_id, lower, In, here}
use Rattle.meaning.specs.Spec.{Mode, Spec, is_negative, starred}
use Rattle.meaning.specs.Prefix.{before_star}
use Rattle.meaning.specs.Rows.{Row}
use Rattle.meaning.specs.Match.{after_star, Form, literal, pattern, form_of, capture, Needle, full, object, partial, plain_needle, needle_of, object_in, object_source, Hit, miss, whole, caught, caught_by, hit, completed, mapped, maps_to, forward_by, forward}
use Rattle.meaning.specs.Listing.{object_row, object_rows}
use Rattle.meaning.specs.Collide.{as_written, target}
use Rattle.promises.specs.Accepted.{AcceptedSpec}
use Rattle.promises.specs.Collisions.{WrittenTo, by_name, by_object}
use Rattle.promises.proofs.Laws.{same_refl}
use Rattle.promises.proofs.Captures.{capture-is, capture-fill, form-plain, form-starred}
use Rattle.promises.proofs.Listings.{object-row}
use Rattle.promises.proofs.MapBack.{caught-there, pattern-forward, one-sided}
use Rattle.promises.proofs.Sharing.{Fills}

-- a spec with both sides, written short
abbrev pub two_sided : Mode → Text → Text → Spec
two_sided m src dst = record { mode = m; source = some src; destination = some dst }

-- patterns on both sides

module _ (m : Mode) (neg : is_negative m ≡ false) (src dst : Text) (f : starred src ≡ true) (g : starred dst ≡ true) (d : Text) where
  pattern-sent : (n : Text) → forward (two_sided m src dst) n ≡ maps_to (caught_by (capture (before_star src) (after_star src) n)) (some (pattern (before_star dst) (after_star dst)))
  unfolding forward
  pattern-sent n = rw neg (pattern-forward src dst (before_star src) (after_star src) (before_star dst) (after_star dst) (form-starred src f) (form-starred dst g) n d)

  pattern-object : (r : Row) → In r (object_rows (0, two_sided m src dst)) → ⊥
  unfolding object_rows
  pattern-object r h = let w = object-row 0 (object_source (two_sided m src dst)) _ (rw (form-starred dst g) at h) in let z : ◌≡◌ {A = ℕ} 0 1 = cc w.2 in omega arith

  -- a name under two patterns, and where it is written
  pub pattern-name : (n : Text) → forward (two_sided m src dst) n ≡ mapped (some d) → (c : Text) × (n ≡ before_star src ++ (c ++ after_star src)) × (d ≡ before_star dst ++ (c ++ after_star dst))
  pattern-name n e =
      let k = caught-there (capture (before_star src) (after_star src) n) d (before_star dst) (after_star dst) (sym (pattern-sent n) ∙ e) in
      (k.0, capture-is (before_star src) (after_star src) n k.0 k.1, sym k.2)

  pattern-written : WrittenTo (two_sided m src dst) d → Fills (pattern (before_star dst) (after_star dst)) d
  pattern-written (by_name n e) = let w = pattern-name n e in (w.0, w.2)
  pattern-written (by_object r h e) = absurd (pattern-object r h)

  -- by the name with the same capture
  pub pattern-by : (c : Text) → d ≡ before_star dst ++ (c ++ after_star dst) → forward (two_sided m src dst) (before_star src ++ (c ++ after_star src)) ≡ mapped (some d)
  pattern-by c e = pattern-sent (before_star src ++ (c ++ after_star src)) ∙ rw (capture-fill (before_star src) (after_star src) c, e)

  pattern-fills : Fills (pattern (before_star dst) (after_star dst)) d → WrittenTo (two_sided m src dst) d
  pattern-fills h = by_name (before_star src ++ (h.0 ++ after_star src)) (pattern-by h.0 h.1)

-- no star on either side

-- a literal destination: what hits as a whole is written to it
hit-literal : (h : Hit) (t d : Text) → maps_to h (some (literal t)) ≡ mapped (some d) → d ≡ completed t
hit-literal miss t d e = absurd (let z : ◌≡◌ {A = ℕ} 0 1 = cc in omega arith)
hit-literal whole t d e = cc
hit-literal (caught c) t d e = absurd (let z : ◌≡◌ {A = ℕ} 0 1 = cc in omega arith)

module _ (m : Mode) (neg : is_negative m ≡ false) (src dst : Text) (f : starred src ≡ false) (g : starred dst ≡ false) (d : Text) where
  literal-sent : (n : Text) → forward (two_sided m src dst) n ≡ maps_to (hit (plain_needle false src) n) (some (literal dst))
  unfolding forward needle_of
  literal-sent n = rw (neg, form-plain src f, form-plain dst g)

  literal-objects : object_rows (0, two_sided m src dst) ≡ object_row 0 (object_in (plain_needle false src)) (mapped (some (completed dst)))
  unfolding object_rows object_source needle_of
  literal-objects = rw (neg, form-plain src f, form-plain dst g)

  pub literal-written : WrittenTo (two_sided m src dst) d → d ≡ completed dst
  literal-written (by_name n e) = hit-literal (hit (plain_needle false src) n) dst d (sym (literal-sent n) ∙ e)
  literal-written (by_object r h e) = let w = object-row 0 (object_in (plain_needle false src)) (mapped (some (completed dst))) (rw literal-objects at h) in cc w.2

  -- what a needle without a star finds: its own text, or an object
  Found : Needle → Type 0
  Found k = (hit k src ≡ whole) ⊎ ((id : Text) × (object_in k ≡ some id))

  found : Found (plain_needle false src)
  unfolding plain_needle Found
  found = go (begins (bytes "refs/") src) (object_id src)
    where
      go : (b c : Bool) → Found (cond b (full src) (cond c (object src) (partial src)))
      go true c = inl (rw (same_refl src))
      go false true = inr (src, refl)
      go false false = inl (rw (append-nil src, same_refl src))

  -- by the source itself, or by its object
  pub literal-by : d ≡ completed dst → (forward (two_sided m src dst) src ≡ mapped (some d)) ⊎ ((r : Row) × In r (object_rows (0, two_sided m src dst)) × (r.destination ≡ some d))
  unfolding Found
  literal-by e = go found
    where
      go : Found (plain_needle false src) → (forward (two_sided m src dst) src ≡ mapped (some d)) ⊎ ((r : Row) × In r (object_rows (0, two_sided m src dst)) × (r.destination ≡ some d))
      go (inl h) = inl (literal-sent src ∙ rw (h, e))
      go (inr h) =
          inr (record { item = 0; spec = 0; kind = 1; source = lower h.0; destination = some (completed dst) }, rw (literal-objects, h.1) here, ap {B = Option Text} some (sym e))

  literal-fills : d ≡ completed dst → WrittenTo (two_sided m src dst) d
  literal-fills e = go (literal-by e)
    where
      go : (forward (two_sided m src dst) src ≡ mapped (some d)) ⊎ ((r : Row) × In r (object_rows (0, two_sided m src dst)) × (r.destination ≡ some d)) → WrittenTo (two_sided m src dst) d
      go (inl h) = by_name src h
      go (inr h) = by_object h.0 h.1 h.2

-- without a destination nothing is written

by-nowhere : (negative : Bool) (src : Option Text) (n d : Text) → forward_by negative src none n ≡ mapped (some d) → ⊥
by-nowhere negative none n d e = let z : ◌≡◌ {A = ℕ} 0 1 = cc in omega arith
by-nowhere negative (some src) n d e = one-sided (hit (needle_of negative src) n) d e

pub nowhere-written : (s : Spec) (d : Text) → s.destination ≡ none → WrittenTo s d → ⊥
unfolding forward object_rows
nowhere-written s d h (by_name n e) = by-nowhere (is_negative s.mode) s.source n d (rw h at e)
nowhere-written s d h (by_object r k e) =
    let w = object-row 0 (object_source s) (maps_to whole (map form_of s.destination)) k in
    let v : mapped none ≡ mapped r.destination = rw h at w.2 in
    let z : ◌≡◌ {A = ℕ} 0 1 = cc in omega arith

-- by the target of a spec

-- what a target says of what is written to d
abbrev pub Says : Spec → Text → Option Form → Type 0
Says s d none = WrittenTo s d → ⊥
Says s d (some f) = (WrittenTo s d → Fills f d) × (Fills f d → WrittenTo s d)

both_say : (m : Mode) (neg : is_negative m ≡ false) (src dst d : Text) → starred src ≡ starred dst → Says (two_sided m src dst) d (some (as_written (form_of dst)))
both_say m neg src dst d k = go (starred dst) refl
  where
    go : (b : Bool) → starred dst ≡ b → Says (two_sided m src dst) d (some (as_written (form_of dst)))
    go true g = rw (form-starred dst g) (pattern-written m neg src dst (k ∙ g) g d, pattern-fills m neg src dst (k ∙ g) g d)
    go false g = rw (form-plain dst g) (literal-written m neg src dst (k ∙ g) g d, literal-fills m neg src dst (k ∙ g) g d)

sides-say : (m : Mode) (src dst : Option Text) (d : Text) → AcceptedSpec 0 (record { mode = m; source = src; destination = dst }) → Says (record { mode = m; source = src; destination = dst }) d (target (record { mode = m; source = src; destination = dst }))
unfolding target
sides-say m none dst d a = absurd (false≢true (a.fetch-source refl))
sides-say m (some src) none d a = go (is_negative m)
  where
    go : (b : Bool) → Says (record { mode = m; source = some src; destination = none }) d (cond b none (map (λ x. as_written (form_of x)) none))
    go true = nowhere-written (record { mode = m; source = some src; destination = none }) d refl
    go false = nowhere-written (record { mode = m; source = some src; destination = none }) d refl
sides-say m (some src) (some dst) d a = go (is_negative m) refl
  where
    go : (b : Bool) → is_negative m ≡ b → Says (two_sided m src dst) d (cond b none (some (as_written (form_of dst))))
    go true n = absurd (let q = a.negative-alone n in let z : ◌≡◌ {A = ℕ} 0 1 = cc in omega arith)
    go false n = both_say m n src dst d (a.both-stars refl)

-- what is written under an accepted spec fills its target, and what fills it is written
pub target-says : (s : Spec) (d : Text) → AcceptedSpec 0 s → Says s d (target s)
target-says s d a = sides-say s.mode s.source s.destination d a
