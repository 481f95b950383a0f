-- What is shared by byte strings, and written to it, is a byte string. Assumes nothing.
use mathlib.Core.Path.{◌≡◌, refl, sym, ap, ◌∙◌}
use mathlib.Core.Logic.{◌⊎◌, inl, inr}
use mathlib.Core.Bool.{Bool, true, false, cond, false≢true}
use mathlib.Core.List.{[], ◌∷◌, ◌++◌}
use mathlib.Core.Option.{Option, none, some, map}
use Prim.Native.Nat.{ℕ, zero, suc, ◌+◌}
use native.Mathlib.Omega.{arith}
use borrow.Author.Tests.{lt-ltb, leb-true}
use lib.Dec.{eqb, leb}
use lib.ListN.{length, drop}
use Rattle.meaning.specs.Bytes.{Text, bytes, star, ◌and◌, ◌or◌, same, begins, ends, present, lower_byte, lower, object_id, In}
use Rattle.meaning.specs.Spec.{Mode, Spec, is_negative, starred}
use Rattle.meaning.specs.Prefix.{before_star}
use Rattle.meaning.specs.Rows.{Row}
use Rattle.meaning.specs.Match.{after_star, Form, literal, pattern, form_of, capture, completed, mapped, forward}
use Rattle.meaning.specs.Listing.{object_rows}
use Rattle.meaning.specs.Collide.{as_written, target, longer_start, longer_end, followed_by, literal_in, shared}
use Rattle.promises.specs.Accepted.{AcceptedSpec}
use Rattle.promises.specs.Facts.{is_byte}
use Rattle.promises.specs.Collisions.{WrittenInBytes, by_name_in_bytes, by_object_too}
use Rattle.promises.proofs.Laws.{and_left, and_right, and_both, chosen, every_append, every-left, every-right}
use Rattle.promises.proofs.Captures.{form-plain, form-starred}
use Rattle.promises.proofs.Octets.{octets}
use Rattle.promises.proofs.Sharing.{Fills}
use Rattle.promises.proofs.Writing.{two_sided, pattern-by, literal-by}

-- parts of a byte string

drop-octets : (n : ℕ) (t : Text) → octets t ≡ true → octets (drop n t) ≡ true
drop-octets zero t h = h
drop-octets (suc n) [] h = refl
drop-octets (suc n) (x ∷ t) h = drop-octets n t (and_right (is_byte x) (octets t) h)

before-octets : (t : Text) → octets t ≡ true → octets (before_star t) ≡ true
before-octets [] h = refl
before-octets (x ∷ t) h = go (before-octets t (and_right (is_byte x) (octets t) h)) (eqb star x)
  where
    go : octets (before_star t) ≡ true → (b : Bool) → octets (cond b [] (x ∷ before_star t)) ≡ true
    go p true = refl
    go p false = and_both (and_left (is_byte x) (octets t) h) p

-- lower case

lower-octet : (x : ℕ) → is_byte x ≡ true → is_byte (lower_byte x) ≡ true
lower-octet x h = go (leb 65 x and leb x 90) refl
  where
    go : (b : Bool) → (leb 65 x and leb x 90) ≡ b → is_byte (cond b (x + 32) x) ≡ true
    go true e = let k = leb-true x 90 (and_right (leb 65 x) (leb x 90) e) in lt-ltb (x + 32) _ (omega arith)
    go false e = h

lower-octets : (t : Text) → octets t ≡ true → octets (lower t) ≡ true
lower-octets [] h = refl
lower-octets (x ∷ t) h = and_both (lower-octet x (and_left (is_byte x) (octets t) h)) (lower-octets t (and_right (is_byte x) (octets t) h))

completed-octets : (t : Text) → octets t ≡ true → octets (completed t) ≡ true
unfolding completed
completed-octets t h = go (begins (bytes "refs/") t) (object_id t) (begins (bytes "tags/") t or begins (bytes "remotes/") t)
  where
    go : (a b c : Bool) → octets (cond a t (cond b (bytes "refs/heads/" ++ lower t) (cond c (bytes "refs/" ++ t) (bytes "refs/heads/" ++ t)))) ≡ true
    go true b c = h
    go false true c = lower-octets t h
    go false false true = h
    go false false false = h

-- forms of byte strings
abbrev pub FormOctets : Form → Type 0
FormOctets (literal t) = octets t ≡ true
FormOctets (pattern a b) = (octets a ≡ true) × (octets b ≡ true)

written-octets : (t : Text) → octets t ≡ true → FormOctets (as_written (form_of t))
written-octets t h = go (starred t) refl
  where
    go : (b : Bool) → starred t ≡ b → FormOctets (as_written (form_of t))
    go true e = rw (form-starred t e) (before-octets t h, drop-octets (suc (length (before_star t))) t h)
    go false e = rw (form-plain t e) (completed-octets t h)

-- what they share
longer-octets : (p q : Bool) (a b l : Text) → cond p (some b) (cond q (some a) none) ≡ some l → octets a ≡ true → octets b ≡ true → octets l ≡ true
longer-octets true q a b l e h k = let u : b ≡ l = cc in ap octets (sym u) ∙ k
longer-octets false true a b l e h k = let u : a ≡ l = cc in ap octets (sym u) ∙ h
longer-octets false false a b l e h k = absurd (let z : ◌≡◌ {A = ℕ} 0 1 = cc in omega arith)

followed-octets : (o n : Option Text) (d : Text) → followed_by o n ≡ some d → ((l : Text) → o ≡ some l → octets l ≡ true) → ((l : Text) → n ≡ some l → octets l ≡ true) → octets d ≡ true
followed-octets none n d e f g = absurd (let z : ◌≡◌ {A = ℕ} 0 1 = cc in omega arith)
followed-octets (some l) none d e f g = absurd (let z : ◌≡◌ {A = ℕ} 0 1 = cc in omega arith)
followed-octets (some l) (some m) d e f g = let u : l ++ m ≡ d = cc in ap octets (sym u) ∙ every_append is_byte l m (f l refl) (g m refl)

chosen-octets : (b : Bool) (t d : Text) → cond b (some t) none ≡ some d → octets t ≡ true → octets d ≡ true
chosen-octets b t d e h = ap octets (sym (chosen b t d e).1) ∙ h

pub shared-octets : (f g : Form) (d : Text) → shared f g ≡ some d → FormOctets f → FormOctets g → octets d ≡ true
unfolding longer_start longer_end literal_in
shared-octets (literal t) (literal u) d e h k = chosen-octets (same t u) t d e h
shared-octets (literal t) (pattern a b) d e h k = chosen-octets (present (capture a b t)) t d e h
shared-octets (pattern a b) (literal t) d e h k = chosen-octets (present (capture a b t)) t d e k
shared-octets (pattern a b) (pattern a' b') d e h k =
    followed-octets (longer_start a a') (longer_end b b') d e (λ l p. longer-octets (begins a a') (begins a' a) a a' l p h.0 k.0) (λ l p. longer-octets (ends b b') (ends b' b) b b' l p h.1 k.1)

-- what fills a target is written by a byte string

middle-octets : (a c b d : Text) → d ≡ a ++ (c ++ b) → octets d ≡ true → octets c ≡ true
middle-octets a c b d e h = every-left is_byte c b (every-right is_byte a (c ++ b) (ap octets (sym e) ∙ h))

pattern-in-bytes : (m : Mode) (neg : is_negative m ≡ false) (src dst d : Text) → octets src ≡ true → starred src ≡ true → starred dst ≡ true → octets d ≡ true → Fills (pattern (before_star dst) (after_star dst)) d → WrittenInBytes (two_sided m src dst) d
pattern-in-bytes m neg src dst d o f g h w =
    let c = middle-octets (before_star dst) w.0 (after_star dst) d w.1 h in
    let n = every_append is_byte (before_star src) (w.0 ++ after_star src) (before-octets src o) (every_append is_byte w.0 (after_star src) c (drop-octets (suc (length (before_star src))) src o)) in
    by_name_in_bytes (before_star src ++ (w.0 ++ after_star src)) n (pattern-by m neg src dst f g d w.0 w.1)

literal-in-bytes : (m : Mode) (neg : is_negative m ≡ false) (src dst d : Text) → octets src ≡ true → starred src ≡ false → starred dst ≡ false → d ≡ completed dst → WrittenInBytes (two_sided m src dst) d
literal-in-bytes m neg src dst d o f g e = go (literal-by m neg src dst f g d e)
  where
    go : (forward (two_sided m src dst) src ≡ mapped (some d)) ⊎ ((r : Row) × In r (object_rows (0, two_sided m src dst)) × (r.destination ≡ some d)) → WrittenInBytes (two_sided m src dst) d
    go (inl h) = by_name_in_bytes src o h
    go (inr h) = by_object_too h.0 h.1 h.2

both-in-bytes : (m : Mode) (neg : is_negative m ≡ false) (src dst d : Text) → starred src ≡ starred dst → octets src ≡ true → octets d ≡ true → Fills (as_written (form_of dst)) d → WrittenInBytes (two_sided m src dst) d
both-in-bytes m neg src dst d k o h w = go (starred dst) refl
  where
    go : (b : Bool) → starred dst ≡ b → WrittenInBytes (two_sided m src dst) d
    go true g = pattern-in-bytes m neg src dst d o (k ∙ g) g h (rw (form-starred dst g) at w)
    go false g = literal-in-bytes m neg src dst d o (k ∙ g) g (rw (form-plain dst g) at w)

-- the target of a spec of byte strings, and what fills it
pub record InBytes (s : Spec) (f : Form) : Type 0 where
  pub form-octets : FormOctets f
  pub fills-in-bytes : (d : Text) → octets d ≡ true → Fills f d → WrittenInBytes s d

by-sides : (m : Mode) (src dst : Option Text) (f : Form)
    → AcceptedSpec 0 (record { mode = m; source = src; destination = dst })
    → ((x : Text) → src ≡ some x → octets x ≡ true)
    → ((x : Text) → dst ≡ some x → octets x ≡ true)
    → target (record { mode = m; source = src; destination = dst }) ≡ some f
    → InBytes (record { mode = m; source = src; destination = dst }) f
unfolding target
by-sides m none dst f a p q e = absurd (false≢true (a.fetch-source refl))
by-sides m (some src) none f a p q e = absurd (go (is_negative m) e)
  where
    go : (b : Bool) → cond b none (map (λ x. as_written (form_of x)) none) ≡ some f → ⊥
    go true w = let z : ◌≡◌ {A = ℕ} 0 1 = cc in omega arith
    go false w = let z : ◌≡◌ {A = ℕ} 0 1 = cc in omega arith
by-sides m (some src) (some dst) f a p q e = go (is_negative m) refl e
  where
    go : (b : Bool) → is_negative m ≡ b → cond b none (some (as_written (form_of dst))) ≡ some f → InBytes (two_sided m src dst) f
    go true n w = absurd (let z : ◌≡◌ {A = ℕ} 0 1 = cc in omega arith)
    go false n w =
        let u : as_written (form_of dst) ≡ f = cc in
        rw (← u) (record { form-octets = written-octets dst (q dst refl); fills-in-bytes = λ d h v. both-in-bytes m n src dst d (a.both-stars refl) (p src refl) h v })

pub in_bytes : (s : Spec) (f : Form) → AcceptedSpec 0 s → ((x : Text) → s.source ≡ some x → octets x ≡ true) → ((x : Text) → s.destination ≡ some x → octets x ≡ true) → target s ≡ some f → InBytes s f
in_bytes s f a p q e = by-sides s.mode s.source s.destination f a p q e
