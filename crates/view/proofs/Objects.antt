-- The digits of an object source, where its spec stands. Assumes nothing.
use mathlib.Core.Path.{◌≡◌, refl, sym, ap, ◌∙◌}
use mathlib.Core.Bool.{Bool, true, false, not, cond, false≢true}
use mathlib.Core.List.{[], ◌∷◌}
use mathlib.Core.Option.{Option, none, some}
use Prim.Native.Nat.{ℕ, zero, suc, ◌+◌, ◌≤◌}
use native.Mathlib.Omega.{arith}
use borrow.Author.Tests.{eqb-true, le-leb}
use lib.Dec.{eqb, leb}
use lib.ListN.{length, take, drop}
use lib.Seq.{take-take, drop-drop}
use Rattle.meaning.specs.Bytes.{Text, bytes, star, ◌and◌, ◌or◌, every, any, same, begins, if_given, hex_digit, object_id}
use Rattle.meaning.specs.Limits.{id_digits, hash_digits}
use Rattle.meaning.specs.Spec.{accepted, Mode, Spec, is_negative, mode_of, unsigned, sides_of, left, starred, hash_like, not_hash_like, read_spec}
use Rattle.meaning.specs.Match.{full, object, partial, form_of, plain_needle, form_needle, needle_of, object_in, object_by, object_source}
use Rattle.promises.proofs.Laws.{and_left, and_right, any-in, every_in}
use Rattle.promises.proofs.Captures.{form-plain}
use Rattle.promises.proofs.Listings.{object-source, no-object}
use Rattle.promises.proofs.Accepted.{read-passed}
use Rattle.promises.proofs.Viewing.{object-length}
use Rattle.parse.specs.declared.types.Side.{Side}
use Rattle.parse.specs.declared.types.Side.TheVariants.{Absent, Part, Head}
use Rattle.parse.specs.declared.types.RefSpec.{RefSpec}
use Rattle.std.specs.Prelude.{Result, Ok, Err}
use Rattle.refusal.specs.declared.Refusal.{Refusal}
use Rattle.parse.specs.Places.{part_at, side_meant, Within, spec_meant, sign_length, supplied_place, named_place, source_place, places_at, places_of, parsed}
use Rattle.parse.proofs.Parts.{part_length, part-within}
use Rattle.parse.proofs.Answers.{read-refused, read-accepted, read-places, read-within}
use Rattle.list.specs.declared.stretch.Stretch.{Stretch}
use Rattle.view.specs.declared.Part as parts
use Rattle.view.specs.Places.{text_at, refused_part, digits_at, object_text, side_digits, object_read, spec_digits}

-- the answers of `side_digits`
module _ (specs : Text) (start : ℕ) (src : Side) where
  pub side-part : (r : parts.Part) (at n : ℕ) → src ≡ Part at n → r ≡ digits_at (start + at) (object_text (part_at specs (start + at) n)) → r ≡ side_digits specs start src
  side-part r at n is e = e ∙ rw is

  -- the digits stand within the list
  pub side-room : (len at n : ℕ) → start + len ≤ length specs → Within len src → src ≡ Part at n → start + at + n ≤ length specs
  side-room len at n h w is = omega (arith, part-within src at n is len w)

-- an object id as a source

-- no digit is a star
hex-plain : (t : Text) → every hex_digit t ≡ true → starred t ≡ false
unfolding starred
hex-plain t h = go (any (eqb star) t) refl
  where
    go : (b : Bool) → any (eqb star) t ≡ b → b ≡ false
    go false e = refl
    go true e =
        let q = any-in (eqb star) t e in
        let x : star ≡ q.0 = eqb-true star q.0 q.2 in
        absurd (false≢true (rw (← x) at (every_in hex_digit h q.1)))

-- none is the first byte of `refs/`
hex-no-ref : (t : Text) → every hex_digit t ≡ true → begins (bytes "refs/") t ≡ false
hex-no-ref [] h = refl
hex-no-ref (x ∷ t) h = go (eqb 114 x) refl
  where
    go : (b : Bool) → eqb 114 x ≡ b → (b and begins (bytes "efs/") t) ≡ false
    go false e = refl
    go true e =
        let y : 114 ≡ x = eqb-true 114 x e in
        absurd (false≢true (rw (← y) at (and_left (hex_digit x) (every hex_digit t) h)))

-- an object id has digits only
id-hex : (t : Text) → object_id t ≡ true → every hex_digit t ≡ true
unfolding object_id
id-hex t e = and_right (eqb (length t) id_digits) (every hex_digit t) e

-- a source that is an object id, unless it is a negative's, is looked for as one
object-text : (negative : Bool) (t : Text) → (negative ≡ true → object_id t ≡ false) → object_in (needle_of negative t) ≡ object_text t
unfolding needle_of plain_needle
object-text negative t f = go (object_id t) refl
  where
    yes : (n : Bool) → n ≡ negative → object_id t ≡ true → object_in (cond (n or false) (full t) (object t)) ≡ some t
    yes true q e = absurd (false≢true (sym (f (sym q)) ∙ e))
    yes false q e = refl

    plain : (b : Bool) → object_in (cond b (full t) (partial t)) ≡ none
    plain true = refl
    plain false = refl

    other : (b : Bool) → starred t ≡ b → object_id t ≡ false → object_in (form_needle negative (form_of t)) ≡ none
    other true s e = no-object negative t (rw s)
    other false s e = rw (form-plain t s, e) (plain (negative or begins (bytes "refs/") t))

    go : (b : Bool) → object_id t ≡ b → object_in (form_needle negative (form_of t)) ≡ cond b (some t) none
    go true e = rw (form-plain t (hex-plain t (id-hex t e)), hex-no-ref t (id-hex t e), e) (yes negative refl e)
    go false e = other (starred t) refl e

-- what question 11 lets through is no object id
not-id : (t : Text) → not_hash_like t ≡ true → object_id t ≡ false
unfolding not_hash_like hash_like
not-id t h = go (object_id t) refl
  where
    go : (b : Bool) → object_id t ≡ b → b ≡ false
    go false e = refl
    go true e =
        let k : leb hash_digits (length t) ≡ true = le-leb hash_digits (length t) (omega (arith, object-length t e)) in
        absurd (false≢true (rw (k, id-hex t e) at h))

-- the object id of a spec whose source is a text
source-object : (s : Spec) (u : Text) → s.source ≡ some u → (not (is_negative s.mode) or if_given not_hash_like s.source) ≡ true → object_source s ≡ object_text u
unfolding object_source
source-object s u is e = ap (object_by (is_negative s.mode)) is ∙ object-text (is_negative s.mode) u (λ n. not-id u (rw (n, is) at e))

-- a source that stands in its spec follows the sign
source-after : (op : ℕ) (m : Mode) (sign : ℕ) (l : Text) (at n : ℕ) → source_place op m sign l ≡ Part at n → at ≡ sign
unfolding supplied_place named_place
source-after op m sign [] at n e = go (eqb op 0 and not (is_negative m)) e
  where
    go : (b : Bool) → cond b Head Absent ≡ Part at n → at ≡ sign
    go true p = absurd (let z : ◌≡◌ {A = ℕ} 0 1 = cc in omega arith)
    go false p = absurd (let z : ◌≡◌ {A = ℕ} 0 1 = cc in omega arith)
source-after op m sign (x ∷ l) at n e = go (same (x ∷ l) (bytes "@")) e
  where
    go : (b : Bool) → cond b Head (Part sign (length (x ∷ l))) ≡ Part at n → at ≡ sign
    go true p = absurd (let z : ◌≡◌ {A = ℕ} 0 1 = cc in omega arith)
    go false p = cc

-- a part of a part
taken_in : (s : Text) (len at n : ℕ) → at + n ≤ len → take n (drop at (take len s)) ≡ take n (drop at s)
taken_in s len zero n h = take-take n len s (omega arith)
taken_in s zero (suc at) n h = absurd (omega arith)
taken_in [] (suc len) (suc at) n h = refl
taken_in (x ∷ s) (suc len) (suc at) n h = taken_in s len at n (omega arith)

part_in : (s : Text) (start len at n : ℕ) → at + n ≤ len → part_at (part_at s start len) at n ≡ part_at s (start + at) n
part_in s start len at n h = taken_in (drop start s) len at n h ∙ ap (take n) (drop-drop at start s)

-- neither an absent source nor `HEAD` is an object id
absent_none : (u : Text) → ◌≡◌ {A = Option Text} none (some u) → ⊥
absent_none u e = let z : ◌≡◌ {A = ℕ} 0 1 = cc in omega arith

head-none : (u : Text) → some (bytes "HEAD") ≡ some u → object_id u ≡ true → ⊥
head-none u e h = let q : bytes "HEAD" ≡ u = cc in omega (arith, ap length q, object-length u h)

-- the digits of a spec that was read
module _ (op : ℕ) (t : Text) (r : RefSpec) (e : parsed op t ≡ Ok r) where
  read_as : read_spec op t ≡ accepted (spec_meant t r)
  read_as = read-accepted op t (parsed op t) refl r e

  eleven : (not (is_negative (spec_meant t r).mode) or if_given not_hash_like (spec_meant t r).source) ≡ true
  eleven = let q = read-passed op t (spec_meant t r) read_as in rw q.spec_is_lem at q.sides.eleven

  sign-place : (at n : ℕ) → r.src ≡ Part at n → at ≡ sign_length (mode_of t)
  unfolding places_of places_at
  sign-place at n is = source-after op (mode_of t) (sign_length (mode_of t)) (left (sides_of (unsigned t))) at n (ap (λ (p : RefSpec). p.src) (read-places op t (parsed op t) refl r e) ∙ is)

  side-is : (specs : Text) (start len : ℕ) → t ≡ part_at specs start len → start + len ≤ length specs → side_digits specs start r.src ≡ digits_at (start + sign_length (mode_of t)) (object_source (spec_meant t r))
  unfolding spec_meant
  side-is specs start len is h = go r.src refl
    where
      none_of : (o : Option Text) → object_source (spec_meant t r) ≡ o → ((u : Text) → o ≡ some u → ⊥) → refused_part 16 0 ≡ digits_at (start + sign_length (mode_of t)) o
      none_of none q f = refl
      none_of (some u) q f = absurd (f u refl)

      go : (src : Side) → r.src ≡ src → side_digits specs start src ≡ digits_at (start + sign_length (mode_of t)) (object_source (spec_meant t r))
      go Absent s = none_of (object_source (spec_meant t r)) refl (λ u q. absent_none u (sym (ap (side_meant t) s) ∙ (object-source (spec_meant t r) u q).0))
      go Head s = none_of (object_source (spec_meant t r)) refl (λ u q. let o = object-source (spec_meant t r) u q in head-none u (sym (ap (side_meant t) s) ∙ o.0) o.1)
      go (Part at n) s =
          let w : at + n ≤ length t = part-within r.src at n s (length t) (read-within op t (parsed op t) refl r e).src-within in
          let l : length t ≡ len = ap length is ∙ part_length specs start len h in
          let p : part_at t at n ≡ part_at specs (start + at) n = ap (λ (x : Text). part_at x at n) is ∙ part_in specs start len at n (omega arith) in
          let q : object_source (spec_meant t r) ≡ object_text (part_at t at n) = source-object (spec_meant t r) (part_at t at n) (ap (side_meant t) s) eleven in
          ap (λ (m : ℕ). digits_at (start + m) (object_text (part_at specs (start + at) n))) (sign-place at n s) ∙ ap (λ (x : Text). digits_at (start + sign_length (mode_of t)) (object_text x)) (sym p) ∙ ap (digits_at (start + sign_length (mode_of t))) (sym q)

-- the answers of `object_part`
module _ (op : ℕ) (specs : Text) (e : Stretch) (h : e.at + e.len ≤ length specs) (p : Result RefSpec Refusal) (t : Text) (et : t ≡ part_at specs e.at e.len) (is : p ≡ parsed op t) where
  text-is : p ≡ parsed op (text_at specs e)
  text-is = is ∙ ap (parsed op) et

  module _ (r : RefSpec) (s : p ≡ Ok r) where
    -- the source stands within its spec
    pub object-within : Within e.len r.src
    object-within = let w = (read-within op (text_at specs e) p text-is r s).src-within in rw (part_length specs e.at e.len h) at w

    pub object-read : (x : Stretch) → e ≡ x → (q : parts.Part) → q ≡ side_digits specs e.at r.src → q ≡ spec_digits op specs x
    unfolding spec_digits
    object-read x a q b =
        let f : parsed op (text_at specs e) ≡ Ok r = sym text-is ∙ s in
        let d : object_read (read_spec op (text_at specs e)) ≡ object_source (spec_meant (text_at specs e) r) = ap object_read (read_as op (text_at specs e) r f) in
        rw (← a) (b ∙ side-is op (text_at specs e) r f specs e.at e.len refl h ∙ ap (digits_at (e.at + sign_length (mode_of (text_at specs e)))) (sym d))

  pub object-refused : (n : Refusal) → p ≡ Err n → (x : Stretch) → e ≡ x → refused_part 16 0 ≡ spec_digits op specs x
  unfolding spec_digits
  object-refused n s x a =
      let d : object_read (read_spec op (text_at specs e)) ≡ none = ap object_read (read-refused op (text_at specs e) p text-is n s) in
      rw (← a) (ap (digits_at (e.at + sign_length (mode_of (text_at specs e)))) (sym d))
