-- What a negative looks for, by the form of a text, and that it matches what the meaning's spec excludes. Assumes nothing.
use Prim.Native.Nat.{ℕ, suc, ◌+◌, ◌-◌, ◌≤◌, ◌<◌}
use native.Mathlib.Nat.{ne_of_lt}
use mathlib.Core.Path.{◌≡◌, refl, sym, ap, ◌∙◌}
use mathlib.Core.Bool.{Bool, true, false, cond}
use mathlib.Core.Option.{Option, none, some, map}
use borrow.Author.Tests.{ltb-true}
use lib.ListN.{length, take, drop}
use Rattle.meaning.specs.Bytes.{Text, bytes, star, ◌and◌, agree, same, present}
use Rattle.meaning.specs.Spec.{is_negative, starred}
use Rattle.meaning.specs.Prefix.{before_star}
use Rattle.meaning.specs.Match.{Form, literal, pattern, form_of, after_star, capture, plain_needle, needle_of, Hit, whole_if, caught_by, hit, maps_to, is_mapped, forward_by, forward}
use Rattle.meaning.specs.Listing.{excludes}
use Rattle.promises.proofs.Captures.{form-plain, form-starred}
use Rattle.text.specs.Place.{first_at}
use Rattle.text.proofs.Scans.{byte-found}
use Rattle.parse.specs.declared.types.Side.{Side}
use Rattle.parse.specs.declared.types.Side.TheVariants as side
use Rattle.parse.specs.declared.types.RefSpec.{RefSpec}
use Rattle.parse.specs.Places.{mode_meant, part_at, side_meant, is_present, Within, SidesWithin, spec_meant}
use Rattle.parse.proofs.Parts.{part_of, part_length}
use Rattle.refspec.proofs.Fronts.{before-star-length, before-star-front, no-star, a-star}
use Rattle.negatives.specs.declared.Negative.{Negative}
use Rattle.negatives.specs.declared.Negative.TheVariants.{Nothing, Head, Literal, Glob}
use Rattle.negatives.specs.Negatives.{negative_matches, NegativeWithin}
use Rattle.negatives.specs.Making.{text_negative, side_negative, is_glob, besides, negative_of}

-- ---- the text of a part, by the place of its first star

module _ (s : Text) (at len : ℕ) (h : at + len ≤ length s) (k : ℕ) (e : k ≡ first_at star (take (at + len - at) (drop at s))) where
  place_is : k ≡ first_at star (part_at s at len)
  place_is = rw part_of at e

  -- at its end there is none
  pub text-literal : k ≡ length (take (at + len - at) (drop at s)) → Literal at len ≡ text_negative s at len
  unfolding text_negative starred
  text-literal n = rw (no-star (part_at s at len) (sym place_is ∙ n ∙ ap length (part_of s at len)))

  -- before that it is a pattern's
  pub text-glob : k < length (take (at + len - at) (drop at s)) → Glob at len k ≡ text_negative s at len
  unfolding text_negative starred
  text-glob n = rw (a-star (part_at s at len) (λ q. ne_of_lt n (place_is ∙ q ∙ sym (ap length (part_of s at len))))) (ap (Glob at len) place_is)

-- ---- a negative stands within the spec list

text-within : (s : Text) (at len : ℕ) → at + len ≤ length s → NegativeWithin (length s) (text_negative s at len)
unfolding text_negative starred
text-within s at len h = go (starred (part_at s at len)) refl
  where
    go : (b : Bool) → starred (part_at s at len) ≡ b → NegativeWithin (length s) (cond b (Glob at len (first_at star (part_at s at len))) (Literal at len))
    go true e = (h, rw (part_length s at len h) at (ltb-true (first_at star (part_at s at len)) (length (part_at s at len)) (byte-found (part_at s at len) star (first_at star (part_at s at len)) refl ∙ e)))
    go false e = h

side-within : (s : Text) (σ : Side) → Within (length s) σ → NegativeWithin (length s) (side_negative s σ)
side-within s side.Absent w = tt
side-within s (side.Part at len) w = text-within s at len w
side-within s side.Head w = tt

-- what a spec looks for stands within the list where its sides do
pub negative-within : (s : Text) (r : RefSpec) → SidesWithin (length s) r → NegativeWithin (length s) (negative_of s r)
unfolding negative_of besides
negative-within s r w = go (is_present r.dst) (agree (is_glob (side_negative s r.src)) (is_glob (side_negative s r.dst)))
  where
    go : (a b : Bool) → NegativeWithin (length s) (cond a (cond b (side_negative s r.src) Nothing) (side_negative s r.src))
    go true true = side-within s r.src w.src-within
    go true false = tt
    go false b = side-within s r.src w.src-within

-- ---- a negative by the form of a text

-- the form that a negative looks for
abbrev form_meant : Text → Negative → Option Form
form_meant s Nothing = none
form_meant s Head = some (literal (bytes "HEAD"))
form_meant s (Literal at len) = some (literal (part_at s at len))
form_meant s (Glob at len star) = some (pattern (take star (part_at s at len)) (drop (suc star) (part_at s at len)))

-- a form on a name
abbrev form_matches : Text → Option Form → Bool
form_matches name none = false
form_matches name (some (literal t)) = same t name
form_matches name (some (pattern a b)) = present (capture a b name)

-- it is a pattern
abbrev is_pattern : Option Form → Bool
is_pattern none = false
is_pattern (some (literal t)) = false
is_pattern (some (pattern a b)) = true

matches-form : (s name : Text) (n : Negative) → negative_matches s name n ≡ form_matches name (form_meant s n)
matches-form s name Nothing = refl
matches-form s name Head = refl
matches-form s name (Literal at len) = refl
matches-form s name (Glob at len star) = refl

glob-form : (s : Text) (n : Negative) → is_glob n ≡ is_pattern (form_meant s n)
glob-form s Nothing = refl
glob-form s Head = refl
glob-form s (Literal at len) = refl
glob-form s (Glob at len star) = refl

-- the parts beside the first star are the meaning's
star-parts : (t : Text) → pattern (take (first_at star t) t) (drop (suc (first_at star t)) t) ≡ pattern (before_star t) (after_star t)
star-parts t = rw (← before-star-length t, before-star-front t)

text-form : (s : Text) (at len : ℕ) → form_meant s (text_negative s at len) ≡ some (form_of (part_at s at len))
unfolding text_negative
text-form s at len = go (starred (part_at s at len)) refl
  where
    go : (b : Bool) → starred (part_at s at len) ≡ b → form_meant s (cond b (Glob at len (first_at star (part_at s at len))) (Literal at len)) ≡ some (form_of (part_at s at len))
    go true e = rw (form-starred (part_at s at len) e) (ap some (star-parts (part_at s at len)))
    go false e = rw (form-plain (part_at s at len) e)

-- what a side looks for is of the form of the text that the side denotes
side-form : (s : Text) (σ : Side) → form_meant s (side_negative s σ) ≡ map form_of (side_meant s σ)
unfolding starred
side-form s side.Absent = refl
side-form s (side.Part at len) = text-form s at len
side-form s side.Head = sym (ap some (form-plain (bytes "HEAD") refl))

-- ---- the meaning's negative by the forms of its sides

-- how a form hits a name
abbrev form_hit : Form → Text → Hit
form_hit (literal t) name = whole_if (same t name)
form_hit (pattern a b) name = caught_by (capture a b name)

-- by the forms of both sides
abbrev mapped_by : Text → Option Form → Option Form → Bool
mapped_by name none dst = false
mapped_by name (some f) dst = is_mapped (maps_to (form_hit f name) dst)

negative-mapped : (name : Text) (src dst : Option Text) → is_mapped (forward_by true src dst name) ≡ mapped_by name (map form_of src) (map form_of dst)
unfolding needle_of plain_needle
negative-mapped name none dst = refl
negative-mapped name (some t) dst = go (form_of t) refl
  where
    go : (f : Form) → form_of t ≡ f → is_mapped (maps_to (hit (needle_of true t) name) (map form_of dst)) ≡ is_mapped (maps_to (form_hit f name) (map form_of dst))
    go (literal u) e = rw e
    go (pattern a b) e = rw e

-- without a destination the source decides
alone : (name : Text) (f : Option Form) → form_matches name f ≡ mapped_by name f none
alone name none = refl
alone name (some (literal t)) = go (same t name)
  where
    go : (b : Bool) → b ≡ is_mapped (maps_to (whole_if b) none)
    go true = refl
    go false = refl
alone name (some (pattern a b)) = go (capture a b name)
  where
    go : (o : Option Text) → present o ≡ is_mapped (maps_to (caught_by o) none)
    go none = refl
    go (some c) = refl

-- with one, the forms have to agree as well
together : (name : Text) (f : Option Form) (g : Form) → (agree (is_pattern f) (is_pattern (some g)) and form_matches name f) ≡ mapped_by name f (some g)
together name none (literal u) = refl
together name none (pattern c d) = refl
together name (some (literal t)) (literal u) = go (same t name)
  where
    go : (b : Bool) → b ≡ is_mapped (maps_to (whole_if b) (some (literal u)))
    go true = refl
    go false = refl
together name (some (literal t)) (pattern c d) = go (same t name)
  where
    go : (b : Bool) → false ≡ is_mapped (maps_to (whole_if b) (some (pattern c d)))
    go true = refl
    go false = refl
together name (some (pattern a b)) (literal u) = go (capture a b name)
  where
    go : (o : Option Text) → false ≡ is_mapped (maps_to (caught_by o) (some (literal u)))
    go none = refl
    go (some c) = refl
together name (some (pattern a b)) (pattern c d) = go (capture a b name)
  where
    go : (o : Option Text) → present o ≡ is_mapped (maps_to (caught_by o) (some (pattern c d)))
    go none = refl
    go (some c) = refl

besides-matches : (s name : Text) (n d : Negative) → negative_matches s name (besides n d) ≡ (agree (is_glob n) (is_glob d) and negative_matches s name n)
unfolding besides
besides-matches s name n d = go (agree (is_glob n) (is_glob d))
  where
    go : (b : Bool) → negative_matches s name (cond b n Nothing) ≡ (b and negative_matches s name n)
    go true = refl
    go false = refl

-- the source n with a destination d that is of a form
besides-form : (s name : Text) (n d : Negative) (g : Form) → form_meant s d ≡ some g → negative_matches s name (besides n d) ≡ mapped_by name (form_meant s n) (form_meant s d)
besides-form s name n d g e = besides-matches s name n d ∙ rw (glob-form s n, glob-form s d, matches-form s name n, e) (together name (form_meant s n) g)

-- what a spec looks for matches what its sides map
sides-match : (s name : Text) (r : RefSpec) → negative_matches s name (negative_of s r) ≡ mapped_by name (form_meant s (side_negative s r.src)) (form_meant s (side_negative s r.dst))
unfolding negative_of
sides-match s name r = go r.dst
  where
    go : (σ : Side) → negative_matches s name (cond (is_present σ) (besides (side_negative s r.src) (side_negative s σ)) (side_negative s r.src))
        ≡ mapped_by name (form_meant s (side_negative s r.src)) (form_meant s (side_negative s σ))
    go side.Absent = matches-form s name (side_negative s r.src) ∙ alone name (form_meant s (side_negative s r.src))
    go (side.Part at len) = besides-form s name (side_negative s r.src) (text_negative s at len) (form_of (part_at s at len)) (text-form s at len)
    go side.Head = besides-form s name (side_negative s r.src) Head (literal (bytes "HEAD")) refl

-- a negative spec excludes what the negative that it is matches
pub negative-excludes : (s name : Text) (r : RefSpec) → is_negative (mode_meant r.mode) ≡ true → negative_matches s name (negative_of s r) ≡ excludes name (spec_meant s r)
unfolding excludes forward spec_meant
negative-excludes s name r e =
    rw e (sides-match s name r ∙ rw (side-form s r.src, side-form s r.dst) (sym (negative-mapped name (side_meant s r.src) (side_meant s r.dst))))

-- and another spec nothing
pub positive-excludes : (s name : Text) (r : RefSpec) → is_negative (mode_meant r.mode) ≡ false → excludes name (spec_meant s r) ≡ false
unfolding excludes spec_meant
positive-excludes s name r e = rw e
