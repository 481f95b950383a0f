-- What a call on one spec has written, where it tells no refusal; and that its texts are short enough for the buffer. Assumes nothing.
use Prim.Native.Nat.{ℕ, ◌+◌, ◌*◌, ◌≤◌, ◌<◌}
use native.Mathlib.Omega.{arith}
use mathlib.Core.Path.{◌≡◌, refl, sym, ◌∙◌}
use mathlib.Core.Bool.{Bool, true, false, cond}
use mathlib.Core.List.{List, [], ◌∷◌, ◌++◌}
use mathlib.Core.Option.{Option, none, some}
use borrow.Author.Tests.{leb-false}
use lib.Dec.{leb}
use lib.ListN.{length, take, drop, length-append}
use lib.Seq.{take_at, length-take-le}
use Rattle.meaning.specs.Bytes.{Text, bytes, slash, begins, has_byte, after, or_empty, object_id}
use Rattle.meaning.specs.Limits.{spec_bytes, largest_number, number_groups}
use Rattle.meaning.specs.Number.{number_bytes, text_bytes, record_bytes}
use Rattle.meaning.specs.Spec.{Answer, accepted, refused, Spec, read_spec, is_negative, push}
use Rattle.meaning.specs.Instruction.{canonical_text}
use Rattle.meaning.specs.Prefix.{name_prefix, remote_side, candidates, yielded_without, yielded_by, yielded, expand_prefixes}
use Rattle.meaning.specs.Buffers.{refuses, short, writes, outcome, Tells, MeetsOne}
use Rattle.meaning.specs.Entries.{◌and_then◌, to_bstring, expanded}
use Rattle.promises.proofs.Fitting.{Short, spec-short}
use Rattle.number.specs.Reading.{Octets}
use Rattle.number.proofs.Bytes.{bytes-few}
use Rattle.refspec.proofs.Fronts.{IsFront, prefix-front}
use Rattle.std.specs.Prelude as std
use Rattle.recorded.specs.Record.{sized, sized_room, prefixes_bytes}
use Rattle.recorded.specs.Field.{field_at}
use Rattle.recorded.proofs.Fields.{field-missed, text-too-long}

-- bytes that stand at a buffer's front
pub record Front (b exit : Text) (size : ℕ) : Type 0 where
  pub is : take size exit ≡ b
  pub few : size ≤ length exit

-- what one text to write comes to
module _ (b entry exit : Text) (refusal record_number size : ℕ) (m : MeetsOne (accepted (some b ∷ [])) entry exit refusal record_number size) where
  pub one : refusal ≡ 0 → Front b exit size
  one z = go (leb (length b) (length entry)) refl
    where
      go : (l : Bool) → leb (length b) (length entry) ≡ l → Front b exit size
      go true e =
          let o : outcome (accepted (some b ∷ [])) (entry ∷ []) ≡ writes (some b ∷ []) = rw e in
          let t : Tells (writes (some b ∷ [])) m.told = rw o at m.meets.tells in
          let x : exit ∷ [] ≡ (b ++ drop (length b) entry) ∷ [] = rw o at m.meets.buffers-are in
          let y : exit ≡ b ++ drop (length b) entry = cc in
          let n : size ≡ length b = m.size_is ∙ rw t.lengths-are in
          record { is = rw y (take_at b (drop (length b) entry) size (sym n)); few = rw y (omega (arith, length-append b (drop (length b) entry))) }
      go false e =
          let o : outcome (accepted (some b ∷ [])) (entry ∷ []) ≡ short 1 (length b) = rw e in
          let t : Tells (short 1 (length b)) m.told = rw o at m.meets.tells in
          let y : m.told.refusal ≡ 17 = t.refusal_is in
          let x : refusal ≡ m.told.refusal = m.refusal_is in
          absurd (omega arith)

  -- one that is refused is longer than the buffer
  pub one-long : (refusal ≡ 0 → ⊥) → length entry < length b
  one-long z = go (leb (length b) (length entry)) refl
    where
      go : (l : Bool) → leb (length b) (length entry) ≡ l → length entry < length b
      go true e =
          let o : outcome (accepted (some b ∷ [])) (entry ∷ []) ≡ writes (some b ∷ []) = rw e in
          let t : Tells (writes (some b ∷ [])) m.told = rw o at m.meets.tells in
          absurd (z (m.refusal_is ∙ t.refusal_is))
      go false e = leb-false (length b) (length entry) e

-- a refusal writes nothing
nothing : (n : ℕ) (r : Option ℕ) (entry exit : Text) (refusal record_number size : ℕ) → MeetsOne (refused n r) entry exit refusal record_number size → size ≡ 0
nothing n r entry exit refusal record_number size m =
    let t : Tells (refuses n r) m.told = m.meets.tells in
    let b : m.told.beside ≡ 0 = t.beside-is in
    m.size_is ∙ (rw t.lengths-are b)

-- a call that writes one text for a spec that is accepted
fits : (f : Spec → Text) (a : Answer Spec) (entry exit : Text) (refusal record_number size : ℕ) → MeetsOne (a and_then λ s. accepted (some (f s) ∷ [])) entry exit refusal record_number size → refusal ≡ 0 → size ≤ length exit
fits f (accepted s) entry exit refusal record_number size m z = (one (f s) entry exit refusal record_number size m z).few
fits f (refused n r) entry exit refusal record_number size m z = omega (arith, nothing n r entry exit refusal record_number size m)

-- ---- the canonical text
module _ (op : ℕ) (t entry exit : Text) (refusal record_number size : ℕ) (m : MeetsOne (to_bstring op t) entry exit refusal record_number size) where
  module _ (z : refusal ≡ 0) where
    pub canonical-fits : size ≤ length exit
    unfolding to_bstring
    canonical-fits = fits (canonical_text op) (read_spec op t) entry exit refusal record_number size m z

    pub canonical-counts : size ≡ length (take size exit)
    canonical-counts = sym (length-take-le size exit canonical-fits)

    canonical-is : (s : Spec) → read_spec op t ≡ accepted s → take size exit ≡ canonical_text op s
    unfolding to_bstring
    canonical-is s e = (one (canonical_text op s) entry exit refusal record_number size (rw e at m) z).is

    -- a field that is the canonical text
    pub found-canonical : (told : Text) (at : ℕ) (r : std.Option ℕ) → r ≡ field_at told at (sized (take size exit)) → (s : Spec) → read_spec op t ≡ accepted s → r ≡ field_at told at (sized (canonical_text op s))
    found-canonical told at r f s e = rw (canonical-is s e) at f

  -- a text for which there is no room is in no record
  pub canonical-long : (refusal ≡ 0 → ⊥) → sized_room ≤ length entry → (told : Text) (at : ℕ) → Octets told → (s : Spec) → read_spec op t ≡ accepted s → std.None ≡ field_at told at (sized (canonical_text op s))
  unfolding to_bstring
  canonical-long z h told at o s e =
      let l = one-long (canonical_text op s) entry exit refusal record_number size (rw e at m) z in
      field-missed told at (sized (canonical_text op s)) (text-too-long told at (canonical_text op s) o (omega arith))

-- ---- the prefixes of an accepted spec are short

-- a text as a record
text-few : (t : Text) → length (text_bytes t) ≤ length t + number_groups
unfolding text_bytes
text-few t = omega (arith, length-append (number_bytes (length t)) t, bytes-few (length t))

-- so many bytes have at most the records of six texts, each as long as a name in the longest frame
abbrev most : ℕ
most = 6 * (spec_bytes + 18 + number_groups)

one-few : (t : Text) → length t ≤ spec_bytes → length (record_bytes (t ∷ [])) ≤ most
unfolding record_bytes
one-few t h = omega (arith, text-few t, length-append (text_bytes t) [])

framed-few : (a t b : Text) → length a + length b ≤ 18 → length (text_bytes (a ++ (t ++ b))) ≤ length t + 18 + number_groups
framed-few a t b h = omega (arith, text-few (a ++ (t ++ b)), length-append a (t ++ b), length-append t b)

six-few : (t : Text) → length t ≤ spec_bytes → length (record_bytes (candidates t)) ≤ most
unfolding record_bytes
six-few t h =
    let c0 = framed-few [] t [] (omega arith) in
    let c1 = framed-few (bytes "refs/") t [] (omega arith) in
    let c2 = framed-few (bytes "refs/tags/") t [] (omega arith) in
    let c3 = framed-few (bytes "refs/heads/") t [] (omega arith) in
    let c4 = framed-few (bytes "refs/remotes/") t [] (omega arith) in
    let c5 = framed-few (bytes "refs/remotes/") t (bytes "/HEAD") (omega arith) in
    simp length-append (omega arith)

none-few : length (record_bytes []) ≤ most
unfolding record_bytes
none-few = omega arith

without-few : (t : Text) → length t ≤ spec_bytes → length (record_bytes (yielded_without t)) ≤ most
unfolding yielded_without
without-few t h = go (begins (bytes "refs/") t) (has_byte slash (or_empty (after (bytes "refs/") t))) (object_id t)
  where
    go : (a b c : Bool) → length (record_bytes (cond a (cond b [] (t ∷ [])) (cond c [] (candidates t)))) ≤ most
    go true true c = none-few
    go true false c = one-few t h
    go false b true = none-few
    go false b false = six-few t h

side-few : (o : Option Text) → Short o → length (record_bytes (yielded o)) ≤ most
side-few none h = none-few
side-few (some t) h = go (name_prefix t) (prefix-front t)
  where
    go : (p : Option Text) → IsFront t p → length (record_bytes (yielded_by t p)) ≤ most
    go none f = without-few t (h t refl)
    go (some p) f = one-few p (omega (arith, f.at_most, h t refl))

prefixes-few : (op : ℕ) (t : Text) (s : Spec) → read_spec op t ≡ accepted s → length (record_bytes (expand_prefixes op s)) ≤ most
unfolding expand_prefixes remote_side
prefixes-few op t s e = let q = spec-short op t s e in go (is_negative s.mode) (push op) q.0 q.1
  where
    go : (a b : Bool) → Short s.source → Short s.destination → length (record_bytes (yielded (cond a none (cond b s.destination s.source)))) ≤ most
    go true b h g = none-few
    go false true h g = side-few s.destination g
    go false false h g = side-few s.source h

-- ---- the prefixes
module _ (op : ℕ) (t entry exit : Text) (refusal record_number size : ℕ) (m : MeetsOne (expanded op t) entry exit refusal record_number size) where
  module _ (z : refusal ≡ 0) where
    pub prefixes-fit : size ≤ length exit
    unfolding expanded
    prefixes-fit = fits (λ s. record_bytes (expand_prefixes op s)) (read_spec op t) entry exit refusal record_number size m z

    pub prefixes-count : size ≡ length (take size exit)
    prefixes-count = sym (length-take-le size exit prefixes-fit)

    prefixes-are : (s : Spec) → read_spec op t ≡ accepted s → take size exit ≡ record_bytes (expand_prefixes op s)
    unfolding expanded
    prefixes-are s e = (one (record_bytes (expand_prefixes op s)) entry exit refusal record_number size (rw e at m) z).is

    pub prefixes-small : length (take size exit) ≤ largest_number
    unfolding expanded
    prefixes-small = go (read_spec op t) refl m
      where
        go : (a : Answer Spec) → read_spec op t ≡ a → MeetsOne (a and_then λ s. accepted (some (record_bytes (expand_prefixes op s)) ∷ [])) entry exit refusal record_number size → length (take size exit) ≤ largest_number
        go (accepted s) e n = rw (prefixes-are s e) (omega (arith, prefixes-few op t s e))
        go (refused k r) e n = omega (arith, prefixes-count, nothing k r entry exit refusal record_number size n)

    -- fields that are the prefixes
    pub found-prefixes : (told : Text) (at : ℕ) (r : std.Option ℕ) → ((l : List Text) → take size exit ≡ record_bytes l → r ≡ field_at told at (prefixes_bytes l)) → (s : Spec) → read_spec op t ≡ accepted s → r ≡ field_at told at (prefixes_bytes (expand_prefixes op s))
    found-prefixes told at r f s e = f (expand_prefixes op s) (prefixes-are s e)

  -- there is room for them
  pub prefixes-room : (refusal ≡ 0 → ⊥) → sized_room ≤ length entry → (told : Text) (at : ℕ) (s : Spec) → read_spec op t ≡ accepted s → std.None ≡ field_at told at (prefixes_bytes (expand_prefixes op s))
  unfolding expanded
  prefixes-room z h told at s e =
      let l = one-long (record_bytes (expand_prefixes op s)) entry exit refusal record_number size (rw e at m) z in
      absurd (omega (arith, prefixes-few op t s e))
