-- Hits that are noted one after the other: what is noted, and what is left to be noted, make the whole. Assumes nothing.
use mathlib.Core.Path.{◌≡◌, refl, sym, ap, ◌∙◌}
use mathlib.Core.Bool.{Bool, true, false, cond}
use mathlib.Core.List.{List, [], ◌∷◌, ◌++◌, append-nil, append_assoc}
use Prim.Native.Nat.{ℕ, ◌+◌, ◌-◌, ◌≤◌, ◌<◌}
use native.Mathlib.Nat.{add_assoc}
use native.Mathlib.Omega.{arith}
use native.Mathlib.Numerals.{add-one}
use borrow.Author.Tests.{ne_eqb, le-leb, lt-leb, leb-true, leb-false}
use lib.Dec.{leb}
use lib.ListN.{length, set, take, length-set, length-append}
use lib.Seq.{take_all, take-nil, take-append-add, take-append-le, take-set-le, take-suc-set}
use Rattle.meaning.specs.Bytes.{Text}
use Rattle.buffer.specs.Splice.{splice}
use Rattle.buffer.proofs.Splices.{splice-none, splice-next, splice-byte}
use Rattle.search.specs.Hits.{hit_if}
use Rattle.search.specs.Noting.{noted_after, Adds}

-- ---- what is noted exactly

-- nothing more
known-none : (room count : ℕ) → count ≤ room + 1 → count ≡ noted_after room count []
unfolding noted_after
known-none room count h = let z : count + 0 ≡ count = omega arith in rw z (go (leb count room) refl)
  where
    go : (b : Bool) → leb count room ≡ b → count ≡ cond b count (room + 1)
    go true e = refl
    go false e = omega (arith, leb-false count room e)

known-room : (room count : ℕ) (t : List ℕ) → count + length t ≤ room → noted_after room count t ≡ count + length t
unfolding noted_after
known-room room count t h = rw (le-leb (count + length t) room h)

known-full : (room count : ℕ) (t : List ℕ) → room < count + length t → noted_after room count t ≡ room + 1
unfolding noted_after
known-full room count t h = rw (lt-leb (count + length t) room h)

written_none : (hits : List ℕ) (count : ℕ) → hits ≡ splice hits count (take (length hits - count) [])
written_none hits count = rw (take-nil (length hits - count)) (sym (splice-none hits count))

-- a table that is written after the first `start` of another
module _ (first : List ℕ) (start : ℕ) (done : List ℕ) (hits : List ℕ) (count : ℕ) (long : length hits ≡ length first) (puts : hits ≡ splice first start (take (length first - start) done)) (is : count ≡ noted_after (length first) start done) (t after : List ℕ) (next : ℕ) (more : after ≡ splice hits count (take (length hits - count) t)) (on : next ≡ noted_after (length hits) count t) where
  -- there was room so far
  module _ (h : start + length done ≤ length first) where
    here : count ≡ start + length done
    here = is ∙ known-room (length first) start done h

    room-puts : after ≡ splice first start (take (length first - start) (done ++ t))
    room-puts =
        let a : take (length first - start) done ≡ done = take_all (length first - start) done (omega arith) in
        let k : length first - start ≡ length done + (length first - count) = omega (arith, here) in
        let b : take (length first - start) (done ++ t) ≡ done ++ take (length first - count) t = rw k (take-append-add done t (length first - count)) in
        more ∙ rw (long, puts, a) (splice-next first start done (take (length first - count) t) count h here) ∙ ap (splice first start) (sym b)

    room-on : next ≡ noted_after (length first) start (done ++ t)
    unfolding noted_after
    room-on = on ∙ rw (long, here, length-append done t, add_assoc start (length done) (length t))

  -- there was none
  module _ (h : length first < start + length done) where
    above : count ≡ length first + 1
    above = is ∙ known-full (length first) start done h

    full-puts : after ≡ splice first start (take (length first - start) (done ++ t))
    full-puts =
        let k : length first - count ≡ 0 = omega (arith, above) in
        let b : take (length first - start) (done ++ t) ≡ take (length first - start) done = take-append-le (length first - start) done t (omega arith) in
        more ∙ rw (long, k) (splice-none hits count) ∙ puts ∙ ap (splice first start) (sym b)

    full-on : next ≡ noted_after (length first) start (done ++ t)
    full-on = on ∙ rw (long, above, known-full (length first) (length first + 1) t (omega arith), known-full (length first) start (done ++ t) (omega (arith, length-append done t)))

  both-puts : after ≡ splice first start (take (length first - start) (done ++ t))
  both-puts = go (leb (start + length done) (length first)) refl
    where
      go : (b : Bool) → leb (start + length done) (length first) ≡ b → after ≡ splice first start (take (length first - start) (done ++ t))
      go true e = room-puts (leb-true (start + length done) (length first) e)
      go false e = full-puts (leb-false (start + length done) (length first) e)

  both-on : next ≡ noted_after (length first) start (done ++ t)
  both-on = go (leb (start + length done) (length first)) refl
    where
      go : (b : Bool) → leb (start + length done) (length first) ≡ b → next ≡ noted_after (length first) start (done ++ t)
      go true e = room-on (leb-true (start + length done) (length first) e)
      go false e = full-on (leb-false (start + length done) (length first) e)

-- no more are noted than there is room for, and one
known-most : (room start : ℕ) (t : List ℕ) → noted_after room start t ≤ room + 1
unfolding noted_after
known-most room start t = go (leb (start + length t) room) refl
  where
    go : (b : Bool) → leb (start + length t) room ≡ b → cond b (start + length t) (room + 1) ≤ room + 1
    go true e = omega (arith, leb-true (start + length t) room e)
    go false e = omega arith

-- ---- one hit

-- nothing is noted
pub adds_none : (hits : List ℕ) (count : ℕ) → Adds hits count [] hits count
adds_none hits count =
    record {
      written = λ h. written_none hits count;
      known = λ h. known-none (length hits) count h;
      long = refl;
      adds = λ h. sym (append-nil (take count hits));
      before = λ h. h;
      fits = λ h. omega arith;
      kept = λ k a b. (a, refl);
    }

module _ (hits : List ℕ) (count size hit : ℕ) where
  pub note-none : size ≡ 0 → Adds hits count (hit_if size hit) hits count
  note-none e = rw e (adds_none hits count)

  pub note-full : (size ≡ 0 → ⊥) → length hits ≤ count → Adds hits count (hit_if size hit) hits (length hits + 1)
  note-full n h =
      rw (ne_eqb size 0 n)
      (record {
        written = λ l. let z : length hits - count ≡ 0 = omega arith in rw z (sym (splice-none hits count));
        known = λ l. sym (known-full (length hits) count (hit ∷ []) (omega arith));
        long = refl;
        adds = λ l. absurd (omega arith);
        before = λ l. absurd (omega arith);
        fits = λ l. absurd (omega arith);
        kept = λ k a b. (omega arith, refl);
      })

  pub note-one : (size ≡ 0 → ⊥) → count < length hits → (x : ℕ) → x ≡ hit → Adds hits count (hit_if size hit) (set hits count x) (count + 1)
  note-one n h x e =
      rw (e, ne_eqb size 0 n)
      (record {
        written = λ l. splice-byte hits count hit h ∙ ap (splice hits count) (sym (take_all (length hits - count) (hit ∷ []) (omega arith)));
        known = λ l. sym (known-room (length hits) count (hit ∷ []) (omega arith));
        long = length-set hits count hit;
        adds = λ l. rw (add-one count) (take-suc-set hits count hit h);
        before = λ l. omega arith;
        fits = λ l. refl;
        kept = λ k a b. (omega arith, take-set-le k hits count hit a);
      })

-- a hit by how many bytes its text has
pub size-noted : (hits : List ℕ) (count size : ℕ) (t : Text) (hit : ℕ) (after : List ℕ) (next : ℕ) → size ≡ length t → Adds hits count (hit_if size hit) after next → Adds hits count (hit_if (length t) hit) after next
size-noted hits count size t hit after next e a = rw e at a

-- whole is to be noted after the first `start` of some hits, which are now so many of others, and left is what follows
pub record Noting (first : List ℕ) (start : ℕ) (whole hits : List ℕ) (count : ℕ) (left : List ℕ) : Type 0 where
  pub done : List ℕ
  pub all : whole ≡ done ++ left
  pub written : start ≤ length first + 1 → hits ≡ splice first start (take (length first - start) done)
  pub is : start ≤ length first + 1 → count ≡ noted_after (length first) start done
  pub long : length hits ≡ length first
  pub noted : count ≤ length first → take count hits ++ left ≡ take start first ++ whole
  pub known : count ≤ length first → start ≤ length first
  pub fits : start + length whole ≤ length first → count + length left ≡ start + length whole
  pub kept : (k : ℕ) → k ≤ start → k ≤ length first → (k ≤ count) × (take k hits ≡ take k first)

pub noting-starts : (hits : List ℕ) (count : ℕ) (whole left : List ℕ) → whole ≡ left → Noting hits count whole hits count left
noting-starts hits count whole left e = record { done = []; all = e; written = λ h. written_none hits count; is = λ h. known-none (length hits) count h; long = refl; noted = λ h. rw e; known = λ h. h; fits = λ h. rw e; kept = λ k a b. (a, refl) }

module _ (first : List ℕ) (start : ℕ) (whole hits : List ℕ) (count : ℕ) (left : List ℕ) (n : Noting first start whole hits count left) where
  count_most : start ≤ length first + 1 → count ≤ length hits + 1
  count_most h = omega (arith, n.is h, known-most (length first) start n.done, n.long)

  pub noting-more : (t rest : List ℕ) → left ≡ t ++ rest → (after : List ℕ) (next : ℕ) → Adds hits count t after next → Noting first start whole after next rest
  noting-more t rest e after next a =
      record {
        done = n.done ++ t;
        all = n.all ∙ ap (λ (x : List ℕ). n.done ++ x) e ∙ sym (append_assoc n.done t rest);
        written = λ h. let c = count_most h in both-puts first start n.done hits count n.long (n.written h) (n.is h) t after next (a.written c) (a.known c);
        is = λ h. let c = count_most h in both-on first start n.done hits count n.long (n.written h) (n.is h) t after next (a.written c) (a.known c);
        long = a.long ∙ n.long;
        noted = λ h.
            let l : next ≤ length hits = omega (arith, n.long) in
            ap (λ (x : List ℕ). x ++ rest) (a.adds l) ∙ append_assoc (take count hits) t rest ∙ ap (λ (x : List ℕ). take count hits ++ x) (sym e) ∙ n.noted (omega (arith, a.before l, n.long));
        known = λ h.
            let l : next ≤ length hits = omega (arith, n.long) in
            n.known (omega (arith, a.before l, n.long));
        fits = λ h.
            let all = n.fits h in
            let parts : length left ≡ length t + length rest = ap length e ∙ length-append t rest in
            let room : count + length t ≤ length hits = omega (arith, all, parts, n.long) in
            omega (arith, a.fits room, all, parts);
        kept = λ k l h.
            let old = n.kept k l h in
            let new = a.kept k old.0 (omega (arith, n.long)) in
            (new.0, new.1 ∙ old.1);
      }

  -- what gives none is passed over
  pub noting-on : (rest : List ℕ) → left ≡ rest → Noting first start whole hits count rest
  noting-on rest e = record { done = n.done; all = n.all ∙ ap (λ (x : List ℕ). n.done ++ x) e; written = n.written; is = n.is; long = n.long; noted = λ h. rw (← e) (n.noted h); known = n.known; fits = λ h. rw (← e) (n.fits h); kept = n.kept }

  pub noting-done : left ≡ [] → Adds first start whole hits count
  noting-done e =
      let w : whole ≡ n.done = n.all ∙ ap (λ (x : List ℕ). n.done ++ x) e ∙ append-nil n.done in
      record {
        written = λ h. rw w (n.written h);
        known = λ h. rw w (n.is h);
        long = n.long;
        adds = λ h. sym (append-nil (take count hits)) ∙ ap (λ (x : List ℕ). take count hits ++ x) (sym e) ∙ n.noted h;
        before = n.known;
        fits = λ h. omega (arith, n.fits h, ap length e);
        kept = n.kept;
      }
