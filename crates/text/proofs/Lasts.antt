-- The last place of a byte: a text whose last bytes have none is looked through as without them, and a place after which none stands is
-- the last. Assumes nothing.
use Rattle.std.proofs.Common.{◌≡◌, refl, sym, ap, ◌∙◌, Bool, true, false, [], ◌∷◌, ◌++◌, ℕ, zero, suc, ◌+◌, ◌<◌, ◌==◌, arith, eqb, length, slice_index, get_or, take, drop, take-append-drop, true≢false, ◌||◌, ◌≤◌}
use Rattle.meaning.specs.Bytes.{Text, ◌or◌, has_byte}
use Rattle.text.specs.Last.{past_last, past_next, NoneFrom}
use Rattle.text.proofs.Rests.{rest-cons, rest_end}

-- a text with none has no last
pub last_none : (b : ℕ) (s : Text) → NoneFrom b s 0 → past_last b s ≡ 0
last_none b [] h = refl
last_none b (x ∷ s) h =
    let e : eqb b x ≡ false = h 0 (omega arith) (omega arith) in
    rw (last_none b s (λ k l m. h (suc k) (omega arith) (omega arith)), e)

-- a b after which none stands is the last
pub last-at : (b : ℕ) (s : Text) (i : ℕ) → i < length s → (b == slice_index s i) ≡ true → NoneFrom b s (i + 1) → i + 1 ≡ past_last b s
last-at b [] i h e n = absurd (omega arith)
last-at b (x ∷ s) zero h e n = rw (last_none b s (λ k l m. n (suc k) (omega arith) (omega arith)), e)
last-at b (x ∷ s) (suc i) h e n =
    let r : i + 1 ≡ past_last b s = last-at b s i (omega arith) e (λ k l m. n (suc k) (omega arith) (omega arith)) in
    let q : past_last b s ≡ suc i = omega arith in
    rw q (omega arith)

-- bytes of which none is b, at the end, change nothing
none_in : (b : ℕ) (v : Text) → has_byte b v ≡ false → past_last b v ≡ 0
none_in b [] e = refl
none_in b (x ∷ v) e = go (eqb b x) refl e (none_in b v)
  where
    go : (t : Bool) → eqb b x ≡ t → (t or has_byte b v) ≡ false → (has_byte b v ≡ false → past_last b v ≡ 0) → past_next (eqb b x) (past_last b v) ≡ 0
    go true q f r = absurd (true≢false f)
    go false q f r = rw (r f, q)

none_after : (b : ℕ) (u v : Text) → has_byte b v ≡ false → past_last b (u ++ v) ≡ past_last b u
none_after b [] v e = none_in b v e
none_after b (x ∷ u) v e = rw (none_after b u v e)

pub last-before : (b : ℕ) (s front block : Text) (n : ℕ) → front ≡ take n s → block ≡ drop n s → has_byte b block ≡ false → past_last b front ≡ past_last b s
last-before b s front block n d e h = rw d (sym (none_after b (take n s) (drop n s) (rw e at h)) ∙ ap (past_last b) (take-append-drop n s))

-- one byte more was asked: what was found and what is left make the whole
module _ (b : ℕ) (s : Text) (i : ℕ) (found : Bool) (inv : (found || has_byte b (drop i s)) ≡ has_byte b s) where
  pub among-more : (here : Bool) → i < length s → here ≡ eqb b (get_or s i 0) → ((found || here) || has_byte b (drop (i + 1) s)) ≡ has_byte b s
  among-more here h e = go found (rw (rest-cons s i h, ← e) at inv)
    where
      go : (f : Bool) → (f || (here or has_byte b (drop (i + 1) s))) ≡ has_byte b s → ((f || here) || has_byte b (drop (i + 1) s)) ≡ has_byte b s
      go true q = q
      go false q = either here q
        where
          either : (t : Bool) → (t or has_byte b (drop (i + 1) s)) ≡ has_byte b s → (t || has_byte b (drop (i + 1) s)) ≡ has_byte b s
          either true r = r
          either false r = r

  pub among-done : length s ≤ i → found ≡ has_byte b s
  among-done h = go found (rw (rest_end s i h) at inv)
    where
      go : (f : Bool) → (f || false) ≡ has_byte b s → f ≡ has_byte b s
      go true q = q
      go false q = q
