-- The steps over a whole text in print: what was read and what is left make the whole. Assumes nothing.
use mathlib.Core.Path.{◌≡◌, refl, sym, ap, ◌∙◌}
use mathlib.Core.Bool.{Bool, true, false, cond}
use mathlib.Core.List.{[], ◌∷◌, ◌++◌}
use Prim.Native.Nat.{ℕ, suc, ◌+◌, ◌<◌, ◌≤◌}
use native.Mathlib.Nat.{zero-add}
use native.Mathlib.Omega.{arith}
use lib.Dec.{eqb}
use lib.ListN.{length, get_or, drop}
use lib.Seq.{drop-drop}
use Rattle.meaning.specs.Bytes.{Text}
use Rattle.text.proofs.Rests.{rest_end}
use Rattle.text.proofs.Scans.{byte-is}
use Rattle.buffer.specs.Splice.{splice}
use Rattle.buffer.proofs.Splices.{splice-none}
use Rattle.buffer.proofs.Writing.{Writing, writing-starts, writing-room, writing_more, written-whole}
use Rattle.print.specs.Lines.{printable}
use Rattle.print.specs.Unshown.{Unshown, stands, fault, before, after, text_of, escape, escaped, as_it_is, unshown_bytes, unshown}
use Rattle.std.specs.Prelude.{Option, Some, Result, Ok, Err}
use Rattle.percent.specs.declared.Fault.{Fault}
use Rattle.percent.specs.declared.Shown.{Shown}
use Rattle.percent.proofs.Steps.{step-within}
use Rattle.percent.specs.Decode.{measured, is_text, StepsOver, Steps}

-- with it, what follows it decides
sign-off : (t : Text) → (length t ≡ 0 → ⊥) → get_or t 0 0 ≡ 61 → unshown t ≡ after 1 (unshown_bytes (drop 1 t))
sign-off [] z e = absurd (z refl)
sign-off (x ∷ s) z e = rw (byte-is x 61 e)

-- n bytes are read of the first i, and what is left is read as u
abbrev pub counted : ℕ → ℕ → Unshown → Result ℕ Fault
counted n i (stands t) = Ok (n + length t)
counted n i (fault k) = Err (record { at = i + k })

counted-after : (u : Unshown) → counted 0 1 u ≡ measured (after 1 u)
counted-after (stands t) = rw (zero-add (length t))
counted-after (fault k) = refl

counted-before : (n i b w : ℕ) (u : Unshown) → counted n i (before b w u) ≡ counted (n + 1) (i + w) u
counted-before n i b w (stands t) = ap Ok (omega arith)
counted-before n i b w (fault k) = ap (λ (j : ℕ). Err (record { at = j })) (omega arith)

-- the text is read as far as byte i
pub record Counted (t : Text) (n i : ℕ) : Type 0 where
  pub within : i ≤ length t
  pub few : n ≤ i
  pub makes : counted n i (unshown_bytes (drop i t)) ≡ measured (unshown t)

pub counted-starts : (t : Text) → (length t ≡ 0 → ⊥) → get_or t 0 0 ≡ 61 → Counted t 0 1
counted-starts t z e = record { within = omega arith; few = omega arith; makes = counted-after (unshown_bytes (drop 1 t)) ∙ ap measured (sym (sign-off t z e)) }

module _ (t : Text) (n i : ℕ) (c : Counted t n i) where
  -- after the last byte all is read
  pub counted-whole : length t ≤ i → Ok n ≡ measured (unshown t)
  counted-whole h = let e : counted n i (unshown_bytes []) ≡ measured (unshown t) = rw (rest_end t i h) at c.makes in let f : n + 0 ≡ n = omega arith in ap Ok (sym f) ∙ e

  module _ (h : i < length t) (o : Option Shown) (s : Steps (drop i t) o) where
    -- one byte more is read
    pub counted-more : (b : Shown) → o ≡ Some b → Counted t (n + 1) (i + b.width)
    counted-more b z =
        let g : StepsOver (drop i t) b = rw z at s in
        record {
          within = step-within t i b h g;
          few = omega (arith, c.few, g.some);
          makes = ap (counted (n + 1) (i + b.width)) (ap unshown_bytes (sym (drop-drop b.width i t))) ∙ sym (counted-before n i b.byte b.width (unshown_bytes (drop b.width (drop i t)))) ∙ ap (counted n i) (sym g.makes) ∙ c.makes;
        }

-- the text of a byte before others
text-before : (b w : ℕ) (u : Unshown) → is_text u ≡ true → text_of (before b w u) ≡ b ∷ text_of u
text-before b w (stands t) y = refl
text-before b w (fault k) y = absurd (let z : ◌≡◌ {A = ℕ} 0 1 = cc in omega arith)

is-text-before : (b w : ℕ) (u : Unshown) → is_text (before b w u) ≡ is_text u
is-text-before b w (stands t) = refl
is-text-before b w (fault k) = refl

is-text-after : (n : ℕ) (u : Unshown) → is_text (after n u) ≡ is_text u
is-text-after n (stands t) = refl
is-text-after n (fault k) = refl

text-after : (n : ℕ) (u : Unshown) → text_of (after n u) ≡ text_of u
text-after n (stands t) = refl
text-after n (fault k) = refl

-- a text has no more bytes than show it
short-before : (b w : ℕ) (u : Unshown) (n : ℕ) → length (text_of u) ≤ n → length (text_of (before b w u)) ≤ suc n
short-before b w (stands t) n h = omega arith
short-before b w (fault k) n h = omega arith

short-plain : (x : ℕ) (u : Unshown) (n : ℕ) → length (text_of u) ≤ n → length (text_of (as_it_is x u)) ≤ suc n
unfolding as_it_is
short-plain x u n h = go (printable x)
  where
    go : (p : Bool) → length (text_of (cond p (before x 1 u) (fault 0))) ≤ suc n
    go true = short-before x 1 u n h
    go false = omega arith

short-bytes : (s : Text) → length (text_of (unshown_bytes s)) ≤ length s
short-bytes [] = omega arith
short-bytes (x ∷ []) = short-plain x (stands []) 0 (omega arith)
short-bytes (x ∷ (h ∷ [])) = short-plain x (unshown_bytes (h ∷ [])) 1 (short-bytes (h ∷ []))
short-bytes (x ∷ (h ∷ (l ∷ s))) = go (escape x h l) (short-bytes s) (short-bytes (h ∷ (l ∷ s)))
  where
    go : (e : Bool) → length (text_of (unshown_bytes s)) ≤ length s → length (text_of (unshown_bytes (h ∷ (l ∷ s)))) ≤ length (h ∷ (l ∷ s)) → length (text_of (cond e (before (escaped h l) 3 (unshown_bytes s)) (as_it_is x (unshown_bytes (h ∷ (l ∷ s)))))) ≤ length (x ∷ (h ∷ (l ∷ s)))
    go true p q = omega (arith, short-before (escaped h l) 3 (unshown_bytes s) (length s) p)
    go false p q = short-plain x (unshown_bytes (h ∷ (l ∷ s))) (length (h ∷ (l ∷ s))) q

pub text-short : (t : Text) → length (text_of (unshown t)) ≤ length t
text-short [] = omega arith
text-short (x ∷ s) = go (eqb 61 x)
  where
    go : (b : Bool) → length (text_of (cond b (after 1 (unshown_bytes s)) (fault 0))) ≤ length (x ∷ s)
    go true = rw (text-after 1 (unshown_bytes s)) (omega (arith, short-bytes s))
    go false = omega arith

-- the bytes that the first i stand for are written, and the others are as they are shown
pub record Putting (d t : Text) (out : Text) (end i : ℕ) : Type 0 where
  pub within : i ≤ length t
  pub right : is_text (unshown_bytes (drop i t)) ≡ true
  pub writing : Writing d 0 (text_of (unshown t)) out end (text_of (unshown_bytes (drop i t)))

-- a text that is right has `=`
signed : (t : Text) → is_text (unshown t) ≡ true → unshown t ≡ after 1 (unshown_bytes (drop 1 t))
signed [] y = absurd (let z : ◌≡◌ {A = ℕ} 0 1 = cc in omega arith)
signed (x ∷ s) y = go (eqb 61 x) y
  where
    go : (b : Bool) → is_text (cond b (after 1 (unshown_bytes s)) (fault 0)) ≡ true → cond b (after 1 (unshown_bytes s)) (fault 0) ≡ after 1 (unshown_bytes s)
    go true y = refl
    go false y = absurd (let z : ◌≡◌ {A = ℕ} 0 1 = cc in omega arith)

some_bytes : (t : Text) → is_text (unshown t) ≡ true → 1 ≤ length t
some_bytes [] y = absurd (let z : ◌≡◌ {A = ℕ} 0 1 = cc in omega arith)
some_bytes (x ∷ s) y = omega arith

pub putting-starts : (d t : Text) → is_text (unshown t) ≡ true → length t ≤ length d → Putting d t d 0 1
putting-starts d t y h =
    let e = signed t y in
    let f : text_of (unshown t) ≡ text_of (unshown_bytes (drop 1 t)) = ap text_of e ∙ text-after 1 (unshown_bytes (drop 1 t)) in
    record {
      within = some_bytes t y;
      right = sym (is-text-after 1 (unshown_bytes (drop 1 t))) ∙ ap is_text (sym e) ∙ y;
      writing = rw (← f) (writing-starts d 0 (text_of (unshown t)) (omega (arith, text-short t)));
    }

module _ (d t out : Text) (end i : ℕ) (p : Putting d t out end i) where
  pub putting-whole : length t ≤ i → out ≡ splice d 0 (text_of (unshown t))
  putting-whole h = written-whole d 0 (text_of (unshown t)) out end (text_of (unshown_bytes (drop i t))) p.writing (ap (λ (s : Text). text_of (unshown_bytes s)) (rest_end t i h))

  module _ (h : i < length t) (o : Option Shown) (s : Steps (drop i t) o) where
    module _ (b : Shown) (z : o ≡ Some b) where
      step : StepsOver (drop i t) b
      step = rw z at s

      next : unshown_bytes (drop i t) ≡ before b.byte b.width (unshown_bytes (drop (i + b.width) t))
      next = step.makes ∙ ap (λ (x : Text). before b.byte b.width (unshown_bytes x)) (drop-drop b.width i t)

      right-next : is_text (unshown_bytes (drop (i + b.width) t)) ≡ true
      right-next = sym (is-text-before b.byte b.width (unshown_bytes (drop (i + b.width) t))) ∙ ap is_text (sym next) ∙ p.right

      text-next : text_of (unshown_bytes (drop i t)) ≡ (b.byte ∷ []) ++ text_of (unshown_bytes (drop (i + b.width) t))
      text-next = ap text_of next ∙ text-before b.byte b.width (unshown_bytes (drop (i + b.width) t)) right-next

      -- there is room for it
      pub putting-room : end < length out
      putting-room = omega (arith, writing-room d 0 (text_of (unshown t)) out end (text_of (unshown_bytes (drop i t))) p.writing (b.byte ∷ []) (text_of (unshown_bytes (drop (i + b.width) t))) text-next)

      -- it is written
      pub putting-more : (q : Text) (j : ℕ) → q ≡ splice out end (b.byte ∷ []) → j ≡ end + 1 → Putting d t q j (i + b.width)
      putting-more q j eq ej = record {
        within = step-within t i b h step;
        right = right-next;
        writing = writing_more d 0 (text_of (unshown t)) out end (text_of (unshown_bytes (drop i t))) p.writing (b.byte ∷ []) (text_of (unshown_bytes (drop (i + b.width) t))) text-next q j eq ej;
      }

pub fault-none : (u : Unshown) (m : Result ℕ Fault) (k : Fault) (d : Text) → m ≡ measured u → m ≡ Err k → d ≡ splice d 0 (text_of u)
fault-none (stands t) m k d e f = cc
fault-none (fault j) m k d e f = sym (splice-none d 0)
