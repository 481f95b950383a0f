-- How each answer of the report meets the buffer. Assumes nothing.
use Prim.Native.Nat.{ℕ, ◌+◌, ◌≤◌, ◌<◌}
use native.Mathlib.Omega.{arith}
use mathlib.Core.Path.{◌≡◌, refl, sym, ◌∙◌}
use mathlib.Core.List.{[], ◌∷◌, ◌++◌}
use mathlib.Core.Option.{Option, none, some}
use lib.ListN.{length, length-append}
use Rattle.meaning.specs.Bytes.{Text}
use Rattle.meaning.specs.Spec.{Answer, accepted, refused}
use Rattle.meaning.specs.Buffers.{Outputs, MeetsMaybe}
use Rattle.promises.proofs.Buffers.{maybe-refused, maybe-none, maybe-short, maybe-written}
use Rattle.buffer.specs.Splice.{splice}
use Rattle.buffer.proofs.Splices.{splice-start}
use Rattle.buffer.proofs.Pairs.{pair_put}
use Rattle.collide.specs.declared.answer.Collision.{Collision}
use Rattle.collide.specs.Answers.{refused_with, never, short_with, written_with}

-- one answer is another
pub meets-as : (a : Answer Outputs) (entry exit : Text) (p q m z : ℕ) → MeetsMaybe a entry exit p q m z → (b : Answer Outputs) → a ≡ b → MeetsMaybe b entry exit p q m z
meets-as a entry exit p q m z h b e = rw e at h

-- what is shared is what is meant
pub shares_as : (x : Option Text) (entry exit : Text) (p q m z : ℕ) → MeetsMaybe (accepted (x ∷ [])) entry exit p q m z → (y : Option Text) → x ≡ y → MeetsMaybe (accepted (y ∷ [])) entry exit p q m z
shares_as x entry exit p q m z h y e = rw e at h

module _ (entry : Text) (c : Collision) where
  -- a spec that is refused leaves the buffer as it was
  pub refused-told : (n k : ℕ) → c ≡ refused_with n k → (a : Answer Outputs) → a ≡ refused n (some k) → MeetsMaybe a entry entry c.refusal c.which c.collides c.length
  refused-told n k e a h = rw e (maybe-refused a entry entry n (some k) n k 0 0 h refl refl refl refl refl)

  -- so does a no
  pub none_told : c ≡ never → (y : Option Text) → none ≡ y → MeetsMaybe (accepted (y ∷ [])) entry entry c.refusal c.which c.collides c.length
  none_told e y h = rw (e, ← h) (maybe-none (accepted (none ∷ [])) entry entry 0 0 0 0 refl refl refl refl refl refl)

  -- a destination of two pieces
  module _ (a b : Text) where
    -- for which the buffer is too short
    pub short-told : length entry < length a + length b → c ≡ short_with (length a + length b) → MeetsMaybe (accepted (some (a ++ b) ∷ [])) entry entry c.refusal c.which c.collides c.length
    short-told h e =
        let n : length entry < length (a ++ b) = omega (arith, length-append a b) in
        rw e (maybe-short (accepted (some (a ++ b) ∷ [])) entry entry (a ++ b) 17 0 0 (length a + length b) refl n refl refl refl refl (sym (length-append a b)))

    -- and one that is written
    pub written-told : length a + length b ≤ length entry → (o : Text) (i : ℕ) → o ≡ splice entry 0 a → i ≡ 0 + length a → (exit : Text) → exit ≡ splice o i b → c ≡ written_with (length a + length b)
        → MeetsMaybe (accepted (some (a ++ b) ∷ [])) entry exit c.refusal c.which c.collides c.length
    written-told h o i eo ei exit x e =
        let n : length (a ++ b) ≤ length entry = omega (arith, length-append a b) in
        let f : 0 + length (a ++ b) ≤ length entry = omega (arith, length-append a b) in
        let w : exit ≡ splice entry 0 (a ++ b) = pair_put entry 0 a b f o i eo ei exit x in
        rw e (maybe-written (accepted (some (a ++ b) ∷ [])) entry exit (a ++ b) 0 0 1 (length a + length b) refl n (w ∙ splice-start entry (a ++ b)) refl refl refl (sym (length-append a b)))
