-- How a call that writes a text at the start of one buffer meets it: by a refusal, by 17, or by the text. Assumes nothing.
use Prim.Native.Nat.{ℕ, ◌≤◌, ◌<◌}
use mathlib.Core.Path.{◌≡◌, refl, ◌∙◌}
use mathlib.Core.List.{[], ◌∷◌}
use mathlib.Core.Option.{Option, some}
use lib.ListN.{length}
use Rattle.meaning.specs.Bytes.{Text}
use Rattle.meaning.specs.Spec.{Answer, accepted, refused}
use Rattle.meaning.specs.Buffers.{Outputs, or_zero, MeetsOne}
use Rattle.promises.proofs.Buffers.{meets-refused, meets-short, meets-written}
use Rattle.buffer.specs.declared.written.Written.{Written}
use Rattle.buffer.specs.Answers.{refused_with, short_with, done_with}
use Rattle.buffer.specs.Splice.{splice}
use Rattle.buffer.proofs.Splices.{splice-start}

-- a refusal leaves the buffer as it was
pub made-refused : (a : Answer Outputs) (entry : Text) (n : ℕ) (r : Option ℕ) (k : ℕ) (w : Written) → a ≡ refused n r → k ≡ or_zero r → w ≡ refused_with n k → MeetsOne a entry entry w.refusal w.«record» w.length
made-refused a entry n r k w ea ek e = rw e (meets-refused a entry entry n r n k 0 ea refl refl ek refl)

-- a text that the code makes, and its length
module _ (made : Text) (size : ℕ) (es : size ≡ length made) (entry : Text) where
  -- a buffer that is not too short has room
  pub made-room : size ≤ length entry → length made ≤ length entry
  made-room h = rw es at h

  -- the text is the one that is meant
  module _ (whole : Text) (is : made ≡ whole) (w : Written) where
    -- a buffer that is too short is told 17 and the text's length, and kept
    pub made-short : length entry < size → w ≡ short_with size → MeetsOne (accepted (some whole ∷ [])) entry entry w.refusal w.«record» w.length
    made-short h e =
        let n : length entry < length made = rw es at h in
        rw (← is, e) (meets-short (accepted (some made ∷ [])) entry entry made 17 0 size refl n refl refl refl es)

    -- any other holds the text afterwards
    pub made-written : (exit : Text) → size ≤ length entry → exit ≡ splice entry 0 made → w ≡ done_with size → MeetsOne (accepted (some whole ∷ [])) entry exit w.refusal w.«record» w.length
    made-written exit h x e = rw (← is, e) (meets-written (accepted (some made ∷ [])) entry exit made 0 0 size refl (made-room h) (x ∙ splice-start entry made) refl refl es)
